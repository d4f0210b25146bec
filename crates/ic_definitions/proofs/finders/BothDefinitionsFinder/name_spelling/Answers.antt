use Rattle.std.proofs.Common.{None, Some, ap, chars, option_map, sym, ◌∙◌}
use Rattle.ic_laws.specs.declared.scene.NameSpelling.{NameSpelling}
use Rattle.ic_definitions.proofs.FindingLemmas.{found_joined}
use Rattle.ic_definitions.proofs.finders.BothDefinitionsFinder.name_spelling.Goals as goal

pub returns-in-Some : goal.returns-in-Some
returns-in-Some c =
    let b = c.args.self.now in
    found_joined (λ (d : NameSpelling). d.name) b.first.definitions.now b.more.definitions.now c.args.key.now.name c.args.key.now.scope (Some (chars c.in-Some.name.now)) (sym (ap (option_map (λ name. chars name.now)) c.in-Some.is) ∙ c.name_of.ensures)

pub returns : goal.returns
returns c =
    let b = c.args.self.now in
    c.name_of-2.ensures
    ∙ found_joined (λ (d : NameSpelling). d.name) b.first.definitions.now b.more.definitions.now c.args.key.now.name c.args.key.now.scope None (sym (ap (option_map (λ name. chars name.now)) c.in_default.is) ∙ c.name_of.ensures)
