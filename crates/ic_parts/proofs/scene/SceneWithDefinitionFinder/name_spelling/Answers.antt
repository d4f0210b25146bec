use Rattle.std.proofs.Common.{ap, bytes_eq, chars, false, option_map, sym, true, ◌&&◌, ◌∙◌}
use Rattle.ic_laws.specs.Scene.{same_scope}
use Rattle.ic_laws.specs.declared.scene.NameSpelling.{NameSpelling}
use Rattle.ic_parts.proofs.AddedNames.{it_is_found, other_found}
use Rattle.ic_parts.proofs.scene.SceneWithDefinitionFinder.name_spelling.Goals as goal

pub returns-in-Some : goal.returns-in-Some
returns-in-Some c =
    let new : NameSpelling = record { name = chars c.args.self.now.name.now; scope = c.args.self.now.key.now.scope } in
    other_found (λ (d : NameSpelling). d.name) c.args.self.now.book.definitions.definitions.now new c.args.key.now.name c.args.key.now.scope (chars c.in-Some.name.now) (sym (ap (option_map (λ name. chars name.now)) c.in-Some.is) ∙ c.name_spelling.ensures)

pub returns-then-same_key : goal.returns-then-same_key
returns-then-same_key c =
    let new : NameSpelling = record { name = chars c.args.self.now.name.now; scope = c.args.self.now.key.now.scope } in
    it_is_found (λ (d : NameSpelling). d.name) c.args.self.now.book.definitions.definitions.now new c.args.key.now.name c.args.key.now.scope true (sym (ap (option_map (λ name. chars name.now)) c.in_default.is) ∙ c.name_spelling.ensures)
    (ap (λ folded. bytes_eq folded c.args.key.now.name && same_scope c.args.self.now.key.now.scope c.args.key.now.scope) (sym c.args.self.now.own) ∙ sym c.same_key.ensures ∙ c.if-same_key.true)

pub returns : goal.returns
returns c =
    let new : NameSpelling = record { name = chars c.args.self.now.name.now; scope = c.args.self.now.key.now.scope } in
    it_is_found (λ (d : NameSpelling). d.name) c.args.self.now.book.definitions.definitions.now new c.args.key.now.name c.args.key.now.scope false (sym (ap (option_map (λ name. chars name.now)) c.in_default.is) ∙ c.name_spelling.ensures)
    (ap (λ folded. bytes_eq folded c.args.key.now.name && same_scope c.args.self.now.key.now.scope c.args.key.now.scope) (sym c.args.self.now.own) ∙ sym c.same_key.ensures ∙ c.if-same_key.false)
