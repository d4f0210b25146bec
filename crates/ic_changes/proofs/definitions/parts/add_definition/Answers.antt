use Rattle.std.proofs.Common.{List, Option, ap, ap₂, map, ℕ, ◌∙◌, ◌≡◌}
use Rattle.ic_laws.specs.Changes.{definition_added}
use Rattle.ic_laws.specs.CoreBook.{spelling_of}
use Rattle.ic_laws.specs.declared.scene.NameSpelling.{NameSpelling}
use Rattle.ic_laws.specs.declared.tree.NameKey.{NameKey}
use Rattle.ic_sheets.specs.Rewriting.{changed_pool, look_ups, looks_up_after, sheets_of}
use Rattle.ic_changes.proofs.definitions.parts.add_definition.Goals as goal

pub returns-clause-sheets : goal.returns-clause-sheets
returns-clause-sheets c =
    let added : c.new-added.result ≡ spelling_of c.args.definition =
    c.new-added.ensures
    ∙ ap₂ (λ (name : List ℕ) (scope : Option ℕ). let spelling : NameSpelling = record { name = name; scope = scope } in spelling) c.name.ensures (ap (λ (key : NameKey). key.scope) c.key.ensures) in
    ap sheets_of c.apply.ensures ∙ c.in_ok-formulas.ensures.made ∙ ap (λ (d : NameSpelling). map (changed_pool (definition_added d)) (sheets_of c.args.contents.now.sheets)) added

pub returns-clause-looks_up : goal.returns-clause-looks_up
returns-clause-looks_up c =
    let added : c.new-added.result ≡ spelling_of c.args.definition =
    c.new-added.ensures
    ∙ ap₂ (λ (name : List ℕ) (scope : Option ℕ). let spelling : NameSpelling = record { name = name; scope = scope } in spelling) c.name.ensures (ap (λ (key : NameKey). key.scope) c.key.ensures) in
    ap look_ups c.apply.ensures ∙ c.in_ok-formulas.ensures.looks_up ∙ ap (λ (d : NameSpelling). map (looks_up_after (definition_added d)) c.args.contents.now.sheets) added
