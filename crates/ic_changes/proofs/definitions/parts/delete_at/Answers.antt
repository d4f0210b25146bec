use Rattle.std.proofs.Common.{List, ap, chars, get_or, map, ◌∙◌}
use Rattle.ic_laws.specs.Changes.{Change}
use Rattle.ic_laws.specs.CoreBook.{Definition}
use Rattle.ic_definitions.proofs.GoneDefinitions.{change_is}
use Rattle.ic_sheets.specs.Rewriting.{changed_pool, look_ups, looks_up_after, sheets_of}
use Rattle.ic_changes.proofs.definitions.parts.delete_at.Goals as goal

pub returns-clause-sheets : goal.returns-clause-sheets
returns-clause-sheets c = λ d at.
    ap sheets_of c.apply.ensures ∙ c.in_ok-formulas.ensures.made
    ∙ ap (λ (change : Change). map (changed_pool change) (sheets_of c.args.contents.now.sheets))
    (change_is c.args.contents.now.definitions c.args.index d at c.index-as_slice-index.result c.key.result.now (chars c.name.result.now) c.in_ok-becomes.becomes c.requires.within
    (c.index-as_slice-index.is ∙ ap (λ (ds : List Definition). get_or ds c.args.index c.index-as_slice-index.result) c.as_slice.ensures) c.key.ensures c.name.ensures (c.in_ok-becomes.ensures d at))

pub returns-clause-looks_up : goal.returns-clause-looks_up
returns-clause-looks_up c = λ d at.
    ap look_ups c.apply.ensures ∙ c.in_ok-formulas.ensures.looks_up
    ∙ ap (λ (change : Change). map (looks_up_after change) c.args.contents.now.sheets)
    (change_is c.args.contents.now.definitions c.args.index d at c.index-as_slice-index.result c.key.result.now (chars c.name.result.now) c.in_ok-becomes.becomes c.requires.within
    (c.index-as_slice-index.is ∙ ap (λ (ds : List Definition). get_or ds c.args.index c.index-as_slice-index.result) c.as_slice.ensures) c.key.ensures c.name.ensures (c.in_ok-becomes.ensures d at))
