use Rattle.std.proofs.Common.{◌++◌, ◌∙◌, List, ap, flat_map, map}
use Rattle.ic_laws.specs.CoreBook.{Sheet}
use Rattle.ic_parts.specs.Book.{core_of}
use Rattle.ic_dump.specs.Passing.{unfound_of}
use Rattle.ic_dump.proofs.RecordLemmas.{own_names}
use Rattle.ic_dump.proofs.TakenLemmas.{taken_parts}
use Rattle.ic_dump.proofs.taken.taken_names.Goals as goal

pub returns : goal.returns
returns c =
    let b = c.args.model.now.book in
    let own = map (λ name. name.now) c.push_own.new.names.items in
    taken_parts (core_of b) own (map (λ name. name.now) c.push_unfound_in.new.names.items) (map (λ name. name.now) c.push_unfound_by.new.names.items)
    (c.in_ok-push_own.ensures ∙ ap (λ items. map (λ name. name.now) items ++ map (λ s. s.name.now.name) c.args.sheets.now) c.new-names.ensures.items ∙ own_names b c.args.sheets.now c.requires.sheets)
    (c.in_ok-push_unfound_in.ensures ∙ ap (λ (sheets : List Sheet). own ++ flat_map unfound_of (flat_map (λ s. map (λ cell. cell.1) s.cells) sheets)) c.requires.sheets)
    c.in_ok-push_unfound_by.ensures
