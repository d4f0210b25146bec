use Rattle.std.proofs.Common.{◌∙◌, List, None, Some, ap, option_map, sym}
use Rattle.std.specs.Prelude.{flat_map}
use Rattle.ic_laws.specs.CoreBook.{Sheet}
use Rattle.ic_parts.specs.Book.{core_of, notations_in}
use Rattle.ic_parts.specs.Sites.{site_of}
use Rattle.std.specs.List.{slice_get}
use Rattle.ic_dump.proofs.DumpLemmas.{cell_cause}
use Rattle.ic_dump.proofs.RefusedLemmas.{rereading_of}
use Rattle.ic_dump.proofs.dumping.refuse_cells.Goals as goal

pub returns-in-None : goal.returns-in-None
returns-in-None c =
    let b = c.args.model.now.book in
    let n = notations_in b in
    cell_cause n (core_of b) None c.requires.none
    (sym (ap (λ (sheets : List Sheet). slice_get (flat_map (rereading_of n) sheets) 0) c.requires.sheets) ∙ sym c.in_ok-rereading.ensures ∙ ap (option_map site_of) c.in-None.is)

pub returns-in-Some : goal.returns-in-Some
returns-in-Some c =
    let b = c.args.model.now.book in
    let n = notations_in b in
    cell_cause n (core_of b) (Some (site_of c.in-Some.site)) c.requires.none
    (sym (ap (λ (sheets : List Sheet). slice_get (flat_map (rereading_of n) sheets) 0) c.requires.sheets) ∙ sym c.in_ok-rereading.ensures ∙ ap (option_map site_of) c.in-Some.is)
