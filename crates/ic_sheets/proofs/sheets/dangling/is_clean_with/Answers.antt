use Rattle.std.proofs.Common.{◌&&◌, ap, not, option_map, sym, ◌∙◌}
use Rattle.ic_sheets.proofs.MakesLemmas.{dangles_found, id_found, id_nowhere}
use Rattle.ic_sheets.specs.Index.{dangles_at}
use Rattle.ic_sheets.proofs.sheets.dangling.is_clean_with.Goals as goal

pub returns-in-Some : goal.returns-in-Some
returns-in-Some c =
    let found = sym (c.sheet_with.ensures c.requires.placed) ∙ ap (option_map (λ s. s.now)) c.in-Some.is in
    ap not (c.dangles.ensures ∙ dangles_found c.args.id c.args.sheets.now c.in-Some.sheet.now c.requires.differ found)
    ∙ sym (ap (λ b. b && not (dangles_at c.args.id c.args.sheets.now)) (id_found c.args.id c.args.sheets.now c.in-Some.sheet.now found))

pub returns-in-None : goal.returns-in-None
returns-in-None c =
    sym (ap (λ b. b && not (dangles_at c.args.id c.args.sheets.now)) (id_nowhere c.args.id c.args.sheets.now (sym (c.sheet_with.ensures c.requires.placed) ∙ ap (option_map (λ s. s.now)) c.in-None.is)))
