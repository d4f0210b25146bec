use Rattle.std.proofs.Common.{ℕ, List, [], ◌∷◌, codes, refl, sym, ap, ◌∙◌}
use Rattle.ic_machine.specs.Book.{Book}
use Rattle.ic_machine.specs.Command.{OnSheets}
use Rattle.ic_machine.specs.Translation.{line_of}
use Rattle.ic_machine.specs.subjects.Sheets.{NewSheet, new_sheet_name}
use Rattle.ic_parts.specs.Whole.{whole_of}
use Rattle.ic_run.proofs.TurnLemmas.{becomes_so}
use Rattle.ic_run.proofs.translating.run_adding.Goals as goal

pub returns-clause-turn : goal.returns-clause-turn
returns-clause-turn c = λ locale language.
    let old : Book = whole_of c.args.model.now.book in
    becomes_so old c.args.line.now (OnSheets NewSheet) c.requires.command refl (whole_of c.is_accepted.new.model.book) (sym c.if-not-branch.false ∙ c.in_ok-is_accepted.ensures.accepted) c.in_ok-is_accepted.ensures.left locale language
    refl (codes "add_sheet" ∷ new_sheet_name old ∷ []) refl c.in_ok-new_sheet_line.field-0
    (c.in_ok-new_sheet_line.ensures ∙ ap (λ (n : List ℕ). line_of (codes "add_sheet" ∷ n ∷ [])) c.requires.name)
