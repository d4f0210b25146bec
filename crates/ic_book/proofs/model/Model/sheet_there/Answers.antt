use Rattle.std.proofs.Common.{◌≡◌, ℕ, Bor, Result, Ok, Err, ap, option_map, sym, ◌∙◌}
use Rattle.std.specs.List.{slice_get}
use Rattle.std.specs.Result.{result_ok}
use Rattle.ic_sheets.specs.Sheet.{sheet_of}
use Rattle.ic_sheets.specs.declared.sheet.Sheet.{Sheet as HeldSheet}
use Rattle.ic_parts.specs.Book.{ModelState}
use Rattle.ic_parts.specs.Parts.{FindsSheet}
use Rattle.ic_parts.specs.declared.error.BookError.{BookError}
use Rattle.ic_book.proofs.model.Model.sheet_there.Goals as goal

by_case : (now : ModelState) (index : ℕ) (r : Result (Bor HeldSheet) BookError) → FindsSheet index r now → option_map (λ (s : Bor HeldSheet). sheet_of s.now) (result_ok r) ≡ slice_get now.book.sheets index
by_case now index (Ok s) found = sym found
by_case now index (Err e) found = sym found.0

pub returns : goal.returns
returns c =
    ap (option_map (λ (s : Bor HeldSheet). sheet_of s.now)) c.ok.ensures.value ∙ by_case c.args.self.now c.args.sheet c.sheet_at.result c.sheet_at.ensures
