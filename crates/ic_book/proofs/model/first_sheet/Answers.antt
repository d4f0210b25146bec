use Rattle.std.proofs.Common.{List, ℕ, [], ◌∷◌, ◌++◌, chars, true, ap, ◌∙◌, arith}
use Rattle.std.proofs.lemmas.Fmt.{decimal_digit}
use Rattle.std.specs.Fmt.{decimal}
use Rattle.ic_sheets.specs.Sheet.{empty_grid, plain_tab}
use Rattle.ic_sheets.specs.declared.sheet.Sheet.{Sheet as HeldSheet}
use Rattle.ic_machine.specs.subjects.Sheets.{base_name}
use Rattle.ic_book.proofs.model.first_sheet.Goals as goal

pub returns-clause-sheets : goal.returns-clause-sheets
returns-clause-sheets c =
    c.in_ok-add_leaving_formulas.ensures.ok
    ∙ ap (λ (front : List HeldSheet). front ++ record { id = 1; name = chars c.as_str.result.now; pool = record { formulas = []; is_whole = true }; grid = empty_grid; tab = plain_tab } ∷ []) c.new-sheets.ensures
    ∙ ap (λ (name : List ℕ). let sheets : List HeldSheet = record { id = 1; name = name; pool = record { formulas = []; is_whole = true }; grid = empty_grid; tab = plain_tab } ∷ [] in sheets)
    (ap chars c.as_str.ensures.value ∙ c.in_ok-put_name.ensures ∙ ap (λ (base : List ℕ). base ++ decimal 1) c.base_name.ensures ∙ ap (λ (ds : List ℕ). base_name c.args.language.now.code ++ ds) (decimal_digit 1 (omega arith)))
