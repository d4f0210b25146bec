-- Which command each line of a dump is.
use Rattle.std.proofs.Common.{◌≡◌, ℕ, ℤ, ◌≤◌, List, [], ◌∷◌, Option, Some, codes, ap, ap₂, ◌∙◌}
use Rattle.std.specs.Fmt.{decimal, signed_decimal}
use Rattle.std.specs.Prelude.{option_and_then, option_map}
use Rattle.ic_laws.specs.Command.{position_said, scope_said}
use Rattle.ic_laws.specs.declared.scene.NameSpelling.{NameSpelling}
use Rattle.ic_laws.specs.declared.scene.SheetName.{SheetName}
use Rattle.ic_machine.specs.Command.{OnDefinitions, OnSheets, OnWriting, command_in, commands}
use Rattle.ic_machine.specs.Row.{spelled}
use Rattle.ic_machine.specs.Word.{AllSaid, OfIndex, OfPosition, OfScope, OfText, all_said}
use Rattle.ic_machine.specs.Word as forms
use Rattle.ic_machine.specs.subjects.Definitions as definitions
use Rattle.ic_machine.specs.subjects.Sheets as sheets
use Rattle.ic_machine.specs.subjects.Writing as writing
use Rattle.ic_machine.proofs.again.LinesAgain.{texts_again, words_again}
use Rattle.ic_dump.specs.Lines.{body_line, cell_line, defining_line, deleting_line, inserting_line, naming_line, plain_body, scope_word}
use Rattle.ic_dump.proofs.SaidAgain.{index_again, scope_again}

module _ (english : List (List ℕ)) where
  pub naming_read : (sheet : SheetName) → command_in english commands (naming_line sheet) ≡ Some (OnSheets (sheets.RenameSheetByIndex 0 sheet.name))
  unfolding commands
  naming_read sheet =
      ap (spelled english commands) (words_again (codes "rename_sheet_by_index") (codes "0" ∷ sheet.name ∷ []))
      ∙ ap (λ (o : Option (List (List ℕ))). option_map (λ (w : AllSaid (forms.words_of (OfIndex ∷ OfText ∷ []))). OnSheets (sheets.RenameSheetByIndex w.0 w.1.0)) (option_and_then (all_said english (forms.words_of (OfIndex ∷ OfText ∷ []))) o))
      (texts_again (codes "0" ∷ sheet.name ∷ []))

  pub inserting_read : (index : ℕ) (sheet : SheetName) → index ≤ 4294967295 → sheet.id ≤ 4294967295 → command_in english commands (inserting_line index sheet) ≡ Some (OnSheets (sheets.InsertSheet sheet.name index (Some sheet.id)))
  unfolding commands
  inserting_read index sheet fits small =
      ap (spelled english commands) (words_again (codes "insert_sheet") (sheet.name ∷ decimal index ∷ decimal sheet.id ∷ []))
      ∙ ap
      (λ (o : Option (List (List ℕ))).
      option_map (λ (w : AllSaid (forms.words_of (OfText ∷ OfIndex ∷ OfScope ∷ []))). OnSheets (sheets.InsertSheet w.0 w.1.0 w.1.1.0)) (option_and_then (all_said english (forms.words_of (OfText ∷ OfIndex ∷ OfScope ∷ []))) o))
      (texts_again (sheet.name ∷ decimal index ∷ decimal sheet.id ∷ []))
      ∙ ap₂
      (λ (i : Option ℕ) (s : Option (Option ℕ)).
      option_map (λ (w : AllSaid (forms.words_of (OfText ∷ OfIndex ∷ OfScope ∷ []))). OnSheets (sheets.InsertSheet w.0 w.1.0 w.1.1.0))
      (option_map (λ (rest : AllSaid (forms.words_of (OfIndex ∷ OfScope ∷ []))). (sheet.name, rest))
      (option_and_then (λ (first : ℕ). option_map (λ (rest : AllSaid (forms.words_of (OfScope ∷ []))). (first, rest)) (option_and_then (λ (first : Option ℕ). option_map (λ (rest : AllSaid (forms.words_of [])). (first, rest)) (Some tt)) s)) i)))
      (index_again index fits) (scope_again sheet.id small)

  pub deleting_read : (index : ℕ) → index ≤ 4294967295 → command_in english commands (deleting_line index) ≡ Some (OnSheets (sheets.DeleteSheet index))
  unfolding commands
  deleting_read index fits =
      ap (spelled english commands) (words_again (codes "delete_sheet") (decimal index ∷ []))
      ∙ ap (λ (o : Option (List (List ℕ))). option_map (λ (w : AllSaid (forms.words_of (OfIndex ∷ []))). OnSheets (sheets.DeleteSheet w.0)) (option_and_then (all_said english (forms.words_of (OfIndex ∷ []))) o)) (texts_again (decimal index ∷ []))
      ∙ ap
      (λ (i : Option ℕ).
      option_map (λ (w : AllSaid (forms.words_of (OfIndex ∷ []))). OnSheets (sheets.DeleteSheet w.0)) (option_and_then (λ (first : ℕ). option_map (λ (rest : AllSaid (forms.words_of [])). (first, rest)) (Some tt)) i))
      (index_again index fits)

  -- a scope's word says a scope
  module _ (all : List SheetName) (d : NameSpelling) (index : Option ℕ) (said : scope_said (scope_word all d.scope) ≡ Some index) where
    pub defining_read : command_in english commands (defining_line all d) ≡ Some (OnDefinitions (definitions.NewDefinedName d.name index plain_body))
    unfolding commands
    defining_read =
        ap (spelled english commands) (words_again (codes "new_defined_name") (d.name ∷ scope_word all d.scope ∷ plain_body ∷ []))
        ∙ ap
        (λ (o : Option (List (List ℕ))).
        option_map (λ (w : AllSaid (forms.words_of (OfText ∷ OfScope ∷ OfText ∷ []))). OnDefinitions (definitions.NewDefinedName w.0 w.1.0 w.1.1.0)) (option_and_then (all_said english (forms.words_of (OfText ∷ OfScope ∷ OfText ∷ []))) o))
        (texts_again (d.name ∷ scope_word all d.scope ∷ plain_body ∷ []))
        ∙ ap
        (λ (s : Option (Option ℕ)).
        option_map (λ (w : AllSaid (forms.words_of (OfText ∷ OfScope ∷ OfText ∷ []))). OnDefinitions (definitions.NewDefinedName w.0 w.1.0 w.1.1.0))
        (option_map (λ (rest : AllSaid (forms.words_of (OfScope ∷ OfText ∷ []))). (d.name, rest)) (option_and_then (λ (first : Option ℕ). option_map (λ (rest : AllSaid (forms.words_of (OfText ∷ []))). (first, rest)) (Some (plain_body, tt))) s)))
        said

    pub body_read : (body : List ℕ) → command_in english commands (body_line all d body) ≡ Some (OnDefinitions (definitions.UpdateDefinedName (definitions.update_of d.name index d.name index body)))
    unfolding commands
    body_read body =
        ap (spelled english commands) (words_again (codes "update_defined_name") (d.name ∷ scope_word all d.scope ∷ d.name ∷ scope_word all d.scope ∷ body ∷ []))
        ∙ ap
        (λ (o : Option (List (List ℕ))).
        option_map (λ (w : AllSaid (forms.words_of (OfText ∷ OfScope ∷ OfText ∷ OfScope ∷ OfText ∷ []))). OnDefinitions (definitions.UpdateDefinedName (definitions.update_of w.0 w.1.0 w.1.1.0 w.1.1.1.0 w.1.1.1.1.0)))
        (option_and_then (all_said english (forms.words_of (OfText ∷ OfScope ∷ OfText ∷ OfScope ∷ OfText ∷ []))) o))
        (texts_again (d.name ∷ scope_word all d.scope ∷ d.name ∷ scope_word all d.scope ∷ body ∷ []))
        ∙ ap
        (λ (s : Option (Option ℕ)).
        option_map (λ (w : AllSaid (forms.words_of (OfText ∷ OfScope ∷ OfText ∷ OfScope ∷ OfText ∷ []))). OnDefinitions (definitions.UpdateDefinedName (definitions.update_of w.0 w.1.0 w.1.1.0 w.1.1.1.0 w.1.1.1.1.0)))
        (option_map (λ (rest : AllSaid (forms.words_of (OfScope ∷ OfText ∷ OfScope ∷ OfText ∷ []))). (d.name, rest))
        (option_and_then
        (λ (first : Option ℕ).
        option_map (λ (rest : AllSaid (forms.words_of (OfText ∷ OfScope ∷ OfText ∷ []))). (first, rest))
        (option_map (λ (rest : AllSaid (forms.words_of (OfScope ∷ OfText ∷ []))). (d.name, rest)) (option_and_then (λ (second : Option ℕ). option_map (λ (rest : AllSaid (forms.words_of (OfText ∷ []))). (second, rest)) (Some (body, tt))) s)))
        s)))
        said

  -- rows and columns are above 0
  pub cell_read : (index : ℕ) (row column : ℤ) (text : List ℕ) → index ≤ 4294967295 → position_said (signed_decimal row) ≡ Some row → position_said (signed_decimal column) ≡ Some column
      → command_in english commands (cell_line index (row, column) text) ≡ Some (OnWriting (writing.UpdateCellWithFormula index row column text))
  unfolding commands
  cell_read index row column text fits row_said column_said =
      ap (spelled english commands) (words_again (codes "update_cell_with_formula") (decimal index ∷ signed_decimal row ∷ signed_decimal column ∷ text ∷ []))
      ∙ ap
      (λ (o : Option (List (List ℕ))).
      option_map (λ (w : AllSaid (forms.words_of (OfIndex ∷ OfPosition ∷ OfPosition ∷ OfText ∷ []))). OnWriting (writing.UpdateCellWithFormula w.0 w.1.0 w.1.1.0 w.1.1.1.0))
      (option_and_then (all_said english (forms.words_of (OfIndex ∷ OfPosition ∷ OfPosition ∷ OfText ∷ []))) o))
      (texts_again (decimal index ∷ signed_decimal row ∷ signed_decimal column ∷ text ∷ []))
      ∙ ap
      (λ (i : Option ℕ).
      option_map (λ (w : AllSaid (forms.words_of (OfIndex ∷ OfPosition ∷ OfPosition ∷ OfText ∷ []))). OnWriting (writing.UpdateCellWithFormula w.0 w.1.0 w.1.1.0 w.1.1.1.0))
      (option_and_then (λ (first : ℕ). option_map (λ (rest : AllSaid (forms.words_of (OfPosition ∷ OfPosition ∷ OfText ∷ []))). (first, rest)) (all_said english (forms.words_of (OfPosition ∷ OfPosition ∷ OfText ∷ [])) (signed_decimal row ∷ signed_decimal column ∷ text ∷ []))) i))
      (index_again index fits)
      ∙ ap₂
      (λ (r c : Option ℤ).
      option_map (λ (w : AllSaid (forms.words_of (OfIndex ∷ OfPosition ∷ OfPosition ∷ OfText ∷ []))). OnWriting (writing.UpdateCellWithFormula w.0 w.1.0 w.1.1.0 w.1.1.1.0))
      (option_map (λ (rest : AllSaid (forms.words_of (OfPosition ∷ OfPosition ∷ OfText ∷ []))). (index, rest))
      (option_and_then (λ (first : ℤ). option_map (λ (rest : AllSaid (forms.words_of (OfPosition ∷ OfText ∷ []))). (first, rest)) (option_and_then (λ (second : ℤ). option_map (λ (rest : AllSaid (forms.words_of (OfText ∷ []))). (second, rest)) (Some (text, tt))) c)) r)))
      row_said column_said
