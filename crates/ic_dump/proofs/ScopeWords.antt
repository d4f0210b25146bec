-- The words for the sheets that definitions are local to say the indexes of these sheets among those that stand.
use Rattle.std.proofs.Common.{◌≡◌, ℕ, ◌<◌, ◌≤◌, List, length, map, true, Option, None, Some, refl, ap, ◌∙◌, arith, nat_eq}
use Rattle.std.proofs.lemmas.Bool.{eqb-true}
use Rattle.std.proofs.lemmas.Option.{slice_get-map, slice_get_within}
use Rattle.std.specs.List.{list_any, slice_get}
use Rattle.std.specs.Prelude.{option_map, position, unwrap_or}
use Rattle.ic_laws.specs.Command.{scope_said}
use Rattle.ic_laws.specs.CoreBook as core_book
use Rattle.ic_laws.specs.CoreBook.{Definition, last_id}
use Rattle.ic_laws.specs.CoreStep.{scope_of}
use Rattle.ic_laws.specs.declared.scene.SheetName.{SheetName}
use Rattle.ic_machine.specs.Book.{Book, core_of, core_sheet}
use Rattle.ic_machine.proofs.valid.UpdatedStays.{none_passes_at, passes_at}
use Rattle.ic_dump.specs.Lines.{index_standing, scope_word}
use Rattle.ic_dump.specs.Stages.{bare_sheet, with_bare}
use Rattle.ic_dump.proofs.SaidAgain.{scope_again}
use Rattle.ic_dump.proofs.StandLemmas.{HasPlace}

-- the sheet with this id stands at its index
pub record StandsAt (sheets : List SheetName) (id : ℕ) : Type 0 where
  pub sheet : SheetName
  pub at : slice_get sheets (index_standing sheets id) ≡ Some sheet
  pub is : sheet.id ≡ id

pub stands_at : (sheets : List SheetName) (id : ℕ) → list_any (λ (s : SheetName). nat_eq s.id id) sheets ≡ true → StandsAt sheets id
stands_at sheets id some = by_position (position (λ (s : SheetName). nat_eq s.id id) sheets) refl
  where
    by_position : (o : Option ℕ) → position (λ (s : SheetName). nat_eq s.id id) sheets ≡ o → StandsAt sheets id
    by_position None e = absurd (let none = none_passes_at (λ (s : SheetName). nat_eq s.id id) sheets e in cc)
    by_position (Some i) e =
        let x = passes_at (λ (s : SheetName). nat_eq s.id id) sheets i e in
        record { sheet = x.0; at = ap (λ (o : Option ℕ). slice_get sheets (unwrap_or o 0)) e ∙ x.1; is = eqb-true x.0.id id x.2 }

-- the index that the word for a scope says
abbrev pub index_of_scope : List SheetName → Option ℕ → Option ℕ
index_of_scope sheets None = None
index_of_scope sheets (Some id) = Some (index_standing sheets id)

pub word_said : (sheets : List SheetName) (scope : Option ℕ) → length sheets ≤ last_id → HasPlace sheets scope → scope_said (scope_word sheets scope) ≡ Some (index_of_scope sheets scope)
word_said sheets None few some = refl
word_said sheets (Some id) few some =
    let place = stands_at sheets id some in
    let within : index_standing sheets id < length sheets = slice_get_within sheets (index_standing sheets id) place.sheet place.at in
    scope_again (index_standing sheets id) (omega (arith, few, within))

-- and that index is the one of the scope
pub scope_there : (sheets : List SheetName) (definitions : List Definition) (start : Book) (scope : Option ℕ) → HasPlace sheets scope → scope_of (core_of (with_bare sheets definitions start)) (index_of_scope sheets scope) ≡ Some scope
scope_there sheets definitions start None some = refl
scope_there sheets definitions start (Some id) some =
    let place = stands_at sheets id some in
    let i : ℕ = index_standing sheets id in
    ap (option_map (λ (s : core_book.Sheet). let o : Option ℕ = Some s.id in o))
    (slice_get-map core_sheet (map bare_sheet sheets) i ∙ ap (option_map core_sheet) (slice_get-map bare_sheet sheets i) ∙ ap (λ (o : Option SheetName). option_map core_sheet (option_map bare_sheet o)) place.at)
    ∙ ap (λ (k : ℕ). let o : Option (Option ℕ) = Some (Some k) in o) place.is
