-- References by example.
use Rattle.std.proofs.Common.{◌≡◌, ℤ, pos, [], ◌∷◌, Some, None, Ok, Err, codes, map, refl}
use Rattle.ucd_derived.proofs.Computing.{ucd_derived}
use Rattle.ic_laws.specs.declared.reference.Place.TheVariants as places
use Rattle.ic_laws.specs.declared.reference.Position.{Position}
use Rattle.ic_laws.specs.declared.reference.Position.TheVariants as at
use Rattle.ic_laws.specs.declared.reference.RefPart.{RefPart}
use Rattle.ic_refs.specs.A1.{a1_at, a1_place_at}
use Rattle.ic_refs.specs.Column.{column_letters}
use Rattle.ic_refs.specs.Formula.{formula_token}
use Rattle.ic_refs.specs.R1C1.{refers}
use Rattle.ic_refs.specs.declared.error.ReferenceError.TheVariants as errors
use Rattle.ic_refs.specs.declared.reference.CellReferenceIndex.{CellReferenceIndex}
use Rattle.ic_refs.specs.declared.reference.ParsedReference.TheVariants as parsed

-- the letters of columns
letters : map column_letters (1 ∷ 26 ∷ 27 ∷ 28 ∷ 702 ∷ 703 ∷ 16384 ∷ []) ≡ codes "A" ∷ codes "Z" ∷ codes "AA" ∷ codes "AB" ∷ codes "ZZ" ∷ codes "AAA" ∷ codes "XFD" ∷ []
unfolding column_letters
letters = refl

-- a cell that is read in A1, by its distances
abbrev part : Position → Position → RefPart
part row column = record { row = row; column = column }

-- the longest at the front is read, whatever follows
cell_and_rest : a1_place_at (pos 1) (pos 1) (codes "$C4b") ≡ Some (places.Cell (part (at.Rel (pos 3)) (at.Abs (pos 3))), codes "b")
cell_and_rest = refl

too_far_down : a1_place_at (pos 1) (pos 1) (codes "A1048577") ≡ Some (places.Cell (part (at.Rel (pos 104856)) (at.Rel (pos 0))), codes "7")
too_far_down = refl

no_second_corner : a1_place_at (pos 1) (pos 1) (codes "A1:B") ≡ Some (places.Cell (part (at.Rel (pos 0)) (at.Rel (pos 0))), codes ":B")
no_second_corner = refl

whole_columns : a1_place_at (pos 1) (pos 1) (codes "A:XFE") ≡ Some (places.Range (part (at.Abs (pos 1)) (at.Rel (pos 0))) (part (at.Abs (pos 1048576)) (at.Rel (pos 629))), codes "E")
whole_columns = refl

no_cell : a1_place_at (pos 1) (pos 1) (codes "XFE1") ≡ None
no_cell = refl

-- a sheet's name between quotes
with_sheet : a1_at (pos 1) (pos 1) (codes "'It''s'!A2") ≡ Some (record { sheet = Some (codes "It's"); place = places.Cell (part (at.Rel (pos 1)) (at.Rel (pos 0))) }, [])
unfolding ucd_derived
with_sheet = refl

-- what is no reference
one_token : formula_token (codes "=A1") ≡ Err errors.OneToken
unfolding ucd_derived
one_token = refl

not_reference : formula_token (codes " SUM\t") ≡ Err errors.NotReference
unfolding ucd_derived
not_reference = refl

-- relative to the cell C5 of the sheet 1
abbrev here : CellReferenceIndex
here = record { sheet = 1; row = pos 5; column = pos 3 }

abbrev cell : ℤ → ℤ → CellReferenceIndex
cell row column = record { sheet = 1; row = row; column = column }

offsets : refers here (codes "R[2]C[-1]") 1 ≡ Ok (parsed.CellReference (cell (pos 7) (pos 2)))
offsets = refl

round_the_sheet : refers here (codes "RC[-3]") 1 ≡ Ok (parsed.CellReference (cell (pos 5) (pos 16384)))
round_the_sheet = refl

corners_in_order : refers here (codes "R7C9:r2c1") 1 ≡ Ok (parsed.Range (cell (pos 2) (pos 1)) (cell (pos 7) (pos 9)))
corners_in_order = refl

too_far : refers here (codes "RC[16384]") 1 ≡ Err errors.OffsetTooLarge
too_far = refl

first_error : map (λ text. refers here text 1) (codes "R[" ∷ codes "R[x]C1" ∷ codes "R[99999999999" ∷ codes "R[2000000" ∷ codes "R0C[" ∷ codes "R[1C1" ∷ codes "" ∷ codes "R1C1x" ∷ codes "R1:C1" ∷ []) ≡ Err errors.ExpectedNumber ∷ Err errors.ExpectedNumber ∷ Err errors.ExpectedNumber ∷ Err errors.OffsetTooLarge ∷ Err errors.OutsideSheet ∷ Err errors.ExpectedBracket ∷ Err errors.ExpectedLetter ∷ Err errors.ExpectedEnd ∷ Err errors.MixedEnds ∷ []
first_error = refl
