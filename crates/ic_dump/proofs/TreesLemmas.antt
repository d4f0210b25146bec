-- A book all of whose formulas read has no cause.
use Rattle.std.proofs.Common.{◌≡◌, ◌++◌, ◌∷◌, [], ◌∙◌, ℕ, List, false, cond, Option, None, Some, ap, ap₂, find, map, option_map, refl, sym}
use Rattle.std.proofs.lemmas.List.Folds.{list_any-append}
use Rattle.std.specs.List.{list_any, slice_get}
use Rattle.std.specs.Option.{option_or}
use Rattle.std.specs.Prelude.{flat_map}
use Rattle.std.proofs.lemmas.Bool.{or_parts as either_not}
use Rattle.ic_laws.specs.CoreBook.{CellPlace, Cells, Definition, Sheet, spelling_of}
use Rattle.ic_laws.specs.Notations.{Notations}
use Rattle.ic_laws.specs.Scene.{key_of}
use Rattle.ic_laws.specs.declared.tree.Formula.{Formula}
use Rattle.ic_laws.specs.declared.tree.Formula.TheVariants as formulas
use Rattle.ic_laws.specs.declared.tree.NameKey.{NameKey}
use Rattle.ic_machine.specs.Refusal.{Site}
use Rattle.ic_dump.specs.Refused.{RawBody, Rereads, TreesHaveLines, is_raw, raw_body, rereading, rereading_cell, rereads}

both_not : (xs ys : List Formula) → list_any is_raw (xs ++ ys) ≡ false → (list_any is_raw xs ≡ false) × (list_any is_raw ys ≡ false)
both_not xs ys e = either_not (list_any is_raw xs) (list_any is_raw ys) (sym (list_any-append is_raw xs ys) ∙ e)

-- no body is a text
no_body : (ds : List Definition) → list_any is_raw (map (λ (d : Definition). d.body) ds) ≡ false → find (λ (d : Definition). is_raw d.body) ds ≡ None
no_body [] e = refl
no_body (d ∷ ds) e =
    let parts = either_not (is_raw d.body) (list_any is_raw (map (λ (x : Definition). x.body) ds)) e in
    ap (λ b. cond b (Some d) (find (λ (x : Definition). is_raw x.body) ds)) parts.0 ∙ no_body ds parts.1

-- no cell is one
not_reread : (n : Notations) (place : CellPlace) (f : Formula) → is_raw f ≡ false → rereads n place f ≡ false
not_reread n place (formulas.Tree t) e = refl
not_reread n place (formulas.Raw text) e = cc

no_cell : (n : Notations) (id : ℕ) (cells : Cells) → list_any is_raw (map (λ (cell : CellPlace × Formula). cell.1) cells) ≡ false → flat_map (rereading_cell n id) cells ≡ []
no_cell n id [] e = refl
no_cell n id (cell ∷ cells) e =
    let parts = either_not (is_raw cell.1) (list_any is_raw (map (λ (c : CellPlace × Formula). c.1) cells)) e in
    let first : rereading_cell n id cell ≡ [] = rw (not_reread n cell.0 cell.1 parts.0) refl in
    ap₂ (λ (a b : List Site). a ++ b) first (no_cell n id cells parts.1)

no_sheet : (n : Notations) (sheets : List Sheet) → list_any is_raw (flat_map (λ (s : Sheet). map (λ (cell : CellPlace × Formula). cell.1) s.cells) sheets) ≡ false → flat_map (λ (s : Sheet). flat_map (rereading_cell n s.id) s.cells) sheets ≡ []
no_sheet n [] e = refl
no_sheet n (s ∷ sheets) e =
    let parts = both_not (map (λ (cell : CellPlace × Formula). cell.1) s.cells) (flat_map (λ (x : Sheet). map (λ (cell : CellPlace × Formula). cell.1) x.cells) sheets) e in
    ap₂ (λ (a b : List Site). a ++ b) (no_cell n s.id s.cells parts.0) (no_sheet n sheets parts.1)

pub trees_have_lines : TreesHaveLines
trees_have_lines n book e =
    let parts = both_not (flat_map (λ (s : Sheet). map (λ (cell : CellPlace × Formula). cell.1) s.cells) book.sheets) (map (λ (d : Definition). d.body) book.definitions) e in
    let bodies : raw_body book ≡ None = ap (option_map (λ (d : Definition). key_of (spelling_of d))) (no_body book.definitions parts.1) in
    let cells : rereading n book ≡ None = ap (λ (sites : List Site). slice_get sites 0) (no_sheet n book.sheets parts.0) in
    ap₂ (λ (key : Option NameKey) (site : Option Site). option_or (option_map RawBody key) (option_map Rereads site)) bodies cells
