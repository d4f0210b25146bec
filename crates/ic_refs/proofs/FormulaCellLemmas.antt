-- What a whole text is.
use Rattle.std.proofs.Common.{◌≡◌, ℕ, pos, List, [], ◌∷◌, Option, Some, None, option_map, refl, sym, ◌∙◌, ap, subst}
use Rattle.std.specs.Option.{MatchOption}
use Rattle.std.proofs.lemmas.List.{append-nil}
use Rattle.ic_laws.specs.declared.reference.RefPart.{RefPart}
use Rattle.ic_refs.specs.A1.{SpellsCell, cell_at}
use Rattle.ic_refs.specs.Formula.{whole_of, a1_reference, a1_cell_of}
use Rattle.ic_refs.specs.declared.reference.A1Reference.{A1Reference}
use Rattle.ic_refs.proofs.A1PairLemmas.{same_found}
use Rattle.ic_refs.proofs.LongestLemmas.{Reads}
use Rattle.ic_refs.proofs.A1CellLemmas.{cell_reads}

-- a text that is a cell is read whole
cell_whole : (text : List ℕ) (part : RefPart) → SpellsCell (pos 0) (pos 0) text part → cell_at (pos 0) (pos 0) text ≡ Some (part, [])
cell_whole text part s = ap (cell_at (pos 0) (pos 0)) (sym (append-nil text)) ∙ Reads.exact (cell_reads (pos 0) (pos 0)) text [] part s refl

-- what the whole text is as a cell
abbrev pub IsWholeCell : List ℕ → Option A1Reference → Type 0
IsWholeCell text r =
    MatchOption r ((part : RefPart) → SpellsCell (pos 0) (pos 0) text part → ⊥) (λ r. (part : RefPart) × SpellsCell (pos 0) (pos 0) text part × (r ≡ a1_reference part))

whole_cell_from : (text : List ℕ) (found : Option (RefPart × List ℕ)) → cell_at (pos 0) (pos 0) text ≡ found → IsWholeCell text (option_map a1_reference (whole_of found))
whole_cell_from text None e = λ part s. let some = cell_whole text part s in absurd (cc)
whole_cell_from text (Some (part, [])) e =
    let t = Reads.spelled (cell_reads (pos 0) (pos 0)) text (part, []) e in
    let same : t.front ≡ text = sym (t.whole ∙ append-nil t.front) in
    (part, subst (λ v. SpellsCell (pos 0) (pos 0) v part) same t.spelled, refl)
whole_cell_from text (Some (part, c ∷ rest)) e = λ other s.
    let same = same_found (cell_at (pos 0) (pos 0) text) (other, []) (part, c ∷ rest) (cell_whole text other s) e in
    let none : [] ≡ c ∷ rest = ap (λ (f : RefPart × List ℕ). f.1) same in absurd (cc)

pub whole_cell : (text : List ℕ) (r : Option A1Reference) → r ≡ a1_cell_of text → IsWholeCell text r
whole_cell text r e = subst (IsWholeCell text) (sym e) (whole_cell_from text (cell_at (pos 0) (pos 0) text) refl)
