-- The places of all cells, told by the sheets that hold some.
use Rattle.std.proofs.Common.{◌≡◌, ℕ, zero, suc, ◌+◌, ◌<◌, ◌≤◌, List, [], ◌∷◌, ◌++◌, Bool, true, false, ◌||◌, Some, None, flat_map, length, length-append, map, nat_eq, refl, ap, ap₂, sym, ◌∙◌, arith, append_assoc, inl, inr}
use Rattle.std.proofs.lemmas.Bool.{cases_Bool, eqb-true}
use Rattle.std.proofs.lemmas.Map.Keys.{sorted_head}
use Rattle.std.specs.BTreeMap.{is_at}
use Rattle.std.specs.BTreeSet.{BTreeSet}
use Rattle.std.specs.Cmp.{ranked, unsigned_tied}
use Rattle.std.specs.FinMap as finite
use Rattle.std.specs.List.{AllByRecursion, list_any, slice_get}
use Rattle.std.specs.List.Sorted.{IsStrictlySortedBy}
use Rattle.std.specs.Option.{option_map_or}
use Rattle.std.specs.Ordering.{nat_cmp}
use Rattle.std.specs.declared.cmp.Ordering.TheVariants.{Less}
use Rattle.ic_cells.specs.declared.sheet.CellIndex.{CellIndex}
use Rattle.ic_laws.specs.CoreBook.{CellPlace}
use Rattle.ic_sheets.specs.Holders.{AreHolders}
use Rattle.ic_sheets.specs.declared.sheet.Sheet.{Sheet as HeldSheet}
use Rattle.ic_parts.specs.Cells.{place_in, places_from}

-- the places of the cells of a sheet
abbrev sheet_at : ℕ → HeldSheet → List CellIndex
sheet_at index sheet = map (place_in index) (finite.keys sheet.grid.cells)

-- of the one at an index
abbrev pub places_of : List HeldSheet → ℕ → List CellIndex
places_of sheets index = option_map_or (sheet_at index) (slice_get sheets index) []

-- an index is one of these
abbrev is_key : ℕ → List ℕ → Bool
is_key k ks = list_any (is_at (nat_cmp k)) ks

-- each of these sheets, the first of which stands at this index, has no cells unless its index is one of those
abbrev Others : List ℕ → ℕ → List HeldSheet → Type 0
Others ks index [] = Unit {0}
Others ks index (s ∷ sheets) = (is_key index ks ≡ false → finite.keys s.grid.cells ≡ []) × Others ks (index + 1) sheets

-- an index before these is none of them
none_below : (n : ℕ) (ks : List ℕ) → AllByRecursion (λ k. suc n ≤ k) ks → is_key n ks ≡ false
none_below n [] h = refl
none_below n (k ∷ ks) h = ap₂ (λ a b. a || b) (unsigned_tied n k ∙ apart n k h.0) (none_below n ks h.1)
  where
    apart : (n k : ℕ) → suc n ≤ k → nat_eq n k ≡ false
    apart n k le = by_test (nat_eq n k) refl
      where
        by_test : (b : Bool) → nat_eq n k ≡ b → nat_eq n k ≡ false
        by_test false is = is
        by_test true is = let same = eqb-true n k is in absurd (omega (arith, le, same))

-- the first of these indexes may go, once the sheets stand behind it
others_behind : (k : ℕ) (ks : List ℕ) (n : ℕ) (sheets : List HeldSheet) → k < n → Others (k ∷ ks) n sheets → Others ks n sheets
others_behind k ks n [] lt h = tt
others_behind k ks n (s ∷ sheets) lt h = (
  λ none. h.0 (ap (λ b. b || is_key n ks) (unsigned_tied n k ∙ apart (nat_eq n k) refl) ∙ none),
  others_behind k ks (n + 1) sheets (omega (arith, lt)) h.1,
)
  where
    apart : (b : Bool) → nat_eq n k ≡ b → nat_eq n k ≡ false
    apart false is = is
    apart true is = let same = eqb-true n k is in absurd (omega (arith, lt, same))

later : (k : ℕ) (ks : List ℕ) → IsStrictlySortedBy nat_cmp (k ∷ ks) → AllByRecursion (λ q. suc k ≤ q) ks
later k ks sorted = go ks (sorted_head nat_cmp k ks sorted)
  where
    go : (qs : List ℕ) → AllByRecursion (λ q. nat_cmp k q ≡ Less) qs → AllByRecursion (λ q. suc k ≤ q) qs
    go [] h = tt
    go (q ∷ qs) h = (let lt = ranked k q Less (sym h.0) in omega (arith, lt), go qs h.1)

sooner : (n m : ℕ) (ks : List ℕ) → n ≤ m → AllByRecursion (λ k. m ≤ k) ks → AllByRecursion (λ k. n ≤ k) ks
sooner n m [] le h = tt
sooner n m (k ∷ ks) le h = (let first = h.0 in omega (arith, le, first), sooner n m ks le h.1)

sorted_rest : (k : ℕ) (ks : List ℕ) → IsStrictlySortedBy nat_cmp (k ∷ ks) → IsStrictlySortedBy nat_cmp ks
unfolding IsStrictlySortedBy
sorted_rest k ks sorted = sorted.1

got : (front back : List HeldSheet) (s : HeldSheet) → slice_get (front ++ s ∷ back) (length front) ≡ Some s
got [] back s = refl
got (x ∷ front) back s = got front back s

past : (sheets : List HeldSheet) (ks : List ℕ) → AllByRecursion (λ k. length sheets ≤ k) ks → flat_map (places_of sheets) ks ≡ []
past sheets [] h = refl
past sheets (k ∷ ks) h = ap₂ (λ (a b : List CellIndex). a ++ b) (ap (λ o. option_map_or (sheet_at k) o []) (none sheets k h.0)) (past sheets ks h.1)
  where
    none : (xs : List HeldSheet) (i : ℕ) → length xs ≤ i → slice_get xs i ≡ None
    none [] i le = refl
    none (x ∷ xs) zero le = absurd (omega (arith, le))
    none (x ∷ xs) (suc i) le = none xs i (omega (arith, le))

after : (k n : ℕ) → nat_eq k n ≡ false → n ≤ k → suc n ≤ k
after k n apart le = grind (arith)

-- the places of the sheets at these indexes are those of all sheets from here on
places_kept : (sheets front xs : List HeldSheet) (n : ℕ) (ks : List ℕ) → sheets ≡ front ++ xs → n ≡ length front → IsStrictlySortedBy nat_cmp ks → AllByRecursion (λ k. n ≤ k) ks → Others ks n xs → flat_map (places_of sheets) ks ≡ places_from n xs
places_kept sheets front [] n ks e at sorted from others = past sheets ks (sooner (length sheets) n ks (omega (arith, at, ap length e, length-append front [])) from)
places_kept sheets front (s ∷ xs) n [] e at sorted from others =
    ap₂ (λ (a b : List CellIndex). a ++ b) (ap (map (place_in n)) (sym (others.0 refl)))
    (places_kept sheets (front ++ s ∷ []) xs (n + 1) [] (e ∙ sym (append_assoc front (s ∷ []) xs)) (omega (arith, at, length-append front (s ∷ []))) sorted tt others.1)
places_kept sheets front (s ∷ xs) n (k ∷ ks) e at sorted from others =
    let next = λ (qs : List ℕ). places_kept sheets (front ++ s ∷ []) xs (n + 1) qs (e ∙ sym (append_assoc front (s ∷ []) xs)) (omega (arith, at, length-append front (s ∷ []))) in
    elim (cases_Bool (nat_eq k n)) [
      | inl is ↦
          let same = eqb-true k n is in
          ap₂ (λ (a b : List CellIndex). a ++ b)
          (ap (places_of sheets) same ∙ ap (λ o. option_map_or (sheet_at n) o []) (ap (slice_get sheets) at ∙ ap (λ ws. slice_get ws (length front)) e ∙ got front xs s))
          (next ks (sorted_rest k ks sorted) (sooner (n + 1) (suc k) ks (omega (arith, same)) (later k ks sorted)) (others_behind k ks (n + 1) xs (omega (arith, same)) others.1))
      | inr apart ↦
          let behind : suc n ≤ k = after k n apart from.0 in
          let all : AllByRecursion (λ q. suc n ≤ q) (k ∷ ks) = (behind, sooner (suc n) (suc k) ks (omega (arith, behind)) (later k ks sorted)) in
          next (k ∷ ks) sorted (sooner (n + 1) (suc n) (k ∷ ks) (omega arith) all) others.1
          ∙ ap (λ (none : List CellIndex). none ++ places_from (n + 1) xs) (ap (map (place_in n)) (sym (others.0 (none_below n (k ∷ ks) all))))
    ]

pub all_places : (sheets : List HeldSheet) (indexes : BTreeSet ℕ) → IsStrictlySortedBy nat_cmp indexes.keys → AreHolders indexes 0 sheets → flat_map (places_of sheets) indexes.keys ≡ places_from 0 sheets
all_places sheets indexes sorted others = places_kept sheets [] sheets 0 indexes.keys refl refl sorted (from_zero indexes.keys) (as_list 0 sheets others)
  where
    from_zero : (ks : List ℕ) → AllByRecursion (λ k. 0 ≤ k) ks
    from_zero [] = tt
    from_zero (k ∷ ks) = (omega arith, from_zero ks)

    as_list : (n : ℕ) (xs : List HeldSheet) → AreHolders indexes n xs → Others indexes.keys n xs
    as_list n [] h = tt
    as_list n (s ∷ xs) h = (h.0, as_list (n + 1) xs h.1)

-- one sheet more
pub places_pushed : (sheets : List HeldSheet) (all items new : List CellIndex) (left rest : List ℕ) (index : ℕ) (s : HeldSheet) (places : List CellPlace) → left ≡ index ∷ rest → items ++ flat_map (places_of sheets) left ≡ all
    → slice_get sheets index ≡ Some s → new ≡ items ++ map (place_in index) places → places ≡ finite.keys s.grid.cells → new ++ flat_map (places_of sheets) rest ≡ all
places_pushed sheets all items new left rest index s places begins so_far there put keys =
    let its : places_of sheets index ≡ map (place_in index) places = ap (λ o. option_map_or (sheet_at index) o []) there ∙ ap (map (place_in index)) (sym keys) in
    ap (λ xs. xs ++ flat_map (places_of sheets) rest) put ∙ append_assoc items (map (place_in index) places) (flat_map (places_of sheets) rest)
    ∙ ap (λ (xs : List CellIndex). items ++ (xs ++ flat_map (places_of sheets) rest)) (sym its) ∙ ap (λ ks. items ++ flat_map (places_of sheets) ks) (sym begins) ∙ so_far

-- none at this index
pub places_passed : (sheets : List HeldSheet) (all items : List CellIndex) (left rest : List ℕ) (index : ℕ) → left ≡ index ∷ rest → items ++ flat_map (places_of sheets) left ≡ all → slice_get sheets index ≡ None
    → items ++ flat_map (places_of sheets) rest ≡ all
places_passed sheets all items left rest index begins so_far none =
    ap (λ (xs : List CellIndex). items ++ (xs ++ flat_map (places_of sheets) rest)) (sym (ap (λ o. option_map_or (sheet_at index) o []) none)) ∙ ap (λ ks. items ++ flat_map (places_of sheets) ks) (sym begins) ∙ so_far
