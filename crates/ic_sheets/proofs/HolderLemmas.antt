-- What is known of the cells of sheets stays known, and what it tells of them.
use Rattle.std.proofs.Common.{◌≡◌, ℕ, zero, suc, ◌<◌, List, [], ◌∷◌, ◌++◌, Bool, true, false, cond, ◌||◌, Some, Result, Ok, Err, length, length-append, get_or, map, option_map, slice_set, nat_eq, refl, sym, ap, subst, ◌∙◌, arith, append_assoc, inl, inr}
use Rattle.std.proofs.lemmas.Bool.{cases_Bool, or_parts}
use Rattle.std.specs.BTreeMap.{BTreeMap}
use Rattle.std.specs.BTreeSet.{BTreeSet, contains}
use Rattle.std.specs.Cmp.{nat_eq_equiv}
use Rattle.std.specs.FinMap as finite
use Rattle.std.specs.List.{IsDistinct, insert, list_any, remove}
use Rattle.std.specs.Ordering.{nat_cmp}
use Rattle.std.specs.Prelude.{IfOk, OnErr}
use Rattle.ic_cells.specs.Maps.{place_cmp}
use Rattle.ic_grid.specs.Contents.{Contents}
use Rattle.ic_laws.proofs.core.Lists.{all_removed}
use Rattle.ic_laws.specs.CoreBook.{CellPlace}
use Rattle.ic_laws.specs.declared.memory.OutOfMemory.{OutOfMemory}
use Rattle.ic_laws.specs.declared.tree.Formula.{Formula}
use Rattle.ic_pool.proofs.KeyLemmas.{clash}
use Rattle.ic_sheets.proofs.InsertLemmas.{all_inserted}
use Rattle.ic_sheets.proofs.PlaceLemmas.{alone, place_middle}
use Rattle.ic_sheets.proofs.SearchLemmas.{ids}
use Rattle.ic_sheets.proofs.WriteLemmas.{PlacesCopy}
use Rattle.ic_sheets.specs.Holders.{AreHolders, KeepsHolders, KnowsCells, KnowsHolders}
use Rattle.ic_sheets.specs.Index.{AreAtIndexes, is_listed}
use Rattle.ic_sheets.specs.Search.{index_with_id}
use Rattle.ic_sheets.specs.Sheet.{empty_grid, sheet_of}
use Rattle.ic_sheets.specs.Spots.{index_at, raised}
use Rattle.ic_sheets.specs.declared.sheet.Sheet.{Sheet}
use Rattle.ic_sheets.specs.declared.sheets.holders.Holders.{Holders}
use Rattle.ic_sheets.specs.declared.sheets.spots.Spots.{Spots}

-- ---- nothing holds no cells

nothing_in : (X : Type 0) → finite.keys (finite.empty {X = X} {R = place_cmp}) ≡ []
nothing_in X =
    ap (map (λ (e : CellPlace × X). e.0)) (none (finite.entries (finite.empty {X = X} {R = place_cmp})) (sym (finite.len-entries (finite.empty {X = X} {R = place_cmp})) ∙ finite.len-empty place_cmp X))
  where
    none : (es : List (CellPlace × X)) → length es ≡ 0 → es ≡ []
    none [] e = refl
    none (x ∷ es) e = absurd (omega (arith, e))

pub nothing_held : finite.keys empty_grid.cells ≡ []
nothing_held = nothing_in _

-- where a map is empty, so is what it stands for
pub no_cells : {X : Type 0} (m : BTreeMap CellPlace X) (cells : Contents X) → finite.from_entries m.entries ≡ cells → length m.entries ≡ 0 → finite.keys cells ≡ []
no_cells {X} m cells is none = sym (ap finite.keys is) ∙ go m.entries none
  where
    go : (es : List (CellPlace × X)) → length es ≡ 0 → finite.keys (finite.from_entries {R = place_cmp} es) ≡ []
    go [] e = nothing_in X
    go (x ∷ es) e = absurd (omega (arith, e))

-- ---- what is known stays known

holders_kept : (before after : Holders) → KeepsHolders before after → (sheets : List Sheet) → KnowsHolders before sheets → KnowsHolders after sheets
holders_kept before after keeps [] h = tt
holders_kept before after keeps (s ∷ sheets) h = (keeps s h.0, holders_kept before after keeps sheets h.1)

-- one of the sheets
held_there : (holders : Holders) (sheets : List Sheet) (at : ℕ) (s : Sheet) → KnowsHolders holders sheets → at < length sheets → s ≡ get_or sheets at s → KnowsCells holders s
held_there holders [] at s h lt read = absurd (omega (arith, lt))
held_there holders (x ∷ sheets) zero s h lt read = subst (KnowsCells holders) (sym read) h.0
held_there holders (x ∷ sheets) (suc at) s h lt read = held_there holders sheets at s h.1 (omega (arith, lt)) read

-- it changes
pub held_over : (before after : Holders) (sheets : List Sheet) (at : ℕ) (t : Sheet) → KnowsHolders before sheets → KeepsHolders before after → KnowsCells after t → KnowsHolders after (slice_set sheets at t)
held_over before after [] at t h keeps now = tt
held_over before after (s ∷ sheets) zero t h keeps now = (now, holders_kept before after keeps sheets h.1)
held_over before after (s ∷ sheets) (suc at) t h keeps now = (keeps s h.0, held_over before after sheets at t h.1 keeps now)

-- with the same cells
pub held_like : (holders : Holders) (sheets : List Sheet) (at : ℕ) (s t : Sheet) → KnowsHolders holders sheets → at < length sheets → s ≡ get_or sheets at s → t.id ≡ s.id → t.grid ≡ s.grid → KnowsHolders holders (slice_set sheets at t)
held_like holders sheets at s t h lt read same cells =
    held_over holders holders sheets at t h (λ sheet known. known)
    (λ has none. ap (λ grid. finite.keys grid.cells) cells ∙ held_there holders sheets at s h lt read has (ap (λ id. is_listed id holders.ids.items) (sym same) ∙ none))

-- it gets another place
pub held_moved : (holders : Holders) (sheets list : List Sheet) (at to : ℕ) (s : Sheet) → KnowsHolders holders sheets → at < length sheets → s ≡ get_or sheets at s → list ≡ insert (remove sheets at) to s → KnowsHolders holders list
held_moved holders sheets list at to s h lt read put =
    subst (KnowsHolders holders) (sym put) (all_inserted (KnowsCells holders) (remove sheets at) to s (all_removed (KnowsCells holders) sheets at h) (held_there holders sheets at s h lt read))

-- its id is forgotten, once it is gone
pub held_without : (before after : Holders) (id : ℕ) → after.has_all ≡ before.has_all → ((other : ℕ) → nat_eq id other ≡ false → is_listed other before.ids.items ≡ true → is_listed other after.ids.items ≡ true)
    → (sheets : List Sheet) → list_any (nat_eq id) (ids sheets) ≡ false → KnowsHolders before sheets → KnowsHolders after sheets
held_without before after id same keeps [] none h = tt
held_without before after id same keeps (s ∷ sheets) none h =
    let apart = or_parts (nat_eq id s.id) (list_any (nat_eq id) (ids sheets)) none in (
      λ has gone. h.0 (sym same ∙ has) (by_test (is_listed s.id before.ids.items) refl gone (keeps s.id apart.0)),
      held_without before after id same keeps sheets apart.1 h.1,
    )
  where
    by_test : (b : Bool) → is_listed s.id before.ids.items ≡ b → is_listed s.id after.ids.items ≡ false → (is_listed s.id before.ids.items ≡ true → is_listed s.id after.ids.items ≡ true) → is_listed s.id before.ids.items ≡ false
    by_test false is gone kept = is
    by_test true is gone kept = absurd (clash (is_listed s.id after.ids.items) (kept is) gone)

-- a formula that gets its place leaves the cells
pub cells_copied : (formula : Formula) (s after : Sheet) (r : Result ℕ OutOfMemory) → IfOk r (PlacesCopy formula s after) → OnErr r (sheet_of after ≡ sheet_of s) → after.grid ≡ s.grid
cells_copied formula s after (Ok at) h e = ap (λ (x : Sheet). x.grid) h.1
cells_copied formula s after (Err error) h e = ap (λ x. x.grid) e

-- ---- ids are put in and taken out

-- one that was there still is, beside one that is put in
pub listed_beside : (q id at : ℕ) (xs : List ℕ) → is_listed q xs ≡ true → is_listed q (insert xs at id) ≡ true
listed_beside q id zero xs e = ap (λ b. nat_eq q id || b) e ∙ right (nat_eq q id)
  where
    right : (b : Bool) → (b || true) ≡ true
    right true = refl
    right false = refl
listed_beside q id (suc at) [] e = cc
listed_beside q id (suc at) (x ∷ xs) e = step (nat_eq q x) e (listed_beside q id at xs)
  where
    step : (b : Bool) → (b || is_listed q xs) ≡ true → (is_listed q xs ≡ true → is_listed q (insert xs at id) ≡ true) → (b || is_listed q (insert xs at id)) ≡ true
    step true e one = refl
    step false e one = one e

-- so is that one
pub listed_put : (id at : ℕ) (xs : List ℕ) → at < suc (length xs) → is_listed id (insert xs at id) ≡ true
listed_put id zero xs lt = ap (λ b. b || is_listed id xs) (nat_eq_equiv.refl id)
listed_put id (suc at) [] lt = absurd (omega (arith, lt))
listed_put id (suc at) (x ∷ xs) lt = ap (λ b. nat_eq id x || b) (listed_put id at xs (omega (arith, lt))) ∙ right (nat_eq id x)
  where
    right : (b : Bool) → (b || true) ≡ true
    right true = refl
    right false = refl

-- what is found at a place is one of them
pub listed_found : (id at : ℕ) (xs : List ℕ) → at < length xs → get_or xs at id ≡ id → is_listed id xs ≡ true
listed_found id at [] lt e = absurd (omega (arith, lt))
listed_found id zero (x ∷ xs) lt e = ap (λ k. nat_eq id k || is_listed id xs) e ∙ ap (λ b. b || is_listed id xs) (nat_eq_equiv.refl id)
listed_found id (suc at) (x ∷ xs) lt e = ap (λ b. nat_eq id x || b) (listed_found id at xs (omega (arith, lt)) e) ∙ right (nat_eq id x)
  where
    right : (b : Bool) → (b || true) ≡ true
    right true = refl
    right false = refl

-- another than the one that is taken out still is one of them
pub listed_left : (q id at : ℕ) (xs : List ℕ) → at < length xs → get_or xs at id ≡ id → nat_eq id q ≡ false → is_listed q xs ≡ true → is_listed q (remove xs at) ≡ true
listed_left q id at [] lt e other h = absurd (omega (arith, lt))
listed_left q id zero (x ∷ xs) lt e other h = sym (ap (λ b. b || is_listed q xs) (nat_eq_equiv.symm q x ∙ ap (λ k. nat_eq k q) e ∙ other)) ∙ h
listed_left q id (suc at) (x ∷ xs) lt e other h = step (nat_eq q x) h (listed_left q id at xs (omega (arith, lt)) e other)
  where
    step : (b : Bool) → (b || is_listed q xs) ≡ true → (is_listed q xs ≡ true → is_listed q (remove xs at) ≡ true) → (b || is_listed q (remove xs at)) ≡ true
    step true e one = refl
    step false e one = one e

-- ids that are more know as much
pub keeps_longer : (before after : Holders) → (after.has_all ≡ true → before.has_all ≡ true) → ((q : ℕ) → is_listed q before.ids.items ≡ true → is_listed q after.ids.items ≡ true) → KeepsHolders before after
keeps_longer before after all more s known has gone = known (all has) (by_test (is_listed s.id before.ids.items) refl)
  where
    by_test : (b : Bool) → is_listed s.id before.ids.items ≡ b → is_listed s.id before.ids.items ≡ false
    by_test false is = is
    by_test true is = absurd (clash (is_listed s.id after.ids.items) (more s.id is) gone)

-- ---- the sheets that hold cells

module _ (holders : Holders) (indexes : Spots) (about : BTreeSet ℕ) (sheets : List Sheet) (has : holders.has_all ≡ true) (known : KnowsHolders holders sheets) (placed : AreAtIndexes indexes sheets) (differ : IsDistinct nat_eq (ids sheets))
    (found : (id index : ℕ) → is_listed id holders.ids.items ≡ true → index_at id indexes.list.items ≡ Some index → contains nat_cmp about index ≡ true)
  where
    one : (front back : List Sheet) (s : Sheet) → sheets ≡ front ++ s ∷ back → KnowsCells holders s → contains nat_cmp about (length front) ≡ false → finite.keys s.grid.cells ≡ []
    one front back s e its none =
        elim (cases_Bool (is_listed s.id holders.ids.items)) [
          | inr nowhere ↦ its has nowhere
          | inl somewhere ↦ absurd (clash (contains nat_cmp about (length front)) (found s.id (length front) somewhere at) none)
        ]
      where
        at : index_at s.id indexes.list.items ≡ Some (length front)
        at =
            placed.finds s.id ∙ ap (λ xs. index_with_id s.id xs) e
            ∙ place_middle front back s (alone front back s (subst (λ xs. IsDistinct nat_eq (ids xs)) e differ)) s.id
            ∙ ap (λ b. cond b (Some (length front)) (option_map (raised (length front)) (index_with_id s.id (front ++ back)))) (nat_eq_equiv.refl s.id)

    pub known_holders : AreHolders about 0 sheets
    known_holders = go [] sheets refl known
      where
        go : (front xs : List Sheet) → sheets ≡ front ++ xs → KnowsHolders holders xs → AreHolders about (length front) xs
        go front [] e h = tt
        go front (s ∷ back) e h = (
          one front back s e h.0,
          subst (λ n. AreHolders about n back) (length-append front (s ∷ [])) (go (front ++ s ∷ []) back (e ∙ sym (append_assoc front (s ∷ []) back)) h.1),
        )
