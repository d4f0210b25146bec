-- What is known of the mentions of sheets stays known, and what it tells of them.
use Rattle.std.proofs.Common.{◌≡◌, ℕ, zero, suc, ◌<◌, ◌+◌, List, [], ◌∷◌, ◌++◌, Bool, true, false, cond, ◌||◌, None, Some, Result, Ok, Err, length, get_or, option_map, slice_set, set, take, drop, nat_eq, refl, sym, ap, ap₂, subst, ◌∙◌, arith, append_assoc, inl, inr}
use Rattle.std.proofs.lemmas.Bool.{cases_Bool, cases_lt}
use Rattle.std.proofs.lemmas.List.{take_at, take_more}
use Rattle.std.specs.BTreeSet.{BTreeSet, contains}
use Rattle.std.specs.Cmp.{nat_eq_equiv}
use Rattle.std.specs.List.{AllByRecursion, IsDistinct, insert, list_any, remove, slice_get}
use Rattle.std.specs.Ordering.{nat_cmp}
use Rattle.std.specs.Prelude.{IfOk, OnErr, OnOk}
use Rattle.std.proofs.Math.Seq.{take-length as take_whole}
use Rattle.ic_laws.proofs.core.Lists.{all_pushed, all_removed}
use Rattle.ic_laws.specs.CoreBook.{CellPlace}
use Rattle.ic_laws.specs.declared.memory.OutOfMemory.{OutOfMemory}
use Rattle.ic_laws.specs.declared.tree.Formula.{Formula}
use Rattle.ic_cells.specs.declared.style.Style.{Style}
use Rattle.ic_grid.specs.declared.block.Block.{Block}
use Rattle.ic_pool.proofs.MentionedLemmas.{some_place}
use Rattle.ic_pool.specs.MentionPlaces.{has_place_of}
use Rattle.ic_pool.specs.Pool.{IsPlaced}
use Rattle.ic_pool.specs.Rewrites.{changed_by}
use Rattle.ic_pool.specs.Topics.{mentions_some}
use Rattle.ic_pool.specs.declared.pool.rewrites.Replacement.{Replacement}
use Rattle.ic_sheets.proofs.DanglingLemmas.{id_here}
use Rattle.ic_sheets.proofs.InsertLemmas.{all_inserted}
use Rattle.ic_sheets.proofs.PartLemmas.{part_same}
use Rattle.ic_sheets.proofs.PlaceLemmas.{alone, place_middle}
use Rattle.ic_sheets.proofs.SearchLemmas.{ids}
use Rattle.ic_sheets.proofs.WriteLemmas.{PlacesCopy}
use Rattle.ic_sheets.specs.Index.{AreAtIndexes, is_id, is_listed, is_part}
use Rattle.ic_sheets.specs.Search.{index_with_id}
use Rattle.ic_sheets.specs.Spots.{index_at, raised}
use Rattle.ic_sheets.specs.declared.sheets.spots.Spots.{Spots}
use Rattle.ic_sheets.specs.Mentioners.{AreAbout, KeepsKnown, KnowsFormula, KnowsPool, KnowsSheets}
use Rattle.ic_sheets.specs.Sheet.{IsArrayWritten, IsWritten, sheet_of}
use Rattle.ic_sheets.specs.declared.mentioners.Mentioners.{Mentioners}
use Rattle.ic_sheets.specs.declared.sheet.FormulaKind.{FormulaKind}
use Rattle.ic_sheets.specs.declared.sheet.Sheet.{Sheet}
use Rattle.ic_pool.proofs.KeyLemmas.{clash}

-- ---- what is known stays known

pub pool_kept : (before after : Mentioners) (id : ℕ) → KeepsKnown before after → (formulas : List Formula) → KnowsPool before id formulas → KnowsPool after id formulas
pool_kept before after id keeps [] h = tt
pool_kept before after id keeps (x ∷ xs) h = (keeps id x h.0, pool_kept before after id keeps xs h.1)

pub sheets_kept : (before after : Mentioners) → KeepsKnown before after → (sheets : List Sheet) → KnowsSheets before sheets → KnowsSheets after sheets
sheets_kept before after keeps [] h = tt
sheets_kept before after keeps (s ∷ sheets) h = (pool_kept before after s.id keeps s.pool.formulas h.0, sheets_kept before after keeps sheets h.1)

-- one of the sheets
pub known_there : (mentioners : Mentioners) (sheets : List Sheet) (at : ℕ) (s : Sheet) → KnowsSheets mentioners sheets → at < length sheets → s ≡ get_or sheets at s → KnowsPool mentioners s.id s.pool.formulas
known_there mentioners [] at s h lt read = absurd (omega (arith, lt))
known_there mentioners (x ∷ sheets) zero s h lt read = subst (λ (y : Sheet). KnowsPool mentioners y.id y.pool.formulas) (sym read) h.0
known_there mentioners (x ∷ sheets) (suc at) s h lt read = known_there mentioners sheets at s h.1 (omega (arith, lt)) read

-- it changes
pub known_over : (before after : Mentioners) (sheets : List Sheet) (at : ℕ) (t : Sheet) → KnowsSheets before sheets → KeepsKnown before after → KnowsPool after t.id t.pool.formulas → KnowsSheets after (slice_set sheets at t)
known_over before after [] at t h keeps now = tt
known_over before after (s ∷ sheets) zero t h keeps now = (now, sheets_kept before after keeps sheets h.1)
known_over before after (s ∷ sheets) (suc at) t h keeps now = (pool_kept before after s.id keeps s.pool.formulas h.0, known_over before after sheets at t h.1 keeps now)

-- with the same formulas
pub known_like : (mentioners : Mentioners) (sheets : List Sheet) (at : ℕ) (s t : Sheet) → KnowsSheets mentioners sheets → at < length sheets → s ≡ get_or sheets at s → t.id ≡ s.id → t.pool.formulas ≡ s.pool.formulas → KnowsSheets mentioners (slice_set sheets at t)
known_like mentioners sheets at s t h lt read same formulas =
    known_over mentioners mentioners sheets at t h (λ id formula known. known)
    (subst (λ id. KnowsPool mentioners id t.pool.formulas) (sym same) (subst (KnowsPool mentioners s.id) (sym formulas) (known_there mentioners sheets at s h lt read)))

-- it gets another place
pub known_moved : (mentioners : Mentioners) (sheets list : List Sheet) (at to : ℕ) (s : Sheet) → KnowsSheets mentioners sheets → at < length sheets → s ≡ get_or sheets at s → list ≡ insert (remove sheets at) to s → KnowsSheets mentioners list
known_moved mentioners sheets list at to s h lt read put =
    subst (KnowsSheets mentioners) (sym put)
    (all_inserted (λ (x : Sheet). KnowsPool mentioners x.id x.pool.formulas) (remove sheets at) to s (all_removed (λ (x : Sheet). KnowsPool mentioners x.id x.pool.formulas) sheets at h) (known_there mentioners sheets at s h lt read))

-- ---- formulas come behind others

all_parts : {X : Type 0} (P : X → Type 0) (n : ℕ) (xs : List X) → AllByRecursion P (take n xs) → AllByRecursion P (drop n xs) → AllByRecursion P xs
all_parts P n [] front back = tt
all_parts P zero (x ∷ xs) front back = back
all_parts P (suc n) (x ∷ xs) front back = (front.0, all_parts P n xs front.1 back)

known_longer : (before after : Mentioners) (id count : ℕ) (old new : List Formula) → KnowsPool before id old → KeepsKnown before after → count ≡ length old → take (length old) new ≡ old → KnowsPool after id (drop count new) → KnowsPool after id new
known_longer before after id count old new known keeps counted begins rest =
    all_parts (KnowsFormula after id) count new
    (subst (KnowsPool after id) (sym (ap (λ n. take n new) counted ∙ begins)) (pool_kept before after id keeps old known)) rest

-- in a sheet among others
pub known_written : (before after : Mentioners) (sheets : List Sheet) (at : ℕ) (s t : Sheet) (count : ℕ) → KnowsSheets before sheets → at < length sheets → s ≡ get_or sheets at s → KeepsKnown before after → t.id ≡ s.id → count ≡ length s.pool.formulas
    → take (length s.pool.formulas) t.pool.formulas ≡ s.pool.formulas → KnowsPool after t.id (drop count t.pool.formulas) → KnowsSheets after (slice_set sheets at t)
known_written before after sheets at s t count h lt read keeps same counted begins rest =
    known_over before after sheets at t h keeps
    (known_longer before after t.id count s.pool.formulas t.pool.formulas (subst (λ id. KnowsPool before id s.pool.formulas) (sym same) (known_there before sheets at s h lt read)) keeps counted begins rest)

begins_placed : (formula : Formula) (at : ℕ) (before after : List Formula) → IsPlaced formula at before after → take (length before) after ≡ before
begins_placed formula at before after placed =
    elim (cases_lt at (length before)) [
      | inl there ↦ ap (take (length before)) (placed.found there) ∙ take_whole before
      | inr new ↦ ap (take (length before)) (placed.pushed new) ∙ take_at before (formula ∷ []) (length before) refl
    ]

same_begins : (s after : Sheet) → sheet_of after ≡ sheet_of s → take (length s.pool.formulas) after.pool.formulas ≡ s.pool.formulas
same_begins s after same = ap (λ x. take (length s.pool.formulas) x.pool) same ∙ take_whole s.pool.formulas

pub begins_written : (formula : Formula) (kind : FormulaKind) (style : ℕ) (cell : CellPlace) (s after : Sheet) (r : Result (Unit {0}) OutOfMemory) → OnOk r (IsWritten formula kind style cell s after) → OnErr r (sheet_of after ≡ sheet_of s) → take (length s.pool.formulas) after.pool.formulas ≡ s.pool.formulas
begins_written formula kind style cell s after (Ok done) h e = begins_placed formula h.0 s.pool.formulas after.pool.formulas h.1
begins_written formula kind style cell s after (Err error) h e = same_begins s after e

pub begins_array : (formula : Formula) (block : Block) (styles left : List Style) (s after : Sheet) (r : Result (Unit {0}) OutOfMemory) → OnOk r (IsArrayWritten formula block styles left s after) → OnErr r (sheet_of after ≡ sheet_of s) → take (length s.pool.formulas) after.pool.formulas ≡ s.pool.formulas
begins_array formula block styles left s after (Ok done) h e = begins_placed formula h.0 s.pool.formulas after.pool.formulas h.1
begins_array formula block styles left s after (Err error) h e = same_begins s after e

pub begins_copied : (formula : Formula) (s after : Sheet) (r : Result ℕ OutOfMemory) → IfOk r (PlacesCopy formula s after) → OnErr r (sheet_of after ≡ sheet_of s) → take (length s.pool.formulas) after.pool.formulas ≡ s.pool.formulas
begins_copied formula s after (Ok at) h e = begins_placed formula at s.pool.formulas after.pool.formulas h.0
begins_copied formula s after (Err error) h e = same_begins s after e

-- one more of them is known
pub known_next : {X : Type 0} (P : X → Type 0) (xs : List X) (at : ℕ) (x : X) → at < length xs → x ≡ get_or xs at x → AllByRecursion P (take at xs) → P x → AllByRecursion P (take (at + 1) xs)
known_next P xs at x lt read h one = subst (AllByRecursion P) (sym (take_more xs at x lt ∙ ap (λ y. take at xs ++ y ∷ []) (sym read))) (all_pushed P (take at xs) x h one)

pub all_weaker : {X : Type 0} (P Q : X → Type 0) → ((x : X) → P x → Q x) → (xs : List X) → AllByRecursion P xs → AllByRecursion Q xs
all_weaker P Q weaker [] h = tt
all_weaker P Q weaker (x ∷ xs) h = (weaker x h.0, all_weaker P Q weaker xs h.1)

pub not_there : {X : Type 0} (xs : List X) (at : ℕ) → slice_get xs at ≡ None → at < length xs → ⊥
not_there [] at e lt = omega (arith, lt)
not_there (x ∷ xs) zero e lt = cc
not_there (x ∷ xs) (suc at) e lt = not_there xs at e (omega (arith, lt))

-- two things that are said of an answer
pub both_ok : {T E : Type 0} (r : Result T E) (P Q R : T → Type 0) → ((x : T) → P x → Q x → R x) → IfOk r P → IfOk r Q → IfOk r R
both_ok (Ok x) P Q R both p q = both x p q
both_ok (Err e) P Q R both p q = tt

-- from one on
pub known_further : {X : Type 0} (P : X → Type 0) (xs : List X) (from at : ℕ) (x : X) → slice_get xs at ≡ Some x → AllByRecursion P (drop from (take at xs)) → P x → AllByRecursion P (drop from (take (at + 1) xs))
known_further {X} P xs from at x there h one =
    let next : at + 1 ≡ suc at = omega arith in
    subst (λ n. AllByRecursion P (drop from (take n xs))) (sym next) (go from xs at there h)
  where
    go : (i : ℕ) (ys : List X) (k : ℕ) → slice_get ys k ≡ Some x → AllByRecursion P (drop i (take k ys)) → AllByRecursion P (drop i (take (suc k) ys))
    go i [] k e h = cc
    go zero (y ∷ ys) zero e h = let same : y ≡ x = cc in (subst P (sym same) one, tt)
    go (suc i) (y ∷ ys) zero e h = nothing i
      where
        nothing : (i : ℕ) → AllByRecursion P (drop i (take 0 ys))
        nothing zero = tt
        nothing (suc i) = tt
    go zero (y ∷ ys) (suc k) e h = (h.0, go zero ys k e h.1)
    go (suc i) (y ∷ ys) (suc k) e h = go i ys k e h

-- ---- formulas become others

all_set : (P : Formula → Type 0) (xs : List Formula) (at : ℕ) (y : Formula) → AllByRecursion P xs → P y → AllByRecursion P (set xs at y)
all_set P [] at y h one = tt
all_set P (x ∷ xs) zero y h one = (one, h.1)
all_set P (x ∷ xs) (suc at) y h one = (h.0, all_set P xs at y h.1 one)

pub all_changed : (P : Formula → Type 0) (changes : List Replacement) (xs : List Formula) → AllByRecursion P xs → AllByRecursion (λ change. P change.formula) changes → AllByRecursion P (changed_by changes xs)
all_changed P [] xs h more = h
all_changed P (change ∷ changes) xs h more = all_changed P changes (set xs change.at change.formula) (all_set P xs change.at change.formula h more.0) more.1

-- ---- the sheets that mention something

pub all_about : (topics ns : List ℕ) (sheets : List Sheet) → ns ≡ ids sheets → AreAbout topics ns sheets
all_about topics ns sheets all = subst (λ ns. AreAbout topics ns sheets) (sym all) (record { ordered = part_same (ids sheets); others = go [] sheets refl })
  where
    go : (front xs : List Sheet) → sheets ≡ front ++ xs → AllByRecursion (λ s. is_listed s.id (ids sheets) ≡ false → list_any (mentions_some topics) s.pool.formulas ≡ false) xs
    go front [] e = tt
    go front (s ∷ back) e = (
      λ none. absurd (clash (is_id s.id sheets) (ap (is_id s.id) e ∙ id_here front back s) none),
      go (front ++ s ∷ []) back (e ∙ sym (append_assoc front (s ∷ []) back)),
    )

none_mentions : (mentioners : Mentioners) (topics : List ℕ) (id : ℕ) (formulas : List Formula) → mentioners.has_all ≡ true → KnowsPool mentioners id formulas → has_place_of mentioners.index topics id ≡ false → list_any (mentions_some topics) formulas ≡ false
none_mentions mentioners topics id [] has known none = refl
none_mentions mentioners topics id (x ∷ xs) has known none = ap₂ (λ a b. a || b) (by_test (mentions_some topics x) refl) (none_mentions mentioners topics id xs has known.1 none)
  where
    by_test : (b : Bool) → mentions_some topics x ≡ b → mentions_some topics x ≡ false
    by_test false is = is
    by_test true is = absurd (clash (has_place_of mentioners.index topics id) (some_place mentioners.index id x topics (known.0 has) is) none)

module _ (mentioners : Mentioners) (indexes : Spots) (topics ns : List ℕ) (about : BTreeSet ℕ) (sheets : List Sheet) (has : mentioners.has_all ≡ true) (known : KnowsSheets mentioners sheets) (placed : AreAtIndexes indexes sheets) (differ : IsDistinct nat_eq (ids sheets))
    (found : (id index : ℕ) → has_place_of mentioners.index topics id ≡ true → index_at id indexes.list.items ≡ Some index → contains nat_cmp about index ≡ true)
    (there : (index : ℕ) (s : Sheet) → slice_get sheets index ≡ Some s → contains nat_cmp about index ≡ true → is_listed s.id ns ≡ true)
  where
    got : (front back : List Sheet) (s : Sheet) → slice_get (front ++ s ∷ back) (length front) ≡ Some s
    got [] back s = refl
    got (x ∷ front) back s = got front back s

    one : (front back : List Sheet) (s : Sheet) → sheets ≡ front ++ s ∷ back → KnowsPool mentioners s.id s.pool.formulas → is_listed s.id ns ≡ false → list_any (mentions_some topics) s.pool.formulas ≡ false
    one front back s e its none =
        elim (cases_Bool (has_place_of mentioners.index topics s.id)) [
          | inr nowhere ↦ none_mentions mentioners topics s.id s.pool.formulas has its nowhere
          | inl somewhere ↦ absurd (clash (is_listed s.id ns) (there (length front) s (ap (λ xs. slice_get xs (length front)) e ∙ got front back s) (found s.id (length front) somewhere at)) none)
        ]
      where
        at : index_at s.id indexes.list.items ≡ Some (length front)
        at =
            placed.finds s.id ∙ ap (λ xs. index_with_id s.id xs) e
            ∙ place_middle front back s (alone front back s (subst (λ xs. IsDistinct nat_eq (ids xs)) e differ)) s.id
            ∙ ap (λ b. cond b (Some (length front)) (option_map (raised (length front)) (index_with_id s.id (front ++ back)))) (nat_eq_equiv.refl s.id)

    pub known_about : is_part ns (ids sheets) ≡ true → AreAbout topics ns sheets
    known_about ordered = record { ordered = ordered; others = go [] sheets refl known }
      where
        go : (front xs : List Sheet) → sheets ≡ front ++ xs → KnowsSheets mentioners xs → AllByRecursion (λ s. is_listed s.id ns ≡ false → list_any (mentions_some topics) s.pool.formulas ≡ false) xs
        go front [] e h = tt
        go front (s ∷ back) e h = (one front back s e h.0, go (front ++ s ∷ []) back (e ∙ sym (append_assoc front (s ∷ []) back)) h.1)
