-- What the sheets keep beside them stays true when a formula gets its place in one of them.
use Rattle.std.proofs.Common.{◌≡◌, ℕ, zero, suc, ◌<◌, List, [], ◌∷◌, true, Some, Result, Ok, Err, map, length, get_or, slice_set, refl, sym, ap, subst, ◌∙◌, inl, inr}
use Rattle.std.proofs.lemmas.Option.{slice_get_read}
use Rattle.std.specs.List.{slice_get}
use Rattle.std.specs.Prelude.{IfOk, IfSome, OnErr, OnOk, option_map, unwrap_or}
use Rattle.ic_laws.specs.CoreBook.{CellPlace}
use Rattle.ic_laws.specs.CoreStep.{updated_at}
use Rattle.ic_laws.specs.declared.memory.OutOfMemory.{OutOfMemory}
use Rattle.ic_laws.specs.declared.tree.Formula.{Formula}
use Rattle.ic_cells.specs.declared.style.Style.{Style}
use Rattle.ic_grid.specs.Written.{with_array}
use Rattle.ic_grid.specs.declared.block.Block.{Block}
use Rattle.ic_pool.specs.Pool.{IsPlaced, PoolState}
use Rattle.ic_sheets.proofs.IndexLemmas.{set_updated}
use Rattle.ic_sheets.proofs.KeptLemmas.{kept_same}
use Rattle.ic_sheets.specs.Index.{AreKept}
use Rattle.ic_sheets.specs.Sheet.{AreSameOrLookUp, IsArrayWritten, IsSameOrLooksUp, IsWritten, Sheet, TakesCell, WritesArrayAt, formula_cell, looking_up, pool_at, sheet_of, with_cell_in}
use Rattle.ic_sheets.specs.declared.sheet.FormulaKind.{FormulaKind}
use Rattle.ic_sheets.specs.declared.sheet.Sheet.{Sheet as HeldSheet}

-- an item written over by one that is seen alike
pub seen_over : {X Y : Type 0} (g : X → Y) (xs : List X) (place : ℕ) (x y : X) → x ≡ get_or xs place x → g y ≡ g x → map g (slice_set xs place y) ≡ map g xs
seen_over g [] place x y read same = refl
seen_over g (z ∷ xs) zero x y read same = ap (λ e. e ∷ map g xs) (same ∙ ap g read)
seen_over g (z ∷ xs) (suc place) x y read same = ap (λ es. g z ∷ es) (seen_over g xs place x y read same)

-- the same sheet, with other formulas or look-ups
pub record IsLike (s after : HeldSheet) : Type 0 where
  pub id : after.id ≡ s.id
  pub name : after.name ≡ s.name

like_same : (s after : HeldSheet) → sheet_of after ≡ sheet_of s → IsLike s after
like_same s after same = record { id = ap (λ (b : Sheet). b.id) same; name = ap (λ (b : Sheet). b.name) same }

pub like_written : (formula : Formula) (kind : FormulaKind) (style : ℕ) (cell : CellPlace) (s after : HeldSheet) (r : Result (Unit {0}) OutOfMemory) → OnOk r (IsWritten formula kind style cell s after) → OnErr r (sheet_of after ≡ sheet_of s) → IsLike s after
like_written formula kind style cell s after (Ok done) h e = record { id = ap (λ (x : HeldSheet). x.id) h.2; name = ap (λ (x : HeldSheet). x.name) h.2 }
like_written formula kind style cell s after (Err error) h e = like_same s after e

pub kept_over : (last : ℕ) (sheets : List HeldSheet) (place : ℕ) (s after : HeldSheet) → AreKept last sheets → s ≡ get_or sheets place s → IsLike s after → AreKept last (slice_set sheets place after)
kept_over last sheets place s after kept read like =
    kept_same last sheets (slice_set sheets place after) kept
    (seen_over (λ (x : HeldSheet). x.name) sheets place s after read like.name)
    (seen_over (λ (x : HeldSheet). x.id) sheets place s after read like.id)

-- ---- what the sheets are then

pub pool_is : (sheets now_sheets : List HeldSheet) (place : ℕ) (s : HeldSheet) → sheets ≡ now_sheets → place < length now_sheets → s ≡ get_or sheets place s → pool_at now_sheets place ≡ s.pool.formulas
pool_is sheets now_sheets place s is lt read =
    ap (λ o. unwrap_or (option_map (λ (x : HeldSheet). x.pool.formulas) o) [])
    (slice_get_read now_sheets (length now_sheets) place s refl lt (read ∙ ap (λ xs. get_or xs place s) is))

-- a cell of the sheet at a place has got a formula
abbrev pub WritesAt : Formula → FormulaKind → ℕ → CellPlace → ℕ → List HeldSheet → List HeldSheet → Type 0
WritesAt formula kind style cell place sheets list =
    (pool : List Formula) × (at : ℕ) × IsPlaced formula at (pool_at sheets place) pool
    × (list ≡ updated_at (λ s. record s { pool = record { formulas = pool; is_whole = true }; grid = with_cell_in cell (formula_cell kind at style) s.grid }) place sheets)

pub writes_at : (formula : Formula) (kind : FormulaKind) (style : ℕ) (stored cell : CellPlace) (place : ℕ) (sheets now_sheets : List HeldSheet) (s after : HeldSheet) → stored ≡ cell → sheets ≡ now_sheets → place < length now_sheets → s ≡ get_or sheets place s → IsWritten formula kind style stored s after
    → WritesAt formula kind style cell place now_sheets (slice_set sheets place after)
writes_at formula kind style stored cell place sheets now_sheets s after same is lt read h =
    let put : HeldSheet → HeldSheet = λ x. record x { pool = record { formulas = after.pool.formulas; is_whole = true }; grid = with_cell_in stored (formula_cell kind h.0 style) x.grid } in
    subst (λ k. WritesAt formula kind style k place now_sheets (slice_set sheets place after)) same (
      after.pool.formulas,
      h.0,
      subst (λ pool. IsPlaced formula h.0 pool after.pool.formulas) (sym (pool_is sheets now_sheets place s is lt read)) h.1,
      ap (slice_set sheets place) h.2 ∙ set_updated put sheets place s read ∙ ap (updated_at put place) is,
    )

-- the sheet at the place takes a cell where that of the list does
pub takes_at : (stored cell : CellPlace) (place : ℕ) (sheets now_sheets : List HeldSheet) (s : HeldSheet) → stored ≡ cell → sheets ≡ now_sheets → place < length now_sheets → s ≡ get_or sheets place s
    → IfSome (slice_get now_sheets place) (λ s. TakesCell cell s.grid) → TakesCell stored s.grid
takes_at stored cell place sheets now_sheets s same is lt read h =
    subst (λ k. TakesCell k s.grid) (sym same)
    (subst (λ o. IfSome o (λ (s : HeldSheet). TakesCell cell s.grid)) (slice_get_read now_sheets (length now_sheets) place s refl lt (read ∙ ap (λ xs. get_or xs place s) is)) h)

pub sheets_as_before : (sheets now_sheets : List HeldSheet) (place : ℕ) (s after : HeldSheet) → sheets ≡ now_sheets → s ≡ get_or sheets place s → sheet_of after ≡ sheet_of s → map sheet_of (slice_set sheets place after) ≡ map sheet_of now_sheets
sheets_as_before sheets now_sheets place s after is read same = seen_over sheet_of sheets place s after read same ∙ ap (map sheet_of) is

-- ---- an array is written

pub like_array : (formula : Formula) (block : Block) (styles left : List Style) (s after : HeldSheet) (r : Result (Unit {0}) OutOfMemory) → OnOk r (IsArrayWritten formula block styles left s after) → OnErr r (sheet_of after ≡ sheet_of s) → IsLike s after
like_array formula block styles left s after (Ok done) h e = record { id = ap (λ (x : HeldSheet). x.id) h.2; name = ap (λ (x : HeldSheet). x.name) h.2 }
like_array formula block styles left s after (Err error) h e = like_same s after e

pub array_at : (formula : Formula) (block : Block) (styles left : List Style) (place : ℕ) (sheets now_sheets : List HeldSheet) (s after : HeldSheet) → sheets ≡ now_sheets → place < length now_sheets → s ≡ get_or sheets place s → IsArrayWritten formula block styles left s after
    → WritesArrayAt formula block styles left place now_sheets (slice_set sheets place after)
array_at formula block styles left place sheets now_sheets s after is lt read h =
    let put : HeldSheet → HeldSheet = λ x. record x { pool = record { formulas = after.pool.formulas; is_whole = true }; grid = (with_array s.grid block h.0 styles).0 } in (
      s,
      after.pool.formulas,
      h.0,
      slice_get_read now_sheets (length now_sheets) place s refl lt (read ∙ ap (λ xs. get_or xs place s) is),
      h.1,
      ap (slice_set sheets place) h.2 ∙ set_updated put sheets place s read ∙ ap (updated_at put place) is,
      h.3,
    )

-- ---- a copy gets its place

-- what a sheet answers of it
abbrev pub PlacesCopy : Formula → HeldSheet → HeldSheet → ℕ → Type 0
PlacesCopy formula s after at =
    IsPlaced formula at s.pool.formulas after.pool.formulas × (after ≡ record s { pool = record { formulas = after.pool.formulas; is_whole = true } })

pub like_copied : (formula : Formula) (s after : HeldSheet) (r : Result ℕ OutOfMemory) → IfOk r (PlacesCopy formula s after) → OnErr r (sheet_of after ≡ sheet_of s) → IsLike s after
like_copied formula s after (Ok at) h e = record { id = ap (λ (x : HeldSheet). x.id) h.1; name = ap (λ (x : HeldSheet). x.name) h.1 }
like_copied formula s after (Err error) h e = like_same s after e

pub copies_at : (formula : Formula) (place : ℕ) (sheets now_sheets : List HeldSheet) (s after : HeldSheet) → sheets ≡ now_sheets → place < length now_sheets → s ≡ get_or sheets place s → (at : ℕ) → PlacesCopy formula s after at
    → (pool : List Formula) × IsPlaced formula at (pool_at now_sheets place) pool × (slice_set sheets place after ≡ updated_at (λ x. record x { pool = record { formulas = pool; is_whole = true } }) place now_sheets)
copies_at formula place sheets now_sheets s after is lt read at h =
    let put : HeldSheet → HeldSheet = λ x. record x { pool = record { formulas = after.pool.formulas; is_whole = true } } in (
      after.pool.formulas,
      subst (λ pool. IsPlaced formula at pool after.pool.formulas) (sym (pool_is sheets now_sheets place s is lt read)) h.0,
      ap (slice_set sheets place) h.1 ∙ set_updated put sheets place s read ∙ ap (updated_at put place) is,
    )

-- the sheet's look-up is whole where that of the sheet at the place is
pub whole_at : (sheets now_sheets : List HeldSheet) (place : ℕ) (s : HeldSheet) → sheets ≡ now_sheets → place < length now_sheets → s ≡ get_or sheets place s → option_map (λ (x : HeldSheet). x.pool.is_whole) (slice_get now_sheets place) ≡ Some true → s.pool.is_whole ≡ true
whole_at sheets now_sheets place s is lt read e =
    let at : Some s.pool.is_whole ≡ Some true = sym (ap (option_map (λ (x : HeldSheet). x.pool.is_whole)) (slice_get_read now_sheets (length now_sheets) place s refl lt (read ∙ ap (λ xs. get_or xs place s) is))) ∙ e in
    cc

-- ---- after want of memory

-- what holds anyway holds at an error
pub at_err : {T E : Type 0} (r : Result T E) (P : Type 0) → P → OnErr r P
at_err (Ok x) P p = tt
at_err (Err e) P p = p

-- what holds anyway holds at an answer, and nothing is said of one at an error
pub at_ok : {T E : Type 0} (r : Result T E) (P : Type 0) → P → OnOk r P
at_ok (Ok x) P p = p
at_ok (Err e) P p = tt

pub not_ok : {T E : Type 0} {e : E} (r : Result T E) (P : Type 0) → r ≡ Err e → OnOk r P
not_ok (Ok x) P is = cc
not_ok (Err e) P is = tt

-- what is left where the look-up could be made, and nothing after it
pub looked_up : (s : HeldSheet) (between after : PoolState) → between ≡ record s.pool { is_whole = true } → after ≡ between → IsSameOrLooksUp s (record s { pool = after })
looked_up s between after made same = inr (ap (λ (p : PoolState). let t : HeldSheet = record s { pool = p } in t) (same ∙ made))

pub looked_up_whole : (s after : HeldSheet) (between : PoolState) → between ≡ record s.pool { is_whole = true } → after ≡ record s { pool = between } → IsSameOrLooksUp s after
looked_up_whole s after between made same = inr (same ∙ ap (λ (p : PoolState). let t : HeldSheet = record s { pool = p } in t) made)

pub not_looked_up : (s : HeldSheet) (after : PoolState) → after ≡ s.pool → IsSameOrLooksUp s (record s { pool = after })
not_looked_up s after same = inl (ap (λ (p : PoolState). let t : HeldSheet = record s { pool = p } in t) same)

set_same : (xs : List HeldSheet) (place : ℕ) (x : HeldSheet) → x ≡ get_or xs place x → slice_set xs place x ≡ xs
set_same [] place x e = refl
set_same (y ∷ xs) zero x e = ap (λ z. z ∷ xs) e
set_same (y ∷ xs) (suc place) x e = ap (λ ys. y ∷ ys) (set_same xs place x e)

pub looked_up_at : (sheets now_sheets : List HeldSheet) (place : ℕ) (s after : HeldSheet) → sheets ≡ now_sheets → s ≡ get_or sheets place s → IsSameOrLooksUp s after → AreSameOrLookUp place now_sheets (slice_set sheets place after)
looked_up_at sheets now_sheets place s after is read (inl e) = inl (ap (slice_set sheets place) e ∙ set_same sheets place s read ∙ is)
looked_up_at sheets now_sheets place s after is read (inr e) = inr (ap (slice_set sheets place) e ∙ set_updated looking_up sheets place s read ∙ ap (updated_at looking_up place) is)
