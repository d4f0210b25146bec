-- What is prepared for the formulas of one sheet, and what it makes of them.
use Rattle.std.proofs.Common.{◌≡◌, ℕ, zero, suc, ◌<◌, List, [], ◌∷◌, Bool, true, false, cond, ◌&&◌, ◌||◌, Option, Some, map, length, get_or, refl, sym, ap, ap₂, ◌∙◌, arith}
use Rattle.std.specs.List.{list_any, slice_get}
use Rattle.std.specs.Prelude.{not}
use Rattle.std.proofs.lemmas.Bool.{or_parts}
use Rattle.std.proofs.lemmas.Option.{slice_get_read}
use Rattle.ic_laws.specs.Changes.{Change}
use Rattle.ic_laws.specs.CoreStep.{updated_at}
use Rattle.ic_laws.specs.declared.tree.Formula.{Formula}
use Rattle.ic_pool.specs.Mentions.{SparesFound, formula_after, has_dangling, is_changed_by}
use Rattle.ic_pool.specs.Pool.{PoolState, dangling_from, places_from}
use Rattle.ic_pool.specs.Rewrites.{RewritesState, changes_nothing, is_nothing, places_of, rewritten_by}
use Rattle.ic_pool.specs.declared.pool.rewrites.Replacement.{Replacement}
use Rattle.ic_pool.proofs.ChangeLemmas.{untouched_stays}
use Rattle.ic_sheets.specs.Rewriting.{IsPrepared, looks_up_after, sheets_of, with_rewrites}
use Rattle.ic_sheets.specs.Sheet.{Sheet, sheet_of}
use Rattle.ic_sheets.specs.declared.sheet.Sheet.{Sheet as HeldSheet}

-- ---- formulas that stay

pub pool_stays : (change : Change) (scope : Option ℕ) (pool : List Formula) → list_any (is_changed_by change scope) pool ≡ false → pool ≡ map (formula_after change scope) pool
pool_stays change scope [] e = refl
pool_stays change scope (x ∷ pool) e =
    let parts = or_parts (is_changed_by change scope x) (list_any (is_changed_by change scope) pool) e in
    ap₂ ◌∷◌ (sym (untouched_stays change scope x parts.0)) (pool_stays change scope pool parts.1)

pub pool_untouched : (change : Change) (scope : Option ℕ) → SparesFound change scope → (at : ℕ) (pool : List Formula) → dangling_from at pool ≡ [] → list_any (is_changed_by change scope) pool ≡ false
pool_untouched change scope spares at [] e = refl
pool_untouched change scope spares at (x ∷ pool) e = by_test (has_dangling x) refl e (pool_untouched change scope spares (suc at) pool)
  where
    by_test : (b : Bool) → has_dangling x ≡ b → cond b (at ∷ dangling_from (suc at) pool) (dangling_from (suc at) pool) ≡ []
        → (dangling_from (suc at) pool ≡ [] → list_any (is_changed_by change scope) pool ≡ false) → list_any (is_changed_by change scope) (x ∷ pool) ≡ false
    by_test true is e rest = cc
    by_test false is e rest = ap₂ (λ a b. a || b) (spares x is) (rest e)

pub and_true : (b : Bool) → b ≡ (b && true)
and_true true = refl
and_true false = refl

-- ---- what is listed

none_listed : (test : Formula → Bool) (at : ℕ) (pool : List Formula) (changes : List Replacement) → places_of changes ≡ places_from test at pool → is_nothing changes ≡ not (list_any test pool)
none_listed test at [] [] e = refl
none_listed test at [] (c ∷ changes) e = cc
none_listed test at (x ∷ pool) changes e = by_test (test x) e (none_listed test (suc at) pool changes)
  where
    by_test : (b : Bool) → places_of changes ≡ cond b (at ∷ places_from test (suc at) pool) (places_from test (suc at) pool)
        → (places_of changes ≡ places_from test (suc at) pool → is_nothing changes ≡ not (list_any test pool)) → is_nothing changes ≡ not (b || list_any test pool)
    by_test true e rest = some_listed changes e
      where
        some_listed : (changes : List Replacement) → places_of changes ≡ at ∷ places_from test (suc at) pool → is_nothing changes ≡ false
        some_listed [] e = cc
        some_listed (c ∷ changes) e = refl
    by_test false e rest = rest e

pub looked_up : (change : Change) (w : RewritesState) (s : HeldSheet) → IsPrepared change w s → (s.pool.is_whole && changes_nothing w) ≡ looks_up_after change s
looked_up change w s h = ap (λ b. s.pool.is_whole && b) (none_listed (is_changed_by change (Some s.id)) 0 s.pool.formulas w.changes h.listed)

-- a sheet whose pool was rewritten
pub filled : (w : RewritesState) (s there : HeldSheet) (pool : PoolState) → s ≡ there → pool.formulas ≡ rewritten_by w there.pool.formulas → pool.is_whole ≡ (there.pool.is_whole && changes_nothing w)
    → record there { pool = pool } ≡ with_rewrites w s
filled w s there pool same made whole =
    ap₂ (λ (formulas : List Formula) (is_whole : Bool). let one : HeldSheet = record there { pool = record { formulas = formulas; is_whole = is_whole } } in one) made whole ∙ ap (with_rewrites w) (sym same)

-- ---- done after a sheet got another name

module _ (name : List ℕ) where
  abbrev pub called : HeldSheet → HeldSheet
  called s = record s { name = name }

  abbrev pub sheet_called : Sheet → Sheet
  sheet_called s = record s { name = name }

  pub sheets_called : (index : ℕ) (sheets : List HeldSheet) → sheets_of (updated_at called index sheets) ≡ updated_at sheet_called index (sheets_of sheets)
  sheets_called index [] = refl
  sheets_called zero (s ∷ sheets) = refl
  sheets_called (suc index) (s ∷ sheets) = ap (λ (rest : List Sheet). sheet_of s ∷ rest) (sheets_called index sheets)

-- ---- whole changes

pub sheet_there : (sheets : List HeldSheet) (index : ℕ) → index < length sheets → (s : HeldSheet) × (slice_get sheets index ≡ Some s)
sheet_there [] index lt = absurd (omega arith)
sheet_there (s ∷ sheets) zero lt = (s, refl)
sheet_there (s ∷ sheets) (suc index) lt = sheet_there sheets index (omega arith)

same_some : (s sheet : HeldSheet) → Some s ≡ Some sheet → s ≡ sheet
same_some s sheet e = cc

-- the sheet that was read at a place is the one there
pub read_there : (sheets : List HeldSheet) (index : ℕ) (s sheet : HeldSheet) → index < length sheets → s ≡ get_or sheets index s → slice_get sheets index ≡ Some sheet → s ≡ sheet
read_there sheets index s sheet lt read at = same_some s sheet (sym (slice_get_read sheets (length sheets) index s refl lt read) ∙ at)

pub read_back : {X : Type 0} (xs : List X) (at : ℕ) (x : X) → slice_get xs at ≡ Some x → x ≡ get_or xs at x
read_back [] at x e = cc
read_back (y ∷ xs) zero x e = cc
read_back (y ∷ xs) (suc at) x e = read_back xs at x e
