-- What was prepared for sheets whose formulas a rule makes anew, and what it makes of them.
use Rattle.std.proofs.Common.{◌≡◌, ℕ, List, [], ◌∷◌, true, false, Option, Some, None, ◌&&◌, ap, ap₂, map, nat_eq, refl, subst, sym, ◌∙◌}
use Rattle.std.specs.List.{AllByRecursion, IsDistinct, list_any}
use Rattle.std.specs.Option.{unwrap_or}
use Rattle.std.proofs.lemmas.Simd.{map-map}
use Rattle.ic_laws.proofs.core.Lists.{none_passes}
use Rattle.ic_laws.specs.declared.tree.Formula.{Formula}
use Rattle.ic_pool.proofs.RemadeLemmas.{all_at, nothing_touched}
use Rattle.ic_pool.proofs.RewriteLemmas.{none_changed}
use Rattle.ic_pool.specs.Remade.{LeavesUntouched, Remade}
use Rattle.ic_pool.specs.Rewrites.{RewritesState}
use Rattle.ic_sheets.proofs.MakesLemmas.{IsOwn, Own, all_own, own_ids}
use Rattle.ic_sheets.proofs.PartLemmas.{part_distinct, part_known}
use Rattle.ic_sheets.proofs.RewritingLemmas.{and_true}
use Rattle.ic_sheets.proofs.SearchLemmas.{ids}
use Rattle.ic_sheets.specs.Index.{is_id, is_listed, is_part}
use Rattle.ic_sheets.specs.Remade.{AreRemade, IsRemade, looks_up_remade, nothing, remade_pool, rewrites_of}
use Rattle.ic_sheets.specs.Rewriting.{FitOwn, FitsSheet, PreparesEach, look_ups, own_rewrites, rewritten_if, sheets_of, with_own_rewrites, with_rewrites}
use Rattle.ic_sheets.specs.Sheet.{Sheet, sheet_of}
use Rattle.ic_sheets.specs.declared.sheet.Sheet.{Sheet as HeldSheet}

-- ---- prepared for some sheets

-- a rule touches no formula of a sheet, and leaves those that it doesn't touch
abbrev Stays : Remade → HeldSheet → Type 0
Stays rule s = (list_any (rule.touches (Some s.id)) s.pool.formulas ≡ false) × AllByRecursion (LeavesUntouched rule (Some s.id)) s.pool.formulas

nothing_remade : (rule : Remade) (s : HeldSheet) → Stays rule s → IsRemade rule nothing s
nothing_remade rule s stays =
    let none =
    none_changed (rule.becomes (Some s.id)) (rule.touches (Some s.id)) s.pool.formulas (λ k x e. all_at (LeavesUntouched rule (Some s.id)) s.pool.formulas k x stays.1 e)
    nothing refl refl refl (λ k x e. all_at (λ (f : Formula). rule.touches (Some s.id) f ≡ false) s.pool.formulas k x (none_passes (rule.touches (Some s.id)) s.pool.formulas stays.0) e) in
    record { made = none.made; listed = none.changes; fits = none.fits }

pub each_remade : (rule : Remade) (now : List ℕ) (ps : Own) (sheets : List HeldSheet) → PreparesEach (IsRemade rule) ps now sheets → is_part now (ids sheets) ≡ true → IsDistinct nat_eq (ids sheets)
    → AllByRecursion (λ s. is_listed s.id now ≡ false → list_any (rule.touches (Some s.id)) s.pool.formulas ≡ false) sheets → AllByRecursion (λ s. AllByRecursion (LeavesUntouched rule (Some s.id)) s.pool.formulas) sheets → AreRemade rule ps sheets
each_remade rule now ps sheets each ordered differ stay leaves = record {
  each = go sheets (all_own (IsRemade rule) (Stays rule) now ps sheets each differ (both sheets stay leaves));
  ordered = ap (λ ns. is_part ns (ids sheets)) each.each ∙ ordered;
  apart = differ;
}
  where
    both : (xs : List HeldSheet) → AllByRecursion (λ s. is_listed s.id now ≡ false → list_any (rule.touches (Some s.id)) s.pool.formulas ≡ false) xs → AllByRecursion (λ s. AllByRecursion (LeavesUntouched rule (Some s.id)) s.pool.formulas) xs
        → AllByRecursion (λ s. is_listed s.id now ≡ false → Stays rule s) xs
    both [] a b = tt
    both (s ∷ xs) a b = (λ none. (a.0 none, b.0), both xs a.1 b.1)

    go : (xs : List HeldSheet) → AllByRecursion (λ s. IsOwn (IsRemade rule) (Stays rule) (own_rewrites s.id ps) s) xs → AllByRecursion (λ s. IsRemade rule (rewrites_of ps s.id) s) xs
    go [] h = tt
    go (s ∷ xs) h = (step (own_rewrites s.id ps) refl h.0, go xs h.1)
      where
        step : (o : Option RewritesState) → own_rewrites s.id ps ≡ o → IsOwn (IsRemade rule) (Stays rule) o s → IsRemade rule (rewrites_of ps s.id) s
        step None is i = subst (λ (w : RewritesState). IsRemade rule w s) (sym (ap (λ (o : Option RewritesState). unwrap_or o nothing) is)) (nothing_remade rule s i)
        step (Some w) is i = subst (λ (w : RewritesState). IsRemade rule w s) (sym (ap (λ (o : Option RewritesState). unwrap_or o nothing) is)) i

-- ---- what it makes of all sheets

module _ (rule : Remade) (ps : Own) (sheets : List HeldSheet) (prepared : AreRemade rule ps sheets) where
  pub remade_fits : FitOwn ps sheets
  remade_fits = record {
    known = known ps (part_known (own_ids ps) (ids sheets) prepared.ordered);
    differ = part_distinct (own_ids ps) (ids sheets) prepared.ordered prepared.apart;
    fits = go sheets prepared.each;
  }
    where
      known : (qs : Own) → AllByRecursion (λ q. list_any (nat_eq q) (ids sheets) ≡ true) (own_ids qs) → AllByRecursion (λ p. is_id p.0 sheets ≡ true) qs
      known [] h = tt
      known (q ∷ qs) h = (h.0, known qs h.1)

      go : (xs : List HeldSheet) → AllByRecursion (λ s. IsRemade rule (rewrites_of ps s.id) s) xs → AllByRecursion (λ s. FitsSheet (own_rewrites s.id ps) s) xs
      go [] h = tt
      go (s ∷ xs) h = (step (own_rewrites s.id ps) refl, go xs h.1)
        where
          step : (o : Option RewritesState) → own_rewrites s.id ps ≡ o → FitsSheet o s
          step None is = tt
          step (Some w) is = (subst (λ (v : RewritesState). IsRemade rule v s) (ap (λ (o : Option RewritesState). unwrap_or o nothing) is) h.0).fits

  -- what a function sees of the sheets afterwards
  seen : {Y : Type 0} (see becomes : HeldSheet → Y) → ((s : HeldSheet) → IsRemade rule nothing s → see s ≡ becomes s) → ((w : RewritesState) (s : HeldSheet) → IsRemade rule w s → see (with_rewrites w s) ≡ becomes s)
      → (xs : List HeldSheet) → AllByRecursion (λ s. IsRemade rule (rewrites_of ps s.id) s) xs → map see (with_own_rewrites ps xs) ≡ map becomes xs
  seen see becomes none some [] h = refl
  seen see becomes none some (s ∷ xs) h = ap₂ ◌∷◌ (step (own_rewrites s.id ps) h.0) (seen see becomes none some xs h.1)
    where
      step : (o : Option RewritesState) → IsRemade rule (unwrap_or o nothing) s → see (rewritten_if o s) ≡ becomes s
      step None i = none s i
      step (Some w) i = some w s i

  pub remade_made : sheets_of (with_own_rewrites ps sheets) ≡ map (remade_pool rule) (sheets_of sheets)
  remade_made =
      seen sheet_of (λ s. remade_pool rule (sheet_of s)) (λ s i. ap (λ (pool : List Formula). let one : Sheet = record (sheet_of s) { pool = pool } in one) i.made)
      (λ w s i. ap (λ (pool : List Formula). let one : Sheet = record (sheet_of s) { pool = pool } in one) i.made) sheets prepared.each
      ∙ sym (map-map (remade_pool rule) sheet_of sheets)

  pub remade_looks_up : look_ups (with_own_rewrites ps sheets) ≡ map (looks_up_remade rule) sheets
  remade_looks_up =
      seen (λ (s : HeldSheet). s.pool.is_whole) (looks_up_remade rule) (λ s i. and_true s.pool.is_whole ∙ ap (λ b. s.pool.is_whole && b) (nothing_touched rule (Some s.id) s.pool.formulas nothing i.listed))
      (λ w s i. ap (λ b. s.pool.is_whole && b) (nothing_touched rule (Some s.id) s.pool.formulas w i.listed)) sheets prepared.each
