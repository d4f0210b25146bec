-- Whether some formula of the sheets passes a test is seen in the sheets that may mention what the test is about.
use Rattle.std.proofs.Common.{◌≡◌, ℕ, List, [], ◌∷◌, ◌++◌, Bool, true, false, ◌||◌, Some, append_assoc, ap, cond, refl, subst, sym, ◌∙◌}
use Rattle.std.specs.Prelude.{find, nat_eq}
use Rattle.std.specs.List.{AllByRecursion, IsDistinct, list_any}
use Rattle.std.specs.Option.{option_map_or}
use Rattle.std.proofs.lemmas.Bool.{eqb-true}
use Rattle.ic_pool.specs.Tested.{PassesAbout, Test}
use Rattle.ic_sheets.proofs.MakesLemmas.{found_here, untouched_stay}
use Rattle.ic_sheets.proofs.PlaceLemmas.{alone}
use Rattle.ic_sheets.proofs.SearchLemmas.{ids}
use Rattle.ic_sheets.specs.Index.{is_listed}
use Rattle.ic_sheets.specs.Mentioners.{AreAbout}
use Rattle.ic_sheets.specs.Tested.{passes_in, passes_with}
use Rattle.ic_sheets.specs.declared.sheet.Sheet.{Sheet}

module _ (test : Test) where
  -- where the sheet with an id passes, some does
  one_passes : (id : ℕ) (sheets : List Sheet) → passes_with test sheets id ≡ true → list_any (passes_in test) sheets ≡ true
  one_passes id [] e = cc
  one_passes id (s ∷ sheets) e = step (nat_eq s.id id) (passes_in test s) refl e (one_passes id sheets)
    where
      step : (b p : Bool) → passes_in test s ≡ p → option_map_or (passes_in test) (cond b (Some s) (find (λ x. nat_eq x.id id) sheets)) false ≡ true → (passes_with test sheets id ≡ true → list_any (passes_in test) sheets ≡ true) → (p || list_any (passes_in test) sheets) ≡ true
      step b true is e more = refl
      step true false is e more = absurd (let no : false ≡ true = sym is ∙ e in cc)
      step false false is e more = more e

  seen : (now : List ℕ) (sheets : List Sheet) → list_any (passes_with test sheets) now ≡ true → list_any (passes_in test) sheets ≡ true
  seen [] sheets e = cc
  seen (id ∷ now) sheets e = step (passes_with test sheets id) refl e (seen now sheets)
    where
      step : (b : Bool) → passes_with test sheets id ≡ b → (b || list_any (passes_with test sheets) now) ≡ true → (list_any (passes_with test sheets) now ≡ true → list_any (passes_in test) sheets ≡ true) → list_any (passes_in test) sheets ≡ true
      step true is e more = one_passes id sheets is
      step false is e more = more e

  unseen : (now : List ℕ) (sheets : List Sheet) (id : ℕ) → list_any (passes_with test sheets) now ≡ false → is_listed id now ≡ true → passes_with test sheets id ≡ false
  unseen [] sheets id none among = cc
  unseen (k ∷ now) sheets id none among = step (nat_eq id k) refl among (passes_with test sheets k) refl none (unseen now sheets id)
    where
      step : (b : Bool) → nat_eq id k ≡ b → (b || is_listed id now) ≡ true → (p : Bool) → passes_with test sheets k ≡ p → (p || list_any (passes_with test sheets) now) ≡ false
          → (list_any (passes_with test sheets) now ≡ false → is_listed id now ≡ true → passes_with test sheets id ≡ false) → passes_with test sheets id ≡ false
      step b same among true passes none more = cc
      step true same among false passes none more = ap (passes_with test sheets) (eqb-true id k same) ∙ passes
      step false same among false passes none more = more none among

-- of all sheets, where in those without these ids none does
module _ (test : Test) (topics now : List ℕ) (sheets : List Sheet) (about : PassesAbout test topics) (are : AreAbout topics now sheets) (differ : IsDistinct nat_eq (ids sheets)) where
  none_from : (front back : List Sheet) → sheets ≡ front ++ back → list_any (passes_with test sheets) now ≡ false → AllByRecursion (λ s. is_listed s.id now ≡ false → passes_in test s ≡ false) back → list_any (passes_in test) back ≡ false
  none_from front [] e none others = refl
  none_from front (s ∷ back) e none others = ap (λ b. b || list_any (passes_in test) back) (step (is_listed s.id now) refl) ∙ none_from (front ++ s ∷ []) back (e ∙ sym (append_assoc front (s ∷ []) back)) none others.1
    where
      found : find (λ x. nat_eq x.id s.id) sheets ≡ Some s
      found = ap (find (λ x. nat_eq x.id s.id)) e ∙ found_here front back s (alone front back s (subst (λ xs. IsDistinct nat_eq (ids xs)) e differ))

      step : (b : Bool) → is_listed s.id now ≡ b → passes_in test s ≡ false
      step true is = sym (ap (λ o. option_map_or (passes_in test) o false) found) ∙ unseen test now sheets s.id none is
      step false is = others.0 is

  pub passes_about : list_any (passes_with test sheets) now ≡ list_any (passes_in test) sheets
  passes_about = step (list_any (passes_with test sheets) now) refl
    where
      step : (b : Bool) → list_any (passes_with test sheets) now ≡ b → b ≡ list_any (passes_in test) sheets
      step true e = sym (seen test now sheets e)
      step false e = sym (none_from [] sheets refl e (untouched_stay (record { touches = test; becomes = λ scope f. f }) topics now sheets about are))
