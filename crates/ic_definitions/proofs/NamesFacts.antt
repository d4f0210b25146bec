-- What is found among definitions, for those who use them.
use Rattle.std.proofs.Common.{◌≡◌, ℕ, zero, suc, List, [], ◌∷◌, map, Bool, true, false, cond, ◌||◌, Option, Some, None, option_map, is_some, position, slice_get, refl, sym, ap, ◌∙◌}
use Rattle.std.specs.List.{list_any}
use Rattle.ic_laws.specs.CoreBook.{Definition, spelling_of}
use Rattle.ic_laws.specs.declared.scene.Scene.{Scene}
use Rattle.ic_laws.specs.declared.scene.SheetName.{SheetName}
use Rattle.ic_definitions.proofs.FindingLemmas.{position_step}

-- ---- the scene of definitions finds what any scene of these definitions finds

module _ (sheets : List SheetName) (ds : List Definition) where
  abbrev pub scene_with : Scene
  scene_with = record { sheets = sheets; names = map spelling_of ds }

-- ---- names that are free, and places

module _ {X : Type 0} (p : X → Bool) where
  -- there is an index exactly where some item passes
  pub position_any : (xs : List X) → is_some (position p xs) ≡ list_any p xs
  position_any [] = refl
  position_any (x ∷ xs) = ap is_some (position_step p x xs) ∙ step (p x) (position p xs) (position_any xs)
    where
      step : (b : Bool) (index : Option ℕ) → is_some index ≡ list_any p xs → is_some (cond b (Some 0) (option_map suc index)) ≡ (b || list_any p xs)
      step true index e = refl
      step false None e = e
      step false (Some n) e = e

  pub position_none : (xs : List X) → position p xs ≡ None → list_any p xs ≡ false
  position_none xs e = sym (position_any xs) ∙ ap is_some e

  pub some_position : (xs : List X) (index : ℕ) → position p xs ≡ Some index → list_any p xs ≡ true
  some_position xs index e = sym (position_any xs) ∙ ap is_some e

  -- the item at the index, which passes
  pub item_at_position : (xs : List X) (index : ℕ) → position p xs ≡ Some index → (x : X) × (slice_get xs index ≡ Some x) × (p x ≡ true)
  item_at_position [] index e = cc
  item_at_position (x ∷ xs) index e = step (p x) refl (position p xs) (sym (position_step p x xs) ∙ e) (λ n f. item_at_position xs n f)
    where
      step : (b : Bool) → p x ≡ b → (o : Option ℕ) → cond b (Some 0) (option_map suc o) ≡ Some index → ((n : ℕ) → o ≡ Some n → (y : X) × (slice_get xs n ≡ Some y) × (p y ≡ true)) → (y : X) × (slice_get (x ∷ xs) index ≡ Some y) × (p y ≡ true)
      step true t o e rest = let first : zero ≡ index = cc in (x, ap (slice_get (x ∷ xs)) (sym first), t)
      step false f None e rest = cc
      step false f (Some n) e rest =
          let later : suc n ≡ index = cc in
          let found = rest n refl in
          (found.0, ap (slice_get (x ∷ xs)) (sym later) ∙ found.1, found.2)
