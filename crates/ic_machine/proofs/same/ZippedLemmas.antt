-- Two lists whose items are the same one by one, in which items are changed, put in, taken out and moved.
use Rattle.std.proofs.Common.{ℕ, zero, suc, List, [], ◌∷◌, Option, Some, None}
use Rattle.std.specs.List.{AllZip, insert, remove, slice_get}
use Rattle.ic_laws.specs.CoreStep.{moved, put_back, updated_at}

module _ {X : Type 0} (R : X → X → Type 0) where
  -- both items that were found are the same, or none was
  abbrev pub BothFound : Option X → Option X → Type 0
  BothFound None None = Unit {0}
  BothFound None (Some y) = ⊥
  BothFound (Some x) None = ⊥
  BothFound (Some x) (Some y) = R x y

  pub zipped_found : (xs ys : List X) → AllZip R xs ys → (i : ℕ) → BothFound (slice_get xs i) (slice_get ys i)
  zipped_found [] [] h i = tt
  zipped_found [] (y ∷ ys) h i = absurd h
  zipped_found (x ∷ xs) [] h i = absurd h
  zipped_found (x ∷ xs) (y ∷ ys) h zero = h.0
  zipped_found (x ∷ xs) (y ∷ ys) h (suc i) = zipped_found xs ys h.1 i

  pub zipped_updated : (f g : X → X) → ((x y : X) → R x y → R (f x) (g y)) → (i : ℕ) (xs ys : List X) → AllZip R xs ys → AllZip R (updated_at f i xs) (updated_at g i ys)
  zipped_updated f g k i [] [] h = tt
  zipped_updated f g k i [] (y ∷ ys) h = absurd h
  zipped_updated f g k i (x ∷ xs) [] h = absurd h
  zipped_updated f g k zero (x ∷ xs) (y ∷ ys) h = (k x y h.0, h.1)
  zipped_updated f g k (suc i) (x ∷ xs) (y ∷ ys) h = (h.0, zipped_updated f g k i xs ys h.1)

  pub zipped_inserted : (xs ys : List X) (at : ℕ) (x y : X) → AllZip R xs ys → R x y → AllZip R (insert xs at x) (insert ys at y)
  zipped_inserted [] [] zero a b h k = (k, tt)
  zipped_inserted [] [] (suc at) a b h k = (k, tt)
  zipped_inserted [] (y ∷ ys) at a b h k = absurd h
  zipped_inserted (x ∷ xs) [] at a b h k = absurd h
  zipped_inserted (x ∷ xs) (y ∷ ys) zero a b h k = (k, h)
  zipped_inserted (x ∷ xs) (y ∷ ys) (suc at) a b h k = (h.0, zipped_inserted xs ys at a b h.1 k)

  pub zipped_removed : (xs ys : List X) (i : ℕ) → AllZip R xs ys → AllZip R (remove xs i) (remove ys i)
  zipped_removed [] [] zero h = tt
  zipped_removed [] [] (suc i) h = tt
  zipped_removed [] (y ∷ ys) i h = absurd h
  zipped_removed (x ∷ xs) [] i h = absurd h
  zipped_removed (x ∷ xs) (y ∷ ys) zero h = h.1
  zipped_removed (x ∷ xs) (y ∷ ys) (suc i) h = (h.0, zipped_removed xs ys i h.1)

  put_back_zipped : (to : ℕ) (xs ys : List X) (o p : Option X) → AllZip R xs ys → BothFound o p → AllZip R (put_back to xs o) (put_back to ys p)
  put_back_zipped to xs ys None None h k = h
  put_back_zipped to xs ys None (Some y) h k = absurd k
  put_back_zipped to xs ys (Some x) None h k = absurd k
  put_back_zipped to xs ys (Some x) (Some y) h k = zipped_inserted xs ys to x y h k

  pub zipped_moved : (from to : ℕ) (xs ys : List X) → AllZip R xs ys → AllZip R (moved from to xs) (moved from to ys)
  zipped_moved from to xs ys h = put_back_zipped to (remove xs from) (remove ys from) (slice_get xs from) (slice_get ys from) (zipped_removed xs ys from h) (zipped_found xs ys h from)
