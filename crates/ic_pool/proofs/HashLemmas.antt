-- The hash of a key, eight bytes at a time, and the order that begins with it.
use Rattle.std.proofs.Common.{◌≡◌, ◌≤◌, ℕ, List, [], ◌∷◌, Bool, true, false, refl, sym, ap, length, take, drop, bytes_eq, arith}
use Rattle.std.proofs.lemmas.Map.Text.{is_eq-slice_cmp}
use Rattle.std.proofs.lemmas.Slice.Eq.{bytes_eq-Decides}
use Rattle.std.specs.Cmp.{nat_cmp_is}
use Rattle.std.specs.Cmp.Lexicographic.{slice_cmp}
use Rattle.std.specs.Int.{from_le_bytes, w64}
use Rattle.std.specs.Ordering.{is_eq, nat_cmp, ordering_then}
use Rattle.std.specs.declared.cmp.Ordering.{Ordering}
use Rattle.std.specs.declared.cmp.Ordering.TheVariants.{Less, Equal, Greater}
use Rattle.ic_pool.specs.Hash.{hash_of, key_cmp, mixed, mixed_words}

-- with eight bytes or more the first eight are mixed in as one number
pub word_mixed : (number : ℕ) (bytes : List ℕ) → 8 ≤ length bytes → mixed_words number bytes ≡ mixed_words (mixed number (from_le_bytes w64 (take 8 bytes))) (drop 8 bytes)
word_mixed number (a ∷ b ∷ c ∷ d ∷ e ∷ f ∷ g ∷ h ∷ bytes) l = refl
word_mixed number (a ∷ b ∷ c ∷ d ∷ e ∷ f ∷ g ∷ []) l = absurd (omega (arith, l))
word_mixed number (a ∷ b ∷ c ∷ d ∷ e ∷ f ∷ []) l = absurd (omega (arith, l))
word_mixed number (a ∷ b ∷ c ∷ d ∷ e ∷ []) l = absurd (omega (arith, l))
word_mixed number (a ∷ b ∷ c ∷ d ∷ []) l = absurd (omega (arith, l))
word_mixed number (a ∷ b ∷ c ∷ []) l = absurd (omega (arith, l))
word_mixed number (a ∷ b ∷ []) l = absurd (omega (arith, l))
word_mixed number (a ∷ []) l = absurd (omega (arith, l))
word_mixed number [] l = absurd (omega (arith, l))

-- ---- the order

-- an order that begins with another, which finds equal bytes equal, finds no others equal
then_by_bytes : (a b : List ℕ) (first : Ordering) → (bytes_eq a b ≡ true → first ≡ Equal) → is_eq (ordering_then first (slice_cmp nat_cmp a b)) ≡ bytes_eq a b
then_by_bytes a b Equal h = is_eq-slice_cmp a b
then_by_bytes a b Less h = unequal (bytes_eq a b) h
  where
    unequal : (same : Bool) → (same ≡ true → Less ≡ Equal) → false ≡ same
    unequal true h = ap is_eq (h refl)
    unequal false h = refl
then_by_bytes a b Greater h = unequal (bytes_eq a b) h
  where
    unequal : (same : Bool) → (same ≡ true → Greater ≡ Equal) → false ≡ same
    unequal true h = ap is_eq (h refl)
    unequal false h = refl

-- keys are equal where their bytes are
pub is_eq-key_cmp : (a b : List ℕ) → is_eq (key_cmp a b) ≡ bytes_eq a b
is_eq-key_cmp a b = then_by_bytes a b (nat_cmp (hash_of a) (hash_of b)) (λ e. sym (nat_cmp_is (hash_of a) (hash_of b) Equal (ap hash_of ((bytes_eq-Decides a b).0 e))))
