-- The order of the look-up's keys: by a hash of their bytes first, so that two keys mostly differ in one number. The hash
-- tells nothing that anybody may rely on; equal bytes have equal hashes.
use Rattle.std.specs.Prelude.{◌+◌, ◌*◌, ◌/◌, ◌%◌, ◌^◌, ℕ, List, [], ◌∷◌}
use Rattle.std.specs.Cmp.Lexicographic.{slice_cmp}
use Rattle.std.specs.Int.{from_le_bytes, w64}
use Rattle.std.specs.Ordering.{nat_cmp, on, then_cmp}
use Rattle.std.specs.declared.cmp.Ordering.{Ordering}

-- a product of two numbers below 2^64, its upper half added to its lower one
abbrev pub folded : ℕ → ℕ
folded product = (product / 2 ^ 64 + product % 2 ^ 64) % 2 ^ 64

-- a number below 2^64 with another mixed in
unfoldable pub mixed : ℕ → ℕ → ℕ
mixed number word = folded ((number + word) % 2 ^ 64 * 11400714819323198485)

-- with bytes mixed in, one after another
abbrev pub mixed_bytes : ℕ → List ℕ → ℕ
mixed_bytes number [] = number
mixed_bytes number (byte ∷ bytes) = mixed_bytes (mixed number byte) bytes

-- with each eight bytes mixed in as one number, lowest first, and then the bytes that are left
abbrev pub mixed_words : ℕ → List ℕ → ℕ
mixed_words number (a ∷ b ∷ c ∷ d ∷ e ∷ f ∷ g ∷ h ∷ bytes) = mixed_words (mixed number (from_le_bytes w64 (a ∷ b ∷ c ∷ d ∷ e ∷ f ∷ g ∷ h ∷ []))) bytes
mixed_words number bytes = mixed_bytes number bytes

-- the hash of a key, below 2^32
unfoldable pub hash_of : List ℕ → ℕ
hash_of bytes = mixed_words 0 bytes % 2 ^ 32

-- by their hashes, and where those are equal by their bytes
abbrev pub key_cmp : List ℕ → List ℕ → Ordering
key_cmp = then_cmp (on hash_of nat_cmp) (slice_cmp nat_cmp)
