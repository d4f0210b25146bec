-- Words in the order of their foldings, by which a word is found without going through all of them.
use Rattle.std.specs.Prelude.{◌≡◌, ℕ, ◌+◌, ◌<◌, length, slice_index_or, List, [], ◌∷◌, ◌++◌, Bool, true, false, not, ◌&&◌, Option, Some, None, bytes_eq, if◌then◌else◌}
use Rattle.std.specs.Cmp.Lexicographic.{slice_cmp}
use Rattle.std.specs.List.{list_all}
use Rattle.std.specs.Ordering.{nat_cmp, is_eq, is_lt}
use Rattle.std.specs.declared.cmp.Ordering.{Ordering}
use Rattle.ic_laws.specs.Name.{agrees, fold}
use Rattle.ic_laws.specs.declared.dialect.WordKind.TheVariants as kinds
use Rattle.ic_tables.specs.Words.{first_agreeing, words_of}
use Rattle.ic_tables.specs.declared.language.Language.{Language}
use Rattle.ic_tables.specs.declared.order.WordEntry.{WordEntry}
use Rattle.ic_tables.specs.declared.order.WordOrder.{WordOrder}

-- the number of the first of these words that agrees with a text, where the first word has this number
abbrev pub agreeing_from : ℕ → List (List ℕ) → List ℕ → Option ℕ
agreeing_from n [] text = None
agreeing_from n (w ∷ ws) text = if agrees w text then Some n else agreeing_from (n + 1) ws text

-- two texts compare in this way whatever follows the first
pub record ComparesBy (front folded : List ℕ) (order : Ordering) : Type 0 where
  pub compared : (rest : List ℕ) → slice_cmp nat_cmp (front ++ rest) folded ≡ order
  pub apart : is_eq order ≡ false

-- a folding stands before another in the order of their characters
abbrev pub comes_before : List ℕ → List ℕ → Bool
comes_before a b = is_lt (slice_cmp nat_cmp a b)

-- the entries stand in the order of their foldings
abbrev pub is_sorted : List WordEntry → Bool
is_sorted [] = true
is_sorted (e ∷ es) = list_all (λ f. not (comes_before f.folded e.folded)) es && is_sorted es

-- the number of the first entry with a folding
abbrev pub number_at : List WordEntry → List ℕ → Option ℕ
number_at [] key = None
number_at (e ∷ es) key = if bytes_eq e.folded key then Some e.number else number_at es key

-- these entries are those of the words from this number on: they are sorted, and tell of each text the first word that
-- agrees with it
pub record IsOrderFrom (n : ℕ) (words : List (List ℕ)) (entries : List WordEntry) : Type 0 where
  pub sorted : is_sorted entries ≡ true
  pub numbers : (text : List ℕ) → number_at entries (fold text) ≡ agreeing_from n words text

-- these entries are those of these words
pub record IsOrderOf (words : List (List ℕ)) (entries : List WordEntry) : Type 0 where
  pub sorted : is_sorted entries ≡ true
  pub numbers : (text : List ℕ) → number_at entries (fold text) ≡ first_agreeing words text

-- an entry stands in front of those with its folding
pub record IsPutFirst (folded : List ℕ) (number : ℕ) (old entries : List WordEntry) : Type 0 where
  pub sorted : is_sorted entries ≡ true
  pub numbers : (key : List ℕ) → number_at entries key ≡ (if bytes_eq folded key then Some number else number_at old key)

-- the order is that of the words of this language
pub record OrdersWords (l : Language) (o : WordOrder) : Type 0 where
  pub booleans : IsOrderOf (words_of l kinds.Boolean) o.booleans
  pub errors : IsOrderOf (words_of l kinds.Error) o.errors
  pub functions : IsOrderOf (words_of l kinds.Function) o.functions

-- a text begins with what folds to this, and the rest stands after it
pub record FoldsFront (folded text rest : List ℕ) : Type 0 where
  pub front : List ℕ
  pub split : text ≡ front ++ rest
  pub folds : fold front ≡ folded

-- no front of a text folds to this
abbrev pub FoldsNoFront : List ℕ → List ℕ → Type 0
FoldsNoFront folded text = (front rest : List ℕ) → text ≡ front ++ rest → bytes_eq (fold front) folded ≡ false

-- a text begins with what is found as this number, and the rest stands after it
pub record BeginsWithFound (find : List ℕ → Option ℕ) (text rest : List ℕ) (n : ℕ) : Type 0 where
  pub front : List ℕ
  pub split : text ≡ front ++ rest
  pub found : find front ≡ Some n

-- no front of a text is found
abbrev pub BeginsWithNone : (List ℕ → Option ℕ) → List ℕ → Type 0
BeginsWithNone find text = (front rest : List ℕ) → text ≡ front ++ rest → find front ≡ None

-- the first so many languages have an order each, in the same order
pub record AreOrderedTo (n : ℕ) (languages : List Language) (orders : List WordOrder) : Type 0 where
  pub many : length orders ≡ n
  pub each : (k : ℕ) (l : Language) (o : WordOrder) → k < n → l ≡ slice_index_or languages k l → o ≡ slice_index_or orders k o → OrdersWords l o

-- each language has its order
abbrev pub AreOrdered : List Language → List WordOrder → Type 0
AreOrdered languages orders = AreOrderedTo (length languages) languages orders
