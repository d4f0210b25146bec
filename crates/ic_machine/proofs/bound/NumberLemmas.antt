-- The number in the name of a new sheet.
use Rattle.std.proofs.Common.{◌≡◌, ℕ, zero, suc, ◌+◌, ◌<◌, ◌≤◌, List, length, Bool, true, false, cond, Option, Some, refl, ap, ◌∙◌, arith, inl, inr}
use Rattle.std.proofs.lemmas.Bool.{cases_Bool, cases_order}
use Rattle.std.specs.List.{find, range_with_len}
use Rattle.std.specs.Prelude.{not, unwrap_or}
use Rattle.ic_laws.specs.CoreBook.{has_sheet}
use Rattle.ic_machine.specs.Book.{Book, core_of}
use Rattle.ic_machine.specs.subjects.Sheets.{free_number}

-- the first of two that is asked for
either : (c : Bool) (x y : Option ℕ) (d m : ℕ) → unwrap_or x d < m → unwrap_or y d < m → unwrap_or (cond c x y) d < m
either true x y d m h g = h
either false x y d m h g = g

-- a number found among so many from one on, or one that isn't greater
found_below : (p : ℕ → Bool) (a k d : ℕ) → d < a + k → unwrap_or (find p (range_with_len a k)) d < a + k
found_below p a zero d h = h
found_below p a (suc k) d h =
    let here : a < a + suc k = omega (arith) in
    let later : unwrap_or (find p (range_with_len (a + 1) k)) d < (a + 1) + k = found_below p (a + 1) k d (omega (arith, h)) in
    either (p a) (Some a) (find p (range_with_len (a + 1) k)) d (a + suc k) here (omega (arith, later))

pub small : (b : Book) (name : ℕ → List ℕ) → free_number b name ≤ length b.sheets + 1
small b name =
    let found : unwrap_or (find (λ n. not (has_sheet (core_of b) (name n))) (range_with_len 1 (suc (length b.sheets)))) (suc (length b.sheets)) < 1 + suc (length b.sheets) =
    found_below (λ n. not (has_sheet (core_of b) (name n))) 1 (suc (length b.sheets)) (suc (length b.sheets)) (omega (arith)) in
    omega (arith, found)

-- The first that passes is the least that does. ----

-- none before it passes
before_first : (p : ℕ → Bool) (a k d m : ℕ) → d < a + k → a ≤ m → m < unwrap_or (find p (range_with_len a k)) d → p m ≡ false
before_first p a zero d m fits from less = absurd (omega (arith, fits, from, less))
before_first p a (suc k) d m fits from less = elim (cases_Bool (p a)) [
  | inl t ↦ absurd (let here : m < a = rw t at less in omega (arith, here, from))
  | inr f ↦ elim (cases_order m a) [
    | inl same ↦ ap p same ∙ f
    | inr (inl before) ↦ absurd (omega (arith, before, from))
    | inr (inr behind) ↦ before_first p (a + 1) k d m (omega (arith, fits)) (omega (arith, behind)) (rw f at less)
  ]
]

-- and it isn't smaller than a number that none of them is smaller than
from_least : (p : ℕ → Bool) (least a k d : ℕ) → least ≤ a → least ≤ d → least ≤ unwrap_or (find p (range_with_len a k)) d
from_least p least a zero d le more = more
from_least p least a (suc k) d le more = elim (cases_Bool (p a)) [
  | inl t ↦ rw t le
  | inr f ↦ rw f (from_least p least (a + 1) k d (omega (arith, le)) more)
]

pub from_one : (b : Book) (name : ℕ → List ℕ) → 1 ≤ free_number b name
from_one b name = from_least (λ n. not (has_sheet (core_of b) (name n))) 1 1 (suc (length b.sheets)) (suc (length b.sheets)) (omega (arith)) (omega (arith))

pub smaller_taken : (b : Book) (name : ℕ → List ℕ) (n : ℕ) → 1 ≤ n → n < free_number b name → has_sheet (core_of b) (name n) ≡ true
smaller_taken b name n from less = not_false (has_sheet (core_of b) (name n)) (before_first (λ m. not (has_sheet (core_of b) (name m))) 1 (suc (length b.sheets)) (suc (length b.sheets)) n (omega (arith)) from less)
  where
    not_false : (t : Bool) → not t ≡ false → t ≡ true
    not_false true e = refl
    not_false false e = cc
