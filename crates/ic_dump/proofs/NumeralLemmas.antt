-- Numerals as names of sheets: no two agree, and each is a good name.
use Rattle.std.proofs.Common.{◌≡◌, ℕ, zero, suc, ◌+◌, ◌<◌, ◌≤◌, ◌^◌, [], map, length, true, false, refl, arith, inl, inr}
use Rattle.std.proofs.lemmas.Bool.{cases_Bool}
use Rattle.std.proofs.lemmas.Bool.Decides.{nat_tests}
use Rattle.std.proofs.lemmas.Fmt.{decimal_nonempty, length-decimal-le}
use Rattle.std.proofs.lemmas.Map.Keys.{IsDistinct-cons}
use Rattle.std.specs.Fmt.{decimal}
use Rattle.std.specs.List.{AllByRecursion, IsDistinct, list_any, range_with_len}
use Rattle.std.specs.Prelude.{nat_le, nat_lt}
use Rattle.ic_laws.specs.Name.{agrees, is_forbidden, is_sheet_name}
use Rattle.ic_machine.proofs.bound.NewNames.{digits_good, numbers_apart}

unlike : (a n : ℕ) → a < n → n < 2 ^ 64 → agrees (decimal a) (decimal n) ≡ false
unlike a n less fits = elim (cases_Bool (agrees (decimal a) (decimal n))) [
  | inl t ↦ absurd (let same = numbers_apart [] a n (omega (arith, less, fits)) fits t in omega (arith, same, less))
  | inr f ↦ f
]

others : (x a k : ℕ) → x < a → a + k ≤ 2 ^ 64 → AllByRecursion (λ y. agrees (decimal x) y ≡ false) (map decimal (range_with_len a k))
others x a zero less fits = tt
others x a (suc k) less fits = (unlike x a less (omega (arith, fits)), others x (a + 1) k (omega (arith, less)) (omega (arith, fits)))

pub decimals_differ : (a k : ℕ) → a + k ≤ 2 ^ 64 → IsDistinct agrees (map decimal (range_with_len a k))
unfolding IsDistinct
decimals_differ a zero fits = tt
decimals_differ a (suc k) fits = IsDistinct-cons agrees (decimal a) (map decimal (range_with_len (a + 1) k)) (others a (a + 1) k (omega (arith)) (omega (arith, fits))) (decimals_differ (a + 1) k (omega (arith, fits)))

decimal_good : (n : ℕ) → n < 2 ^ 64 → is_sheet_name (decimal n) ≡ true
decimal_good n fits =
    let most : length (decimal n) ≤ 20 = length-decimal-le 20 n (omega (arith)) (omega (arith, fits)) fits in
    let some : 0 < length (decimal n) = decimal_nonempty n fits in
    let one : nat_lt 0 (length (decimal n)) ≡ true = grind (arith, nat_tests) in
    let two : nat_le (length (decimal n)) 31 ≡ true = grind (arith, nat_tests) in
    let three : list_any is_forbidden (decimal n) ≡ false = digits_good n fits in
    rw (one, two, three) refl

pub decimals_good : (a k : ℕ) → a + k ≤ 2 ^ 64 → AllByRecursion (λ name. is_sheet_name name ≡ true) (map decimal (range_with_len a k))
decimals_good a zero fits = tt
decimals_good a (suc k) fits = (decimal_good a (omega (arith, fits)), decimals_good (a + 1) k (omega (arith, fits)))
