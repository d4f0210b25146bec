-- The fields of an amount are those of its units.
use Rattle.std.proofs.Common.{◌≡◌, ◌∙◌, ap, ap₂, sym, ℕ, pos, Bool, true, false, ◌<◌, ◌+◌, ◌*◌, ◌/◌, ◌%◌, nat_abs, int_lt, neg_ℤ, suc, zero, refl, arith}
use Rattle.std.proofs.Math.Nat.{mul-add-div_right, mul-add-mod_self_right, div-eq_of_lt, mod-eq_of_lt, add-zero}
use Rattle.ic_laws.specs.Amount.{signed_units, units_of_one}
use Rattle.ic_laws.specs.declared.amount.Amount.TheInside.{Inside}

abbrev made : ℕ → ℕ → Bool → Inside
made whole fraction is_below = record { whole = whole; fraction = fraction; is_below = is_below }

size_below : (n : ℕ) → nat_abs (neg_ℤ (pos n)) ≡ n
size_below zero = refl
size_below (suc n) = refl

size : (is_below : Bool) (whole fraction : ℕ) → nat_abs (signed_units is_below whole fraction) ≡ whole * units_of_one + fraction
size true whole fraction = size_below (whole * units_of_one + fraction)
size false whole fraction = refl

whole_again : (whole fraction : ℕ) → fraction < units_of_one → (whole * units_of_one + fraction) / units_of_one ≡ whole
whole_again whole fraction small =
    mul-add-div_right (omega arith) whole fraction ∙ ap (λ n. whole + n) (div-eq_of_lt small) ∙ add-zero whole

fraction_again : (whole fraction : ℕ) → fraction < units_of_one → (whole * units_of_one + fraction) % units_of_one ≡ fraction
fraction_again whole fraction small = mul-add-mod_self_right whole units_of_one fraction ∙ mod-eq_of_lt small

pub fields_again : (is_below : Bool) (whole fraction : ℕ) → fraction < units_of_one → is_below ≡ int_lt (signed_units is_below whole fraction) (pos 0)
    → made (nat_abs (signed_units is_below whole fraction) / units_of_one) (nat_abs (signed_units is_below whole fraction) % units_of_one) (int_lt (signed_units is_below whole fraction) (pos 0)) ≡ made whole fraction is_below
fields_again is_below whole fraction small below =
    ap₂ (λ w f. made w f (int_lt (signed_units is_below whole fraction) (pos 0)))
    (ap (λ n. n / units_of_one) (size is_below whole fraction) ∙ whole_again whole fraction small)
    (ap (λ n. n % units_of_one) (size is_below whole fraction) ∙ fraction_again whole fraction small)
    ∙ ap (λ b. made whole fraction b) (sym below)
