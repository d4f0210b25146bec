-- The parts of the R1C1 form.
use Rattle.std.proofs.Common.{◌≡◌, ◌≤◌, ℕ, ℤ, pos, ◌+ℤ◌, ◌-ℤ◌, List, [], ◌∷◌, true, false, Ok, Err, refl, sym, ◌∙◌, ap, arith, leb, cond, inl, inr}
use Rattle.std.specs.Int.{int_rem_euclid}
use Rattle.std.specs.Str.Parse.{digits_value}
use Rattle.std.proofs.lemmas.Bool.{le-leb, lt-leb, true≢false, cases_Bool, cond-true, cond-false}
use Rattle.ic_laws.specs.Scan.{is_digit, first_is, run_of, past_run}
use Rattle.ic_refs.specs.declared.error.ReferenceError.TheVariants as errors
use Rattle.ic_refs.specs.Digits.{decimal_from}
use Rattle.ic_refs.specs.R1C1.{number_at, wrapped}
use Rattle.ic_refs.proofs.DigitsDecimalLemmas.{number_reads, number_all, number_past}

-- without a digit there is no number
pub number_missing : (most : ℕ) (text : List ℕ) → first_is is_digit text ≡ false → number_at most text ≡ Err errors.ExpectedNumber
number_missing most [] f = refl
number_missing most (c ∷ cs) f = rw f refl

-- after a digit there is one, if it isn't too large
pub number_some : (most c : ℕ) (cs : List ℕ) → is_digit c ≡ true → number_at most (c ∷ cs) ≡ cond (leb (digits_value 10 (run_of is_digit (c ∷ cs))) most) (Ok (digits_value 10 (run_of is_digit (c ∷ cs)))) (Err errors.ExpectedNumber)
number_some most c cs d = rw d refl

-- where a digit is left the number is too large
pub number_large : (most : ℕ) (text : List ℕ) → first_is is_digit (decimal_from most 0 text).1 ≡ true → number_at most text ≡ Err errors.ExpectedNumber
number_large most [] f = refl
number_large most (c ∷ cs) f =
    elim (cases_Bool (is_digit c)) [
      | inl d ↦ number_some most c cs d ∙ cond-false _ _ _ (lt-leb _ _ (number_past most 0 (c ∷ cs) f))
      | inr d ↦ number_missing most (c ∷ cs) d
    ]

-- and else it is the number of all of them
pub number_ok : (most : ℕ) (text : List ℕ) → first_is is_digit text ≡ true → first_is is_digit (decimal_from most 0 text).1 ≡ false → (number_at most text ≡ Ok (decimal_from most 0 text).0) × (past_run is_digit text ≡ (decimal_from most 0 text).1)
number_ok most [] t f = absurd (true≢false (sym t))
number_ok most (c ∷ cs) t f =
    let all = number_all most 0 (c ∷ cs) f in
    let within : digits_value 10 (run_of is_digit (c ∷ cs)) ≤ most = omega (arith, all.0, (number_reads most 0 (c ∷ cs)).within (omega arith)) in
    (number_some most c cs t ∙ cond-true _ _ _ (le-leb _ _ within) ∙ ap Ok all.0, all.1)

-- what was read of a number of many digits
pub whole_number : (most : ℕ) (text : List ℕ) (read : ℕ × List ℕ) → first_is is_digit text ≡ true → decimal_from most 0 text ≡ read → first_is is_digit read.1 ≡ false → (number_at most text ≡ Ok read.0) × (read.1 ≡ past_run is_digit text)
whole_number most text read t e f =
    let ok = number_ok most text t (ap (λ r. first_is is_digit r.1) e ∙ f) in
    (ok.0 ∙ ap (λ r. Ok r.0) e, sym (ok.1 ∙ ap (λ r. r.1) e))

-- the place that is so far away, by its parts
pub wrapped_from : (length : ℕ) (origin distance s d r t : ℤ) → r ≡ int_rem_euclid s d → s ≡ (origin +ℤ distance) -ℤ pos 1 → d ≡ pos length → t ≡ r +ℤ pos 1 → t ≡ wrapped length origin distance
wrapped_from length origin distance s d r t e f g h = h ∙ ap (λ v. v +ℤ pos 1) (e ∙ ap (λ x. int_rem_euclid x d) f ∙ ap (λ x. int_rem_euclid ((origin +ℤ distance) -ℤ pos 1) x) g)
