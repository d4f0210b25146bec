-- What the function of typed numbers answers is in the relation, and what is in the relation it answers.
use Rattle.std.proofs.Common.{◌≡◌, ℕ, pos, ◌+◌, ◌*◌, ◌-◌, ◌^◌, ◌<◌, ◌≤◌, List, [], ◌∷◌, ◌++◌, Bool, true, not, ◌&&◌, ◌==◌, nat_le, nat_lt, length, Option, Some, None, refl, sym, ap, subst, ◌∙◌, append_assoc, inl, inr, arith}
use Rattle.std.specs.Str.{all_ascii_digits}
use Rattle.std.specs.Str.Parse.{digits_value, digits_value_after}
use Rattle.std.proofs.lemmas.Bool.{and_parts, cases_Bool, eqb-true, leb-true, ltb-true}
use Rattle.std.proofs.lemmas.Bool.Decides.{nat_tests}
use Rattle.std.proofs.lemmas.List.{length-append}
use Rattle.ic_laws.specs.Scan.{is_digit, past_run, run_of}
use Rattle.ic_laws.proofs.RunLemmas.{run_and_rest}
use Rattle.ic_tables.specs.declared.locale.Locale.{Locale}
use Rattle.ic_input.specs.Code.{stands_beside}
use Rattle.ic_input.specs.Convention.{group_of, is_currency, is_nothing}
use Rattle.ic_tables.specs.Formats.{decimal_separator}
use Rattle.ic_input.specs.Group.{past_threes, threes}
use Rattle.ic_input.specs.Number.{IsUnsigned, IsWhole, code_for, decimals_at, fraction_of, fraction_text, from_digits, is_first_group, most_decimals, past_decimals, stands_before, units_if, unsigned_number, with_after, with_code, with_groups}
use Rattle.ic_input.specs.declared.number.Number.{Number}
use Rattle.ic_input.proofs.NumberSteps.{decimals-digits}
use Rattle.ic_input.proofs.TripleLemmas.{IsTriples, are_triples, in_threes-groups, separated}
use Rattle.ic_laws.proofs.AmountReading.{digits_both as digits-append, after-append as value-append, run_of-is_digits as run-digits}

-- ---- what the function answers is in the relation

-- the decimals and what stands after them, as they are typed
decimals_typed : (l : Locale) (rest : List ℕ) → (fraction : Option (List ℕ)) × ((fraction_of fraction ≡ decimals_at (decimal_separator l) rest) × (rest ≡ fraction_text (decimal_separator l) fraction ++ past_decimals (decimal_separator l) rest))
decimals_typed l [] = (None, (refl, refl))
decimals_typed l (c ∷ cs) =
    elim (cases_Bool (c == decimal_separator l)) [
      | inl e ↦
          let same : c ≡ decimal_separator l = eqb-true c (decimal_separator l) e in
          (Some (run_of is_digit cs), (rw e refl, rw e (rw same (ap (λ t. decimal_separator l ∷ t) (run_and_rest is_digit cs)))))
      | inr e ↦ (None, (rw e refl, rw e refl))
    ]

-- the whole digits as they are typed
whole_typed : (l : Locale) (first rest : List ℕ) → is_first_group first (threes (group_of l) rest) ≡ true → IsWhole (group_of l) (not (is_nothing (threes (group_of l) rest))) (first ++ threes (group_of l) rest) (first ++ separated (group_of l) (threes (group_of l) rest))
whole_typed l first rest h = go (threes (group_of l) rest) (are_triples (group_of l) rest).triples h
  where
    go : (more : List ℕ) → IsTriples more → is_first_group first more ≡ true → IsWhole (group_of l) (not (is_nothing more)) (first ++ more) (first ++ separated (group_of l) more)
    go [] t h = refl
    go (a ∷ []) t h = absurd t
    go (a ∷ b ∷ []) t h = absurd t
    go (a ∷ b ∷ c ∷ more) t h =
        let p = and_parts (nat_lt 0 (length first)) (nat_le (length first) 3) h in
        let some : 0 < length first = grind (arith, nat_tests) in
        let few : length first ≤ 3 = grind (arith, nat_tests) in
        (omega (arith, length-append first (a ∷ b ∷ c ∷ more)), sym (in_threes-groups (group_of l) first (a ∷ b ∷ c ∷ more) some few t))

-- What units are given of.
record GivesUnits (places whole whole_count fraction count units : ℕ) : Type 0 where
  some : 0 < whole_count + count
  few : count ≤ places
  value : units ≡ whole * 10 ^ places + fraction * 10 ^ (places - count)
  small : whole * 10 ^ places + fraction * 10 ^ (places - count) < 10 ^ 27

units_given : (places whole whole_count fraction count units : ℕ) → units_if places whole whole_count fraction count ≡ Some units → GivesUnits places whole whole_count fraction count units
units_given places whole whole_count fraction count units h =
    elim (cases_Bool (nat_lt 0 (whole_count + count) && nat_le count places && nat_lt (whole * 10 ^ places + fraction * 10 ^ (places - count)) (10 ^ 27))) [
      | inl e ↦
          let p = and_parts (nat_lt 0 (whole_count + count) && nat_le count places) (nat_lt (whole * 10 ^ places + fraction * 10 ^ (places - count)) (10 ^ 27)) e in
          let q = and_parts (nat_lt 0 (whole_count + count)) (nat_le count places) p.0 in
          let same : Some (whole * 10 ^ places + fraction * 10 ^ (places - count)) ≡ Some units = rw e at h in
          record {
            some = ltb-true _ _ q.0;
            few = leb-true _ _ q.1;
            value = cc;
            small = ltb-true _ _ p.1;
          }
      | inr e ↦ let none : None ≡ Some units = rw e at h in absurd (cc)
    ]

-- What a number is made of.
record IsMade (l : Locale) (before : List ℕ) (grouped : Bool) (whole whole_count fraction count : ℕ) (after : List ℕ) (n : Number) : Type 0 where
  beside : stands_beside (is_currency l) before after ≡ true
  units : GivesUnits (most_decimals after) whole whole_count fraction count (whole * 10 ^ most_decimals after + fraction * 10 ^ (most_decimals after - count))
  amount : n.amount ≡ pos (whole * 10 ^ most_decimals after + fraction * 10 ^ (most_decimals after - count))
  code : n.code ≡ code_for grouped before after (nat_lt 0 count)

with_units : (l : Locale) (before : List ℕ) (grouped : Bool) (whole whole_count fraction count : ℕ) (after : List ℕ) (n : Number) → stands_beside (is_currency l) before after ≡ true → (u : Option ℕ) → units_if (most_decimals after) whole whole_count fraction count ≡ u → with_code (code_for grouped before after (nat_lt 0 count)) u ≡ Some n → IsMade l before grouped whole whole_count fraction count after n
with_units l before grouped whole whole_count fraction count after n beside None e h = absurd (cc)
with_units l before grouped whole whole_count fraction count after n beside (Some units) e h =
    let g = units_given (most_decimals after) whole whole_count fraction count units e in
    let same : n ≡ record { amount = pos units; code = code_for grouped before after (nat_lt 0 count) } = cc in
    record {
      beside = beside;
      units = record { some = g.some; few = g.few; value = refl; small = g.small };
      amount = ap (λ (m : Number). m.amount) same ∙ ap pos g.value;
      code = ap (λ (m : Number). m.code) same;
    }

made : (l : Locale) (before : List ℕ) (grouped : Bool) (whole whole_count fraction count : ℕ) (after : List ℕ) (n : Number) → with_after l before grouped whole whole_count fraction count after ≡ Some n → IsMade l before grouped whole whole_count fraction count after n
made l before grouped whole whole_count fraction count after n h =
    elim (cases_Bool (stands_beside (is_currency l) before after)) [
      | inl e ↦ with_units l before grouped whole whole_count fraction count after n e _ refl (rw e at h)
      | inr e ↦ let none : None ≡ Some n = rw e at h in absurd (cc)
    ]

-- the parts that the function takes a text into make it a number
parts_sound : (l : Locale) (before first rest : List ℕ) (n : Number) → all_ascii_digits first ≡ true → with_groups l before first (threes (group_of l) rest) (past_threes (group_of l) rest) ≡ Some n → IsUnsigned l (before ++ (first ++ rest)) n
parts_sound l before first rest n digits h =
    elim (cases_Bool (is_first_group first (threes (group_of l) rest))) [
      | inr e ↦ let none : None ≡ Some n = rw e at h in absurd (cc)
      | inl e ↦
          let t = are_triples (group_of l) rest in
          let d = decimals_typed l (past_threes (group_of l) rest) in
          let m = made l before _ _ _ _ _ _ n (rw e at h) in
          let u = m.units in
          let whole = first ++ threes (group_of l) rest in
          let value : digits_value_after 10 (digits_value 10 first) (threes (group_of l) rest) ≡ digits_value 10 whole = sym (value-append 0 first (threes (group_of l) rest)) in
          record {
            before = before;
            whole = whole;
            grouped = not (is_nothing (threes (group_of l) rest));
            whole_text = first ++ separated (group_of l) (threes (group_of l) rest);
            fraction = d.0;
            after = past_decimals (decimal_separator l) (past_threes (group_of l) rest);
            spelled = ap (λ x. before ++ x) (ap (λ x. first ++ x) (t.whole ∙ ap (λ x. separated (group_of l) (threes (group_of l) rest) ++ x) d.1.1) ∙ sym (append_assoc first (separated (group_of l) (threes (group_of l) rest)) (fraction_text (decimal_separator l) d.0 ++ past_decimals (decimal_separator l) (past_threes (group_of l) rest))));
            beside = m.beside;
            whole_digits = digits-append first (threes (group_of l) rest) digits t.digits;
            written = whole_typed l first rest e;
            fraction_digits = rw d.1.0 (decimals-digits (decimal_separator l) (past_threes (group_of l) rest));
            some = rw d.1.0 (omega (arith, u.some, length-append first (threes (group_of l) rest)));
            few = rw d.1.0 u.few;
            value = rw d.1.0 (m.amount ∙ rw value refl);
            small = rw d.1.0 (rw (← value) u.small);
            code = rw d.1.0 m.code;
          }
    ]

pub unsigned_sound : (l : Locale) (text : List ℕ) (n : Number) → unsigned_number l text ≡ Some n → IsUnsigned l text n
unfolding unsigned_number from_digits
unsigned_sound l text n h =
    let body = past_run (stands_before (decimal_separator l)) text in
    let found = parts_sound l (run_of (stands_before (decimal_separator l)) text) (run_of is_digit body) (past_run is_digit body) n (run-digits body) h in
    let whole : text ≡ run_of (stands_before (decimal_separator l)) text ++ (run_of is_digit body ++ past_run is_digit body) =
    run_and_rest (stands_before (decimal_separator l)) text ∙ ap (λ x. run_of (stands_before (decimal_separator l)) text ++ x) (run_and_rest is_digit body) in
    subst (λ t. IsUnsigned l t n) (sym whole) found
