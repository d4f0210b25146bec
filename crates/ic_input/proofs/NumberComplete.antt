-- What is in the relation of typed numbers the function answers.
use Rattle.std.proofs.Common.{◌≡◌, ℕ, zero, suc, pos, ◌+◌, ◌*◌, ◌-◌, ◌^◌, ◌<◌, ◌≤◌, List, [], ◌∷◌, ◌++◌, Bool, true, false, not, ◌&&◌, ◌||◌, ◌==◌, nat_le, nat_lt, length, Option, Some, None, refl, sym, ap, subst, ap₂, ◌∙◌, append_assoc, append-nil, inl, inr, arith}
use Rattle.std.specs.List.{list_all}
use Rattle.std.specs.Str.{all_ascii_digits}
use Rattle.std.specs.Str.Parse.{digits_value, digits_value_after}
use Rattle.std.proofs.lemmas.Bool.{and_from, and_parts, cases_Bool, eqb-true, le-leb, lt-ltb, or_parts}
use Rattle.std.proofs.lemmas.Bool.Decides.{nat_tests}
use Rattle.std.proofs.lemmas.List.{length-append}
use Rattle.ic_laws.specs.Scan.{first_is, is_digit, past_run, run_of}
use Rattle.ic_laws.proofs.AmountTexts.{run_of-front}
use Rattle.ic_tables.specs.Formats.{may_stand_in_symbol}
use Rattle.ic_tables.specs.declared.locale.Locale.{Locale}
use Rattle.ic_input.specs.Code.{is_percent, stands_beside}
use Rattle.ic_input.specs.Convention.{group_of, is_currency, is_nothing, percent}
use Rattle.ic_tables.specs.Formats.{decimal_separator}
use Rattle.ic_input.specs.Group.{in_threes, past_threes, threes}
use Rattle.ic_input.specs.Number.{IsUnsigned, IsWhole, code_for, decimals_at, fraction_of, fraction_text, from_digits, is_first_group, most_decimals, past_decimals, stands_before, unsigned_number, with_decimals}
use Rattle.ic_input.specs.declared.number.Number.{Number}
use Rattle.ic_input.proofs.LocaleLemmas.{TellsSigns, currency_all, decimal_apart, decimal_cases, decimal_digit, nothing-is}
use Rattle.ic_input.proofs.RunSteps.{all_weaker, can_stand, run_until}
use Rattle.ic_input.proofs.TripleLemmas.{IsTriples, ReadsGroups, groups_read, in_threes-groups, separated, split}
use Rattle.ic_laws.proofs.tokens.Characters.{not_true as not-false}
use Rattle.ic_laws.proofs.AmountReading.{digits_apart as digits-split, after-append as value-append}

-- no digit and no decimal separator stands in a symbol
symbol_before : (l : Locale) (c : ℕ) → may_stand_in_symbol c ≡ true → stands_before (decimal_separator l) c ≡ true
symbol_before l c h = rw ((can_stand c h).digit, decimal_apart l c h) refl

percent_before : (l : Locale) → stands_before (decimal_separator l) percent ≡ true
percent_before l = decimal_cases l (λ d. stands_before d percent ≡ true) refl refl

currency_before : (l : Locale) → TellsSigns l → (text : List ℕ) → is_currency l text ≡ true → list_all (stands_before (decimal_separator l)) text ≡ true
currency_before l signs text h = all_weaker may_stand_in_symbol (stands_before (decimal_separator l)) (symbol_before l) text (currency_all l signs text h)

-- nor in what stands beside digits
before_all : (l : Locale) → TellsSigns l → (before after : List ℕ) → stands_beside (is_currency l) before after ≡ true → list_all (stands_before (decimal_separator l)) before ≡ true
before_all l signs [] after h = refl
before_all l signs (c ∷ cs) after h = currency_before l signs (c ∷ cs) (and_parts (is_nothing after) (is_currency l (c ∷ cs)) h).1

after_all : (l : Locale) → TellsSigns l → (before after : List ℕ) → stands_beside (is_currency l) before after ≡ true → list_all (stands_before (decimal_separator l)) after ≡ true
after_all l signs (b ∷ bs) after h = rw (nothing-is after (and_parts (is_nothing after) (is_currency l (b ∷ bs)) h).0) refl
after_all l signs [] [] h = refl
after_all l signs [] (c ∷ cs) h =
    elim (cases_Bool (is_percent (c ∷ cs))) [
      | inl e ↦
          let p = and_parts (c == percent) (is_nothing cs) e in
          rw (eqb-true c percent p.0, nothing-is cs p.1) (and_from _ _ (percent_before l) refl)
      | inr e ↦ let is : is_currency l (c ∷ cs) ≡ true = rw e at h in currency_before l signs (c ∷ cs) is
    ]

-- What no character is that no digits begin with.
record StandsBefore (d c : ℕ) : Type 0 where
  digit : is_digit c ≡ false
  decimal : (c == d) ≡ false

apart : (d c : ℕ) → stands_before d c ≡ true → StandsBefore d c
apart d c h =
    let p = or_parts (is_digit c) (c == d) (not-false (is_digit c || c == d) h) in
    record { digit = p.0; decimal = p.1 }

-- no group is read of such characters
no_groups : (group d : ℕ) (text : List ℕ) → list_all (stands_before d) text ≡ true → ReadsGroups group text [] text
no_groups group d [] h = record { groups = refl; rest = refl }
no_groups group d (s ∷ []) h = record { groups = refl; rest = refl }
no_groups group d (s ∷ a ∷ []) h = record { groups = refl; rest = refl }
no_groups group d (s ∷ a ∷ b ∷ []) h = record { groups = refl; rest = refl }
no_groups group d (s ∷ a ∷ b ∷ c ∷ rest) h =
    let p = and_parts (stands_before d s) _ h in
    let q = and_parts (stands_before d a) _ p.1 in
    let test : (s == group && is_digit a && is_digit b && is_digit c) ≡ false = rw (apart d a q.0).digit (first_false (s == group) (is_digit b) (is_digit c)) in
    record { groups = rw test refl; rest = rw test refl }
  where
    first_false : (x y z : Bool) → (x && false && y && z) ≡ false
    first_false true y z = refl
    first_false false y z = refl

-- nor where another character than the separator stands first
no_groups_after : (group s : ℕ) (text : List ℕ) → (s == group) ≡ false → ReadsGroups group (s ∷ text) [] (s ∷ text)
no_groups_after group s [] h = record { groups = refl; rest = refl }
no_groups_after group s (a ∷ []) h = record { groups = refl; rest = refl }
no_groups_after group s (a ∷ b ∷ []) h = record { groups = refl; rest = refl }
no_groups_after group s (a ∷ b ∷ c ∷ rest) h = record { groups = rw h refl; rest = rw h refl }

-- What is read of the decimals and what stands after them.
record ReadsTail (l : Locale) (fraction : Option (List ℕ)) (after : List ℕ) : Type 0 where
  no_digit : first_is is_digit (fraction_text (decimal_separator l) fraction ++ after) ≡ false
  no_groups : ReadsGroups (group_of l) (fraction_text (decimal_separator l) fraction ++ after) [] (fraction_text (decimal_separator l) fraction ++ after)
  decimals : decimals_at (decimal_separator l) (fraction_text (decimal_separator l) fraction ++ after) ≡ fraction_of fraction
  rest : past_decimals (decimal_separator l) (fraction_text (decimal_separator l) fraction ++ after) ≡ after

first_apart : (d : ℕ) (text : List ℕ) → list_all (stands_before d) text ≡ true → first_is is_digit text ≡ false
first_apart d [] h = refl
first_apart d (c ∷ cs) h = (apart d c (and_parts (stands_before d c) _ h).0).digit

no_decimals : (d : ℕ) (text : List ℕ) → list_all (stands_before d) text ≡ true → (decimals_at d text ≡ []) × (past_decimals d text ≡ text)
no_decimals d [] h = (refl, refl)
no_decimals d (c ∷ cs) h = let e = (apart d c (and_parts (stands_before d c) _ h).0).decimal in (rw e refl, rw e refl)

tail_read : (l : Locale) → TellsSigns l → (fraction : Option (List ℕ)) (after : List ℕ) → all_ascii_digits (fraction_of fraction) ≡ true → list_all (stands_before (decimal_separator l)) after ≡ true → ReadsTail l fraction after
tail_read l signs None after d h =
    let none = no_decimals (decimal_separator l) after h in
    record {
      no_digit = first_apart (decimal_separator l) after h;
      no_groups = no_groups (group_of l) (decimal_separator l) after h;
      decimals = none.0;
      rest = none.1;
    }
tail_read l signs (Some ds) after d h =
    let same : (decimal_separator l == decimal_separator l) ≡ true = grind (arith, nat_tests) in
    let run = run_of-front ds after d (first_apart (decimal_separator l) after h) in
    record {
      no_digit = decimal_digit l;
      no_groups = no_groups_after (group_of l) (decimal_separator l) (ds ++ after) signs.group_decimal;
      decimals = rw (same, run.0) refl;
      rest = rw (same, run.1) refl;
    }

-- the digits as the function takes them apart
record ReadsWhole (l : Locale) (grouped : Bool) (whole text tail : List ℕ) : Type 0 where
  first : List ℕ
  more : List ℕ
  joined : whole ≡ first ++ more
  run : run_of is_digit (text ++ tail) ≡ first
  groups : threes (group_of l) (past_run is_digit (text ++ tail)) ≡ more
  rest : past_threes (group_of l) (past_run is_digit (text ++ tail)) ≡ tail
  fits : is_first_group first more ≡ true
  told : not (is_nothing more) ≡ grouped
  some : 0 < length whole → 0 < length first

whole_read : (l : Locale) → TellsSigns l → (grouped : Bool) (whole text tail : List ℕ) → all_ascii_digits whole ≡ true → IsWhole (group_of l) grouped whole text → first_is is_digit tail ≡ false → ReadsGroups (group_of l) tail [] tail → ReadsWhole l grouped whole text tail
whole_read l signs false whole text tail d w t g =
    let run = run_of-front whole tail d t in
    record {
      first = whole;
      more = [];
      joined = sym (append-nil whole);
      run = rw w run.0;
      groups = rw (w, run.1) g.groups;
      rest = rw (w, run.1) g.rest;
      fits = refl;
      told = refl;
      some = λ h. h;
    }
whole_read l signs true whole text tail d w t g =
    let s = split whole (omega (arith, w.0)) in
    let ds = digits-split s.first s.more (subst (λ x. all_ascii_digits x ≡ true) s.joined d) in
    let spelled : text ≡ s.first ++ separated (group_of l) s.more = w.1 ∙ ap (in_threes (group_of l)) s.joined ∙ in_threes-groups (group_of l) s.first s.more s.some s.few s.triples in
    let groups = groups_read (group_of l) s.more tail s.triples ds.1 g in
    let after : first_is is_digit (separated (group_of l) s.more ++ tail) ≡ false = separated-first s.more s.triples in
    let run = run_of-front s.first (separated (group_of l) s.more ++ tail) ds.0 after in
    let cut : text ++ tail ≡ s.first ++ (separated (group_of l) s.more ++ tail) = ap (λ x. x ++ tail) spelled ∙ append_assoc s.first (separated (group_of l) s.more) tail in
    let a : nat_lt 0 (length s.first) ≡ true = lt-ltb _ _ s.some in
    let b : nat_le (length s.first) 3 ≡ true = le-leb _ _ s.few in
    record {
      first = s.first;
      more = s.more;
      joined = s.joined;
      run = rw cut run.0;
      groups = rw (cut, run.1) groups.groups;
      rest = rw (cut, run.1) groups.rest;
      fits = rw (a, b) (or-true (is_nothing s.more));
      told = more_some s.more (omega (arith, w.0, s.few, length-append s.first s.more, ap length s.joined));
      some = λ _. s.some;
    }
  where
    separated-first : (more : List ℕ) → IsTriples more → first_is is_digit (separated (group_of l) more ++ tail) ≡ false
    separated-first [] h = t
    separated-first (a ∷ []) h = absurd h
    separated-first (a ∷ b ∷ []) h = absurd h
    separated-first (a ∷ b ∷ c ∷ more) h = signs.group_digit

    or-true : (b : Bool) → (b || true) ≡ true
    or-true true = refl
    or-true false = refl

    more_some : (more : List ℕ) → 0 < length more → not (is_nothing more) ≡ true
    more_some [] h = absurd (omega arith)
    more_some (c ∷ cs) h = refl

-- what the parts make
finished : (l : Locale) (before : List ℕ) (grouped : Bool) (whole count : ℕ) (fraction after : List ℕ) (n : Number) → stands_beside (is_currency l) before after ≡ true → 0 < count + length fraction → length fraction ≤ most_decimals after → whole * 10 ^ most_decimals after + digits_value 10 fraction * 10 ^ (most_decimals after - length fraction) < 10 ^ 27 → n.amount ≡ pos (whole * 10 ^ most_decimals after + digits_value 10 fraction * 10 ^ (most_decimals after - length fraction)) → n.code ≡ code_for grouped before after (nat_lt 0 (length fraction)) → with_decimals l before grouped whole count fraction after ≡ Some n
finished l before grouped whole count fraction after n beside some few small amount code =
    rw (beside, lt-ltb _ _ some, le-leb _ _ few, lt-ltb _ _ small) (ap₂ (λ a c. Some (record { amount = a; code = c })) (sym amount) (sym code))

-- the body of a number, from its digits on
pub body_first : (l : Locale) (grouped : Bool) (whole text : List ℕ) (fraction : Option (List ℕ)) (after : List ℕ) → all_ascii_digits whole ≡ true → IsWhole (group_of l) grouped whole text → 0 < length whole + length (fraction_of fraction) → first_is (stands_before (decimal_separator l)) (text ++ (fraction_text (decimal_separator l) fraction ++ after)) ≡ false
body_first l true [] text fraction after d w some = absurd (omega (arith, w.0))
body_first l false [] text None after d w some = absurd (omega arith)
body_first l false [] text (Some ds) after d w some =
    let same : (decimal_separator l == decimal_separator l) ≡ true = grind (arith, nat_tests) in
    rw (w, decimal_digit l, same) refl
body_first l false (c ∷ cs) text fraction after d w some = let p = and_parts (is_digit c) _ d in rw (w, p.0) refl
body_first l true (c ∷ cs) text fraction after d w some = let p = and_parts (is_digit c) _ d in rw (w.1, p.0) refl

enough : (a b f : ℕ) → (0 < a → 0 < b) → 0 < a + f → 0 < b + f
enough zero b f g h = omega arith
enough (suc a) b f g h = omega (arith, g (omega arith))

pub unsigned_complete : (l : Locale) → TellsSigns l → (text : List ℕ) (n : Number) → IsUnsigned l text n → unsigned_number l text ≡ Some n
unfolding unsigned_number from_digits
unsigned_complete l signs text n h =
    let d = decimal_separator l in
    let after = after_all l signs h.before h.after h.beside in
    let t = tail_read l signs h.fraction h.after h.fraction_digits after in
    let tail = fraction_text (decimal_separator l) h.fraction ++ h.after in
    let w = whole_read l signs h.grouped h.whole h.whole_text tail h.whole_digits h.written t.no_digit t.no_groups in
    let start = run_until (stands_before (decimal_separator l)) h.before (h.whole_text ++ tail) (before_all l signs h.before h.after h.beside) (body_first l h.grouped h.whole h.whole_text h.fraction h.after h.whole_digits h.written h.some) in
    let value : digits_value_after 10 (digits_value 10 w.first) w.more ≡ digits_value 10 h.whole = sym (value-append 0 w.first w.more) ∙ ap (digits_value 10) (sym w.joined) in
    rw (h.spelled, start.0, start.1, w.run, w.groups, w.rest, w.fits, w.told, t.decimals, t.rest)
    (finished l h.before h.grouped (digits_value_after 10 (digits_value 10 w.first) w.more) (length w.first) (fraction_of h.fraction) h.after n h.beside (enough (length h.whole) (length w.first) (length (fraction_of h.fraction)) w.some h.some) h.few (rw value h.small) (rw value h.value) h.code)
