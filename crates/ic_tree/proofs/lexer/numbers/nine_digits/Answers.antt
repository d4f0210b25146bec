use Rattle.std.proofs.Common.{◌≡◌, ◌+◌, ◌*◌, ◌-◌, [], ◌∷◌, true, length, chars, sym, ◌∙◌, ap, arith, rules}
use Rattle.std.specs.Char.{digit_value}
use Rattle.std.specs.Str.Parse.{digits_value_after}
use Rattle.ic_laws.specs.AmountFront.{past_some, some_digits}
use Rattle.ic_laws.specs.Scan.{is_digit}
use Rattle.ic_laws.proofs.AmountLemmas.{digit_value-is}
use Rattle.ic_tree.proofs.DigitLemmas.{digit_below, power_more, some_first, some_none, end_here, stop_here}
use Rattle.ic_tree.proofs.lexer.numbers.nine_digits.Goals as goal
use Rattle.ic_tree.proofs.lexer.numbers.nine_digits.Goals.{in-Some+then-count-eq9, then-count-eq9-via-then-count-eq9, then-count-eq9-via-else-count-eq9+then-not-is_ascii_digit, in_default}

pub loop-c-preserved : goal.loop-c-preserved
loop-c-preserved c =
    let digit : is_digit c.in-Some.c ≡ true = sym c.if-not-is_ascii_digit.ensures.value in
    let count = c.loop-c.count in
    let first = some_first (9 - count) c.in-Some.c (chars c.in-Some.after.now) (omega arith) digit in
    let less : 9 - count - 1 ≡ 9 - (count + 1) = omega arith in
    let value : digit_value c.in-Some.c ≡ c.in-Some.c - 48 = digit_value-is c.in-Some.c digit in
    let run : some_digits (9 - count) (chars c.loop-c.rest.now) ≡ c.in-Some.c ∷ some_digits (9 - (count + 1)) (chars c.in-Some.after.now) =
    ap (some_digits (9 - count)) c.in-Some.ensures.parts ∙ first.0 ∙ ap (λ n. c.in-Some.c ∷ some_digits n (chars c.in-Some.after.now)) less in
    let past : past_some (9 - count) (chars c.loop-c.rest.now) ≡ past_some (9 - (count + 1)) (chars c.in-Some.after.now) =
    ap (past_some (9 - count)) c.in-Some.ensures.parts ∙ first.1 ∙ ap (λ n. past_some n (chars c.in-Some.after.now)) less in
    record {
      text = search rules;
      number = ap (λ n. digits_value_after 10 (c.loop-c.value * 10 + n) (some_digits (9 - (count + 1)) (chars c.in-Some.after.now))) (sym value) ∙ ap (digits_value_after 10 c.loop-c.value) (sym run) ∙ c.loop-c.invariant.number;
      counted = omega (arith, ap length run, c.loop-c.invariant.counted);
      after = sym past ∙ c.loop-c.invariant.after;
      few = omega arith;
      small = power_more c.loop-c.value (c.in-Some.c - 48) count c.loop-c.invariant.small (digit_below c.in-Some.c digit);
    }

stopped : (c : goal.After-rest-1) → (some_digits (9 - c.loop-c.count) (chars c.loop-c.rest.now) ≡ []) × (past_some (9 - c.loop-c.count) (chars c.loop-c.rest.now) ≡ chars c.loop-c.rest.now)
stopped c =
    elim c.match-first_char.branch [
      | in-Some+then-count-eq9 w ↦ elim w.then-count-eq9.branch [
        | then-count-eq9-via-then-count-eq9 w' ↦ some_none (9 - c.loop-c.count) (chars c.loop-c.rest.now) (omega arith)
        | then-count-eq9-via-else-count-eq9+then-not-is_ascii_digit w' ↦ stop_here (9 - c.loop-c.count) w.in-Some.c (chars c.loop-c.rest.now) (chars w.in-Some.after.now) w.in-Some.ensures.parts (sym w'.if-not-is_ascii_digit.ensures.value)
      ]
      | in_default w ↦ end_here (9 - c.loop-c.count) (chars c.loop-c.rest.now) w.in_default.ensures.parts
    ]

pub returns-clause-value : goal.returns-clause-value
returns-clause-value c = ap (digits_value_after 10 c.loop-c.value) (sym (stopped c).0) ∙ c.loop-c.invariant.number

pub returns-clause-count : goal.returns-clause-count
returns-clause-count c = omega (arith, ap length (stopped c).0, c.loop-c.invariant.counted)

pub returns-clause-rest : goal.returns-clause-rest
returns-clause-rest c = sym (stopped c).1 ∙ c.loop-c.invariant.after
