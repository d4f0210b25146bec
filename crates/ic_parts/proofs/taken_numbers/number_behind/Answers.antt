use Rattle.std.proofs.Common.{List, ℕ, ◌++◌, chars, ap, sym, ◌∙◌}
use Rattle.std.proofs.lemmas.List.{append_cancel_left}
use Rattle.std.specs.Fmt.{decimal}
use Rattle.ic_parts.proofs.NumberBehind.{behind_word}
use Rattle.ic_parts.proofs.taken_numbers.number_behind.Goals as goal

pub returns-in-Some : goal.returns-in-Some
returns-in-Some c = λ gone folded_is n some small agree.
    let cut = c.in-Some.ensures.cases in
    let front = c.as_str.result.now in
    let front_is = c.as_str.ensures.value ∙ c.in_ok-front.ensures in
    let is = behind_word (chars c.args.word.now) gone front c.args.folded.now front_is folded_is n small agree in
    c.number_of.ensures n some small
    (append_cancel_left front c.in-Some.digits.now (decimal n) (ap (λ (ds : List ℕ). front ++ ds) cut.2 ∙ sym cut.1.1 ∙ is))

pub returns : goal.returns
returns c = λ gone folded_is n some small agree.
    let front_is = c.as_str.ensures.value ∙ c.in_ok-front.ensures in
    absurd
    (c.in-None.ensures.cases (decimal n)
    (behind_word (chars c.args.word.now) gone c.as_str.result.now c.args.folded.now front_is folded_is n small agree))
