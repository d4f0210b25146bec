use Rattle.std.proofs.Common.{◌≡◌, List, ℕ, ◌<◌, ◌∷◌, [], ◌++◌, length, get_or, drop, Some, None, ap, subst, sym, ◌∙◌, arith}
use Rattle.std.proofs.lemmas.List.{append_cancel_right}
use Rattle.std.proofs.lemmas.Str.Pattern.{NoCharPasses-char, drop_at_char, strip_suffix_char}
use Rattle.std.specs.Fmt.{decimal}
use Rattle.ic_parts.proofs.NumberBehind.{before_bracket, bracket_there, digits_behind, in_brackets}
use Rattle.ic_parts.proofs.taken_numbers.number_in_brackets.Goals as goal

-- what is left without the closing bracket
front_of : (front before digits folded : List ℕ) → folded ≡ front ++ 41 ∷ [] → folded ≡ (before ++ 40 ∷ digits) ++ 41 ∷ [] → front ≡ before ++ 40 ∷ digits
front_of front before digits folded cut is = append_cancel_right front (before ++ 40 ∷ digits) (41 ∷ []) (sym cut ∙ is)

pub returns-in_err-front : goal.returns-in_err-front
returns-in_err-front c = λ source gone folded_is n some small agree.
    absurd
    (strip_suffix_char 41 c.args.folded.now None c.in_err-front.ensures.cases (omega arith) (before_bracket source n ++ 40 ∷ decimal n)
    (in_brackets source gone c.args.folded.now folded_is n small agree))

pub returns-in_err-digits : goal.returns-in_err-digits
returns-in_err-digits c = λ source gone folded_is n some small agree.
    let front = c.in_ok-front.front.now in
    let cut = strip_suffix_char 41 c.args.folded.now (Some c.in_ok-front.front) c.in_ok-front.ensures.cases (omega arith) in
    let is = in_brackets source gone c.args.folded.now folded_is n small agree in
    absurd
    (bracket_there (before_bracket source n) (decimal n) front (front_of front (before_bracket source n) (decimal n) c.args.folded.now cut is)
    (λ i less. NoCharPasses-char 40 front i c.in_err-digits.ensures.cases (omega arith) less))

pub returns : goal.returns
returns c = λ source gone folded_is n some small agree.
    let front = c.in_ok-front.front.now in
    let cut = strip_suffix_char 41 c.args.folded.now (Some c.in_ok-front.front) c.in_ok-front.ensures.cases (omega arith) in
    let is = in_brackets source gone c.args.folded.now folded_is n small agree in
    let split = c.in_ok-digits.ensures.cases in
    let digits = c.in_ok-digits.digits.now in
    c.number_of.ensures n some small
    (digits_behind (before_bracket source n) front n split.0 digits small (front_of front (before_bracket source n) (decimal n) c.args.folded.now cut is)
    (drop_at_char 40 front split.0 split.1 split.2.1 (omega arith) ∙ ap (λ (b : List ℕ). 40 ∷ b) (sym split.4))
    (λ i less is. NoCharPasses-char 40 (drop split.1 front) i split.2.0 (omega arith) (subst (λ (b : List ℕ). i < length b) split.4 less)
    (ap (λ (b : List ℕ). get_or b i 0) (sym split.4) ∙ is)))
