use Rattle.std.proofs.Common.{◌≡◌, ◌∙◌, Option, ℕ, chars, subst, sym}
use Rattle.std.proofs.lemmas.Bool.{eqb-false}
use Rattle.std.specs.Fmt.{decimal}
use Rattle.std.specs.Option.{IfSome}
use Rattle.ic_sheets.proofs.NumberLemmas.{number_read}
use Rattle.ic_sheets.proofs.sheets.numbers.number_of.Goals as goal

pub returns : goal.returns
returns c =
    subst (λ (o : Option ℕ). IfSome o (λ n. chars c.args.text.now ≡ decimal n)) (sym c.ok.ensures.value)
    (number_read c.args.text.now c.parse.result c.parse.ensures.value.0 (eqb-false _ _ (sym c.has_plus.ensures ∙ c.if-has_plus.false)) (eqb-false _ _ (sym c.has_zero.ensures ∙ c.if-has_zero.false)))
