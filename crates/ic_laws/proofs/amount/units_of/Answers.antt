use Rattle.std.proofs.Common.{chars, sym, ◌∙◌, ◌≡◌, ◌≢◌, [], ap₂}
use Rattle.ic_laws.specs.Amount.{units_by}
use Rattle.ic_laws.specs.Scan.{is_digit, past_run}
use Rattle.ic_laws.proofs.AmountLemmas.{units_of-digits, units_of-long, units_of-more}
use Rattle.ic_laws.proofs.amount.units_of.Goals as goal

pub returns-in_err-fraction : goal.returns-in_err-fraction
returns-in_err-fraction c =
    c.from_residual.ensures ∙ sym (units_of-long c.args.whole c.args.whole_count (chars c.args.text.now) c.in_err-fraction.ensures)

pub returns-in-Some : goal.returns-in-Some
returns-in-Some c =
    let more : past_run is_digit (chars c.args.text.now) ≢ [] = λ h. let e = c.in-Some.ensures.parts in let f = c.in_ok-fraction.ensures.3 in cc in
    sym (units_of-more c.args.whole c.args.whole_count (chars c.args.text.now) more)

pub returns-in-None : goal.returns-in-None
returns-in-None c =
    let none : past_run is_digit (chars c.args.text.now) ≡ [] = sym c.in_ok-fraction.ensures.3 ∙ c.in-None.ensures.parts in
    let read = units_of-digits c.args.whole c.args.whole_count (chars c.args.text.now) none in
    c.units_by.ensures ∙ ap₂ (λ v n. units_by c.args.whole c.args.whole_count v n) c.in_ok-fraction.ensures.0 c.in_ok-fraction.ensures.1 ∙ read
