use Rattle.std.proofs.Common.{◌∷◌, ◌∙◌, ap, chars, rules}
use Rattle.ic_refs.proofs.SheetQuoteLemmas.{closes_plain, none_plain, closes_doubled, none_doubled, closes_here}
use Rattle.ic_refs.proofs.sheet.closing_quote.Goals as goal

pub loop-c-preserved-then-c-ne39 : goal.loop-c-preserved-then-c-ne39
loop-c-preserved-then-c-ne39 c = record {
  text = search rules;
  closes = λ closing h.
      c.loop-c.invariant.closes closing
      (closes_plain (chars c.loop-c.rest.now) (chars c.in-Some.after.now) closing c.in-Some.c c.in-Some.ensures.parts c.if-c-ne39.true h);
  none = λ h. c.loop-c.invariant.none (none_plain (chars c.loop-c.rest.now) (chars c.in-Some.after.now) c.in-Some.c c.in-Some.ensures.parts c.if-c-ne39.true h);
}

pub loop-c-preserved : goal.loop-c-preserved
loop-c-preserved c =
    let e = c.in-Some.ensures.parts ∙ ap (λ x. x ∷ chars c.in-Some.after.now) c.if-c-ne39.false in
    record {
      text = search rules;
      closes = λ closing h.
          c.loop-c.invariant.closes closing
          (closes_doubled (chars c.loop-c.rest.now) (chars c.in-Some.after.now) (chars c.in-Some-past_quote.more.now) closing e c.in-Some-past_quote.ensures.cases h);
      none = λ h.
          c.loop-c.invariant.none
          (none_doubled (chars c.loop-c.rest.now) (chars c.in-Some.after.now) (chars c.in-Some-past_quote.more.now) e c.in-Some-past_quote.ensures.cases h);
    }

pub returns-in-None : goal.returns-in-None
returns-in-None c =
    let e = c.in-Some.ensures.parts ∙ ap (λ x. x ∷ chars c.in-Some.after.now) c.if-c-ne39.false in
    c.loop-c.invariant.closes (chars c.loop-c.rest.now) (closes_here (chars c.loop-c.rest.now) (chars c.in-Some.after.now) e c.in-None.ensures.cases)
