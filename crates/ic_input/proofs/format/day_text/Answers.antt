use Rattle.std.proofs.Common.{◌∙◌, ◌++◌, chars, ap}
use Rattle.std.proofs.lemmas.Str.{chars-nil}
use Rattle.ic_input.specs.Date.{date_text}
use Rattle.ic_input.proofs.format.day_text.Goals as goal

pub returns : goal.returns
returns c =
    record {
      year = c.civil_of.result.year;
      month = c.civil_of.result.month;
      day = c.civil_of.result.day;
      there = c.civil_of.ensures.day;
      spelled = c.in_ok-push_day.ensures ∙ ap (λ t. t ++ date_text (chars c.args.code.now) c.civil_of.result.year c.civil_of.result.month c.civil_of.result.day) (ap chars c.new-text.ensures.bytes ∙ chars-nil);
    }
