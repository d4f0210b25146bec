use Rattle.std.proofs.Common.{chars}
use Rattle.ic_laws.specs.Scan.{is_ascii_letter}
use Rattle.ic_laws.proofs.RunLemmas.{ends_with_rest, run_before_rest}
use Rattle.ic_laws.proofs.scan.letters_run.Goals as goal

pub front_of-requires : goal.front_of-requires
front_of-requires c = ends_with_rest is_ascii_letter (chars c.args.text.now) (chars c.past_letters.result.now) c.past_letters.ensures

pub returns : goal.returns
returns c =
    run_before_rest is_ascii_letter (chars c.args.text.now) (chars c.front_of.result.now) (chars c.past_letters.result.now) c.past_letters.ensures c.front_of.ensures
