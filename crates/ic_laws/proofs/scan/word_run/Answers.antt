use Rattle.std.proofs.Common.{chars}
use Rattle.ic_laws.specs.Scan.{is_word_character}
use Rattle.ic_laws.proofs.RunLemmas.{ends_with_rest, run_before_rest}
use Rattle.ic_laws.proofs.scan.word_run.Goals as goal

pub front_of-requires : goal.front_of-requires
front_of-requires c = ends_with_rest is_word_character (chars c.args.text.now) (chars c.past_word.result.now) c.past_word.ensures

pub returns : goal.returns
returns c =
    run_before_rest is_word_character (chars c.args.text.now) (chars c.front_of.result.now) (chars c.past_word.result.now) c.past_word.ensures c.front_of.ensures
