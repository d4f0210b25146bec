use Rattle.std.proofs.Common.{chars}
use Rattle.ic_laws.proofs.RunLemmas.{ends_with_rest, run_before_rest}
use Rattle.ic_tables.specs.WordList.{is_inside}
use Rattle.ic_tables.proofs.word_list.first_word.Goals as goal

pub front_of-requires : goal.front_of-requires
front_of-requires c = ends_with_rest is_inside (chars c.args.text.now) (chars c.past_word.result.now) c.past_word.ensures.rest

pub returns : goal.returns
returns c =
    run_before_rest is_inside (chars c.args.text.now) (chars c.front_of.result.now) (chars c.past_word.result.now) c.past_word.ensures.rest c.front_of.ensures
