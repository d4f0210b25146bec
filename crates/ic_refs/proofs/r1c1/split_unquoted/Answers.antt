use Rattle.std.proofs.Common.{chars}
use Rattle.ic_refs.specs.R1C1.{is_no_bang}
use Rattle.ic_laws.proofs.RunLemmas.{ends_with_rest}
use Rattle.ic_refs.proofs.R1C1SheetLemmas.{unquoted_none, unquoted_some}
use Rattle.ic_refs.proofs.r1c1.split_unquoted.Goals as goal

pub returns-in_default : goal.returns-in_default
returns-in_default c = unquoted_none (chars c.args.text.now) (chars c.from_bang-rest.result.now) c.from_bang-rest.ensures c.in_default.ensures.parts

pub front_of-inside-requires : goal.front_of-inside-requires
front_of-inside-requires c = ends_with_rest is_no_bang (chars c.args.text.now) (chars c.from_bang-rest.result.now) c.from_bang-rest.ensures

pub returns : goal.returns
returns c =
    unquoted_some (chars c.args.text.now) (chars c.from_bang-rest.result.now) (chars c.front_of-inside.result.now) (chars c.in-Some.after.now) _ c.from_bang-rest.ensures c.in-Some.ensures.parts
    c.front_of-inside.ensures
