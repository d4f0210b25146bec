use Rattle.std.proofs.Common.{subst}
use Rattle.ic_machine.specs.Book.{Book}
use Rattle.ic_parts.specs.Whole.{whole_of}
use Rattle.ic_run.specs.Translate.{IsPlan}
use Rattle.ic_run.proofs.TurnLemmas.{goes_unrun}
use Rattle.ic_run.proofs.translating.do_plan.Goals as goal

pub returns-in-Goes-clause-turn : goal.returns-in-Goes-clause-turn
returns-in-Goes-clause-turn c =
    let old : Book = whole_of c.args.model.now.book in
    let target = c.args.target.now in
    let p = c.requires.plan in
    goes_unrun old c.args.line.now p.0 p.1 target.locale target.language (subst (IsPlan target old p.0) c.in-Goes.is p.2)

pub returns-in-Runs-clause-turn : goal.returns-in-Runs-clause-turn
returns-in-Runs-clause-turn c = c.run_alone.ensures.turn c.args.target.now.locale c.args.target.now.language

pub returns-in-Stays-clause-turn : goal.returns-in-Stays-clause-turn
returns-in-Stays-clause-turn c = c.run_staying.ensures.turn c.args.target.now.locale c.args.target.now.language

pub returns-in-AddsSheet-clause-turn : goal.returns-in-AddsSheet-clause-turn
returns-in-AddsSheet-clause-turn c = c.run_adding.ensures.turn c.args.target.now.locale c.args.target.now.language
