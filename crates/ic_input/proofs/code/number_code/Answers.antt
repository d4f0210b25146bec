use Rattle.std.proofs.Common.{◌∙◌, chars}
use Rattle.ic_laws.proofs.RunLemmas.{ends_with_rest, run_before_rest}
use Rattle.ic_input.specs.Code.{is_no_hash}
use Rattle.ic_input.proofs.CodeSteps.{no_digits, with_decimals, without_decimals}
use Rattle.ic_input.proofs.code.number_code.Goals as goal

pub front_of-before-requires : goal.front_of-before-requires
front_of-before-requires c = ends_with_rest is_no_hash (chars c.args.code.now) (chars c.past_symbol-rest.result.now) c.past_symbol-rest.ensures

pub returns-in_err-after : goal.returns-in_err-after
returns-in_err-after c =
    let text = chars c.args.code.now in
    let rest = chars c.past_symbol-rest.result.now in
    let before = run_before_rest is_no_hash text (chars c.front_of-before.result.now) rest c.past_symbol-rest.ensures c.front_of-before.ensures in
    c.from_residual.ensures ∙ no_digits text _ rest c.past_symbol-rest.ensures before c.in_err-after.ensures

pub returns-in-Some : goal.returns-in-Some
returns-in-Some c =
    let text = chars c.args.code.now in
    let rest = chars c.past_symbol-rest.result.now in
    let before = run_before_rest is_no_hash text (chars c.front_of-before.result.now) rest c.past_symbol-rest.ensures c.front_of-before.ensures in
    c.supported.ensures ∙ with_decimals text _ rest _ _ c.past_symbol-rest.ensures before c.in_ok-after.ensures c.in-Some.ensures

pub returns-in-None : goal.returns-in-None
returns-in-None c =
    let text = chars c.args.code.now in
    let rest = chars c.past_symbol-rest.result.now in
    let before = run_before_rest is_no_hash text (chars c.front_of-before.result.now) rest c.past_symbol-rest.ensures c.front_of-before.ensures in
    c.supported-in-None.ensures ∙ without_decimals text _ rest _ c.past_symbol-rest.ensures before c.in_ok-after.ensures c.in-None.ensures
