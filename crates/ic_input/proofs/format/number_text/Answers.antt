use Rattle.std.proofs.Common.{◌∙◌, chars, ap}
use Rattle.std.specs.Int.{w128}
use Rattle.std.proofs.lemmas.Int.{to_z-of_z}
use Rattle.std.proofs.lemmas.Str.{chars-nil}
use mir.Val.{SFits}
use Rattle.ic_input.specs.Formatted.{nearest, step_of}
use Rattle.ic_input.proofs.FormatLemmas.{shown_whole}
use Rattle.ic_input.proofs.format.number_text.Goals as goal

pub returns : goal.returns
returns c =
    let fits : SFits w128 c.args.units = c.ranges.units in
    let same = to_z-of_z w128 c.args.units fits in
    let signed = rw same at c.in_ok-push_sign.ensures in
    let abs = rw same at c.unsigned_abs.ensures.value in
    let places = c.nearest-places.ensures ∙ ap (λ s. nearest s c.unsigned_abs.result) c.step_of.ensures.value ∙ ap (nearest (step_of c.code.inside.decimals (chars c.code.inside.after.now))) abs in
    rw (← c.code.view_is) (shown_whole c.args.locale.now _ c.args.units c.nearest-places.result _ _ _ _ _ (ap chars c.new-text.ensures.bytes ∙ chars-nil) signed c.in_ok-push_text.ensures.ok c.in_ok-push_digits.ensures c.in_ok-push_text-2.ensures.ok places)
