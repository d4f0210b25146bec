use Rattle.std.proofs.Common.{◌∙◌, chars, ap, sym, inl, inr}
use Rattle.std.specs.Int.{w128}
use Rattle.std.proofs.lemmas.Result.{IfOk-weaker}
use Rattle.std.proofs.lemmas.Int.{to_z-of_z}
use mir.Val.{SFits}
use Rattle.ic_input.specs.Formatted.{number_text}
use Rattle.ic_input.proofs.CodeLaws.{code_none, code_sound}
use Rattle.ic_input.proofs.format.formatted.Goals as goal

pub returns-in-Some : goal.returns-in-Some
returns-in-Some c =
    let fits : SFits w128 c.units.result = record { sfits = c.units.type_inv } in
    let v = to_z-of_z w128 c.units.result fits ∙ c.units.ensures.exact in
    IfOk-weaker c.number_text.result _ _
    (λ s e. inl (c.in-Some.parts, (code_sound (chars c.args.code.now) c.in-Some.parts (sym c.in-Some.ensures), e ∙ ap (number_text c.args.locale.now c.in-Some.parts) v))) c.number_text.ensures

pub returns-in-None : goal.returns-in-None
returns-in-None c =
    IfOk-weaker c.other_text.result _ _ (λ s e. inr (code_none (chars c.args.code.now) (sym c.in-None.ensures), e)) c.other_text.ensures
