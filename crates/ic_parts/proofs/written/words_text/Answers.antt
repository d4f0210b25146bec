use Rattle.std.proofs.Common.{◌∷◌, sym, ap, ◌∙◌, if◌then◌else◌}
use Rattle.std.specs.Str.{chars}
use Rattle.std.proofs.lemmas.Result.{IfOk-weaker}
use Rattle.ic_laws.specs.Character.{quote}
use Rattle.ic_parts.proofs.written.words_text.Goals as goal

pub returns-then-branch : goal.returns-then-branch
unfolding chars
returns-then-branch c = λ book here.
    IfOk-weaker c.after_sign.result _ _
    (λ text e. e ∙ sym (ap (λ b. if b then chars c.args.text.now else quote ∷ chars c.args.text.now) (sym (c.in_ok-is_typed_text.ensures book here) ∙ c.if-branch.true)))
    c.after_sign.ensures

pub returns : goal.returns
unfolding chars
returns c = λ book here.
    IfOk-weaker c.after_sign-2.result _ _
    (λ text e. e ∙ sym (ap (λ b. if b then chars c.args.text.now else quote ∷ chars c.args.text.now) (sym (c.in_ok-is_typed_text.ensures book here) ∙ c.if-branch.false)))
    c.after_sign-2.ensures
