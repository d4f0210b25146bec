use Rattle.std.proofs.Common.{◌∷◌, ℕ, List, None, pos, string_bytes, sym, ap, subst, ◌∙◌}
use Rattle.std.specs.Str.{chars}
use Rattle.std.proofs.lemmas.Result.{IfOk-weaker}
use Rattle.ic_laws.specs.Character.{quote}
use Rattle.ic_machine.specs.InForce.{shown_words}
use Rattle.ic_machine.specs.Translation.{IsTypedSo}
use Rattle.ic_parts.proofs.written.typed_text.Goals as goal

pub returns-in-Quoted : goal.returns-in-Quoted
unfolding chars
returns-in-Quoted c = λ book well here.
    IfOk-weaker c.after_sign.result _ _
    (λ text e. subst (λ t. IsTypedSo book (pos 1, pos 1) None t (chars (string_bytes text))) (sym c.in-Quoted.is) (e ∙ ap (λ (t : List ℕ). quote ∷ t) c.as_str.ensures.characters))
    c.after_sign.ensures

pub returns-in-Text : goal.returns-in-Text
returns-in-Text c = λ book well here.
    IfOk-weaker c.words_text.result _ _
    (λ text e. subst (λ t. IsTypedSo book (pos 1, pos 1) None t (chars (string_bytes text))) (sym c.in-Text.is) (e ∙ ap (shown_words book) c.as_str-in-Text.ensures.characters))
    (c.words_text.ensures book here)

pub returns-in-Empty : goal.returns-in-Empty
unfolding chars
returns-in-Empty c = λ book well here. subst (λ t. IsTypedSo book (pos 1, pos 1) None t (chars (string_bytes c.new.result))) (sym c.in-Empty.is) (ap chars c.new.ensures.bytes)

pub returns-in-Formula : goal.returns-in-Formula
unfolding chars
returns-in-Formula c = λ book well here. subst (λ t. IsTypedSo book (pos 1, pos 1) None t (chars (string_bytes c.new-in-Formula.result))) (sym c.in-Formula.is) (ap chars c.new-in-Formula.ensures.bytes)
