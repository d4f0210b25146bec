use Rattle.std.proofs.Common.{◌≡◌, ◌∙◌, chars, sym}
use Rattle.std.proofs.lemmas.Result.{IfOk-weaker}
use Rattle.ic_input.specs.Typed.{typed, typed_as}
use Rattle.ic_input.proofs.TypedLaws.{typed_exactly}
use Rattle.ic_input.proofs.TypedSteps.{tells_texts}
use Rattle.ic_input.proofs.input.classify.Goals as goal

pub returns-clause-typed : goal.returns-clause-typed
returns-clause-typed c =
    let l = c.args.locale.now in
    let text = chars c.args.text.now in
    let language = c.args.language.now in
    let english = c.args.english.now in
    let kind : typed_as c.kind_of.result ≡ typed l language english text = c.kind_of.ensures in
    λ tables h.
    IfOk-weaker c.to_typed.result _ _
    (λ t e u.
    let is : t ≡ typed l language english text = e ∙ kind in
    let both = typed_exactly l (tells_texts tables l h) language english text u in
    (λ holds. sym (both.0 holds) ∙ sym is, λ same. both.1 (sym is ∙ sym same)))
    c.to_typed.ensures
