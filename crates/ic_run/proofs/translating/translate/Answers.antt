use Rattle.std.proofs.Common.{◌≡◌, ◌+◌, ◌<◌, ◌∷◌, ℕ, List, Ok, inr, length, drop, chars, ap, arith, subst, sym, ◌∙◌}
use Rattle.std.proofs.lemmas.List.{drop_more}
use Rattle.ic_machine.specs.Translation.{IsTranslation}
use Rattle.ic_parts.specs.Book.{NotationState}
use Rattle.ic_parts.specs.Whole.{whole_of}
use Rattle.ic_run.specs.Translate.{HasTranslated, IsTurn}
use Rattle.ic_run.specs.declared.translating.TranslateError.TheVariants as errors
use Rattle.ic_run.proofs.AcceptedLemmas.{accepted_beside}
use Rattle.ic_run.proofs.TurnLemmas.{IsSoFar, all_done, at_error, becomes_next, goes_next, memory_here}
use Rattle.ic_run.proofs.translating.translate.Goals as goal
use Rattle.ic_run.proofs.translating.translate.Goals.{in-Goes, in-Becomes+in_ok-push-in-Becomes}

pub returns-in_err-target-clause-translated : goal.returns-in_err-target-clause-translated
returns-in_err-target-clause-translated c =
    let old = whole_of c.args.model.now.book in
    at_error (chars c.args.locale_id.now) (chars c.args.language_id.now) old c.args.lines.now c.from_residual.result c.in_err-target.field-0.0 old c.from_residual.ensures
    (c.in_err-target.ensures.err (chars c.args.locale_id.now) (chars c.args.language_id.now) old c.args.lines.now)

pub returns-in_err-translate_line-clause-translated : goal.returns-in_err-translate_line-clause-translated
returns-in_err-translate_line-clause-translated c =
    let old = whole_of c.args.model.now.book in
    let lines = c.args.lines.now in
    let line = c.line-item.result in
    let k = c.loop-line.line-index in
    let target = c.in_ok-target.target in
    let new = whole_of c.translate_line.new.model.book in
    let less : k < length lines = omega (arith, c.loop-line-test.true, c.loop-line.auto.line-index-end) in
    let next : drop k lines ≡ line ∷ drop (k + 1) lines = drop_more lines k line less ∙ ap (λ (x : List ℕ). x ∷ drop (k + 1) lines) (sym c.line-item.is) in
    subst (λ (n : NotationState). HasTranslated n.locale n.language old lines c.from_residual-in_err-translate_line.result new) c.in_ok-target.ensures.named
    (at_error target.locale target.language old lines c.from_residual-in_err-translate_line.result errors.OutOfMemory new c.from_residual-in_err-translate_line.ensures
    (memory_here target.locale target.language old lines k (whole_of c.loop-line.model.book) c.loop-line.translated.items c.loop-line.invariant.so_far line next less new c.in_err-translate_line.ensures.err))

pub returns-in_err-push-in-Becomes-clause-translated : goal.returns-in_err-push-in-Becomes-clause-translated
returns-in_err-push-in-Becomes-clause-translated c =
    let old = whole_of c.args.model.now.book in
    let lines = c.args.lines.now in
    let line = c.line-item.result in
    let k = c.loop-line.line-index in
    let target = c.in_ok-target.target in
    let book = whole_of c.loop-line.model.book in
    let new = whole_of c.translate_line.new.model.book in
    let less : k < length lines = omega (arith, c.loop-line-test.true, c.loop-line.auto.line-index-end) in
    let next : drop k lines ≡ line ∷ drop (k + 1) lines = drop_more lines k line less ∙ ap (λ (x : List ℕ). x ∷ drop (k + 1) lines) (sym c.line-item.is) in
    let turn = subst (IsTurn target.locale target.language book line new) c.in-Becomes.is c.in_ok-translate_line.ensures.turn in
    subst (λ (n : NotationState). HasTranslated n.locale n.language old lines c.from_residual-in_err-push-in-Becomes.result new) c.in_ok-target.ensures.named
    (at_error target.locale target.language old lines c.from_residual-in_err-push-in-Becomes.result errors.OutOfMemory new c.from_residual-in_err-push-in-Becomes.ensures
    (memory_here target.locale target.language old lines k book c.loop-line.translated.items c.loop-line.invariant.so_far line next less new (inr turn.1)))

pub loop-line-preserved : goal.loop-line-preserved
loop-line-preserved c =
    let old = whole_of c.args.model.now.book in
    let lines = c.args.lines.now in
    let line = c.line-item.result in
    let k = c.loop-line.line-index in
    let target = c.in_ok-target.target in
    let book = whole_of c.loop-line.model.book in
    let new = whole_of c.translate_line.new.model.book in
    let less : k < length lines = omega (arith, c.loop-line-test.true, c.loop-line.auto.line-index-end) in
    let next : drop k lines ≡ line ∷ drop (k + 1) lines = drop_more lines k line less ∙ ap (λ (x : List ℕ). x ∷ drop (k + 1) lines) (sym c.line-item.is) in
    let so_far : IsSoFar target.locale target.language old lines (k + 1) new c.match-branch-3.translated.items =
    elim c.match-branch-3.branch [
      | in-Goes w ↦ (let turn = subst (IsTurn target.locale target.language book line new) w.in-Goes.is c.in_ok-translate_line.ensures.turn in
          subst (λ v. IsSoFar target.locale target.language old lines (k + 1) new v.items) (sym w.translated-is)
          (goes_next target.locale target.language old lines k book c.loop-line.translated.items c.loop-line.invariant.so_far line next new turn))
      | in-Becomes+in_ok-push-in-Becomes w ↦ (let turn = subst (IsTurn target.locale target.language book line new) w.in-Becomes.is c.in_ok-translate_line.ensures.turn in
          subst (IsSoFar target.locale target.language old lines (k + 1) new) (sym (ap (λ v. v.items) w.translated-is ∙ w.in_ok-push-in-Becomes.ensures.items))
          (becomes_next target.locale target.language old lines k book c.loop-line.translated.items c.loop-line.invariant.so_far line next new w.in-Becomes.new turn))
    ] in
    record { so_far = so_far; number = ap (λ (n : ℕ). n + 1) c.loop-line.invariant.number }

pub returns-clause-translated : goal.returns-clause-translated
returns-clause-translated c =
    let old = whole_of c.args.model.now.book in
    let lines = c.args.lines.now in
    let target = c.in_ok-target.target in
    let book = whole_of c.loop-line.model.book in
    let all : c.loop-line.line-index ≡ length lines = omega (arith, c.loop-line-test.false, c.loop-line.auto.line-index-end) in
    subst (λ (n : NotationState). IsTranslation n.locale n.language old lines (Ok c.loop-line.translated.items) book) c.in_ok-target.ensures.named
    (all_done target.locale target.language old lines c.loop-line.line-index book c.loop-line.translated.items c.loop-line.invariant.so_far all)

pub returns-clause-accepted : goal.returns-clause-accepted
returns-clause-accepted c =
    let old = whole_of c.args.model.now.book in
    accepted_beside (chars c.args.locale_id.now) (chars c.args.language_id.now) old (whole_of c.loop-line.model.book) c.args.lines.now c.loop-line.translated.items c.in_ok-target.ensures.valid.whole c.in_ok-target.ensures.unknown (returns-clause-translated c)
