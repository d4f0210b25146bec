use Rattle.std.proofs.Common.{◌≡◌, ℕ, ◌+◌, ◌-◌, List, ◌∷◌, arith, ap, sym, subst, ◌∙◌}
use Rattle.ic_parts.specs.Whole.{whole_of}
use Rattle.ic_machine.specs.Book.{Book}
use Rattle.ic_run.specs.Make.{made_command, made_from, made_lines}
use Rattle.ic_run.proofs.MakeLemmas.{IsHalfway, answered_next, made_next}
use Rattle.ic_run.proofs.make.replies_to_made.Goals as goal

pub loop-made-preserved : goal.loop-made-preserved
loop-made-preserved c =
    let count = c.args.making.now.count in
    let made = c.loop-made.made in
    let state = c.loop-made.generator.state in
    let start : Book = whole_of c.args.model.now.book in
    let book : Book = whole_of c.loop-made.model.book in
    let line = c.in_ok-line.line in
    let i : ℕ = made + 1 in
    let k : ℕ = count - i in
    let e : count - made ≡ k + 1 = omega (arith, c.loop-made-test.true) in
    let left : List (List ℕ) = made_from k (i + 1) (made_command i state).1 in
    let step : made_from (count - made) i state ≡ line ∷ left =
    made_next (count - made) k i state e ∙ ap (λ (l : List ℕ). l ∷ left) (sym c.in_ok-line.ensures.line) in
    let so_far : IsHalfway start (made_lines c.args.making.now) book (line ∷ left) c.loop-made.replies.items =
    subst (λ (ls : List (List ℕ)). IsHalfway start (made_lines c.args.making.now) book ls c.loop-made.replies.items) step c.loop-made.invariant in
    let next = answered_next start (made_lines c.args.making.now) book (whole_of c.answer_line.new.model.book) line left c.loop-made.replies.items c.push.new.self.items c.in_ok-answer_line.field-0 so_far
    c.in_ok-answer_line.ensures.whole.book c.in_ok-answer_line.ensures.told c.in_ok-push.ensures.items in
    subst (λ (s : ℕ). IsHalfway start (made_lines c.args.making.now) (whole_of c.answer_line.new.model.book) (made_from k (i + 1) s) c.push.new.self.items) (sym c.in_ok-line.ensures.state) next
