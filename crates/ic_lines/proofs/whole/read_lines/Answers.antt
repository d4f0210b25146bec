use Rattle.std.proofs.Common.{◌≡◌, ◌+◌, ◌++◌, ◌≤◌, [], true, false, length, refl, sym, subst, ap, ◌∙◌, inr, arith}
use Rattle.ic_laws.specs.Lines.{texts_of}
use Rattle.ic_lines.specs.Bytes.{IfTold, TakesFirst}
use Rattle.ic_lines.specs.Reading.{GivesLine, Reading, SeesEnd, unread}
use Rattle.ic_lines.proofs.TakeLemmas.{SeesEnd-join, SeesEnd-start}
use Rattle.ic_lines.proofs.ToldLemmas.{IfTold-same}
use Rattle.ic_lines.proofs.WholeLemmas.{ends_more, fresh, front_more, given_all, given_if_err, given_more, turns_more}
use Rattle.ic_lines.proofs.whole.read_lines.Goals as goal

pub lines-init : goal.lines-init
lines-init g c =
    let r = c.new-reader.result in
    let is : fresh ≡ r = sym c.new-reader.ensures in
    record {
      given = IfTold-same _ (λ x y. texts_of x ≡ c.new-lines.result.items ++ texts_of (unread r y))
          (λ x. ap (λ v. texts_of (unread v x)) is ∙ sym (ap (λ v. v ++ texts_of (unread r x)) c.new-lines.ensures.items));
      front = IfTold-same _ TakesFirst (λ x. ([], refl));
      ends = IfTold-same _ (λ x y. r.ended ≡ true → y ≡ []) (λ x ended. let e : false ≡ true = ap (λ (v : Reading). v.ended) is ∙ ended in absurd (cc));
      turns = IfTold-same _ (λ x y. r.turns + length y ≤ length x) (λ x. let e : 0 ≡ r.turns = ap (λ (v : Reading). v.turns) is in omega (arith, e));
      shown = subst (λ (v : Reading). SeesEnd false v.ended (g.S.Source.ended c.args.source.now) (g.S.Source.ended c.args.source.now)) is (SeesEnd-start false _);
      quiet = refl;
    }

pub lines-preserved : goal.lines-preserved
lines-preserved g c =
    let left = g.S.Source.left in
    let before = c.lines.reader in
    let after = c.next_line.new.self in
    let line = c.in-Some.line in
    let i = c.lines.invariant in
    let e = c.in_ok-line.ensures in
    record {
      given = given_more c.lines.lines.items c.push_line.new.lines.items line before after _ _ _ c.in_ok-push_line.ensures i.given
          (subst (λ o. IfTold (left c.lines.source) (left c.next_line.new.source) (λ a b. GivesLine o (unread before a) (unread after b))) c.in-Some.is e.line);
      front = front_more before e.taken.0 _ _ _ i.front e.taken.1;
      ends = ends_more left c.args.source.now c.lines.source c.next_line.new.source before after i.ends e.ends (λ ended. e.unasked (inr ended));
      turns = turns_more before.turns after.turns _ _ _ i.turns e.turns;
      shown = SeesEnd-join _ _ _ _ _ _ i.shown e.shown;
      quiet = e.quiet ∙ i.quiet;
    }

pub returns-clause-all : goal.returns-clause-all
returns-clause-all g c =
    let left = g.S.Source.left in
    let before = c.lines.reader in
    let after = c.next_line.new.self in
    let i = c.lines.invariant in
    let e = c.in_ok-line.ensures in
    given_all c.lines.lines.items before after _ _ _ (e.end c.in_default.is) i.given
    (subst (λ o. IfTold (left c.lines.source) (left c.next_line.new.source) (λ a b. GivesLine o (unread before a) (unread after b))) c.in_default.is e.line)
    (ends_more left c.args.source.now c.lines.source c.next_line.new.source before after i.ends e.ends (λ ended. e.unasked (inr ended)))

pub returns-in_err-line-clause-front : goal.returns-in_err-line-clause-front
returns-in_err-line-clause-front g c =
    let left = g.S.Source.left in
    let t = c.in_err-line.ensures.taken in
    given_if_err c.from_residual.result (IfTold (left c.args.source.now) (left c.next_line.new.source) TakesFirst)
    (front_more c.lines.reader t.0 _ _ _ c.lines.invariant.front t.1)

pub returns-in_err-push_line-clause-front : goal.returns-in_err-push_line-clause-front
returns-in_err-push_line-clause-front g c =
    let left = g.S.Source.left in
    let t = c.in_ok-line.ensures.taken in
    given_if_err c.from_residual-in_err-push_line.result (IfTold (left c.args.source.now) (left c.next_line.new.source) TakesFirst)
    (front_more c.lines.reader t.0 _ _ _ c.lines.invariant.front t.1)
