use Rattle.std.proofs.Common.{◌≡◌, ◌+◌, ◌≤◌, length, true, false, [], refl, sym, ap, subst, ◌∙◌, inl, inr, arith}
use Rattle.ic_lines.specs.Reading.{SeesEnd, budget, has_line_feed, Reading, TakesRead, unread}
use Rattle.ic_lines.proofs.LineLemmas.{no_line_feed-Contains}
use Rattle.ic_lines.proofs.TakeLemmas.{SeesEnd-join, SeesEnd-start, TakesLine-start, TakesLine-step}
use Rattle.ic_lines.proofs.ToldLemmas.{IfTold-join, IfTold-same}
use Rattle.ic_lines.proofs.reader.LineReader.find_line.Goals as goal

pub reads-init : goal.reads-init
reads-init g c = record {
  kept = IfTold-same _ (λ x y. unread c.args.self.now y ≡ unread c.args.self.now x) (λ x. refl);
  ends = λ unseen. IfTold-same _ (λ x y. c.args.self.now.ended ≡ true → y ≡ []) (λ x ended. let e = sym unseen ∙ ended in absurd (cc));
  turns = IfTold-same _ (λ x y. c.args.self.now.turns + length y ≤ c.args.self.now.turns + length x) (λ x. omega arith);
  quiet = refl;
  taken = TakesLine-start c.args.self.now _;
  shown = SeesEnd-start c.args.self.now.ended _;
  room = omega arith;
  unasked = λ asked. (refl, refl);
}

pub returns-in_err-fill-clause-taken : goal.returns-in_err-fill-clause-taken
returns-in_err-fill-clause-taken g c =
    let old = c.reads.self in
    let same : c.line_feed.new.self ≡ old = c.line_feed.ensures.same in
    let still : old.ended ≡ false = sym (ap (λ (r : Reading). r.ended) (c.self.view_is ∙ same)) ∙ c.if-self.false in
    TakesLine-step c.args.self.now old c.fill.new.self _ _ _ c.reads.invariant.taken c.in_default.ensures.found still
    (subst (λ r. TakesRead r c.fill.new.self (g.S.Source.left c.reads.source) (g.S.Source.left c.fill.new.source)) same c.fill.ensures.taken)

pub reads-preserved : goal.reads-preserved
reads-preserved g c =
    let first = c.args.self.now in
    let old = c.reads.self in
    let new = c.fill.new.self in
    let i = c.reads.invariant in
    let same : c.line_feed.new.self ≡ old = c.line_feed.ensures.same in
    let turns_same : c.line_feed.new.self.turns ≡ old.turns = ap (λ (r : Reading). r.turns) same in
    let more = c.in_ok-fill.ensures in
    let open_still : old.ended ≡ false = sym (ap (λ (r : Reading). r.ended) (c.self.view_is ∙ same)) ∙ c.if-self.false in
    record {
      kept = IfTold-join _ _ _ (λ before now. unread old now ≡ unread first before) (λ before now. unread new now ≡ unread c.line_feed.new.self before) (λ before now. unread new now ≡ unread first before)
          (λ x y z p q. q ∙ ap (λ r. unread r y) same ∙ p) i.kept more.kept;
      ends = λ unseen. IfTold-join _ _ _ (λ before now. old.ended ≡ true → now ≡ []) (λ before now. new.ended ≡ true → now ≡ []) (λ before now. new.ended ≡ true → now ≡ [])
          (λ x y z p q. q) (i.ends unseen) more.ends;
      turns = IfTold-join _ _ _ (λ before now. old.turns + length now ≤ first.turns + length before) (λ before now. new.turns + length now ≤ c.line_feed.new.self.turns + length before) (λ before now. new.turns + length now ≤ first.turns + length before)
          (λ x y z p q. omega (arith, p, q, turns_same)) i.turns more.turns;
      quiet = more.quiet ∙ i.quiet;
      taken = TakesLine-step first old new _ _ _ i.taken c.in_default.ensures.found open_still (subst (λ r. TakesRead r new (g.S.Source.left c.reads.source) (g.S.Source.left c.fill.new.source)) same more.taken);
      shown = SeesEnd-join _ _ _ _ _ _ i.shown (subst (λ (r : Reading). SeesEnd r.ended new.ended (g.S.Source.ended c.reads.source) (g.S.Source.ended c.fill.new.source)) same more.shown);
      room = omega (arith, i.room, more.room, ap budget same);
      unasked = λ asked.
          let s = i.unasked asked in
          let none : has_line_feed old.held ≡ false = c.in_default.ensures.found in
          elim asked [
            | inl has ↦ absurd (no_line_feed-Contains first.held has (subst (λ r. has_line_feed r.held ≡ false) s.0 none))
            | inr ended ↦ let e = sym (ap (λ (r : Reading). r.ended) s.0 ∙ ended) ∙ open_still in absurd (cc)
          ];
    }
