use Rattle.std.proofs.Common.{◌≡◌, ◌+◌, ◌-◌, ◌≤◌, List, ℕ, drop, length, sym, subst, ap, ◌∙◌, arith}
use Rattle.std.proofs.lemmas.List.{drop-drop, drop_all, take_rest}
use Rattle.ic_lines.specs.Reading.{IsFirstLineFeed, Reading, after_line_feed, has_line_feed, passed}
use Rattle.ic_lines.proofs.HeldLemmas.{after_is, after_none, held_first, held_none}
use Rattle.ic_lines.proofs.reader.LineReader.pass.Goals as goal
use Rattle.ic_lines.proofs.reader.LineReader.pass.Goals.{in-Some, in-None}

pub returns : goal.returns
returns c =
    let r = c.self.inside in
    let i = c.self.invariant in
    let tail = take_rest c.deref.result.now r.scanned ∙ ap (drop r.scanned) c.deref.ensures.value in
    let made : (n : ℕ) → drop n r.bytes.items ≡ after_line_feed (drop r.start r.bytes.items) → (let now : Reading = record { held = drop n r.bytes.items; ended = r.ended; turns = r.turns } in now) ≡ passed c.args.self.now =
    λ n e. ap (λ (l : List ℕ). let now : Reading = record { held = l; ended = r.ended; turns = r.turns } in now) e ∙ ap passed c.self.view_is in
    elim c.match-first_line_feed.branch [
      | in-Some w ↦
          let found : IsFirstLineFeed (drop r.scanned r.bytes.items) w.in-Some.place = subst (λ v. IsFirstLineFeed v w.in-Some.place) tail w.in-Some.ensures in
          let first = held_first r.bytes.items r.start r.scanned i.0 i.3 w.in-Some.place found in
          let n = r.scanned + w.in-Some.place - r.start in
          let m : r.start + (n + 1) ≡ r.scanned + w.in-Some.place + 1 = omega (arith, i.0) in
          made _ (ap (λ k. drop k r.bytes.items) (w.self-is ∙ sym m) ∙ sym (drop-drop (n + 1) r.start r.bytes.items) ∙ sym (after_is (drop r.start r.bytes.items) n first))
      | in-None w ↦
          let none = held_none r.bytes.items r.start r.scanned i.0 i.3 (ap has_line_feed (sym tail) ∙ w.in-None.ensures) in
          let over : length r.bytes.items ≤ c.match-first_line_feed.self = omega (arith, w.self-is, w.len-self-inside.ensures, r.bytes.ok.0) in
          made _ (drop_all c.match-first_line_feed.self r.bytes.items over ∙ sym (after_none (drop r.start r.bytes.items) none))
    ]
