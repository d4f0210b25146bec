use Rattle.std.proofs.Common.{◌≡◌, ◌-◌, ◌+◌, take, drop, false, sym, subst, ap, ◌∙◌, length-drop, arith}
use Rattle.std.proofs.lemmas.List.{take_rest}
use Rattle.ic_lines.specs.Reading.{has_line_feed, IsFirstLineFeed}
use Rattle.ic_lines.proofs.HeldLemmas.{held_first, held_none}
use Rattle.ic_lines.proofs.reader.LineReader.line_feed.Goals as goal

pub invariant_of-self : goal.invariant_of-self
invariant_of-self c =
    let r = c.self.inside in
    let i = c.self.invariant in
    let tail = take_rest c.deref.result.now r.scanned ∙ ap (drop r.scanned) c.deref.ensures.value in
    let found : IsFirstLineFeed (drop r.scanned r.bytes.items) c.in-Some.place = subst (λ v. IsFirstLineFeed v c.in-Some.place) tail c.in-Some.ensures in
    let first = held_first r.bytes.items r.start r.scanned i.0 i.3 c.in-Some.place found in
    (omega (arith, i.0), omega (arith, found.within, length-drop r.scanned r.bytes.items, r.bytes.ok.0, i.1), i.2, first.first)

pub invariant_of-self-in-None : goal.invariant_of-self-in-None
invariant_of-self-in-None c =
    let r = c.self.inside in
    let i = c.self.invariant in
    let tail = take_rest c.deref.result.now r.scanned ∙ ap (drop r.scanned) c.deref.ensures.value in
    let none = held_none r.bytes.items r.start r.scanned i.0 i.3 (ap has_line_feed (sym tail) ∙ c.in-None.ensures) in
    let len = c.len-self-inside.ensures ∙ r.bytes.ok.0 in (
      omega (arith, i.0, i.1, c.len-self-inside.ensures),
      omega (arith, c.len-self-inside.ensures),
      i.2,
      ap (λ n. has_line_feed (take (n - r.start) (drop r.start r.bytes.items))) len ∙ ap has_line_feed (take_rest r.bytes.items r.start) ∙ none,
    )

pub returns-in-Some-clause-found : goal.returns-in-Some-clause-found
returns-in-Some-clause-found c =
    let r = c.self.inside in
    let i = c.self.invariant in
    let tail = take_rest c.deref.result.now r.scanned ∙ ap (drop r.scanned) c.deref.ensures.value in
    let found : IsFirstLineFeed (drop r.scanned r.bytes.items) c.in-Some.place = subst (λ v. IsFirstLineFeed v c.in-Some.place) tail c.in-Some.ensures in
    subst (λ s. IsFirstLineFeed s.held (r.scanned + c.in-Some.place - r.start)) c.self.view_is (held_first r.bytes.items r.start r.scanned i.0 i.3 c.in-Some.place found)

pub returns-in-None-clause-found : goal.returns-in-None-clause-found
returns-in-None-clause-found c =
    let r = c.self.inside in
    let i = c.self.invariant in
    let tail = take_rest c.deref.result.now r.scanned ∙ ap (drop r.scanned) c.deref.ensures.value in
    subst (λ s. has_line_feed s.held ≡ false) c.self.view_is (held_none r.bytes.items r.start r.scanned i.0 i.3 (ap has_line_feed (sym tail) ∙ c.in-None.ensures))
