use Rattle.std.proofs.Common.{◌+◌, ◌-◌, drop, take, sym, subst, ap, ◌∙◌}
use Rattle.std.proofs.lemmas.List.{take_rest}
use Rattle.ic_lines.specs.Reading.{IsFirstLineFeed, first_line, has_line_feed, without_return}
use Rattle.ic_lines.proofs.HeldLemmas.{first_is, first_none, held_first, held_none}
use Rattle.ic_lines.proofs.reader.LineReader.line_bytes.Goals as goal

pub returns-in-Some : goal.returns-in-Some
returns-in-Some c =
    let r = c.self.inside in
    let i = c.self.invariant in
    let tail = take_rest c.deref.result.now r.scanned ∙ ap (drop r.scanned) c.deref.ensures.value in
    let found : IsFirstLineFeed (drop r.scanned r.bytes.items) c.in-Some.place = subst (λ v. IsFirstLineFeed v c.in-Some.place) tail c.in-Some.ensures in
    let first = held_first r.bytes.items r.start r.scanned i.0 i.3 c.in-Some.place found in
    let e = c.cut_return.ensures ∙ ap (λ v. without_return (take (r.scanned + c.in-Some.place - r.start) (drop r.start v))) c.deref-in-Some.ensures.value in
    e ∙ sym (first_is (drop r.start r.bytes.items) (r.scanned + c.in-Some.place - r.start) first) ∙ ap (λ s. first_line s.held) c.self.view_is

pub returns-in-None : goal.returns-in-None
returns-in-None c =
    let r = c.self.inside in
    let i = c.self.invariant in
    let tail = take_rest c.deref.result.now r.scanned ∙ ap (drop r.scanned) c.deref.ensures.value in
    let none = held_none r.bytes.items r.start r.scanned i.0 i.3 (ap has_line_feed (sym tail) ∙ c.in-None.ensures) in
    take_rest c.deref-in-None.result.now r.start ∙ ap (drop r.start) c.deref-in-None.ensures.value
    ∙ sym (first_none (drop r.start r.bytes.items) none) ∙ ap (λ s. first_line s.held) c.self.view_is
