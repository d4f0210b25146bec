use Rattle.std.proofs.Common.{◌≡◌, ◌<◌, ◌≤◌, ◌+◌, ◌++◌, [], take, length, vec_len, sym, ap, ◌∙◌, arith}
use Rattle.ic_lines.specs.Bytes.{TakesFront}
use Rattle.ic_lines.proofs.ReadLemmas.{take_after, TakesAfter-from_buffer}
use Rattle.ic_lines.proofs.ToldLemmas.{IfTold-weaker}
use Rattle.ic_lines.proofs.reader.read_more.Goals as goal

pub returns-clause-ok : goal.returns-clause-ok
returns-clause-ok g c =
    let held = c.len-held.result in
    let taken = c.in-Ok.taken in
    let old = c.args.bytes.now.items in
    let front : take held c.deref_mut.result.now ≡ old = ap (take held) c.deref_mut.ensures.value ∙ ap (λ n. take n c.make_room.new.bytes.items) c.len-held.ensures ∙ c.in_ok-make_room.ensures.front in
    let is_held : length (take held c.deref_mut.result.now) ≡ held = ap length front ∙ sym (c.len-held.ensures ∙ c.args.bytes.now.ok.0) in
    let fits : held + taken ≤ vec_len c.make_room.new.bytes = grind arith in
    TakesAfter-from_buffer old c.truncate-2.new.self.items c.read.new.buf taken (vec_len c.args.bytes.now) _ _ (sym c.args.bytes.now.ok.0)
    (c.truncate-2.ensures.items ∙ take_after (take held c.deref_mut.result.now) c.read.new.buf _ _ held taken _ is_held c.in-Ok.ensures.within fits ∙ ap (λ v. v ++ take taken c.read.new.buf) front)
    c.in-Ok.ensures.moved

pub returns-clause-end : goal.returns-clause-end
returns-clause-end g c = λ none.
    let some : 0 < length c.read.new.buf = grind arith in
    IfTold-weaker _ _ (TakesFront c.in-Ok.taken c.read.new.buf) (λ before now. before ≡ []) (λ before now t. t.end none some) c.in-Ok.ensures.moved
