use Rattle.std.proofs.Common.{◌+◌, ℕ, List, refl, subst}
use Rattle.ic_cells.specs.Listed.{IsPlaced}
use Rattle.ic_workbooks.proofs.NumberedLemmas.{numbered_end, numbered_next, numbered_start}
use Rattle.ic_workbooks.proofs.numbered.number_texts.Goals as goal

pub loop-text-init : goal.loop-text-init
loop-text-init c = numbered_start c.args.texts.now _ _ c.new-numbers.ensures.items

pub loop-text-preserved : goal.loop-text-preserved
loop-text-preserved c =
    let placed = subst (λ (text : List ℕ). IsPlaced text c.in_ok-number.number c.loop-text.strings c.index_of_or_create.new.self) c.as_str.ensures.characters c.in_ok-number.ensures.placed in
    numbered_next c.args.texts.now c.loop-text.text-index (c.loop-text.text-index + 1) c.text-item.result refl c.loop-text-test.true c.text-item.is c.loop-text.numbers.items c.push.new.self.items c.loop-text.strings c.index_of_or_create.new.self
    c.in_ok-number.number c.loop-text.invariant placed c.in_ok-push.ensures.items

pub returns : goal.returns
returns c = numbered_end c.args.texts.now c.loop-text.text-index c.loop-text.numbers.items c.loop-text.strings c.loop-text.invariant c.loop-text-test.false
