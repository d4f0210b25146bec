use Rattle.std.proofs.Common.{◌≡◌, ◌∙◌, false, rules, subst, sym, true}
use Rattle.std.proofs.lemmas.List.Sorted.{IsNonDecreasingBy-from_sort_by_key}
use Rattle.ic_sheets.specs.Spots.{Rise}
use Rattle.ic_sheets.specs.declared.sheets.spots.Spot.{Spot}
use Rattle.ic_sheets.proofs.SortLemmas.{differ_before, found_after, rise_after}
use Rattle.ic_sheets.proofs.sheets.spots.Spots.of.Goals as goal

pub returns-then-not-do_rise : goal.returns-then-not-do_rise
returns-then-not-do_rise c = λ differ.
    let after = c.sort_unstable_by_key.new.self.items in
    let up = IsNonDecreasingBy-from_sort_by_key (λ (s : Spot). s.id) after c.sort_unstable_by_key.ensures.sorted (λ a r f' k. search rules) in
    let rise = rise_after c.args.list.items after c.sort_unstable_by_key.ensures.permutation up differ in
    let no : false ≡ true = sym c.if-not-do_rise.true ∙ c.do_rise.ensures.1 (subst (Rise 0) (sym c.deref.ensures.value) rise) in
    cc

pub returns : goal.returns
returns c =
    let after = c.sort_unstable_by_key.new.self.items in
    let moved = c.sort_unstable_by_key.ensures.permutation in
    let rise = subst (Rise 0) c.deref.ensures.value (c.do_rise.ensures.0 c.if-not-do_rise.false) in
    (differ_before c.args.list.items after moved rise, found_after c.args.list.items after moved rise)
