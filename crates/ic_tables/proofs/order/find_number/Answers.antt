use Rattle.std.proofs.Common.{sym, ap, ◌∙◌}
use Rattle.std.specs.Cmp.Lexicographic.{slice_cmp}
use Rattle.std.specs.Ordering.{nat_cmp}
use Rattle.ic_tables.proofs.OrderLemmas.{found_other, found_past}
use Rattle.ic_tables.proofs.order.find_number.Goals as goal

pub returns-in_default : goal.returns-in_default
returns-in_default c = sym (found_past _ _ c.place_of-place.result c.place_of-place.ensures.before c.in_default.ensures.lookup.3)

pub returns-in_default-compare_folded : goal.returns-in_default-compare_folded
returns-in_default-compare_folded c =
    let found = c.in-Some.ensures.lookup in
    sym (found_other _ _ c.place_of-place.result c.in-Some.entry.now c.compare_folded.result c.requires c.place_of-place.ensures.before c.place_of-place.ensures.after
    found.3.0 found.1 (c.compare_folded.ensures ∙ ap (slice_cmp nat_cmp _) c.as_str.ensures.characters) c.in_default-compare_folded.not-Equal)
