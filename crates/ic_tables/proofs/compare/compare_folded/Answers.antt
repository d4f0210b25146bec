use Rattle.std.proofs.Common.{◌∙◌, ◌<◌, get_or, length, refl, ap, subst, sym}
use Rattle.std.proofs.lemmas.Str.{IsCharBoundary-start}
use Rattle.ic_tables.proofs.CompareLemmas.{bytes_go_on}
use Rattle.ic_tables.proofs.compare.compare_folded.Goals as goal

pub loop-at-init : goal.loop-at-init
loop-at-init c = (IsCharBoundary-start c.args.text.now c.utf8.text, IsCharBoundary-start c.args.folded.now c.utf8.folded, refl)

pub loop-at-preserved : goal.loop-at-preserved
loop-at-preserved c =
    let at = c.loop-at.at in
    let is_text = c.as_bytes-bytes.ensures.value in
    let is_folded = c.as_bytes-others.ensures.value in
    let before = c.loop-at.invariant in
    let after = bytes_go_on c.args.text.now c.args.folded.now at _ _ c.utf8.text c.utf8.folded before.0 before.1
    (subst (λ l. at < length l) is_text c.loop-at-test.true) (subst (λ l. at < length l) is_folded c.if-at-others.true)
    (ap (λ l. get_or l at 0) is_text) (ap (λ l. get_or l at 0) is_folded)
    (sym c.is_folding_byte.ensures ∙ c.if-is_folding_byte.true) in
    (after.0, after.1, after.2 ∙ before.2)
