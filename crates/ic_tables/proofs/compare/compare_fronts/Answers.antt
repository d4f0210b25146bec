use Rattle.std.proofs.Common.{◌<◌, nat_cmp, get_or, length, ap, subst, sym, ◌∙◌}
use Rattle.ic_tables.proofs.CompareLemmas.{bytes_differ, some_there}
use Rattle.ic_tables.proofs.compare.compare_fronts.Goals as goal

pub returns-then-is_other_byte : goal.returns-then-is_other_byte
returns-then-is_other_byte c =
    let is_text = c.as_bytes-bytes.ensures.value in
    let is_folded = c.as_bytes-others.ensures.value in
    c.cmp.ensures ∙ ap (λ l. nat_cmp l (get_or c.as_bytes-others.result.now 0 0)) c.to_ascii_lowercase.ensures.value
    ∙ bytes_differ c.args.text.now c.args.folded.now _ _ c.utf8.text c.utf8.folded
    (subst (λ l. 0 < length l) is_text (some_there _ c.if-not-is_empty.ensures)) (subst (λ l. 0 < length l) is_folded (some_there _ c.if-not-is_empty-2.ensures))
    (ap (λ l. get_or l 0 0) is_text) (ap (λ l. get_or l 0 0) is_folded)
    (sym c.is_other_byte.ensures ∙ c.if-is_other_byte.true)
