use Rattle.std.proofs.Common.{◌+◌, ◌-◌, ◌≡◌, List, ℕ, None, Some, ap, arith, chars, drop, subst, sym, take, ◌∙◌}
use Rattle.memchr.specs.Find.{IsFirstByte, is_byte}
use Rattle.ic_words.proofs.WordLemmas.{after_tab}
use Rattle.ic_share.proofs.LineLemmas.{cut_chars, uncut_chars}
use Rattle.ic_share.proofs.line.parts_of.Goals as goal

pub range_from-requires : goal.range_from-requires
range_from-requires c some =
    after_tab c.args.line.now c.in-Some.tab c.utf8.line (subst (λ bytes. IsFirstByte (is_byte 9) bytes (Some c.in-Some.tab)) c.as_bytes.ensures.value c.in-Some.ensures)

pub returns-in-Some : goal.returns-in-Some
returns-in-Some c =
    let found = subst (λ bytes. IsFirstByte (is_byte 9) bytes (Some c.in-Some.tab)) c.as_bytes.ensures.value c.in-Some.ensures in
    let all : c.in-Some.tab - 0 ≡ c.in-Some.tab = omega arith in
    ap (λ (b : List ℕ). Some (chars c.range.result.now, chars b)) c.range_from.ensures.value
    ∙ ap (λ (b : List ℕ). Some (chars b, chars (drop (c.in-Some.tab + 1) c.args.line.now))) (c.range.ensures.value ∙ ap (λ n. take n c.args.line.now) all)
    ∙ sym (cut_chars c.args.line.now c.in-Some.tab c.utf8.line found)

pub returns-in-None : goal.returns-in-None
returns-in-None c =
    sym (uncut_chars c.args.line.now c.utf8.line (subst (λ bytes. IsFirstByte (is_byte 9) bytes None) c.as_bytes.ensures.value c.in-None.ensures))
