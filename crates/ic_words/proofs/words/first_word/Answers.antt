use Rattle.std.proofs.Common.{◌≡◌, ◌∷◌, ◌-◌, chars, take, Some, None, ap, arith, subst, sym, ◌∙◌}
use Rattle.ic_laws.specs.Lines.{words_of}
use Rattle.memchr.specs.Find.{IsFirstByte, is_byte}
use Rattle.ic_words.proofs.WordLemmas.{after_tab, lone_word, word_before}
use Rattle.ic_words.proofs.words.first_word.Goals as goal

pub range_from-requires : goal.range_from-requires
range_from-requires c some =
    after_tab c.args.line.now c.in-Some.tab c.utf8.line (subst (λ bytes. IsFirstByte (is_byte 9) bytes (Some c.in-Some.tab)) c.as_bytes.ensures.value c.in-Some.ensures)

pub returns-in-Some : goal.returns-in-Some
returns-in-Some c =
    let found = subst (λ bytes. IsFirstByte (is_byte 9) bytes (Some c.in-Some.tab)) c.as_bytes.ensures.value c.in-Some.ensures in
    let all : c.in-Some.tab - 0 ≡ c.in-Some.tab = omega arith in
    word_before c.args.line.now c.in-Some.tab c.utf8.line found
    ∙ ap (λ b. chars (take c.in-Some.tab c.args.line.now) ∷ words_of (chars b)) (sym c.range_from.ensures.value)
    ∙ ap (λ n. chars (take n c.args.line.now) ∷ words_of (chars c.range_from.result.now)) (sym all)
    ∙ ap (λ w. chars w ∷ words_of (chars c.range_from.result.now)) (sym c.range.ensures.value)

pub returns-in-None : goal.returns-in-None
returns-in-None c =
    lone_word c.args.line.now c.utf8.line (subst (λ bytes. IsFirstByte (is_byte 9) bytes None) c.as_bytes.ensures.value c.in-None.ensures)
