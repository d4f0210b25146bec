use Rattle.std.proofs.Common.{◌==◌, ◌≡◌, ◌∙◌, ap, chars, false, nat_le, length, sym}
use Rattle.std.specs.List.{list_any}
use Rattle.std.proofs.lemmas.Bool.{leb-false, lt-leb, ltb-true, not-true}
use Rattle.ic_laws.specs.Scan.{is_word_character}
use Rattle.ic_laws.proofs.RunLemmas.{ends_with_rest}
use Rattle.ic_laws.proofs.tokens.Bytes.{bytes_order}
use Rattle.ic_tree.proofs.LocalFirst.{past_by_bytes, past_by_length}
use Rattle.ic_tree.proofs.lexer.locals.is_past_local.Goals as goal

pub returns-then-c-eq39 : goal.returns-then-c-eq39
returns-then-c-eq39 c told =
    let none : list_any (λ b. b == 33) c.args.rest.now ≡ false = ap (list_any (λ b. b == 33)) (sym c.as_bytes.ensures.value) ∙ sym c.contains.ensures.value ∙ not-true c.contains.result told in
    past_by_bytes (chars c.args.text.now) c.args.rest.now c.utf8.rest c.requires.ends (sym c.begins_word_character.ensures ∙ c.if-begins_word_character.false) none

pub returns-else-c-eq39 : goal.returns-else-c-eq39
returns-else-c-eq39 c told =
    let after_ends = ends_with_rest is_word_character (chars c.args.text.now) (chars c.args.after.now) c.requires.word in
    let fewer : nat_le (length (chars c.args.after.now)) (length (chars c.args.rest.now)) ≡ false =
    bytes_order (chars c.args.text.now) c.args.after.now c.args.rest.now c.utf8.after c.utf8.rest after_ends c.requires.ends
    ∙ lt-leb (length c.args.after.now) (length c.args.rest.now) (ltb-true (length c.args.rest.now) (length c.args.after.now) told) in
    past_by_length (chars c.args.text.now) c.requires.begins.0 (chars c.args.after.now) (chars c.args.rest.now) c.args.c c.requires.begins.1 c.if-c-eq39.false c.requires.word c.requires.ends
    (sym c.begins_word_character.ensures ∙ c.if-begins_word_character.false) (leb-false (length (chars c.args.after.now)) (length (chars c.args.rest.now)) fewer)
