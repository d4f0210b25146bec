use Rattle.std.proofs.Common.{◌≡◌, ◌==◌, false, ap, chars, sym, ◌∙◌, Some, None, List, ℕ}
use Rattle.std.proofs.lemmas.Result.{IfOk-weaker}
use Rattle.ic_laws.specs.Scan.{first_is, is_word_character, past_run}
use Rattle.ic_laws.specs.Token.{Local, Token}
use Rattle.ic_tree.proofs.LocalFirst.{local_found_first, no_local_by_word}
use Rattle.ic_tree.proofs.lexer.locals.local_at.Goals as goal

pub past_bytes-requires : goal.past_bytes-requires
past_bytes-requires c =
    (local_found_first c.args.text.now (Some ((c.in-Ok-Some.sheet, c.in-Ok-Some.word), c.in-Ok-Some.size)) c.utf8.text (rw c.in-Ok-Some.field-0-is at c.in-Ok-Some.ensures.exact)).0

pub returns-in-Ok-Some : goal.returns-in-Ok-Some
returns-in-Ok-Some c =
    let has = local_found_first c.args.text.now (Some ((c.in-Ok-Some.sheet, c.in-Ok-Some.word), c.in-Ok-Some.size)) c.utf8.text (rw c.in-Ok-Some.field-0-is at c.in-Ok-Some.ensures.exact) in
    let all = ap (λ b. let f : Token × List ℕ = (Local c.in-Ok-Some.sheet c.in-Ok-Some.word, chars b) in Some f) c.past_bytes.ensures ∙ sym has.1 in
    IfOk-weaker c.local_with.result _ _ (λ r h. h ∙ all) c.local_with.ensures

pub returns-in-Ok-None : goal.returns-in-Ok-None
returns-in-Ok-None c = sym (local_found_first c.args.text.now None c.utf8.text (rw c.in-Ok-None.field-0-is at c.in-Ok-None.ensures.exact))

pub returns-then-not-begins_with : goal.returns-then-not-begins_with
returns-then-not-begins_with c =
    let text = chars c.args.text.now in
    let none : first_is (λ c. c == 33) (past_run is_word_character text) ≡ false =
    ap (first_is (λ c. c == 33)) (sym c.requires.word) ∙ sym c.begins_with.ensures ∙ c.if-not-begins_with.true in
    sym (no_local_by_word text c.requires.begins.0 c.args.c c.requires.begins.1 c.if-c-ne39.true none)
