-- Runs of characters at the front of a text whose ASCII characters are told by their bytes.
use Rattle.std.proofs.Common.{◌≡◌, ◌∙◌, ◌++◌, ◌∷◌, ℕ, List, Bool, true, ◌<◌, ◌+◌, ap, sym, chars, drop, get_or, length, refl, IsUtf8}
use Rattle.std.proofs.lemmas.List.{drop_more}
use Rattle.std.proofs.lemmas.Str.{IsCharBoundary-after_ascii, IsUtf8-drop, chars_past_char, encode_ascii}
use Rattle.std.specs.Str.{IsCharBoundary}
use Rattle.ic_laws.specs.Scan.{past_run}

-- a text that is cut before an ASCII character can be cut after it, and its run goes on where the character is of it
pub run_goes_on : (p : ℕ → Bool) (bytes : List ℕ) (at : ℕ) → IsUtf8 bytes → IsCharBoundary bytes at → at < length bytes → get_or bytes at 0 < 128 → p (get_or bytes at 0) ≡ true
    → IsCharBoundary bytes (at + 1) × (past_run p (chars (drop (at + 1) bytes)) ≡ past_run p (chars (drop at bytes)))
run_goes_on p bytes at utf8 cut within ascii is =
    let b : ℕ = get_or bytes at 0 in
    let more : drop at bytes ≡ b ∷ drop (at + 1) bytes = drop_more bytes at 0 within in
    let spelled = more ∙ ap (λ front. front ++ drop (at + 1) bytes) (sym (encode_ascii b ascii)) in
    let first : chars (drop at bytes) ≡ b ∷ chars (drop (at + 1) bytes) = chars_past_char (drop at bytes) (drop (at + 1) bytes) b (IsUtf8-drop bytes at utf8 cut) spelled in
    (IsCharBoundary-after_ascii bytes at utf8 within ascii, sym (ap (past_run p) first ∙ rw is refl))
