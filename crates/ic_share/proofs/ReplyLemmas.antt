-- A reply without a refusal is told from others by its first byte.
use Rattle.std.proofs.Common.{◌≡◌, ℕ, List, [], ◌∷◌, ◌++◌, ◌==◌, Bool, true, false, Ok, Err, encode_utf8_all, flat_map, refl, ap, sym, ◌∙◌}
use lib.Utf8.{encode}
use Rattle.std.specs.Str.{IsUtf8, chars}
use Rattle.std.proofs.lemmas.Str.{chars-append}
use Rattle.ic_machine.specs.Refusal.{refusal_name}
use Rattle.ic_machine.specs.Reply.{Reply, field_word, reply_bytes}
use Rattle.ic_run.specs.Counts.{begins_with_o}
use Rattle.ic_run.specs.Make.{is_ok}

first_is : (c : ℕ) (bytes : List ℕ) → IsUtf8 (c ∷ []) → chars (c ∷ []) ≡ c ∷ [] → begins_with_o (chars (c ∷ bytes)) ≡ (c == 111)
first_is c bytes u e = ap begins_with_o (chars-append (c ∷ []) bytes u ∙ ap (λ cs. cs ++ chars bytes) e)

o_utf8 : IsUtf8 (111 ∷ [])
unfolding encode
o_utf8 = (111 ∷ [], (refl, refl))

o_chars : chars (111 ∷ []) ≡ 111 ∷ []
unfolding chars
o_chars = refl

e_utf8 : IsUtf8 (101 ∷ [])
unfolding encode
e_utf8 = (101 ∷ [], (refl, refl))

e_chars : chars (101 ∷ []) ≡ 101 ∷ []
unfolding chars
e_chars = refl

with_o : (cs more : List ℕ) → begins_with_o (chars (encode_utf8_all (111 ∷ cs) ++ more)) ≡ true
unfolding encode
with_o cs more = first_is 111 (encode_utf8_all cs ++ more) o_utf8 o_chars

with_e : (cs more : List ℕ) → begins_with_o (chars (encode_utf8_all (101 ∷ cs) ++ more)) ≡ false
unfolding encode
with_e cs more = first_is 101 (encode_utf8_all cs ++ more) e_utf8 e_chars

pub begins_ok : (reply : Reply) → begins_with_o (chars (reply_bytes reply)) ≡ is_ok reply
begins_ok (Ok fields) = with_o (107 ∷ flat_map field_word fields) (10 ∷ [])
begins_ok (Err refusal) = with_e (114 ∷ 114 ∷ 111 ∷ 114 ∷ 9 ∷ refusal_name refusal) (10 ∷ [])

-- so a test of its bytes tells whether it is one
pub told_ok : (bytes text : List ℕ) (reply : Reply) (is t : Bool) → is ≡ begins_with_o (chars text) → text ≡ bytes → bytes ≡ reply_bytes reply → is ≡ t → is_ok reply ≡ t
told_ok bytes text reply is t tells same told e = sym (begins_ok reply) ∙ sym (ap (λ b. begins_with_o (chars b)) (same ∙ told)) ∙ sym tells ∙ e
