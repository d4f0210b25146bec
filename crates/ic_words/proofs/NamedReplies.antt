-- The bytes of a reply that tells the name and the index of a sheet.
use Rattle.std.proofs.Common.{◌≡◌, ℕ, List, [], ◌∷◌, ◌++◌, Some, IsUtf8, Ok, append_assoc, append-nil, chars, codes, encode_utf8_all, refl, ap, sym, ◌∙◌, arith}
use lib.Utf8.{encode}
use Rattle.std.specs.Fmt.{decimal}
use Rattle.std.proofs.lemmas.Str.{encodes-IsAscii, encodes-append, scalars-chars}
use Rattle.std.proofs.lemmas.Str.Ascii.{IsAscii-cons}
use Rattle.ic_laws.specs.Character.{tab}
use Rattle.ic_laws.specs.Lines.{escaped}
use Rattle.ic_machine.specs.Reply.{NumberField, field_word, reply_bytes, reply_text}
use Rattle.ic_machine.specs.subjects.Sheets.{named_fields}
use Rattle.ic_words.specs.Reply.{IsLineText}
use Rattle.ic_words.proofs.ReplyLemmas.{IsAscii-digits, fields_line, number_characters, number_word}

-- the bytes of the index, the last field
index_bytes : (index : ℕ) → encode_utf8_all (field_word (NumberField (Some index)) ++ []) ≡ tab ∷ decimal index
index_bytes index =
    ap encode_utf8_all (append-nil (field_word (NumberField (Some index))) ∙ sym (number_word (Some index) index refl))
    ∙ encodes-IsAscii (tab ∷ decimal index) (IsAscii-cons tab (decimal index) (omega arith) (IsAscii-digits index))

-- the bytes of both fields
both_bytes : (name : List ℕ) (index : ℕ) → encode_utf8_all (reply_text (Ok (named_fields name index))) ≡ codes "ok\t" ++ (encode_utf8_all (escaped name) ++ (tab ∷ decimal index))
unfolding encode
both_bytes name index =
    ap (λ bytes. codes "ok\t" ++ bytes)
    (encodes-append (escaped name) (field_word (NumberField (Some index)) ++ []) ∙ ap (λ bytes. encode_utf8_all (escaped name) ++ bytes) (index_bytes index))

-- pieces that are put at the end one after another
pieces : (old front word digits end : List ℕ) → ((((old ++ front) ++ word) ++ tab ∷ []) ++ digits) ++ end ≡ old ++ ((front ++ (word ++ (tab ∷ digits))) ++ end)
pieces old front word digits end =
    ap (λ bytes. bytes ++ end)
    (append_assoc ((old ++ front) ++ word) (tab ∷ []) digits ∙ append_assoc (old ++ front) word (tab ∷ digits) ∙ append_assoc old front (word ++ (tab ∷ digits)))
    ∙ append_assoc old (front ++ (word ++ (tab ∷ digits))) end

pub named_bytes : (old name : List ℕ) (index : ℕ)
    → ((((old ++ codes "ok\t") ++ encode_utf8_all (escaped name)) ++ tab ∷ []) ++ decimal index) ++ 10 ∷ [] ≡ old ++ reply_bytes (Ok (named_fields name index))
named_bytes old name index =
    pieces old (codes "ok\t") (encode_utf8_all (escaped name)) (decimal index) (10 ∷ []) ∙ ap (λ text. old ++ (text ++ 10 ∷ [])) (sym (both_bytes name index))

-- it is one line
pub named_line : (name : List ℕ) (index : ℕ) → IsUtf8 name → IsLineText (reply_text (Ok (named_fields (chars name) index)))
named_line name index utf8 = fields_line (named_fields (chars name) index) (scalars-chars name utf8, (number_characters (Some index), tt))
