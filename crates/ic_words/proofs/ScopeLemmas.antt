-- Words that are scopes, by their bytes, by their characters and by what they spell.
use Rattle.std.proofs.Common.{◌≡◌, ℕ, List, [], true, false, Option, Some, None, IsUtf8, bytes_eq, codes, encode_utf8_all, lit<, option_map, option_and_then, refl, ap, sym, ◌∙◌, inl, inr}
use Rattle.std.specs.List.{list_all}
use Rattle.std.specs.Str.{chars}
use Rattle.std.proofs.lemmas.Bool.{cases_Bool, false_from_ne_true}
use Rattle.std.proofs.lemmas.Slice.Eq.{bytes_eq-Decides}
use Rattle.std.proofs.lemmas.Str.{encodes-IsAscii, encodes-chars}
use Rattle.std.proofs.lemmas.Str.Ascii.{IsAscii-cons, IsAscii-nil}
use Rattle.ic_laws.specs.Command.{index_said, scope_said}
use Rattle.ic_laws.specs.Lines.{unescaped}
use Rattle.ic_words.proofs.EscapedNumbers.{as_spelled, other_index, plain}

-- a minus alone is the scope of the whole book
pub minus_alone : (bytes : List ℕ) → bytes_eq bytes (codes "-") ≡ true → Some None ≡ scope_said (chars bytes)
unfolding chars
minus_alone bytes h = ap (λ b. scope_said (chars b)) (sym ((bytes_eq-Decides bytes (codes "-")).0 h))

pub other_characters : (bytes : List ℕ) → IsUtf8 bytes → bytes_eq bytes (codes "-") ≡ false → bytes_eq (chars bytes) (codes "-") ≡ false
other_characters bytes u h = false_from_ne_true (bytes_eq (chars bytes) (codes "-")) (λ e.
    let same : bytes ≡ codes "-" = sym (encodes-chars bytes u) ∙ ap encode_utf8_all ((bytes_eq-Decides (chars bytes) (codes "-")).0 e) ∙ encodes-IsAscii (codes "-") (IsAscii-cons 45 [] (lit< tt) IsAscii-nil) in
    let yes = (bytes_eq-Decides bytes (codes "-")).1 same in absurd (cc))

-- any other word says a scope where it says an index
pub scope_as_index : (bytes : List ℕ) (index : Option ℕ) → IsUtf8 bytes → bytes_eq bytes (codes "-") ≡ false → index ≡ index_said (chars bytes) → option_map Some index ≡ scope_said (chars bytes)
scope_as_index bytes index u h e = rw (other_characters bytes u h) (ap (option_map Some) e)

other_scope : (cs : List ℕ) → list_all plain cs ≡ false → scope_said cs ≡ None
other_scope cs h =
    elim (cases_Bool (bytes_eq cs (codes "-"))) [
      | inl e ↦ let no = ap (list_all plain) ((bytes_eq-Decides cs (codes "-")).0 e) in absurd (cc)
      | inr e ↦ rw (e, other_index cs h) refl
    ]

pub scope_spelled : (word : List ℕ) → scope_said word ≡ option_and_then scope_said (unescaped word)
scope_spelled word = as_spelled scope_said other_scope word
