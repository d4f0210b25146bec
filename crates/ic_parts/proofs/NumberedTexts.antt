-- The texts of names with a number.
use Rattle.std.proofs.Common.{◌≡◌, ℕ, ◌+◌, ◌-◌, ◌<◌, ◌^◌, List, [], ◌∷◌, ◌++◌, chars, length, take, OnOk, Result, String, string_bytes}
use Rattle.std.proofs.Common.{append_assoc, ap, ap₂, subst, ◌∙◌, arith}
use Rattle.std.proofs.lemmas.Str.{chars-nil}
use Rattle.std.specs.declared.alloc.Global.{Global}
use Rattle.std.specs.Fmt.{decimal}
use Rattle.std.specs.Str.{chars as characters}
use Rattle.ic_laws.proofs.TextLemmas.{chars_more}
use Rattle.ic_machine.specs.subjects.Sheets.{copy_name, suffix_of}
use Rattle.ic_refs.proofs.PushLemmas.{chars-decimal}

-- a number in brackets after a blank is appended
pub suffix_pushed : (old one two new : String Global) (n : ℕ) → n < 2 ^ 64
    → string_bytes one ≡ string_bytes old ++ 32 ∷ 40 ∷ [] → string_bytes two ≡ string_bytes one ++ decimal n
    → string_bytes new ≡ string_bytes two ++ 41 ∷ [] → chars (string_bytes new) ≡ chars (string_bytes old) ++ suffix_of n
unfolding characters
suffix_pushed old one two new n less a b c =
    ap chars c ∙ chars_more two (41 ∷ [])
    ∙ ap (λ (front : List ℕ). front ++ 41 ∷ [])
    (ap chars b ∙ chars_more one (decimal n)
    ∙ ap (λ (front : List ℕ). front ++ chars (decimal n)) (ap chars a ∙ chars_more old (32 ∷ 40 ∷ []))
    ∙ ap (λ (ds : List ℕ). (chars (string_bytes old) ++ 32 ∷ 40 ∷ []) ++ ds) (chars-decimal n less))
    ∙ append_assoc (chars (string_bytes old) ++ 32 ∷ 40 ∷ []) (decimal n) (41 ∷ [])
    ∙ append_assoc (chars (string_bytes old)) (32 ∷ 40 ∷ []) (decimal n ++ 41 ∷ [])

-- a name that is cut, with such a number behind it, over nothing
pub copy_put : {T E : Type 0} (r : Result T E) (source : List ℕ) (n room : ℕ) (first empty front new : List ℕ)
    → first ≡ [] → room ≡ 31 - (length first + length (suffix_of n)) → empty ≡ []
    → front ≡ chars empty ++ take room source → OnOk r (new ≡ front ++ suffix_of n) → OnOk r (new ≡ copy_name source n)
copy_put r source n room first empty front new a b c d e =
    subst (λ t. OnOk r (new ≡ t ++ suffix_of n))
    (d ∙ ap₂ (λ (old : List ℕ) k. old ++ take k source) (ap chars c ∙ chars-nil)
    (b ∙ ap (λ (old : List ℕ). 31 - (length old + length (suffix_of n))) a ∙ ap (λ k. 31 - k) (omega arith))) e

-- a word and a number behind it, over nothing
pub word_put : {T E : Type 0} (r : Result T E) (base digits empty front new : List ℕ) → empty ≡ []
    → front ≡ chars empty ++ base → OnOk r (new ≡ front ++ digits) → OnOk r (new ≡ base ++ digits)
word_put r base digits empty front new a b e =
    subst (λ t. OnOk r (new ≡ t ++ digits)) (b ∙ ap (λ (old : List ℕ). old ++ base) (ap chars a ∙ chars-nil)) e
