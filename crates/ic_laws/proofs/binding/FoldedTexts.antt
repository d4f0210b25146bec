-- Foldings as texts, and a folding that is compared character by character.
use Rattle.std.proofs.Common.{◌≡◌, ◌∙◌, ℕ, List, [], ◌∷◌, ◌++◌, Bool, true, false, ◌&&◌, ◌==◌, Option, None, Some, IsUtf8, bytes_eq, chars, encode_utf8_all, refl, sym, ap, if◌then◌else◌}
use Rattle.std.proofs.lemmas.Bool.{and_parts, and_from}
use Rattle.std.proofs.lemmas.Str.{chars-encodes, scalars-chars}
use lib.Utf8.{scalar, scalars}
use Rattle.ucd_table.proofs.Computing.{tables}
use Rattle.ucd_table.proofs.RangedFacts.{values_ok, Stepped-at_values}
use Rattle.ucd_case.specs.CaseFolding.{full_folding, or_itself, full_fold}
use Rattle.ucd_case.proofs.CaseFoldingLemmas.{full_folding_stepped}
use Rattle.caseless.specs.Caseless.{default_case_fold}
use Rattle.ic_laws.proofs.FoldLaws.{fold-nil, fold-cons}
use Rattle.ic_laws.specs.Name.{fold}
use Rattle.ic_laws.specs.Scene.{past_front}

-- each character of the table of foldings is a Unicode scalar value
pub table_scalars : (c : ℕ) → scalars (full_folding c) ≡ true
unfolding tables values_ok full_folding_stepped
table_scalars c = Stepped-at_values full_folding full_folding_stepped scalars refl c

pub either_scalars : (c : ℕ) (table : List ℕ) → scalar c ≡ true → scalars table ≡ true → scalars (or_itself c table) ≡ true
either_scalars c [] h t = rw h refl
either_scalars c (d ∷ ds) h t = t

pub scalars-append : (xs ys : List ℕ) → scalars xs ≡ true → scalars ys ≡ true → scalars (xs ++ ys) ≡ true
scalars-append [] ys h k = k
scalars-append (x ∷ xs) ys h k =
    let parts = and_parts (scalar x) (scalars xs) h in
    and_from (scalar x) (scalars (xs ++ ys)) parts.0 (scalars-append xs ys parts.1 k)

pub fold_scalars : (cs : List ℕ) → scalars cs ≡ true → scalars (default_case_fold cs) ≡ true
unfolding default_case_fold
fold_scalars [] h = refl
fold_scalars (c ∷ cs) h =
    let parts = and_parts (scalar c) (scalars cs) h in
    scalars-append (full_fold c) _ (either_scalars c (full_folding c) parts.0 (table_scalars c)) (fold_scalars cs parts.1)

-- so the bytes of a folding spell it
pub folding_spelled : (bs : List ℕ) → IsUtf8 bs → chars (encode_utf8_all (fold (chars bs))) ≡ fold (chars bs)
folding_spelled bs u = chars-encodes _ (fold_scalars (chars bs) (scalars-chars bs u))

-- texts are equal where one begins with the front of the other and the rests are equal
abbrev equal_rest : List ℕ → Option (List ℕ) → Bool
equal_rest rest None = false
equal_rest rest (Some unread) = bytes_eq rest unread

equal_past : (front rest text : List ℕ) → bytes_eq (front ++ rest) text ≡ equal_rest rest (past_front front text)
equal_past [] rest text = refl
equal_past (x ∷ front) rest [] = refl
equal_past (x ∷ front) rest (y ∷ text) = go (x == y) (equal_past front rest text)
  where
    go : (b : Bool) → bytes_eq (front ++ rest) text ≡ equal_rest rest (past_front front text) → (b && bytes_eq (front ++ rest) text) ≡ equal_rest rest (if b then past_front front text else None)
    go true e = e
    go false e = refl

-- a name's folding is compared one character of the name at a time
pub fold_step : (left after text : List ℕ) (c : ℕ) (found : Option (List ℕ)) → left ≡ c ∷ after → found ≡ past_front (full_fold c) text → bytes_eq (fold left) text ≡ equal_rest (fold after) found
fold_step left after text c found e f =
    ap (λ t. bytes_eq (fold t) text) e
    ∙ (ap (λ t. bytes_eq t text) (fold-cons c after)
    ∙ (equal_past (full_fold c) (fold after) text ∙ ap (equal_rest (fold after)) (sym f)))

pub fold_end : (left text : List ℕ) → left ≡ [] → bytes_eq (fold left) text ≡ bytes_eq [] text
fold_end left text e = ap (λ t. bytes_eq (fold t) text) e ∙ ap (λ t. bytes_eq t text) fold-nil
