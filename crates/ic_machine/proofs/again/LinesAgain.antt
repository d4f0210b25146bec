-- The words of a line that is made of texts spell these texts.
use Rattle.std.proofs.Common.{◌≡◌, ℕ, List, [], ◌∷◌, ◌++◌, map, Bool, false, cond, ◌==◌, Some, None, refl, sym, ap, subst, ◌∙◌, inl, inr}
use Rattle.std.proofs.lemmas.Bool.Decides.{eqb_tells}
use Rattle.std.proofs.lemmas.List.{append-nil}
use Rattle.std.proofs.lemmas.List.Elements.{All-from_recursion}
use Rattle.std.proofs.lemmas.List.Splits.{slice_split_at, slice_split_none}
use Rattle.std.specs.List.{AllByRecursion, slice_split}
use Rattle.std.specs.Prelude.{option_and_then, option_map}
use Rattle.ic_laws.specs.Character.{backslash, carriage_return, line_feed, tab}
use Rattle.ic_laws.specs.Lines.{escape_of, escaped, unescaped, word_texts, words_of}
use Rattle.ic_machine.specs.Translation.{line_of}

-- a character as it is written: itself, or a backslash and another
plain_unescaped : (c : ℕ) (rest : List ℕ) → (c == backslash) ≡ false → unescaped (c ∷ rest) ≡ option_map (λ (text : List ℕ). c ∷ text) (unescaped rest)
plain_unescaped c [] e = ap (λ (b : Bool). cond b None (Some (c ∷ []))) e
plain_unescaped c (d ∷ rest) e = rw e refl

char_again : (c : ℕ) (rest : List ℕ) → unescaped (escape_of c ++ rest) ≡ option_map (λ (text : List ℕ). c ∷ text) (unescaped rest)
char_again c rest =
    let Again : ℕ → Type 0 = λ x. unescaped (escape_of x ++ rest) ≡ option_map (λ (text : List ℕ). x ∷ text) (unescaped rest) in
    elim (eqb_tells c backslash) [
      | inl e ↦ subst Again (sym e.1) refl
      | inr e ↦ elim (eqb_tells c tab) [
        | inl f ↦ subst Again (sym f.1) refl
        | inr f ↦ elim (eqb_tells c line_feed) [
          | inl g ↦ subst Again (sym g.1) refl
          | inr g ↦ elim (eqb_tells c carriage_return) [
            | inl k ↦ subst Again (sym k.1) refl
            | inr k ↦ let plain : escape_of c ≡ c ∷ [] = rw (e.0, f.0, g.0, k.0) refl in ap (λ (text : List ℕ). unescaped (text ++ rest)) plain ∙ plain_unescaped c rest e.0
          ]
        ]
      ]
    ]

-- a text as it is written spells itself
pub text_again : (text : List ℕ) → unescaped (escaped text) ≡ Some text
text_again [] = refl
text_again (c ∷ cs) = char_again c (escaped cs) ∙ ap (option_map (λ (text : List ℕ). c ∷ text)) (text_again cs)

pub texts_again : (texts : List (List ℕ)) → word_texts (map escaped texts) ≡ Some texts
texts_again [] = refl
texts_again (t ∷ ts) =
    ap (option_and_then (λ (text : List ℕ). option_map (λ (others : List (List ℕ)). text ∷ others) (word_texts (map escaped ts)))) (text_again t)
    ∙ ap (option_map (λ (others : List (List ℕ)). t ∷ others)) (texts_again ts)

-- and has no tab
abbrev NoTab : List ℕ → Type 0
NoTab text = AllByRecursion (λ (c : ℕ). (c == tab) ≡ false) text

both_no_tab : (a b : List ℕ) → NoTab a → NoTab b → NoTab (a ++ b)
both_no_tab [] b h k = k
both_no_tab (c ∷ cs) b h k = (h.0, both_no_tab cs b h.1 k)

char_no_tab : (c : ℕ) → NoTab (escape_of c)
char_no_tab c =
    elim (eqb_tells c backslash) [
      | inl e ↦ subst (λ (x : ℕ). NoTab (escape_of x)) (sym e.1) (refl, (refl, tt))
      | inr e ↦ elim (eqb_tells c tab) [
        | inl f ↦ subst (λ (x : ℕ). NoTab (escape_of x)) (sym f.1) (refl, (refl, tt))
        | inr f ↦ elim (eqb_tells c line_feed) [
          | inl g ↦ subst (λ (x : ℕ). NoTab (escape_of x)) (sym g.1) (refl, (refl, tt))
          | inr g ↦ elim (eqb_tells c carriage_return) [
            | inl k ↦ subst (λ (x : ℕ). NoTab (escape_of x)) (sym k.1) (refl, (refl, tt))
            | inr k ↦ let plain : escape_of c ≡ c ∷ [] = rw (e.0, f.0, g.0, k.0) refl in subst NoTab (sym plain) (f.0, tt)
          ]
        ]
      ]
    ]

text_no_tab : (text : List ℕ) → NoTab (escaped text)
text_no_tab [] = tt
text_no_tab (c ∷ cs) = both_no_tab (escape_of c) (escaped cs) (char_no_tab c) (text_no_tab cs)

-- the words of such a line
pub words_again : (first : List ℕ) (texts : List (List ℕ)) → words_of (line_of (first ∷ texts)) ≡ map escaped (first ∷ texts)
words_again first [] =
    ap (slice_split (λ c. c == tab)) (append-nil (escaped first))
    ∙ slice_split_none (λ c. c == tab) (escaped first) (All-from_recursion (λ (c : ℕ). (c == tab) ≡ false) (escaped first) (text_no_tab first))
words_again first (next ∷ texts) =
    slice_split_at (λ c. c == tab) (escaped first) tab (line_of (next ∷ texts)) (All-from_recursion (λ (c : ℕ). (c == tab) ≡ false) (escaped first) (text_no_tab first)) refl
    ∙ ap (λ (words : List (List ℕ)). escaped first ∷ words) (words_again next texts)
