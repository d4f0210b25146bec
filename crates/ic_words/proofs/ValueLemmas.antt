-- What words say that are values, one after another.
use Rattle.std.proofs.Common.{◌≡◌, ◌≢◌, ◌⊎◌, inl, inr, ◌||◌, IsUtf8, codes, ap₂, subst, ℕ, List, [], ◌∷◌, ◌++◌, length, Bool, true, false, Option, Some, None, is_some, Bor, append_assoc, append-nil, chars, option_map, option_and_then, refl, ap, sym, ◌∙◌}
use Rattle.ic_cells.specs.declared.value.SpillValue.{SpillValue}
use Rattle.ic_laws.specs.Lines.{unescaped, word_texts, words_of}
use Rattle.ic_machine.specs.Word.{Done, Many, OfSpill, OfValue, Then, all_said, each_said, said, some_said, words_said}
use Rattle.ic_words.specs.Words.{CopyValues, HaveEscape, copies_values, spill_word, words_left}
use Rattle.ic_words.proofs.AsciiLemmas.{are_ascii, same_name}
use Rattle.ic_words.proofs.WordLemmas.{escape_behind, some_word}
use Rattle.ic_words.proofs.WordsLemmas.{nowhere}

-- What a line asks memory for. ----

copies_same : (name : List ℕ) → IsUtf8 name → copies_values name ≡ true → copies_values (chars name) ≡ true
copies_same name u h =
    ap₂ (λ (a b : Bool). a || b) (same_name (codes "put_formula_value") name u (are_ascii (codes "put_formula_value") refl)) (same_name (codes "put_spill") name u (are_ascii (codes "put_spill") refl)) ∙ h

pub asks_by_chars : (name : List ℕ) (words : List (List ℕ)) → IsUtf8 name → HaveEscape words ⊎ (copies_values name ≡ true) → HaveEscape words ⊎ (copies_values (chars name) ≡ true)
asks_by_chars name words u (inl escape) = inl escape
asks_by_chars name words u (inr copies) = inr (copies_same name u copies)

pub line_asks : (name : List ℕ) (words all : List (List ℕ)) → all ≡ name ∷ words → HaveEscape words ⊎ (copies_values name ≡ true) → HaveEscape all ⊎ CopyValues all
line_asks name words all cut (inl escape) = inl (escape_behind cut escape)
line_asks name words all cut (inr copies) = inr (subst CopyValues (sym cut) copies)

module _ (english : List (List ℕ)) where
  -- one value, and no word more
  two_texts : (o p : Option (List ℕ)) (q : Option (List (List ℕ)))
      → None ≡ option_and_then (all_said english (Then OfValue Done)) (option_and_then (λ t. option_map (λ ts. t ∷ ts) (option_and_then (λ t. option_map (λ ts. t ∷ ts) q) p)) o)
  two_texts None p q = refl
  two_texts (Some t) None q = refl
  two_texts (Some t) (Some u) None = refl
  two_texts (Some t) (Some u) (Some ts) = sym (nowhere (λ first rest. (first, rest)) (said english OfValue t))

  more_said : (word : List ℕ) (after : List (List ℕ)) → length after ≢ 0 → None ≡ words_said english (Then OfValue Done) (word ∷ after)
  more_said word [] more = absurd (more refl)
  more_said word (w ∷ ws) more = two_texts (unescaped word) (unescaped w) (word_texts ws)

  some_after : (after : Option (Bor (List ℕ))) → is_some after ≡ true → length (words_left after) ≢ 0
  some_after None e = let no : false ≡ true = e in cc
  some_after (Some line) e = some_word (Some line) line refl

  pub more_than_one : (left : Option (Bor (List ℕ))) (line : Bor (List ℕ)) (word : List ℕ) (after : Option (Bor (List ℕ))) → left ≡ Some line → words_of (chars line.now) ≡ word ∷ words_left after → is_some after ≡ true → None ≡ words_said english (Then OfValue Done) (words_left left)
  more_than_one left line word after is cut more =
      more_said word (words_left after) (some_after after more) ∙ sym (ap (λ l. words_said english (Then OfValue Done) (words_left l)) is ∙ ap (words_said english (Then OfValue Done)) cut)

  -- the values of a spill
  abbrev pub spills_said : List (List ℕ) → Option (List SpillValue)
  spills_said words = option_and_then (each_said english OfSpill) (word_texts words)

  first_spill : (text : Option (List ℕ)) (texts : Option (List (List ℕ)))
      → option_and_then (each_said english OfSpill) (option_and_then (λ t. option_map (λ ts. t ∷ ts) texts) text)
      ≡ option_and_then (λ v. option_map (λ vs. v ∷ vs) (option_and_then (each_said english OfSpill) texts)) (option_and_then (said english OfSpill) text)
  first_spill None texts = refl
  first_spill (Some t) (Some ts) = refl
  first_spill (Some t) None = sym (nowhere (λ (v : SpillValue) (vs : List SpillValue). v ∷ vs) (said english OfSpill t))

  spills_after : (word : List ℕ) (words : List (List ℕ)) → spills_said (word ∷ words) ≡ option_and_then (λ v. option_map (λ vs. v ∷ vs) (spills_said words)) (spill_word english word)
  spills_after word words = first_spill (unescaped word) (word_texts words)

  some_of : (text : Option (List ℕ)) (texts : Option (List (List ℕ)))
      → option_and_then (some_said english OfSpill) (option_and_then (λ t. option_map (λ ts. t ∷ ts) texts) text) ≡ option_and_then (each_said english OfSpill) (option_and_then (λ t. option_map (λ ts. t ∷ ts) texts) text)
  some_of None texts = refl
  some_of (Some t) None = refl
  some_of (Some t) (Some ts) = refl

  some_words : (words : List (List ℕ)) → length words ≢ 0 → words_said english (Many OfSpill) words ≡ spills_said words
  some_words [] some = absurd (some refl)
  some_words (word ∷ words) some = some_of (unescaped word) (word_texts words)

  -- at a line there is one at least
  pub some_spills : (left : Option (Bor (List ℕ))) → is_some left ≡ true → words_said english (Many OfSpill) (words_left left) ≡ spills_said (words_left left)
  some_spills left some = some_words (words_left left) (some_after left some)

  -- Some are read already. ----

  abbrev pub AreRead : List SpillValue → Option (Bor (List ℕ)) → Option (Bor (List ℕ)) → Type 0
  AreRead values rest left = spills_said (words_left rest) ≡ option_map (λ vs. values ++ vs) (spills_said (words_left left))

  none_read : (o : Option (List SpillValue)) → o ≡ option_map (λ vs. [] ++ vs) o
  none_read None = refl
  none_read (Some vs) = refl

  pub at_start : (rest : Option (Bor (List ℕ))) → AreRead [] rest rest
  at_start rest = none_read (spills_said (words_left rest))

  joined_read : (values : List SpillValue) (v : SpillValue) (o : Option (List SpillValue)) → option_map (λ vs. values ++ vs) (option_map (λ vs. v ∷ vs) o) ≡ option_map (λ vs. (values ++ v ∷ []) ++ vs) o
  joined_read values v None = refl
  joined_read values v (Some vs) = ap Some (sym (append_assoc values (v ∷ []) vs))

  module _ (values : List SpillValue) (rest left : Option (Bor (List ℕ))) (read : AreRead values rest left) where
    module _ (line : Bor (List ℕ)) (word : List ℕ) (more : Option (Bor (List ℕ))) (is : left ≡ Some line) (cut : words_of (chars line.now) ≡ word ∷ words_left more) where
      cut_left : spills_said (words_left left) ≡ option_and_then (λ v. option_map (λ vs. v ∷ vs) (spills_said (words_left more))) (spill_word english word)
      cut_left = ap (λ l. spills_said (words_left l)) is ∙ ap spills_said cut ∙ spills_after word (words_left more)

      pub one_more : (v : SpillValue) → spill_word english word ≡ Some v → AreRead (values ++ v ∷ []) rest more
      one_more v e =
          read ∙ ap (option_map (λ vs. values ++ vs)) (cut_left ∙ ap (option_and_then (λ v. option_map (λ vs. v ∷ vs) (spills_said (words_left more)))) e) ∙ joined_read values v (spills_said (words_left more))

      pub no_value : spill_word english word ≡ None → spills_said (words_left rest) ≡ None
      no_value e = read ∙ ap (option_map (λ vs. values ++ vs)) (cut_left ∙ ap (option_and_then (λ v. option_map (λ vs. v ∷ vs) (spills_said (words_left more)))) e)

    pub at_end : left ≡ None → spills_said (words_left rest) ≡ Some values
    at_end none = read ∙ ap (λ l. option_map (λ vs. values ++ vs) (spills_said (words_left l))) none ∙ ap Some (append-nil values)
