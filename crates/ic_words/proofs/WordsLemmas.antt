-- What words say, one after another.
use Rattle.std.proofs.Common.{◌≡◌, ◌≢◌, ℕ, List, [], ◌∷◌, length, Option, Some, None, Result, Ok, Err, OnErr, Bor, chars, option_map, option_and_then, refl, ap, sym, ◌∙◌}
use Rattle.ic_laws.specs.Lines.{unescaped, word_texts, words_of}
use Rattle.ic_machine.specs.Word.{AllSaid, Done, Said, Then, WordForm, Words, all_said, said, words_said as all_words_said}
use Rattle.ic_words.specs.Words.{HaveEscape, word_said, words_left, words_said}
use Rattle.ic_words.proofs.WordLemmas.{escape_behind, some_word}

pub nowhere : {A B C : Type 0} (g : A → B → C) (o : Option A) → option_and_then (λ x. option_map (g x) None) o ≡ None
nowhere g None = refl
nowhere g (Some x) = refl

-- one form and the others, where the texts of the words may be missing
form_said : (english : List (List ℕ)) (form : WordForm) (others : Words) (text : Option (List ℕ)) (texts : Option (List (List ℕ)))
    → option_and_then (all_said english (Then form others)) (option_and_then (λ t. option_map (λ ts. t ∷ ts) texts) text)
    ≡ option_and_then (λ first. option_map (λ rest. (first, rest)) (option_and_then (all_said english others) texts)) (option_and_then (said english form) text)
form_said english form others None texts = refl
form_said english form others (Some t) (Some ts) = refl
form_said english form others (Some t) None = sym (nowhere (λ (first : Said form) (rest : AllSaid others). (first, rest)) (said english form t))

-- what a form says without the English words of the error values
plain_said : (english : List (List ℕ)) (form : WordForm) → ((text : List ℕ) → said english form text ≡ said [] form text) → (o : Option (List ℕ)) → option_and_then (said english form) o ≡ option_and_then (said [] form) o
plain_said english form plain None = refl
plain_said english form plain (Some text) = plain text

no_form : (text : Option (List ℕ)) (texts : Option (List (List ℕ))) → None ≡ option_and_then (all_said [] Done) (option_and_then (λ t. option_map (λ ts. t ∷ ts) texts) text)
no_form None texts = refl
no_form (Some t) None = refl
no_form (Some t) (Some ts) = refl

none_of_more : (words : List (List ℕ)) → length words ≢ 0 → None ≡ words_said Done words
none_of_more [] h = absurd (h refl)
none_of_more (w ∷ ws) h = no_form (unescaped w) (word_texts ws)

-- where something is left, no words are too few
pub too_many : (left : Option (Bor (List ℕ))) (line : Bor (List ℕ)) → left ≡ Some line → None ≡ words_said Done (words_left left)
too_many left line is = none_of_more (words_left left) (some_word left line is)

-- A line that is cut behind its first word says what that word says, and what the others say. ----

module _ (english : List (List ℕ)) (form : WordForm) (plain : (text : List ℕ) → said english form text ≡ said [] form text) (others : Words) {A B : Type 0} (says : A → Said form) (others_say : B → AllSaid others) (left : Option (Bor (List ℕ))) (line : Bor (List ℕ)) (word : List ℕ)
    (after : List (List ℕ)) (is : left ≡ Some line) (cut : words_of (chars line.now) ≡ word ∷ after)
  where
    cut_said : all_words_said english (Then form others) (words_left left) ≡ option_and_then (λ first. option_map (λ rest. (first, rest)) (all_words_said english others after)) (word_said form word)
    cut_said =
        ap (λ l. all_words_said english (Then form others) (words_left l)) is ∙ ap (all_words_said english (Then form others)) cut ∙ form_said english form others (unescaped word) (word_texts after)
        ∙ ap (option_and_then (λ first. option_map (λ rest. (first, rest)) (all_words_said english others after))) (plain_said english form plain (unescaped word))

    pub without_first : (o : Option A) → o ≡ None → option_map says o ≡ word_said form word → None ≡ all_words_said english (Then form others) (words_left left)
    without_first o none e = sym (cut_said ∙ ap (option_and_then (λ first. option_map (λ rest. (first, rest)) (all_words_said english others after))) (sym e ∙ ap (option_map says) none))

    pub without_others : (p : Option B) → p ≡ None → option_map others_say p ≡ all_words_said english others after → None ≡ all_words_said english (Then form others) (words_left left)
    without_others p none e =
        sym (cut_said ∙ ap (λ o. option_and_then (λ first. option_map (λ rest. (first, rest)) o) (word_said form word)) (sym e ∙ ap (option_map others_say) none)
        ∙ nowhere (λ (first : Said form) (rest : AllSaid others). (first, rest)) (word_said form word))

    pub all_there : (o : Option A) (p : Option B) (a : A) (b : B) → o ≡ Some a → p ≡ Some b → option_map says o ≡ word_said form word → option_map others_say p ≡ all_words_said english others after → Some (says a, others_say b) ≡ all_words_said english (Then form others) (words_left left)
    all_there o p a b first rest e f =
        sym (cut_said ∙ ap (λ o. option_and_then (λ first. option_map (λ rest. (first, rest)) (all_words_said english others after)) o) (sym e ∙ ap (option_map says) first)
        ∙ ap (option_map (λ rest. (says a, rest))) (sym f ∙ ap (option_map others_say) rest))

-- the words that are left have an escape where the first one has, or where one of the others has
module _ (left : Option (Bor (List ℕ))) (line : Bor (List ℕ)) (word : List ℕ) (after : List (List ℕ)) (is : left ≡ Some line) (cut : words_of (chars line.now) ≡ word ∷ after) where
  pub others_have_escape : HaveEscape after → HaveEscape (words_left left)
  others_have_escape h = escape_behind (ap words_left is ∙ cut) h

pub always : {T E X : Type 0} (result : Result T E) → X → OnErr result X
always (Ok value) x = tt
always (Err e) x = x
