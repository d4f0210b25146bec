-- Lines written anew have no line feed; the texts of their words.
use Rattle.std.proofs.Common.{◌≡◌, ◌<◌, ℕ, suc, ◌+◌, ◌-◌, List, [], ◌∷◌, ◌++◌, false, flat_map, length, take, drop, Option, Some, None, option_map, get_or, map, inl, inr, refl, sym, ap, subst, ◌∙◌, append_assoc, arith}
use Rattle.std.specs.Prelude.{option_and_then, unwrap_or}
use Rattle.std.proofs.lemmas.Bool.Decides.{eqb_tells}
use Rattle.std.proofs.lemmas.List.{drop_more, get_or-map, length-map}
use Rattle.ic_laws.specs.Character.{tab}
use Rattle.ic_laws.specs.Lines.{escape_of, escaped, unescaped, word_texts, words_of}
use Rattle.ic_lines.specs.Reading.{has_line_feed}
use Rattle.ic_machine.specs.Translation.{line_of, texts_of, with_last}

-- Line feeds. ----

no_feed_escape : (c : ℕ) (rest : List ℕ) → has_line_feed rest ≡ false → has_line_feed (escape_of c ++ rest) ≡ false
no_feed_escape c rest h =
    elim (eqb_tells c 92) [
      | inl p ↦ rw p.1 h
      | inr p ↦ elim (eqb_tells c 9) [
        | inl q ↦ rw q.1 h
        | inr q ↦ elim (eqb_tells c 10) [
          | inl r ↦ rw r.1 h
          | inr r ↦ elim (eqb_tells c 13) [
            | inl t ↦ rw t.1 h
            | inr t ↦ let e : escape_of c ≡ c ∷ [] = rw (p.0, q.0, r.0, t.0) refl in subst (λ front. has_line_feed (front ++ rest) ≡ false) (sym e) (rw r.0 h)
          ]
        ]
      ]
    ]

no_feed_escaped : (cs rest : List ℕ) → has_line_feed rest ≡ false → has_line_feed (escaped cs ++ rest) ≡ false
no_feed_escaped [] rest h = h
no_feed_escaped (c ∷ cs) rest h =
    ap has_line_feed (append_assoc (escape_of c) (escaped cs) rest) ∙ no_feed_escape c (escaped cs ++ rest) (no_feed_escaped cs rest h)

no_feed_others : (ts : List (List ℕ)) → has_line_feed (flat_map (λ (t : List ℕ). tab ∷ escaped t) ts) ≡ false
no_feed_others [] = refl
no_feed_others (t ∷ ts) = no_feed_escaped t (flat_map (λ (t : List ℕ). tab ∷ escaped t) ts) (no_feed_others ts)

-- the words of texts have none, and tabs stand between them
pub line_no_feed : (ts : List (List ℕ)) → has_line_feed (line_of ts) ≡ false
line_no_feed [] = refl
line_no_feed (t ∷ ts) = no_feed_escaped t (flat_map (λ (t : List ℕ). tab ∷ escaped t) ts) (no_feed_others ts)

-- a line of one text and others, and one of a name and a text
pub line_is : (t : List ℕ) (ts : List (List ℕ)) → line_of (t ∷ ts) ≡ escaped t ++ flat_map (λ (t : List ℕ). tab ∷ escaped t) ts
line_is t ts = refl

-- The last text. ----

pub last_put : (xs : List (List ℕ)) (t : List ℕ) → 0 < length xs → with_last t xs ≡ take (length xs - 1) xs ++ t ∷ []
last_put [] t h = absurd (omega (arith, h))
last_put (x ∷ []) t h = refl
last_put (x ∷ y ∷ xs) t h =
    let less : length (y ∷ xs) - 1 ≡ length xs = omega arith in
    let more : length (x ∷ y ∷ xs) - 1 ≡ suc (length xs) = omega arith in
    ap (λ (rest : List (List ℕ)). x ∷ rest) (last_put (y ∷ xs) t (omega arith) ∙ ap (λ (n : ℕ). take n (y ∷ xs) ++ t ∷ []) less)
    ∙ sym (ap (λ (n : ℕ). take n (x ∷ y ∷ xs) ++ t ∷ []) more)

-- where there is none nothing is put
pub none_put : (xs : List (List ℕ)) (t : List ℕ) → length xs ≡ 0 → xs ≡ with_last t xs
none_put [] t h = refl
none_put (x ∷ xs) t h = absurd (omega (arith, h))

-- The texts of words, one after another. ----

-- the texts so far, before those of the words that are left
abbrev pub AreSoFar : List (List ℕ) → ℕ → List (List ℕ) → Type 0
AreSoFar words count texts = word_texts words ≡ option_map (λ rest. texts ++ rest) (word_texts (drop count words))

map_map : (texts : List (List ℕ)) (t : List ℕ) (o : Option (List (List ℕ))) → option_map (λ rest. texts ++ rest) (option_map (λ ts. t ∷ ts) o) ≡ option_map (λ rest. (texts ++ t ∷ []) ++ rest) o
map_map texts t None = refl
map_map texts t (Some ts) = ap (λ (all : List (List ℕ)). let o : Option (List (List ℕ)) = Some all in o) (sym (append_assoc texts (t ∷ []) ts))

pub one_text : (words texts : List (List ℕ)) (count : ℕ) (w t : List ℕ) → AreSoFar words count texts → drop count words ≡ w ∷ drop (count + 1) words → unescaped w ≡ Some t → AreSoFar words (count + 1) (texts ++ t ∷ [])
one_text words texts count w t so_far next is =
    so_far ∙ ap (λ ws. option_map (λ rest. texts ++ rest) (word_texts ws)) next
    ∙ ap (λ o. option_map (λ rest. texts ++ rest) (option_and_then (λ t. option_map (λ ts. t ∷ ts) (word_texts (drop (count + 1) words))) o)) is
    ∙ map_map texts t (word_texts (drop (count + 1) words))

-- a wrong escape leaves none
pub no_text : (line : List ℕ) (texts : List (List ℕ)) (count : ℕ) (w : List ℕ) → AreSoFar (words_of line) count texts → drop count (words_of line) ≡ w ∷ drop (count + 1) (words_of line) → unescaped w ≡ None → texts_of line ≡ []
no_text line texts count w so_far next is =
    ap (λ o. unwrap_or o [])
    (so_far ∙ ap (λ ws. option_map (λ rest. texts ++ rest) (word_texts ws)) next
    ∙ ap (λ o. option_map (λ rest. texts ++ rest) (option_and_then (λ t. option_map (λ ts. t ∷ ts) (word_texts (drop (count + 1) (words_of line)))) o)) is)

-- The word after the first ones, in the texts of words. ----
next_word : {A : Type 0} (f : A → List ℕ) (xs : List A) (k : ℕ) (d : A) → k < length xs → drop k (map f xs) ≡ f (get_or xs k d) ∷ drop (k + 1) (map f xs)
next_word f xs k d h =
    drop_more (map f xs) k (f d) (subst (λ (n : ℕ). k < n) (sym (length-map xs f)) h)
    ∙ ap (λ (w : List ℕ). w ∷ drop (k + 1) (map f xs)) (get_or-map f xs k d (f d) h)

pub next_so_far : {A : Type 0} (f : A → List ℕ) (xs : List A) (k : ℕ) (d : A) (texts : List (List ℕ)) (t : List ℕ) → k < length xs → AreSoFar (map f xs) k texts → unescaped (f (get_or xs k d)) ≡ Some t → AreSoFar (map f xs) (k + 1) (texts ++ t ∷ [])
next_so_far f xs k d texts t h so_far is = one_text (map f xs) texts k (f (get_or xs k d)) t so_far (next_word f xs k d h) is

pub no_texts_of : {A : Type 0} (f : A → List ℕ) (xs : List A) (k : ℕ) (d : A) (texts : List (List ℕ)) (line : List ℕ) → k < length xs → map f xs ≡ words_of line → AreSoFar (map f xs) k texts → unescaped (f (get_or xs k d)) ≡ None → [] ≡ texts_of line
no_texts_of f xs k d texts line h same so_far is =
    sym (no_text line texts k (f (get_or xs k d)) (subst (λ ws. AreSoFar ws k texts) same so_far) (subst (λ ws. drop k ws ≡ f (get_or xs k d) ∷ drop (k + 1) ws) same (next_word f xs k d h)) is)
