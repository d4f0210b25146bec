-- The words that ask for a translation, and what is written of one.
use Rattle.std.proofs.Common.{String, ◌≡◌, ◌++◌, ℕ, List, [], ◌∷◌, Bool, true, false, length, get_or, bytes_eq, Option, Some, None, codes, string_bytes, flat_map, append_assoc, refl, ap, ap₂, sym, subst, ◌∙◌, ◌⊎◌, inl, inr, arith}
use Rattle.std.specs.Str.{chars}
use Rattle.std.specs.declared.alloc.Global.{Global}
use Rattle.ic_laws.specs.Lines.{escaped}
use Rattle.ic_run.specs.Desk.{texts}
use Rattle.ic_parts.specs.Book.{Book}
use Rattle.ic_parts.specs.Whole.{whole_of}
use Rattle.ic_laws.specs.Lines.{texts_of}
use Rattle.ic_lines.proofs.ToldLemmas.{IfTold-weaker}
use Rattle.ic_lines.specs.Bytes.{IfTold}
use Rattle.ic_tables.specs.Tables.{TableSet}
use Rattle.ic_run.specs.Desk.{start_book}
use Rattle.ic_run.specs.Make.{made_setting}
use Rattle.ic_run.specs.Translate.{AppendsTold, AppendsToldFront, AppendsTranslated, AppendsTranslatedFront, Target, ended_line, switches, target_of}
use Rattle.ic_run.proofs.DeskLemmas.{word_text}
use Rattle.ic_run.proofs.MakeLemmas.{three_words}

translate_chars : codes "translate" ≡ chars (codes "translate")
unfolding chars
translate_chars = refl

-- what three words name, by the texts of the first, the second and the third
module _ (words : List (String Global)) (three : length words ≡ 3) (w : String Global) (t : List ℕ) (is : w ≡ get_or words 0 w) (e : t ≡ string_bytes w) where
  taken : (a : String Global) × (b : String Global) × (c : String Global) × (words ≡ a ∷ b ∷ c ∷ [])
  taken = three_words words three

  named_by : (b : Bool) → bytes_eq (chars t) (chars (codes "translate")) ≡ b → bytes_eq (chars (string_bytes taken.0)) (codes "translate") ≡ b
  named_by b h = ap (λ v. bytes_eq v (codes "translate")) (sym (word_text words 0 w taken.0 t e is (λ x. ap (λ v. get_or v 0 x) taken.3))) ∙ ap (bytes_eq (chars t)) translate_chars ∙ h

  pub other_word : bytes_eq (chars t) (chars (codes "translate")) ≡ false → None ≡ target_of (texts words)
  other_word other =
      let no = named_by false other in
      let at : target_of (texts (taken.0 ∷ taken.1 ∷ taken.2 ∷ [])) ≡ None = rw no refl in
      sym (ap (λ v. target_of (texts v)) taken.3 ∙ at)

  pub by_ids : bytes_eq (chars t) (chars (codes "translate")) ≡ true → (wl wg : String Global) (l g : List ℕ) → wl ≡ get_or words 1 wl → wg ≡ get_or words 2 wg → l ≡ string_bytes wl → g ≡ string_bytes wg
      → Some (record { locale = chars l; language = chars g }) ≡ target_of (texts words)
  by_ids named wl wg l g is_l is_g e_l e_g =
      let yes = named_by true named in
      let locale : chars l ≡ chars (string_bytes taken.1) = word_text words 1 wl taken.1 l e_l is_l (λ x. ap (λ v. get_or v 1 x) taken.3) in
      let language : chars g ≡ chars (string_bytes taken.2) = word_text words 2 wg taken.2 g e_g is_g (λ x. ap (λ v. get_or v 2 x) taken.3) in
      let at : target_of (texts (taken.0 ∷ taken.1 ∷ taken.2 ∷ [])) ≡ Some (record { locale = chars (string_bytes taken.1); language = chars (string_bytes taken.2) }) = rw yes refl in
      ap₂ (λ (a b : List ℕ). let named : Target = record { locale = a; language = b } in Some named) locale language ∙ sym (ap (λ v. target_of (texts v)) taken.3 ∙ at)

-- ---- what is written

locale_chars : chars (codes "set_locale\t") ≡ codes "set_locale\t"
unfolding chars
locale_chars = refl

language_chars : chars (codes "set_language\t") ≡ codes "set_language\t"
unfolding chars
language_chars = refl

-- the lines that choose the notation, and the others
pub told_lines : (target : Target) (lines : List (List ℕ)) (nothing one two all : List ℕ) → nothing ≡ [] → one ≡ nothing ++ ended_line (chars (codes "set_locale\t") ++ escaped target.locale) → two ≡ one ++ ended_line (chars (codes "set_language\t") ++ escaped target.language)
    → all ≡ two ++ flat_map ended_line lines → all ≡ flat_map ended_line (switches target ++ lines)
told_lines target lines nothing one two all none first second rest =
    let a : one ≡ ended_line (codes "set_locale\t" ++ escaped target.locale) = first ∙ ap₂ (λ (n f : List ℕ). n ++ ended_line (f ++ escaped target.locale)) none locale_chars in
    let b : two ≡ ended_line (codes "set_locale\t" ++ escaped target.locale) ++ ended_line (codes "set_language\t" ++ escaped target.language) = second ∙ ap₂ (λ (n f : List ℕ). n ++ ended_line (f ++ escaped target.language)) a language_chars in
    rest ∙ ap (λ (t : List ℕ). t ++ flat_map ended_line lines) b ∙ append_assoc (ended_line (codes "set_locale\t" ++ escaped target.locale)) (ended_line (codes "set_language\t" ++ escaped target.language)) (flat_map ended_line lines)

-- ---- by its status

pub at_0 : (r : ℕ) → (r ≡ 0) ⊎ (r ≡ 7) → (r ≡ 0) ⊎ ((r ≡ 4) ⊎ (r ≡ 6)) → r ≡ 0
at_0 r (inl zero) which = zero
at_0 r (inr seven) (inl zero) = zero
at_0 r (inr seven) (inr (inl four)) = absurd (omega (arith, seven, four))
at_0 r (inr seven) (inr (inr six)) = absurd (omega (arith, seven, six))

pub at_7 : (r : ℕ) → (r ≡ 0) ⊎ (r ≡ 7) → (r ≡ 7) ⊎ ((r ≡ 4) ⊎ (r ≡ 6)) → r ≡ 7
at_7 r (inr seven) which = seven
at_7 r (inl zero) (inl seven) = seven
at_7 r (inl zero) (inr (inl four)) = absurd (omega (arith, zero, four))
at_7 r (inl zero) (inr (inr six)) = absurd (omega (arith, zero, six))

-- from the new book that lines are translated from
module _ (target : Target) (tables : TableSet) (book : Book) (created : List ℕ) (is : book ≡ start_book made_setting created tables) (source left before now : Option (List ℕ)) where
  pub translated_told : (r : ℕ) → IfTold source left (λ bytes _. IfTold before now (AppendsTold target (whole_of book) (texts_of bytes) r)) → IfTold source left (λ bytes _. IfTold before now (AppendsTranslated target tables r bytes))
  translated_told r =
      IfTold-weaker source left (λ bytes _. IfTold before now (AppendsTold target (whole_of book) (texts_of bytes) r)) (λ bytes _. IfTold before now (AppendsTranslated target tables r bytes))
      (λ bytes rest. IfTold-weaker before now (AppendsTold target (whole_of book) (texts_of bytes) r) (AppendsTranslated target tables r bytes)
      (λ x y told. (created, subst (λ (b : Book). AppendsTold target (whole_of b) (texts_of bytes) r x y) is told)))

  pub translated_front : IfTold source left (λ bytes _. IfTold before now (AppendsToldFront target (whole_of book) (texts_of bytes))) → IfTold source left (λ bytes _. IfTold before now (AppendsTranslatedFront target tables bytes))
  translated_front =
      IfTold-weaker source left (λ bytes _. IfTold before now (AppendsToldFront target (whole_of book) (texts_of bytes))) (λ bytes _. IfTold before now (AppendsTranslatedFront target tables bytes))
      (λ bytes rest. IfTold-weaker before now (AppendsToldFront target (whole_of book) (texts_of bytes)) (AppendsTranslatedFront target tables bytes)
      (λ x y told. (created, subst (λ (b : Book). AppendsToldFront target (whole_of b) (texts_of bytes) x y) is told)))
