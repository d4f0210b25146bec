-- Made lines answered one after another, and the words that ask for them.
use Rattle.std.proofs.Common.{String, ◌≡◌, ◌≢◌, ◌++◌, ◌+◌, ◌<◌, ◌≤◌, ◌^◌, ℕ, List, [], ◌∷◌, Bool, true, false, length, get_or, map, bytes_eq, Some, None, option_map, option_and_then, Result, Ok, Err, OkIff, IsUtf8, codes, string_bytes, append_assoc, add-one, inl, inr, refl, ap, sym, ◌∙◌, arith}
use Rattle.std.specs.Result.{result_ok}
use Rattle.std.specs.Str.{all_ascii_digits, chars}
use Rattle.std.specs.Str.Parse.{ParsesUnsigned, digits_value}
use Rattle.std.specs.declared.alloc.Global.{Global}
use Rattle.std.proofs.lemmas.Bool.{cases_Bool}
use Rattle.std.proofs.lemmas.Bool.Decides.{leb_tells}
use Rattle.std.proofs.lemmas.Str.{chars-IsAscii, encodes-IsAscii, encodes-chars}
use Rattle.std.proofs.lemmas.Str.Parse.{numerals_by_value, parse_plain, tells_all_ascii_digits}
use Rattle.ic_laws.specs.Command.{at_most}
use Rattle.ic_machine.specs.Book.{Book}
use Rattle.ic_machine.specs.Reply.{reply_text}
use Rattle.ic_machine.specs.Command.{commands}
use Rattle.ic_machine.specs.Run.{after}
use Rattle.ic_machine.specs.Step.{line_step}
use Rattle.ic_run.specs.Core.{whole_machine}
use Rattle.ic_run.specs.Desk.{texts}
use Rattle.ic_run.specs.Make.{count_said, made_command, made_from, made_text, making_of, making_said, seed_said, told_replies}
use Rattle.ic_run.specs.declared.make.Making.{Making}
use Rattle.ic_run.proofs.DeskLemmas.{word_text}
use Rattle.ic_laws.proofs.General.{digits_ascii, no_number as without_digits}

-- From a book on some lines were answered by these texts; others are left, from a book that they left.
pub record IsHalfway (start : Book) (lines : List (List ℕ)) (book : Book) (left : List (List ℕ)) (texts : List (List ℕ)) : Type 0 where
  pub told : map reply_text (told_replies start lines) ≡ texts ++ map reply_text (told_replies book left)
  pub leaves : after whole_machine start lines ≡ after whole_machine book left

pub answered_next : (start : Book) (lines : List (List ℕ)) (book new : Book) (line : List ℕ) (left : List (List ℕ)) (texts more : List (List ℕ)) (text : List ℕ) → IsHalfway start lines book (line ∷ left) texts
    → new ≡ (line_step commands book line).0 → text ≡ reply_text (line_step commands book line).1 → more ≡ texts ++ text ∷ [] → IsHalfway start lines new left more
answered_next start lines book new line left texts more text so_far step tells pushed =
    let rest : Book → List (List ℕ) = λ b. map reply_text (told_replies b left) in
    record {
      told =
          so_far.told ∙ ap (λ (t : List ℕ). texts ++ t ∷ rest (line_step commands book line).0) (sym tells) ∙ sym (append_assoc texts (text ∷ []) (rest (line_step commands book line).0))
          ∙ ap (λ (front : List (List ℕ)). front ++ rest (line_step commands book line).0) (sym pushed) ∙ ap (λ (b : Book). more ++ rest b) (sym step);
      leaves = so_far.leaves ∙ ap (λ (b : Book). after whole_machine b left) (sym step);
    }

-- so many lines are one and the others
pub made_next : (count k i x : ℕ) → count ≡ k + 1 → made_from count i x ≡ made_text (made_command i x).0 ∷ made_from k (i + 1) (made_command i x).1
made_next count k i x e = ap (λ n. made_from n i x) (e ∙ add-one k)

-- The words. ----

-- a number of 64 bits is the same by its bytes
same_seed : (bytes : List ℕ) → IsUtf8 bytes → seed_said (chars bytes) ≡ seed_said bytes
same_seed bytes u =
    elim (cases_Bool (all_ascii_digits (chars bytes))) [
      | inl e ↦ ap seed_said (sym (encodes-IsAscii (chars bytes) (digits_ascii (chars bytes) e)) ∙ encodes-chars bytes u)
      | inr e ↦ elim (cases_Bool (all_ascii_digits bytes)) [
        | inl f ↦
            let yes = ap all_ascii_digits (chars-IsAscii bytes (digits_ascii bytes f)) ∙ f in
            let no : true ≡ false = sym yes ∙ e in absurd (cc)
        | inr f ↦ ap (option_and_then (at_most 18446744073709551615)) (without_digits (chars bytes) e ∙ sym (without_digits bytes f))
      ]
    ]

-- what is read of digits
abbrev IsSeed : List ℕ → Type 0
IsSeed bytes = (all_ascii_digits bytes ≡ true) × (0 < length bytes) × (digits_value 10 bytes < 2 ^ 64)

seed_read : {E : Type 0} (bytes : List ℕ) (r : Result ℕ E) → OkIff r (IsSeed bytes) (digits_value 10 bytes) → result_ok r ≡ seed_said bytes
seed_read [] (Ok x) h = absurd (omega (arith, h.0.1))
seed_read [] (Err e) h = refl
seed_read (c ∷ cs) (Ok x) h =
    elim (leb_tells (digits_value 10 (c ∷ cs)) 18446744073709551615) [
      | inl p ↦ rw (h.0.0, p.0, h.1) refl
      | inr p ↦ absurd (omega (arith, h.0.2, p.1))
    ]
seed_read (c ∷ cs) (Err e) h =
    elim (cases_Bool (all_ascii_digits (c ∷ cs))) [
      | inl d ↦ elim (leb_tells (digits_value 10 (c ∷ cs)) 18446744073709551615) [
        | inl p ↦ absurd (h (d, omega arith, omega (arith, p.1)))
        | inr p ↦ rw (d, p.0) refl
      ]
      | inr d ↦ rw d refl
    ]

pub seed_parsed : {E : Type 0} (bytes : List ℕ) (r : Result ℕ E) → IsUtf8 bytes → get_or bytes 0 0 ≢ 43 → ParsesUnsigned 64 10 bytes r → result_ok r ≡ seed_said (chars bytes)
seed_parsed bytes r u plus parsed = seed_read bytes r (parse_plain (numerals_by_value (λ ds. all_ascii_digits ds ≡ true) tells_all_ascii_digits) 64 bytes r parsed plus) ∙ sym (same_seed bytes u)

pub seed_plus : (bytes : List ℕ) → IsUtf8 bytes → get_or bytes 0 0 ≡ 43 → None ≡ seed_said (chars bytes)
seed_plus [] u h = absurd (omega (arith, h))
seed_plus (c ∷ cs) u h = sym (same_seed (c ∷ cs) u ∙ ap (λ x. seed_said (x ∷ cs)) h)

-- three words are taken apart
pub three_words : {X : Type 0} (words : List X) → length words ≡ 3 → (a : X) × (b : X) × (c : X) × (words ≡ a ∷ b ∷ c ∷ [])
three_words [] h = absurd (omega (arith, h))
three_words (a ∷ []) h = absurd (omega (arith, h))
three_words (a ∷ b ∷ []) h = absurd (omega (arith, h))
three_words (a ∷ b ∷ c ∷ []) h = (a, b, c, refl)
three_words (a ∷ b ∷ c ∷ d ∷ words) h = absurd (omega (arith, h))

make_chars : codes "make" ≡ chars (codes "make")
unfolding chars
make_chars = refl

-- what three words name, by the texts of the first, the second and the third
module _ (words : List (String Global)) (three : length words ≡ 3) (w : String Global) (t : List ℕ) (is : w ≡ get_or words 0 w) (e : t ≡ string_bytes w) where
  taken : (a : String Global) × (b : String Global) × (c : String Global) × (words ≡ a ∷ b ∷ c ∷ [])
  taken = three_words words three

  first : chars t ≡ chars (string_bytes taken.0)
  first = word_text words 0 w taken.0 t e is (λ x. ap (λ v. get_or v 0 x) taken.3)

  named_by : (b : Bool) → bytes_eq (chars t) (chars (codes "make")) ≡ b → bytes_eq (chars (string_bytes taken.0)) (codes "make") ≡ b
  named_by b h = ap (λ v. bytes_eq v (codes "make")) (sym first) ∙ ap (bytes_eq (chars t)) make_chars ∙ h

  pub other_word : bytes_eq (chars t) (chars (codes "make")) ≡ false → None ≡ making_of (texts words)
  other_word other =
      let no = named_by false other in
      let at : making_of (texts (taken.0 ∷ taken.1 ∷ taken.2 ∷ [])) ≡ None = rw no refl in
      sym (ap (λ v. making_of (texts v)) taken.3 ∙ at)

  module _ (named : bytes_eq (chars t) (chars (codes "make")) ≡ true) (ws : String Global) (s : List ℕ) (is_s : ws ≡ get_or words 1 ws) (e_s : s ≡ string_bytes ws) where
    seed_is : chars s ≡ chars (string_bytes taken.1)
    seed_is = word_text words 1 ws taken.1 s e_s is_s (λ x. ap (λ v. get_or v 1 x) taken.3)

    by_first : making_of (texts words) ≡ making_said (chars s) (chars (string_bytes taken.2))
    by_first =
        let yes = named_by true named in
        let at : making_of (texts (taken.0 ∷ taken.1 ∷ taken.2 ∷ [])) ≡ making_said (chars (string_bytes taken.1)) (chars (string_bytes taken.2)) = rw yes refl in
        ap (λ v. making_of (texts v)) taken.3 ∙ at ∙ ap (λ v. making_said v (chars (string_bytes taken.2))) (sym seed_is)

    module _ (wc : String Global) (c : List ℕ) (is_c : wc ≡ get_or words 2 wc) (e_c : c ≡ string_bytes wc) where
      count_is : chars c ≡ chars (string_bytes taken.2)
      count_is = word_text words 2 wc taken.2 c e_c is_c (λ x. ap (λ v. get_or v 2 x) taken.3)

      pub by_numbers : (seed count : ℕ) → Some seed ≡ seed_said (chars s) → Some count ≡ seed_said (chars c) → count ≤ 10000 → Some (record { seed = seed; count = count }) ≡ making_of (texts words)
      by_numbers seed count said counted few =
          elim (leb_tells count 10000) [
            | inl p ↦
                let within : Some count ≡ count_said (chars c) = rw (← counted) (rw p.0 refl) in
                sym (by_first ∙ ap (making_said (chars s)) (sym count_is)
                ∙ ap (option_and_then (λ x. option_map (λ n. let m : Making = record { seed = x; count = n } in m) (count_said (chars c)))) (sym said)
                ∙ ap (option_map (λ n. let m : Making = record { seed = seed; count = n } in m)) (sym within))
            | inr p ↦ absurd (omega (arith, few, p.1))
          ]
