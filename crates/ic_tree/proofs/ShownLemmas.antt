-- The shown form in code: errors by local words and then by English ones, its separators, and the text of a reference.
use Rattle.std.proofs.Common.{◌≡◌, ℕ, ℤ, ◌<◌, ◌≤◌, List, Bool, true, ◌&&◌, bytes_eq, codes, Option, Some, None, option_map, MatchOption, refl, sym, ap, ap₂, ◌∙◌, inl, inr, arith}
use Rattle.std.proofs.lemmas.Bool.{and_parts, or_cases}
use Rattle.ic_laws.specs.declared.dialect.WordKind.TheVariants as kinds
use Rattle.ic_refs.specs.Sheet.{or_else}
use Rattle.ic_tables.specs.Order.{BeginsWithFound, BeginsWithNone}
use Rattle.ic_tables.specs.declared.locale.Locale.{Locale}
use Rattle.ic_tables.specs.declared.language.Language.{Language}
use Rattle.ic_tables.specs.Formats.{decimal_separator, has_separators}
use Rattle.ic_tree.specs.Shown.{SpeaksBeside, decimal_of, found_in, list_of, list_separator, only_character, shown_meaning}
use Rattle.ic_tree.specs.laws.ShownLaws.{found_below_either}
use Rattle.ic_tables.proofs.WellFormed.{bytes_same as of_text}

-- ---- two ways to find, one after the other

second_found : (a b : List ℕ → Option ℕ) (text rest : List ℕ) (n : ℕ) → BeginsWithNone a text → BeginsWithFound b text rest n → BeginsWithFound (λ t. or_else (a t) (b t)) text rest n
second_found a b text rest n none h =
    record { front = h.front; split = h.split; found = ap (λ o. or_else o (b h.front)) (none h.front rest h.split) ∙ h.found }

neither_found : (a b : List ℕ → Option ℕ) (text : List ℕ) → BeginsWithNone a text → BeginsWithNone b text → BeginsWithNone (λ t. or_else (a t) (b t)) text
neither_found a b text none other front rest split = ap (λ o. or_else o (b front)) (none front rest split) ∙ other front rest split

pub second_answers : {X : Type 0} (a b : List ℕ → Option ℕ) (text : List ℕ) (o : Option X) (rest : X → List ℕ) (number : X → ℕ) → BeginsWithNone a text
    → MatchOption o (BeginsWithNone b text) (λ p. BeginsWithFound b text (rest p) (number p))
    → MatchOption o (BeginsWithNone (λ t. or_else (a t) (b t)) text) (λ p. BeginsWithFound (λ t. or_else (a t) (b t)) text (rest p) (number p))
second_answers a b text None rest number none h = neither_found a b text none h
second_answers a b text (Some p) rest number none h = second_found a b text (rest p) (number p) none h

-- ---- at a byte of a text

pub no_number : (l english : Language) (text rest : List ℕ) (n : ℕ) → SpeaksBeside l english → BeginsWithFound (found_in l english kinds.Error) text rest n → 12 ≤ n → ⊥
no_number l english text rest n w b h = let below : n < 12 = found_below_either l english w kinds.Error b.front n b.found in omega arith

-- ---- the separators of a locale by whether the decimal one is a comma

pub separators_told : (l : Locale) → has_separators l ≡ true → (list_of (bytes_eq l.numbers.symbols.decimal (codes ",")) ≡ list_separator l) × (decimal_of (bytes_eq l.numbers.symbols.decimal (codes ",")) ≡ decimal_separator l)
unfolding has_separators
separators_told l h =
    let s = l.numbers.symbols in (
      elim (or_cases (bytes_eq s.list (codes ",") && bytes_eq s.decimal (codes ".")) (bytes_eq s.list (codes ";") && bytes_eq s.decimal (codes ",")) h) [
        | inl a ↦ told s.list s.decimal (codes ",") (codes ".") (and_parts (bytes_eq s.list (codes ",")) (bytes_eq s.decimal (codes ".")) a) refl
        | inr b ↦ told s.list s.decimal (codes ";") (codes ",") (and_parts (bytes_eq s.list (codes ";")) (bytes_eq s.decimal (codes ",")) b) refl
      ],
      refl,
    )
  where
    told : (list decimal a b : List ℕ) → (bytes_eq list a ≡ true) × (bytes_eq decimal b ≡ true)
        → list_of (bytes_eq b (codes ",")) ≡ only_character a → list_of (bytes_eq decimal (codes ",")) ≡ only_character list
    told list decimal a b h x = rw (of_text list a h.0, of_text decimal b h.1) x

-- what the shown form that was made means
pub meaning_told : (o : Option Language) (given l english : Language) (locale : Locale) (is_comma : Bool) (row column at_row at_column : ℤ) → at_row ≡ row → at_column ≡ column → o ≡ Some english → Some given ≡ Some l → has_separators locale ≡ true
    → is_comma ≡ bytes_eq locale.numbers.symbols.decimal (codes ",")
    → option_map (λ e. shown_meaning given e (list_separator locale) (decimal_separator locale) row column) o ≡ Some (shown_meaning l english (list_of is_comma) (decimal_of is_comma) at_row at_column)
meaning_told o given l english locale is_comma row column at_row at_column same_row same_column found same h is =
    let s = separators_told locale h in
    let one : given ≡ l = cc in
    ap (option_map (λ e. shown_meaning given e (list_separator locale) (decimal_separator locale) row column)) found
    ∙ ap (λ x. Some (shown_meaning x english (list_separator locale) (decimal_separator locale) row column)) one
    ∙ ap₂ (λ a b. Some (shown_meaning l english a b row column)) (sym s.0 ∙ ap list_of (sym is)) (sym s.1 ∙ ap decimal_of (sym is))
    ∙ ap₂ (λ a b. Some (shown_meaning l english (list_of is_comma) (decimal_of is_comma) a b)) (sym same_row) (sym same_column)

-- ---- the text of a reference, by what was spelled
