-- What the conditions on locales say of the signs in numbers.
use Rattle.std.proofs.Common.{◌≡◌, ℕ, suc, ◌-◌, List, [], ◌∷◌, Bool, true, false, not, ◌&&◌, ◌||◌, ◌==◌, bytes_eq, codes, length, nat_eq, refl, sym, ap, subst, ◌∙◌, inl, inr, arith}
use Rattle.std.specs.List.{list_all}
use Rattle.std.proofs.lemmas.Bool.{and_from, and_parts, cases_Bool, eqb-true, true≢false}
use Rattle.std.proofs.lemmas.Bool.Decides.{nat_tests}
use Rattle.std.proofs.lemmas.Slice.Eq.{bytes_eq-Decides}
use Rattle.ic_laws.specs.Character.{comma, dollar, dot}
use Rattle.ic_laws.specs.Scan.{is_digit}
use Rattle.ic_tables.specs.Formats.{are_up_to, has_group, has_separators, has_symbol, is_symbol, may_group, may_stand_in_symbol, parts_groups}
use Rattle.ic_tables.specs.Tables.{HasGoodFormats, TableSet}
use Rattle.ic_tables.specs.declared.language.Language.{Language}
use Rattle.ic_tables.specs.declared.locale.Locale.{Locale}
use Rattle.ic_input.specs.Convention.{euro, first_or, group_of, is_currency, is_dollar_or_euro, is_nothing}
use Rattle.ic_tables.specs.Formats.{decimal_separator}
use Rattle.ic_input.proofs.RunSteps.{can_stand}
use Rattle.ic_laws.proofs.tokens.Characters.{not_true as not-false}

-- What the signs of a locale are.
pub record TellsSigns (l : Locale) : Type 0 where
  pub group_digit : is_digit (group_of l) ≡ false
  pub group_decimal : (decimal_separator l == group_of l) ≡ false
  pub symbol : list_all may_stand_in_symbol l.currency.symbol ≡ true

-- the decimal separator is a comma or a dot, whatever the locale is
pub decimal_cases : (l : Locale) (P : ℕ → Type 0) → P comma → P dot → P (decimal_separator l)
decimal_cases l P c d = elim (cases_Bool (bytes_eq l.numbers.symbols.decimal (codes ","))) [ inl e ↦ rw e c | inr e ↦ rw e d ]

pub decimal_digit : (l : Locale) → is_digit (decimal_separator l) ≡ false
decimal_digit l = decimal_cases l (λ c. is_digit c ≡ false) refl refl

-- no character of a symbol is the decimal separator
pub decimal_apart : (l : Locale) (c : ℕ) → may_stand_in_symbol c ≡ true → (c == decimal_separator l) ≡ false
decimal_apart l c h = decimal_cases l (λ d. (c == d) ≡ false) (can_stand c h).comma (can_stand c h).dot

group_digit-of : (c : ℕ) → may_group c ≡ true → is_digit c ≡ false
group_digit-of c h =
    let a = and_parts _ _ h in
    let b = and_parts _ _ a.0 in not-false (is_digit c) b.1

-- the one character between groups
group-parts : (decimal group : List ℕ) → parts_groups decimal group ≡ true → (is_digit (first_or 32 group) ≡ false) × (bytes_eq decimal (first_or 32 group ∷ []) ≡ false)
group-parts decimal [] h = absurd (true≢false (sym h))
group-parts decimal (c ∷ []) h =
    let a = and_parts (may_group c) (not (bytes_eq decimal (c ∷ []))) h in
    (group_digit-of c a.0, not-false (bytes_eq decimal (c ∷ [])) a.1)
group-parts decimal (c ∷ d ∷ ds) h =
    let a = and_parts (nat_eq (suc (length ds)) 0 && may_group c) (not (bytes_eq decimal (c ∷ d ∷ ds))) h in
    let b = and_parts (nat_eq (suc (length ds)) 0) (may_group c) a.0 in
    let more : nat_eq (suc (length ds)) 0 ≡ false = grind (arith, nat_tests) in
    absurd (true≢false (sym b.0 ∙ more))

up_to-all : (most : ℕ) (group text : List ℕ) → are_up_to most group text ≡ true → list_all may_stand_in_symbol text ≡ true
up_to-all most group [] h = refl
up_to-all most group (c ∷ cs) h =
    let a = and_parts _ _ h in
    let b = and_parts _ _ a.0 in
    let d = and_parts _ _ b.0 in and_from _ _ d.1 (up_to-all (most - 1) group cs a.1)

symbol-all : (languages : List Language) (group symbol : List ℕ) → is_symbol languages group symbol ≡ true → list_all may_stand_in_symbol symbol ≡ true
symbol-all languages group [] h = refl
symbol-all languages group (c ∷ cs) h = up_to-all 4 group (c ∷ cs) (and_parts _ _ h).1

-- one character is another, or their texts differ
one_apart : (c d : ℕ) → bytes_eq (c ∷ []) (d ∷ []) ≡ false → (c == d) ≡ false
one_apart c d h =
    elim (cases_Bool (c == d)) [
      | inr e ↦ e
      | inl e ↦
          let same : c ≡ d = eqb-true c d e in
          absurd (true≢false (sym ((bytes_eq-Decides (c ∷ []) (d ∷ [])).1 (ap (λ x. x ∷ []) same)) ∙ h))
    ]

either : (a b c d : Bool) → (a && b || c && d) ≡ true → d ≡ false → b ≡ true
either a true c d h e = refl
either true false true d h e = sym e ∙ h
either true false false d h e = h
either false false true d h e = sym e ∙ h
either false false false d h e = h

decimal_group : (l : Locale) → has_separators l ≡ true → bytes_eq l.numbers.symbols.decimal (group_of l ∷ []) ≡ false → (decimal_separator l == group_of l) ≡ false
unfolding has_separators
decimal_group l h apart =
    elim (cases_Bool (bytes_eq l.numbers.symbols.decimal (codes ","))) [
      | inl e ↦
          let same : l.numbers.symbols.decimal ≡ codes "," = (bytes_eq-Decides l.numbers.symbols.decimal (codes ",")).0 e in
          rw e (one_apart comma (group_of l) (subst (λ t. bytes_eq t (group_of l ∷ []) ≡ false) same apart))
      | inr e ↦
          let is : bytes_eq l.numbers.symbols.decimal (codes ".") ≡ true = either _ _ _ _ h e in
          let same : l.numbers.symbols.decimal ≡ codes "." = (bytes_eq-Decides l.numbers.symbols.decimal (codes ".")).0 is in
          rw e (one_apart dot (group_of l) (subst (λ t. bytes_eq t (group_of l ∷ []) ≡ false) same apart))
    ]

pub tells_signs : (t : TableSet) (l : Locale) → HasGoodFormats t l → TellsSigns l
unfolding has_group has_symbol
tells_signs t l h =
    let g = group-parts l.numbers.symbols.decimal l.numbers.symbols.group h.group in
    record {
      group_digit = g.0;
      group_decimal = decimal_group l h.separators g.1;
      symbol = symbol-all t.languages l.numbers.symbols.group l.currency.symbol h.symbol;
    }

pub nothing-is : (text : List ℕ) → is_nothing text ≡ true → text ≡ []
nothing-is [] h = refl
nothing-is (c ∷ cs) h = absurd (true≢false (sym h))

common_all : (text : List ℕ) → is_dollar_or_euro text ≡ true → list_all may_stand_in_symbol text ≡ true
common_all [] h = refl
common_all (c ∷ cs) h =
    let parts = and_parts (c == dollar || c == euro) (is_nothing cs) h in
    one_of c cs parts.0 (nothing-is cs parts.1)
  where
    one_of : (c : ℕ) (cs : List ℕ) → (c == dollar || c == euro) ≡ true → cs ≡ [] → list_all may_stand_in_symbol (c ∷ cs) ≡ true
    one_of c cs h e =
        elim (cases_Bool (c == dollar)) [
          | inl d ↦ rw (e, eqb-true c dollar d) refl
          | inr d ↦ let is : (c == euro) ≡ true = rw d at h in rw (e, eqb-true c euro is) refl
        ]

-- each symbol that is read beside a number has characters of symbols alone
pub currency_all : (l : Locale) → TellsSigns l → (text : List ℕ) → is_currency l text ≡ true → list_all may_stand_in_symbol text ≡ true
currency_all l signs text h =
    elim (cases_Bool (is_dollar_or_euro text)) [
      | inl e ↦ common_all text e
      | inr e ↦
          let is : bytes_eq l.currency.symbol text ≡ true = rw e at h in
          subst (λ s. list_all may_stand_in_symbol s ≡ true) ((bytes_eq-Decides l.currency.symbol text).0 is) signs.symbol
    ]
