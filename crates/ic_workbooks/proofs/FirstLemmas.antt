-- The first condition that a workbook doesn't meet, from the steps that ask for one after another.
use Rattle.std.proofs.Common.{◌≡◌, ◌∙◌, ◌⊎◌, inl, inr, ◌≤◌, ◌+◌, ℕ, List, None, Result, Ok, Err, IsErr, IsErrAnd, MatchResult, false, true, refl, sym, subst, arith}
use Rattle.ic_tables.specs.Tables.{TableSet}
use Rattle.ic_cells.specs.declared.workbook.Workbook.{Workbook}
use Rattle.ic_workbooks.specs.Asked.{Breaks, MeetsTo, TellsFirst, TellsHandedIn}
use Rattle.ic_workbooks.specs.HandedIn.{Arrays, Condition, Definitions, Formulas, Layout, Meets, MeetsAll, Merges, Places, SheetCount, SheetIds, SheetNames, Strings, Styles, Texts, notation_refusal, number_of}
use Rattle.ic_parts.specs.declared.error.BookError.{BookError}
use Rattle.ic_parts.specs.declared.error.BookError.TheVariants as errors

-- conditions have different numbers
same_condition : (one other : Condition) → number_of one ≡ number_of other → one ≡ other
same_condition SheetCount SheetCount e = refl
same_condition SheetCount other e = absurd (omega (arith, e))
same_condition SheetNames SheetNames e = refl
same_condition SheetNames other e = absurd (omega (arith, e))
same_condition SheetIds SheetIds e = refl
same_condition SheetIds other e = absurd (omega (arith, e))
same_condition Definitions Definitions e = refl
same_condition Definitions other e = absurd (omega (arith, e))
same_condition Texts Texts e = refl
same_condition Texts other e = absurd (omega (arith, e))
same_condition Places Places e = refl
same_condition Places other e = absurd (omega (arith, e))
same_condition Formulas Formulas e = refl
same_condition Formulas other e = absurd (omega (arith, e))
same_condition Strings Strings e = refl
same_condition Strings other e = absurd (omega (arith, e))
same_condition Styles Styles e = refl
same_condition Styles other e = absurd (omega (arith, e))
same_condition Arrays Arrays e = refl
same_condition Arrays other e = absurd (omega (arith, e))
same_condition Merges Merges e = refl
same_condition Merges other e = absurd (omega (arith, e))
same_condition Layout Layout e = refl
same_condition Layout other e = absurd (omega (arith, e))

at_least_one : (condition : Condition) → 1 ≤ number_of condition
at_least_one SheetCount = omega arith
at_least_one SheetNames = omega arith
at_least_one SheetIds = omega arith
at_least_one Definitions = omega arith
at_least_one Texts = omega arith
at_least_one Places = omega arith
at_least_one Formulas = omega arith
at_least_one Strings = omega arith
at_least_one Styles = omega arith
at_least_one Arrays = omega arith
at_least_one Merges = omega arith
at_least_one Layout = omega arith

module _ (w : Workbook) (tables : TableSet) where
  pub met_none : (language : List ℕ) → MeetsTo 0 w language tables
  met_none language condition le = let some = at_least_one condition in absurd (omega (arith, le, some))

  -- one condition more
  pub met_next : (language : List ℕ) (count next : ℕ) (condition : Condition) → count + 1 ≡ next → number_of condition ≡ next → MeetsTo count w language tables → Meets w language tables condition → MeetsTo next w language tables
  met_next language count next condition is_next numbered before here other le = by_number (either (number_of other))
    where
      either : (n : ℕ) → (n ≤ count) ⊎ (next ≤ n)
      either n = grind arith

      by_number : (number_of other ≤ count) ⊎ (next ≤ number_of other) → Meets w language tables other
      by_number (inl lower) = before other lower
      by_number (inr last) = subst (Meets w language tables) (same_condition condition other (omega (arith, le, last, numbered))) here

  -- what a step tells is the first that isn't met
  pub breaks_first : (count number : ℕ) (condition : Condition) (Met : Type 0) → count + 1 ≡ number → number_of condition ≡ number → ((language : List ℕ) → Meets w language tables condition → Met) → ((language : List ℕ) → MeetsTo count w language tables)
      → (e : BookError) → Breaks number Met e → TellsFirst w tables e
  breaks_first count number condition Met is_next numbered asked before errors.OutOfMemory h = tt
  breaks_first count number condition Met is_next numbered asked before (errors.BadWorkbook n) h = λ language. record {
    condition = condition;
    numbered = numbered ∙ sym h.0;
    broken = λ met. h.1 (asked language met);
    before = λ other lt. before language other (let same = h.0 in omega (arith, lt, same, is_next));
  }
  breaks_first count number condition Met is_next numbered asked before e h = absurd h

-- what is so of each error of a kind is so of an answer that is one
pub match_error : {T : Type 0} {Q : BookError → Type 0} (A : T → Type 0) (B : BookError → Type 0) (r : Result T BookError) → IsErr r × IsErrAnd r Q → ((e : BookError) → Q e → B e) → MatchResult r A B
match_error A B (Ok value) h each = let no : false ≡ true = h.0 in cc
match_error A B (Err e) h each = each e h.1

-- a step that asks for more tells the same of a part that isn't met
pub breaks_so : (number : ℕ) (Met More : Type 0) → ((Met → ⊥) → More → ⊥) → (e : BookError) → Breaks number Met e → Breaks number More e
breaks_so number Met More so errors.OutOfMemory h = tt
breaks_so number Met More so (errors.BadWorkbook n) h = (h.0, so h.1)
breaks_so number Met More so e h = absurd h

at_most_twelve : (condition : Condition) → number_of condition ≤ 12
at_most_twelve SheetCount = omega arith
at_most_twelve SheetNames = omega arith
at_most_twelve SheetIds = omega arith
at_most_twelve Definitions = omega arith
at_most_twelve Texts = omega arith
at_most_twelve Places = omega arith
at_most_twelve Formulas = omega arith
at_most_twelve Strings = omega arith
at_most_twelve Styles = omega arith
at_most_twelve Arrays = omega arith
at_most_twelve Merges = omega arith
at_most_twelve Layout = omega arith

-- the first twelve are all
pub met_all : (w : Workbook) (language : List ℕ) (tables : TableSet) → MeetsTo 12 w language tables → MeetsAll w language tables
met_all w language tables met condition = met condition (at_most_twelve condition)

-- what the steps tell together is what the call tells, where nothing refuses the notation
pub tells_handed_in : (w : Workbook) (language : List ℕ) (tables : TableSet) → notation_refusal w language tables ≡ None → (e : BookError) → TellsFirst w tables e → TellsHandedIn w language tables e
tells_handed_in w language tables free errors.OutOfMemory h = free
tells_handed_in w language tables free (errors.BadWorkbook n) h = (free, h language)
tells_handed_in w language tables free e h = absurd h
