-- What the notation that a model holds makes of texts.
use Rattle.std.proofs.Common.{◌≡◌, ℕ, List, Option, Some, None, codes, ap, ◌∙◌}
use Rattle.ic_laws.specs.Notations.{english}
use Rattle.ic_tables.specs.Tables.{language_of, locale_of}
use Rattle.ic_tables.specs.declared.language.Language.{Language}
use Rattle.ic_tables.specs.declared.locale.NamedLocale.{NamedLocale}
use Rattle.ic_input.specs.Typed.{formula_of, typed}
use Rattle.ic_input.specs.declared.input.Typed.TheVariants as kinds
use Rattle.ic_machine.specs.InForce.{InForce, all_there, by_notation, formula_typed, in_force, typed_in}
use Rattle.ic_parts.specs.Book.{whole_of}
use Rattle.ic_book.specs.Inside.{IsHeld, held}
use Rattle.ic_book.specs.declared.model.Model.TheInside.{Inside}
use Rattle.ic_parts.proofs.WholeWritten.{english_there, language_there}

module _ (inside : Inside) (locale : NamedLocale) (language beside : Language) (locale_found : locale_of inside.notation.tables inside.notation.locale ≡ Some locale) (language_found : language_of inside.notation.tables inside.notation.language ≡ Some language)
    (english_found : language_of inside.notation.tables (codes "en") ≡ Some beside)
  where
    in_force_is : in_force (whole_of (held inside)) ≡ Some (record { locale = locale.locale; language = language; beside = beside })
    in_force_is =
        ap (λ (o : Option NamedLocale). all_there o (language_of inside.notation.tables inside.notation.language) (language_of inside.notation.tables english)) locale_found
        ∙ ap (λ (o : Option Language). all_there (Some locale) o (language_of inside.notation.tables english)) language_found
        ∙ ap (λ (o : Option Language). all_there (Some locale) (Some language) o) english_found

    -- what a typed text is, and its formula
    pub typed_is : (text : List ℕ) → typed_in (whole_of (held inside)) text ≡ typed locale.locale language beside text
    typed_is text = ap (λ (o : Option InForce). by_notation (kinds.Text text) (λ (f : InForce). typed f.locale f.language f.beside text) o) in_force_is

    formula_so : (text : List ℕ) → formula_typed (whole_of (held inside)) text ≡ formula_of locale.locale text
    formula_so text = ap (λ (o : Option InForce). by_notation None (λ (f : InForce). formula_of f.locale text) o) in_force_is

pub formula_is : (inside : Inside) → IsHeld inside → (locale : NamedLocale) → locale_of inside.notation.tables inside.notation.locale ≡ Some locale → (text : List ℕ) → formula_typed (whole_of (held inside)) text ≡ formula_of locale.locale text
formula_is inside h locale found text =
    let language = language_there (held inside) h in
    let beside = english_there (held inside) h in
    formula_so inside locale language.0 beside.0 found language.1 beside.1 text
