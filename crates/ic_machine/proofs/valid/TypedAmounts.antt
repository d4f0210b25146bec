-- A typed number is an amount, and so is one that a word says.
use Rattle.std.proofs.Common.{◌≡◌, ◌∙◌, ◌==◌, refl, sym, ap, ℕ, ℤ, pos, zero, suc, ◌*◌, ◌<◌, ◌≤◌, ◌^◌, List, [], ◌∷◌, Bool, true, false, Option, Some, None, option_map, if◌then◌else◌, inl, inr, arith}
use Rattle.std.proofs.lemmas.Bool.Decides.{nat_tests}
use Rattle.std.specs.Prelude.{neg_ℤ}
use Rattle.ic_laws.proofs.AmountReading.{unsigned_amount-writes}
use Rattle.ic_laws.specs.Amount.{is_amount, units_of_one, unsigned_amount}
use Rattle.ic_laws.specs.Character.{dot, minus}
use Rattle.ic_laws.specs.Notations.{english}
use Rattle.ic_tables.proofs.WellFormed.{formats_of_named}
use Rattle.ic_tables.specs.Tables.{language_of, locale_of}
use Rattle.ic_tables.specs.declared.language.Language.{Language}
use Rattle.ic_tables.specs.declared.locale.Locale.{Locale}
use Rattle.ic_tables.specs.declared.locale.NamedLocale.{NamedLocale}
use Rattle.ic_input.proofs.TypedLaws.{typed_exactly}
use Rattle.ic_input.proofs.TypedSteps.{TellsTexts, tells_texts}
use Rattle.ic_input.specs.Amount.{negated, signed_amount}
use Rattle.ic_input.specs.Date.{IsTypedDate}
use Rattle.ic_input.specs.Typed.{IsNumber, Writes, amount_of_day, opposite, same, typed}
use Rattle.ic_input.specs.declared.input.Typed.TheVariants as kinds
use Rattle.ic_machine.specs.Book.{Book}
use Rattle.ic_machine.specs.InForce.{all_there, by_notation, typed_in}
use Rattle.ic_machine.specs.Valid.{IsValidBook}

small_amount : (units : ℕ) → units < 10 ^ 27 → is_amount (pos units) ≡ true
small_amount units h = grind (arith, nat_tests)

small_negated : (units : ℕ) → units < 10 ^ 27 → is_amount (neg_ℤ (pos units)) ≡ true
small_negated zero h = refl
small_negated (suc n) h = small_amount (suc n) h

-- what is written of a number is its amount, with a sign or none
written_amount : (l : Locale) (text : List ℕ) (v : ℤ) (code : Option (List ℕ)) → Writes l same text v code → is_amount v ≡ true
written_amount l text v code (n, w) = ap is_amount (w.1 ∙ w.0.value) ∙ small_amount _ w.0.small

opposite_amount : (l : Locale) (text : List ℕ) (v : ℤ) (code : Option (List ℕ)) → Writes l opposite text v code → is_amount v ≡ true
opposite_amount l text v code (n, w) = ap is_amount (w.1 ∙ ap neg_ℤ w.0.value) ∙ small_negated _ w.0.small

-- so is a day
day_amount : (l : Locale) (text : List ℕ) (n : ℕ) (code : List ℕ) → IsTypedDate l text n code → is_amount (amount_of_day n) ≡ true
day_amount l text n code d = let last : n ≤ 2958465 = d.there.last in small_amount (n * units_of_one) (omega (arith, last))

number_amount : (l : Locale) (text : List ℕ) (v : ℤ) (code : Option (List ℕ)) → IsNumber l text v code → is_amount v ≡ true
number_amount l text v code (inl w) = written_amount l text v code w
number_amount l text v code (inr (inl (rest, w))) = written_amount l rest v code w.1
number_amount l text v code (inr (inr (inl (rest, w)))) = opposite_amount l rest v code w.1
number_amount l text v code (inr (inr (inr (n, (c, w))))) = ap is_amount w.1 ∙ day_amount l text n c w.0

pub typed_amount : (l : Locale) → TellsTexts l → (language english : Language) (text : List ℕ) (v : ℤ) (code : Option (List ℕ)) → typed l language english text ≡ kinds.Number v code → is_amount v ≡ true
typed_amount l tells language english text v code e = number_amount l text v code ((typed_exactly l tells language english text (kinds.Number v code)).1 e).1

-- in the notation of a book that is valid
pub typed_in_amount : (b : Book) → IsValidBook b → (text : List ℕ) (v : ℤ) (code : Option (List ℕ)) → typed_in b text ≡ kinds.Number v code → is_amount v ≡ true
typed_in_amount b valid text v code e = go (locale_of b.tables b.locale) (language_of b.tables b.language) (language_of b.tables english) refl e
  where
    go : (o : Option NamedLocale) (language beside : Option Language) → locale_of b.tables b.locale ≡ o → by_notation (kinds.Text text) (λ f. typed f.locale f.language f.beside text) (all_there o language beside) ≡ kinds.Number v code
        → is_amount v ≡ true
    go None language beside found h = absurd (cc)
    go (Some named) None beside found h = absurd (cc)
    go (Some named) (Some l) None found h = absurd (cc)
    go (Some named) (Some l) (Some other) found h =
        typed_amount named.locale (tells_texts b.tables named.locale (formats_of_named b.tables valid.tables b.locale named found)) l other text v code h

-- and so is what a word says
said_positive : (text : List ℕ) (v : ℤ) (o : Option ℕ) → unsigned_amount dot text ≡ o → option_map pos o ≡ Some v → is_amount v ≡ true
said_positive text v None read e = absurd (cc)
said_positive text v (Some units) read e = let same : pos units ≡ v = cc in ap is_amount (sym same) ∙ small_amount units (unsigned_amount-writes dot text units read).amount

said_negative : (text : List ℕ) (v : ℤ) (o : Option ℕ) → unsigned_amount dot text ≡ o → option_map negated o ≡ Some v → is_amount v ≡ true
said_negative text v None read e = absurd (cc)
said_negative text v (Some units) read e = let same : negated units ≡ v = cc in ap is_amount (sym same) ∙ small_negated units (unsigned_amount-writes dot text units read).amount

pub said_amount : (text : List ℕ) (v : ℤ) → signed_amount dot text ≡ Some v → is_amount v ≡ true
said_amount [] v e = said_positive [] v (unsigned_amount dot []) refl e
said_amount (c ∷ cs) v e = by_sign (c == minus) e
  where
    by_sign : (t : Bool) → (if t then option_map negated (unsigned_amount dot cs) else option_map pos (unsigned_amount dot (c ∷ cs))) ≡ Some v → is_amount v ≡ true
    by_sign true e = said_negative cs v (unsigned_amount dot cs) refl e
    by_sign false e = said_positive (c ∷ cs) v (unsigned_amount dot (c ∷ cs)) refl e
