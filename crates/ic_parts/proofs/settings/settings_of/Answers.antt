use Rattle.std.proofs.Common.{◌≡◌, ◌∷◌, [], ℕ, List, ap, ap₂, ◌∙◌}
use Rattle.std.specs.Str.{chars}
use Rattle.ic_tables.specs.declared.locale.Locale.{Locale}
use Rattle.ic_input.specs.Convention.{short_date}
use Rattle.ic_machine.specs.Format.{formatted}
use Rattle.ic_machine.specs.Reply.{Field, TextField}
use Rattle.ic_machine.specs.subjects.Notation.{currency_code, example_amount, example_day, number_format, settings_fields}
use Rattle.ic_parts.proofs.settings.settings_of.Goals as goal

-- eight texts are the formats of a locale
formats_are : (l : Locale) (iso currency short short_shown long long_shown number number_shown : List ℕ) → iso ≡ l.currency.iso → currency ≡ currency_code l → short ≡ short_date l
    → short_shown ≡ formatted l (short_date l) example_day → long ≡ l.dates.date_formats.long → long_shown ≡ formatted l l.dates.date_formats.long example_day → number ≡ number_format
    → number_shown ≡ formatted l number_format example_amount
    → TextField iso ∷ TextField currency ∷ TextField short ∷ TextField short_shown ∷ TextField long ∷ TextField long_shown ∷ TextField number ∷ TextField number_shown ∷ [] ≡ settings_fields l
formats_are l iso currency short short_shown long long_shown number number_shown a b c d e f g h =
    let front = ap₂ (λ (x y : List ℕ). λ (rest : List Field). TextField x ∷ TextField y ∷ rest) a b in
    ap (λ (put : List Field → List Field). put (TextField short ∷ TextField short_shown ∷ TextField long ∷ TextField long_shown ∷ TextField number ∷ TextField number_shown ∷ [])) front
    ∙ ap₂ (λ (x y : List ℕ). TextField l.currency.iso ∷ TextField (currency_code l) ∷ TextField x ∷ TextField y ∷ TextField long ∷ TextField long_shown ∷ TextField number ∷ TextField number_shown ∷ []) c d
    ∙ ap₂ (λ (x y : List ℕ). TextField l.currency.iso ∷ TextField (currency_code l) ∷ TextField (short_date l) ∷ TextField (formatted l (short_date l) example_day) ∷ TextField x ∷ TextField y ∷ TextField number ∷ TextField number_shown ∷ []) e f
    ∙ ap₂ (λ (x y : List ℕ). TextField l.currency.iso ∷ TextField (currency_code l) ∷ TextField (short_date l) ∷ TextField (formatted l (short_date l) example_day) ∷ TextField l.dates.date_formats.long ∷ TextField (formatted l l.dates.date_formats.long example_day) ∷ TextField x ∷ TextField y ∷ []) g h

pub returns : goal.returns
unfolding chars
returns c =
    formats_are c.args.locale.now _ _ _ _ _ _ _ _ (c.in_ok-currency.ensures ∙ c.as_str-3.ensures.characters) c.in_ok-currency_format.ensures (c.in_ok-short_date.ensures.code ∙ c.as_str.ensures.characters)
    (c.in_ok-short_date.ensures.shown ∙ ap₂ (formatted c.args.locale.now) c.as_str.ensures.characters c.example_day.ensures) (c.in_ok-long_date.ensures.code ∙ c.as_str-2.ensures.characters)
    (c.in_ok-long_date.ensures.shown ∙ ap₂ (formatted c.args.locale.now) c.as_str-2.ensures.characters c.example_day-2.ensures) c.in_ok-number_fmt.ensures.code
    (c.in_ok-number_fmt.ensures.shown ∙ ap (formatted c.args.locale.now number_format) c.example_amount.ensures)
