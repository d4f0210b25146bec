-- What a text is typed as by the function is what it is typed as by the rules, for every text.
use Rattle.std.specs.Prelude.{◌≡◌, ℕ, List}
use Rattle.ic_tables.specs.Tables.{HasGoodFormats, TableSet}
use Rattle.ic_tables.specs.declared.language.Language.{Language}
use Rattle.ic_tables.specs.declared.locale.Locale.{Locale}
use Rattle.ic_input.specs.Typed.{IsTyped, typed}
use Rattle.ic_input.specs.declared.input.Typed.{Typed}

-- what a text is typed as by the rules, by a locale of tables, is what the function answers
abbrev pub RuledIsAnswered : Type 0
RuledIsAnswered =
    (tables : TableSet) (l : Locale) (language english : Language) (text : List ℕ) (u : Typed)
    → HasGoodFormats tables l → IsTyped l language english text u → typed l language english text ≡ u

-- and what the function answers, the text is typed as by the rules
abbrev pub AnsweredIsRuled : Type 0
AnsweredIsRuled =
    (tables : TableSet) (l : Locale) (language english : Language) (text : List ℕ) (u : Typed)
    → HasGoodFormats tables l → typed l language english text ≡ u → IsTyped l language english text u
