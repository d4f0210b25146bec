-- The commands on the locale, the language and the time zone, as the code has them.
use Rattle.ic_machine.specs.subjects.Notation as laws
use Rattle.ic_words.specs.declared.command.notation.Notation.{Notation}
use Rattle.ic_words.specs.declared.command.notation.Notation.TheVariants as commands

abbrev pub notation_meant : Notation → laws.Notation
notation_meant (commands.SetLocale id) = laws.SetLocale id
notation_meant (commands.SetLanguage id) = laws.SetLanguage id
notation_meant (commands.SetTimezone id) = laws.SetTimezone id
notation_meant commands.GetLocale = laws.GetLocale
notation_meant commands.GetLanguage = laws.GetLanguage
notation_meant commands.GetTimezone = laws.GetTimezone
notation_meant commands.GetFmtSettings = laws.GetFmtSettings
