use Rattle.std.proofs.Common.{refl, rules}
use Rattle.ic_machine.specs.Command.{OnNotation}
use Rattle.ic_words.specs.subjects.Notation.{notation_meant}
use Rattle.ic_commands.proofs.AnswerLemmas.{changed_notation, only_read}
use Rattle.ic_commands.proofs.answer.notation.answer_notation.Goals as goal

pub returns-in-SetLocale : goal.returns-in-SetLocale
returns-in-SetLocale c = changed_notation (OnNotation (notation_meant c.args.command)) refl c.told.ensures c.set_locale.ensures.does (search rules) (search rules) c.set_locale.ensures.looks_up

pub returns-in-SetLanguage : goal.returns-in-SetLanguage
returns-in-SetLanguage c = changed_notation (OnNotation (notation_meant c.args.command)) refl c.told-in-SetLanguage.ensures c.set_language.ensures.does (search rules) (search rules) c.set_language.ensures.looks_up

pub returns-in-SetTimezone : goal.returns-in-SetTimezone
returns-in-SetTimezone c = changed_notation (OnNotation (notation_meant c.args.command)) refl c.told-in-SetTimezone.ensures c.set_timezone.ensures.does (search rules) (search rules) c.set_timezone.ensures.looks_up

pub returns-in-GetLocale : goal.returns-in-GetLocale
returns-in-GetLocale c = only_read c.told-in-GetLocale.ensures c.get_locale.ensures.does (search rules)

pub returns-in-GetLanguage : goal.returns-in-GetLanguage
returns-in-GetLanguage c = only_read c.told-in-GetLanguage.ensures c.get_language.ensures.does (search rules)

pub returns-in-GetTimezone : goal.returns-in-GetTimezone
returns-in-GetTimezone c = only_read c.told-in-GetTimezone.ensures c.get_timezone.ensures.does (search rules)

pub returns-in-GetFmtSettings : goal.returns-in-GetFmtSettings
returns-in-GetFmtSettings c = only_read c.told-in-GetFmtSettings.ensures c.get_fmt_settings.ensures.does (search rules)
