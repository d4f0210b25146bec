-- What a book is asked for with, as characters.
use Rattle.std.specs.Prelude.{chars}
use Rattle.ic_c.specs.Opened.{Wanted}
use Rattle.ic_c.specs.declared.wanted.Wanted as code

abbrev pub wanted : code.Wanted → Wanted
wanted w = record { name = chars w.name.now; locale = chars w.locale.now; language = chars w.language.now; zone = chars w.zone.now }
