-- The program's start and the notation that it is asked for as texts, and what its words ask for.
use Rattle.std.specs.Prelude.{chars, Option, Some, None}
use Rattle.ic_run.specs.Desk.{Setting}
use Rattle.ic_run.specs.Translate.{Target}
use Rattle.ic_run.specs.declared.make.Making.{Making}
use Rattle.ic_run.specs.declared.program.Deed.{Deed}
use Rattle.ic_run.specs.declared.program.Deed.TheVariants as deeds
use Rattle.ic_run.specs.declared.start.Start.{Start}
use Rattle.ic_run.specs.declared.translation.Wanted.{Wanted}

abbrev pub setting : Start → Setting
setting start = record { locale = chars start.locale.now; language = chars start.language.now; zone = chars start.zone.now }

-- the setting that lines are answered in, if the words ask for that, and what is made, if they ask for that
abbrev pub setting_in : Deed → Option Setting
setting_in (deeds.Run start) = Some (setting start)
setting_in deed = None

abbrev pub making_in : Deed → Option Making
making_in (deeds.Make making) = Some making
making_in deed = None

-- the notation that lines are asked for in
abbrev pub target : Wanted → Target
target wanted = record { locale = chars wanted.locale.now; language = chars wanted.language.now }

abbrev pub target_in : Deed → Option Target
target_in (deeds.Translate wanted) = Some (target wanted)
target_in deed = None
