-- The commands that touch the cells, the layout or the tab of one sheet, or none: what formulas can mention stays.
use Rattle.std.specs.Prelude.{◌≡◌, Bool, true, false, Ok, Err}
use Rattle.ic_machine.specs.Action.{leaves_lists}
use Rattle.ic_machine.specs.Book.{Book, Stepped, scene_in}
use Rattle.ic_machine.specs.Command.{Command, action}

-- all but those that change the list of sheets or that of definitions
abbrev pub leaves_names : Command → Bool
leaves_names command = leaves_lists (action command)

-- what formulas can mention is what they could before
abbrev pub KeepsScene : Book → Stepped Book → Type 0
KeepsScene book (Ok done) = scene_in done.0 ≡ scene_in book
KeepsScene book (Err refusal) = Unit {0}

-- asked of such a command
abbrev pub KeepsSceneIf : Bool → Book → Stepped Book → Type 0
KeepsSceneIf true book stepped = KeepsScene book stepped
KeepsSceneIf false book stepped = Unit {0}
