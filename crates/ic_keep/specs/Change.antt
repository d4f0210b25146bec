-- Which key a definition has after a change of its book.
use Rattle.std.specs.Prelude.{Option, None, Some}
use Rattle.ic_keep.specs.declared.change.KeyChange.{KeyChange}
use Rattle.ic_laws.specs.Keeping.{changed_key, same_keys}
use Rattle.ic_laws.specs.declared.tree.NameKey.{NameKey}

-- an updated definition has its new key, and every other the one that it had
abbrev pub change_of : Option KeyChange → NameKey → NameKey
change_of None = same_keys
change_of (Some change) = changed_key change.old change.new
