-- The characters of a text that is written out.
use Rattle.std.specs.Str.{chars}

-- `unfolding literal` lets `refl` compute them
unfoldable pub literal : Unit {0}
unfolding chars
literal = tt
