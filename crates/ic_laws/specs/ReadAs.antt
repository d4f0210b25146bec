-- The tree that a text has, as a function: that of its tokens.
use Rattle.std.specs.Prelude.{ℕ, List, Option, option_and_then}
use Rattle.ic_laws.specs.Dialect.{DialectMeaning}
use Rattle.ic_laws.specs.NextToken.{tokens_of}
use Rattle.ic_laws.specs.Parse.{parsed}
use Rattle.ic_laws.specs.Tree.{Spelled}

-- the tree that the text reads as, if it reads as any
abbrev pub read_as : DialectMeaning → List ℕ → Option Spelled
read_as d text = option_and_then (parsed d) (tokens_of d text)
