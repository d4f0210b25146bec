-- What a part of LET or LAMBDA begins with.
use Rattle.std.specs.Prelude.{◌≡◌, List, [], ◌∷◌, Some, None}
use Rattle.ic_laws.specs.Parse.{binder}
use Rattle.ic_laws.specs.Token.{Token}
use Rattle.ic_tree.specs.Tokens.{token_of}
use Rattle.ic_tree.specs.declared.reader.binder.Begun.{Begun}
use Rattle.ic_tree.specs.declared.reader.binder.Begun.TheVariants as begun

-- a variable with its separator is taken, or one token where none of these stands, with the tokens that are left
abbrev pub IsBegun : List Token → Begun → List Token → Type 0
IsBegun ts (begun.Variable name) rest = binder ts ≡ Some (name, rest)
IsBegun ts (begun.Body token) rest = (binder ts ≡ None) × (ts ≡ token_of token ∷ rest)
IsBegun ts begun.Nothing rest = ts ≡ []
