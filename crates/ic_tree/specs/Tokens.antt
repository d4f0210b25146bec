-- What the tokens of the code mean, and what stands first in a list of tokens.
use Rattle.std.specs.Prelude.{ℕ, List, [], ◌∷◌, Some, None}
use Rattle.ic_laws.specs.Token as tokens
use Rattle.ic_laws.specs.declared.reference.Place.{Place}
use Rattle.ic_laws.specs.declared.reference.RefToken.{RefToken}
use Rattle.ic_laws.specs.Token.{Token}
use Rattle.ic_tree.specs.declared.token.Ahead.{Ahead}
use Rattle.ic_tree.specs.declared.token.Ahead.TheVariants as ahead
use Rattle.ic_tree.specs.declared.token.Token as code
use Rattle.ic_tree.specs.declared.token.Token.TheVariants as of

-- a reference without a sheet, and one with the name of its sheet
abbrev pub on_own_sheet : Place → RefToken
on_own_sheet place = record { sheet = None; place = place }

abbrev pub on_sheet : List ℕ → Place → RefToken
on_sheet sheet place = record { sheet = Some sheet; place = place }

-- the token of the definitions that a token of the code is
abbrev pub token_of : code.Token → Token
token_of (of.Num units) = tokens.Num units
token_of (of.Str text) = tokens.Str text
token_of (of.Boolean value) = tokens.Boolean value
token_of (of.Err error) = tokens.Err error
token_of (of.Ref near) = tokens.Ref (on_own_sheet near.place)
token_of (of.SheetRef sheet near) = tokens.Ref (on_sheet sheet near.place)
token_of (of.FarRef far) = tokens.Ref far.value.reference
token_of (of.Local local) = tokens.Local local.value.sheet local.value.word
token_of (of.Word text) = tokens.Word text
token_of (of.FunHead number) = tokens.FunHead number
token_of (of.NameHead name) = tokens.NameHead name
token_of of.Separator = tokens.Separator
token_of (of.Operator sign) = tokens.Operator sign
token_of of.At = tokens.At
token_of of.Percent = tokens.Percent
token_of of.Hash = tokens.Hash
token_of of.Open = tokens.Open
token_of of.Close = tokens.Close
token_of of.OpenBrace = tokens.OpenBrace
token_of of.CloseBrace = tokens.CloseBrace
token_of of.Semicolon = tokens.Semicolon

-- what is left after the first token
abbrev pub after_first : List Token → List Token
after_first [] = []
after_first (t ∷ ts) = ts

-- what is in sight
abbrev pub ahead_of : List Token → Ahead
ahead_of [] = ahead.End
ahead_of (tokens.Percent ∷ ts) = ahead.Percent
ahead_of (tokens.Hash ∷ ts) = ahead.Hash
ahead_of (tokens.Open ∷ ts) = ahead.Open
ahead_of (tokens.Close ∷ ts) = ahead.Close
ahead_of (tokens.CloseBrace ∷ ts) = ahead.CloseBrace
ahead_of (tokens.Separator ∷ ts) = ahead.Separator
ahead_of (tokens.Semicolon ∷ ts) = ahead.Semicolon
ahead_of (tokens.Operator sign ∷ ts) = ahead.Operator sign
ahead_of (t ∷ ts) = ahead.Other
