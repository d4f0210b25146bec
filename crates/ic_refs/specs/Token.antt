-- A reference as it is written, and the token that it is.
use Rattle.std.specs.Prelude.{option_map}
use Rattle.ic_laws.specs.declared.reference.RefToken.{RefToken}
use Rattle.ic_refs.specs.declared.find.FoundReference.{FoundReference}
use Rattle.ic_refs.specs.Written.{name_of}

abbrev pub token_of : FoundReference → RefToken
token_of found = record { sheet = option_map name_of found.sheet; place = found.place }
