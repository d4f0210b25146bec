-- What a step of the reader's code says of a step of the definition.
use Rattle.std.specs.Prelude.{◌≡◌, ℕ, Bool, true, false, ◌&&◌, List, [], ◌∷◌, Option, Some, None}
use Rattle.ic_laws.specs.Name.{is_identifier, is_sheet_name, is_variable}
use Rattle.ic_laws.specs.Position.{is_place_within}
use Rattle.ic_laws.specs.Token.{Token, Num, Str, Boolean, Err, Ref, Local, Word}
use Rattle.ic_laws.specs.Tree.{Spelled, height, is_unsigned, is_written_sheet}
use Rattle.ic_laws.specs.Parse.{Read, Pair, made, made_if}
use Rattle.ic_laws.specs.declared.reference.RefToken.{RefToken}
use Rattle.ic_laws.specs.declared.tree.Tree.TheOpen as one

-- the height of the value of a variable of LET
abbrev pub value_height : Pair → ℕ
value_height pair = height pair.value

-- LET is made of pairs and a body, where there is a pair
abbrev pub let_made : ℕ → List Pair → Spelled → List Token → Read Spelled
let_made most [] body rest = None
let_made most (pair ∷ pairs) body rest = made most (one.Let (pair ∷ pairs) body) rest

-- what is asked to be next is passed over, or does not stand there and nothing is
abbrev pub Passes : Option (List Token) → Bool → List Token → List Token → Type 0
Passes past true ts rest = past ≡ Some rest
Passes past false ts rest = (past ≡ None) × (rest ≡ ts)

-- a reference is a leaf where its sheet is the name of one and its place is within the limits
abbrev pub reference_leaf : ℕ → RefToken → List Token → Read Spelled
reference_leaf most reference rest =
    made_if (is_written_sheet reference.sheet && is_place_within reference.place) most (one.Reference reference.sheet reference.place) rest

-- an operand of one token
unfoldable pub leaf : ℕ → Token → List Token → Read Spelled
leaf most (Num units) rest = made_if (is_unsigned units) most (one.Num units) rest
leaf most (Str text) rest = made most (one.Str text) rest
leaf most (Boolean value) rest = made most (one.Bool value) rest
leaf most (Err error) rest = made most (one.Err error) rest
leaf most (Ref reference) rest = reference_leaf most reference rest
leaf most (Local sheet word) rest = made_if (is_sheet_name sheet && is_identifier word) most (one.Local (Some sheet) word) rest
leaf most (Word text) rest = made_if (is_variable text) most (one.Word text) rest
leaf most token rest = None
