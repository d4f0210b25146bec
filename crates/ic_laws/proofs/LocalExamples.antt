-- Words with their sheets by example.
use Rattle.std.proofs.Common.{◌≡◌, [], None, Some, codes, refl}
use Rattle.caseless.proofs.Computing.{caseless}
use Rattle.ucd_derived.proofs.Computing.{ucd_derived}
use Rattle.ic_laws.specs.SheetText.{local_text, read_local}

-- a word, one that is longer than a cell, and one past the last row
plain : read_local (codes "T!A") ≡ Some ((codes "T", codes "A"), [])
unfolding read_local caseless ucd_derived
plain = refl

longer_than_cell : read_local (codes "T!A1b+1") ≡ Some ((codes "T", codes "A1b"), codes "+1")
unfolding read_local caseless ucd_derived
longer_than_cell = refl

past_last_row : read_local (codes "T!A1048577") ≡ Some ((codes "T", codes "A1048577"), [])
unfolding read_local caseless ucd_derived
past_last_row = refl

-- the name of the sheet in quotes, which it needs for its blank
in_quotes : read_local (codes "'My data'!tax*2") ≡ Some ((codes "My data", codes "tax"), codes "*2")
unfolding read_local caseless ucd_derived
in_quotes = refl

written_in_quotes : local_text (codes "My data") (codes "tax") ≡ codes "'My data'!tax"
unfolding ucd_derived
written_in_quotes = refl

-- a cell of the last row, a lone R, and words that may name no definition
last_row : read_local (codes "T!A1048576") ≡ None
unfolding read_local caseless ucd_derived
last_row = refl

lone : read_local (codes "T!R") ≡ None
unfolding read_local caseless ucd_derived
lone = refl

boolean : read_local (codes "T!TRUE") ≡ None
unfolding read_local caseless ucd_derived
boolean = refl

let_word : read_local (codes "T!LET") ≡ None
unfolding read_local caseless ucd_derived
let_word = refl

digit_first : read_local (codes "T!1x") ≡ None
unfolding read_local caseless ucd_derived
digit_first = refl

-- no sheet has the name of a cell without quotes
cell_name : read_local (codes "A1!tax") ≡ None
unfolding read_local caseless ucd_derived
cell_name = refl
