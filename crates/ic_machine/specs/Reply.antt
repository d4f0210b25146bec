-- Replies and their fields.
use Rattle.std.specs.Prelude.{ℕ, ℤ, pos, negsuc, suc, List, [], ◌∷◌, ◌++◌, Bool, true, false, flat_map, map, Option, Some, None, Result, Ok, Err, codes, encode_utf8_all}
use Rattle.std.specs.Fmt.{decimal}
use Rattle.ic_laws.specs.Amount.{amount_text}
use Rattle.ic_laws.specs.Character.{dot, line_feed, minus, tab}
use Rattle.ic_laws.specs.Command as core
use Rattle.ic_laws.specs.Lines.{escaped}
use Rattle.ic_cells.specs.declared.style.Color.{Color}
use Rattle.ic_cells.specs.declared.style.Color.TheVariants as colors
use Rattle.ic_machine.specs.Refusal.{Refusal, refusal_name}

-- a text; a number, or a minus where there is none; a number that may be below 0; an amount, with a dot before its
-- decimals; true or false; a flag, which is 1 or 0; a color, or none
pub data Field : Type 0 where
  TextField : (text : List ℕ) → Field
  NumberField : (number : Option ℕ) → Field
  PositionField : (position : ℤ) → Field
  AmountField : (amount : ℤ) → Field
  BoolField : (truth : Bool) → Field
  FlagField : (flag : Bool) → Field
  ColorField : (color : Color) → Field

-- a number that may be below 0 in digits
abbrev pub position_text : ℤ → List ℕ
position_text (pos n) = decimal n
position_text (negsuc n) = minus ∷ decimal (suc n)

-- a color in a reply: its text, or a minus for none
abbrev pub color_text : Color → List ℕ
color_text colors.None = codes "-"
color_text (colors.Rgb text) = text

-- how a field is written, before escapes
abbrev pub field_text : Field → List ℕ
field_text (TextField text) = text
field_text (NumberField None) = codes "-"
field_text (NumberField (Some n)) = decimal n
field_text (PositionField z) = position_text z
field_text (AmountField v) = amount_text dot v
field_text (BoolField true) = codes "true"
field_text (BoolField false) = codes "false"
field_text (FlagField true) = codes "1"
field_text (FlagField false) = codes "0"
field_text (ColorField color) = color_text color

-- a field of the identity machine's replies
abbrev pub of_core_field : core.Field → Field
of_core_field (core.TextField text) = TextField text
of_core_field (core.NumberField number) = NumberField number

abbrev pub of_core_fields : List core.Field → List Field
of_core_fields fields = map of_core_field fields

-- the fields of replies, by what is answered ----

abbrev pub text_field : List ℕ → List Field
text_field text = TextField text ∷ []

abbrev pub number_field : ℕ → List Field
number_field n = NumberField (Some n) ∷ []

abbrev pub position_field : ℤ → List Field
position_field z = PositionField z ∷ []

abbrev pub bool_field : Bool → List Field
bool_field truth = BoolField truth ∷ []

abbrev pub optional_text_field : Option (List ℕ) → List Field
optional_text_field None = []
optional_text_field (Some text) = TextField text ∷ []

-- the fields of a reply, or why there are none
abbrev pub Reply : Type 0
Reply = Result (List Field) Refusal

-- a field as it stands in a reply: a tab, and its text with escapes
abbrev pub field_word : Field → List ℕ
field_word field = tab ∷ escaped (field_text field)

-- the text of a reply, without the line feed at its end
abbrev pub reply_text : Reply → List ℕ
reply_text (Ok fields) = codes "ok" ++ flat_map field_word fields
reply_text (Err refusal) = codes "error" ++ tab ∷ refusal_name refusal

-- its bytes
abbrev pub reply_bytes : Reply → List ℕ
reply_bytes reply = encode_utf8_all (reply_text reply) ++ line_feed ∷ []
