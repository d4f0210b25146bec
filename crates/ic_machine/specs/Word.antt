-- What the words of command lines are, and what they say.
use Rattle.std.specs.Prelude.{ℕ, ℤ, List, [], ◌∷◌, Bool, true, false, bytes_eq, Option, Some, None, option_map, option_and_then, if◌then◌else◌, codes}
use Rattle.std.specs.List.{find}
use Rattle.ic_laws.specs.Character.{colon, dot}
use Rattle.ic_laws.specs.Command.{index_said, position_said, scope_said}
use Rattle.ic_laws.specs.Lines.{word_texts}
use Rattle.ic_laws.specs.Scene.{past_front}
use Rattle.ic_tables.specs.Words.{first_agreeing}
use Rattle.ic_cells.specs.Sheet.{state_word}
use Rattle.ic_cells.specs.declared.sheet.SheetState.{SheetState}
use Rattle.ic_cells.specs.declared.sheet.SheetState.TheVariants as states
use Rattle.ic_cells.specs.declared.style.Color.{Color}
use Rattle.ic_cells.specs.declared.style.Color.TheVariants as colors
use Rattle.ic_cells.specs.declared.value.FormulaValue.{FormulaValue}
use Rattle.ic_cells.specs.declared.value.FormulaValue.TheVariants as fvalues
use Rattle.ic_cells.specs.declared.value.SpillValue.{SpillValue}
use Rattle.ic_cells.specs.declared.value.SpillValue.TheVariants as spills
use Rattle.ic_grid.specs.Shape.{gathered}
use Rattle.ic_input.specs.Amount.{signed_amount}
use Rattle.ic_input.specs.Typed.{error_in}

-- a text; an index, an id or a width, an unsigned number of 32 bits; a row, a column, a count or the side of an area, a
-- signed one; an amount; true or false; an index or an id, or a minus for none; the value of a formula; that of a cell of
-- a spill, which is always there; a flag, 0 or 1; a color, or a minus for none; the state of a sheet
pub data WordForm : Type 0 where
  OfText : WordForm
  OfIndex : WordForm
  OfPosition : WordForm
  OfAmount : WordForm
  OfBool : WordForm
  OfScope : WordForm
  OfValue : WordForm
  OfSpill : WordForm
  OfFlag : WordForm
  OfColor : WordForm
  OfState : WordForm

-- what such a word says
abbrev pub Said : WordForm → Type 0
Said OfText = List ℕ
Said OfIndex = ℕ
Said OfPosition = ℤ
Said OfAmount = ℤ
Said OfBool = Bool
Said OfScope = Option ℕ
Said OfValue = FormulaValue
Said OfSpill = SpillValue
Said OfFlag = Bool
Said OfColor = Color
Said OfState = SheetState

-- what the word of a closed list says
abbrev pub word_in : {A : Type 0} → List (List ℕ × A) → List ℕ → Option A
word_in words text = option_map (λ w. w.1) (find (λ w. bytes_eq w.0 text) words)

abbrev pub bool_said : List ℕ → Option Bool
bool_said text = word_in ((codes "true", true) ∷ (codes "false", false) ∷ []) text

abbrev pub flag_said : List ℕ → Option Bool
flag_said text = word_in ((codes "1", true) ∷ (codes "0", false) ∷ []) text

abbrev pub all_states : List SheetState
all_states = states.Visible ∷ states.Hidden ∷ states.VeryHidden ∷ []

abbrev pub state_said : List ℕ → Option SheetState
state_said text = find (λ state. bytes_eq (state_word state) text) all_states

-- each text is a color but a minus, which is none
abbrev pub color_said : List ℕ → Color
color_said text = if bytes_eq text (codes "-") then colors.None else colors.Rgb text

-- the words of a command: none more; one of a form, and then others; one or more of a form, up to the end
pub data Words : Type 0 where
  Done : Words
  Then : (form : WordForm) (others : Words) → Words
  Many : (form : WordForm) → Words

-- what such words say, one after another
abbrev pub AllSaid : Words → Type 0
AllSaid Done = Unit {0}
AllSaid (Then form others) = Said form × AllSaid others
AllSaid (Many form) = List (Said form)

-- the English words of the error values are those of the tables, in the order of their numbers
module _ (english : List (List ℕ)) where
  -- what stands after `n:`, `b:`, `t:` or `e:` is an amount, a boolean, a text or an error value by its English word
  abbrev pub value_said_by : ℕ → List ℕ → Option SpillValue
  value_said_by kind text =
      if bytes_eq (kind ∷ []) (codes "n") then option_map spills.Number (signed_amount dot text)
      else if bytes_eq (kind ∷ []) (codes "b") then option_map spills.Boolean (bool_said text)
      else if bytes_eq (kind ∷ []) (codes "t") then Some (spills.Text text)
      else if bytes_eq (kind ∷ []) (codes "e") then option_map spills.Error (error_in (first_agreeing english text)) else None

  abbrev pub spill_said : List ℕ → Option SpillValue
  spill_said [] = None
  spill_said (kind ∷ text) = option_and_then (value_said_by kind) (past_front (colon ∷ []) text)

  -- `u` is a formula without a value
  abbrev pub value_said : List ℕ → Option FormulaValue
  value_said text = if bytes_eq text (codes "u") then Some fvalues.Unevaluated else option_map gathered (spill_said text)

  -- what a text says as a word of this form, if it is one
  abbrev pub said : (form : WordForm) → List ℕ → Option (Said form)
  said OfText text = Some text
  said OfIndex text = index_said text
  said OfPosition text = position_said text
  said OfAmount text = signed_amount dot text
  said OfBool text = bool_said text
  said OfScope text = scope_said text
  said OfValue text = value_said text
  said OfSpill text = spill_said text
  said OfFlag text = flag_said text
  said OfColor text = Some (color_said text)
  said OfState text = state_said text

  -- what each of these texts says
  abbrev pub each_said : (form : WordForm) → List (List ℕ) → Option (List (Said form))
  each_said form [] = Some []
  each_said form (text ∷ texts) = option_and_then (λ first. option_map (λ others. first ∷ others) (each_said form texts)) (said form text)

  abbrev pub some_said : (form : WordForm) → List (List ℕ) → Option (List (Said form))
  some_said form [] = None
  some_said form (text ∷ texts) = each_said form (text ∷ texts)

  -- what texts say as such words; none where there are more or fewer, or one isn't of its form
  abbrev pub all_said : (words : Words) → List (List ℕ) → Option (AllSaid words)
  all_said Done [] = Some tt
  all_said Done (text ∷ texts) = None
  all_said (Then form others) [] = None
  all_said (Then form others) (text ∷ texts) = option_and_then (λ first. option_map (λ rest. (first, rest)) (all_said others texts)) (said form text)
  all_said (Many form) texts = some_said form texts

  -- by the texts that they spell
  abbrev pub words_said : (words : Words) → List (List ℕ) → Option (AllSaid words)
  words_said words spelled = option_and_then (all_said words) (word_texts spelled)

-- words of these forms and none more
abbrev pub words_of : List WordForm → Words
words_of [] = Done
words_of (form ∷ forms) = Then form (words_of forms)
