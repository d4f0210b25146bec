-- Format codes: those of numbers, with a symbol at one side or a percent sign, and those of dates.
use Rattle.std.specs.Prelude.{◌≡◌, ℕ, List, [], ◌∷◌, ◌++◌, ◌-◌, Bool, true, false, not, ◌&&◌, ◌||◌, ◌==◌, nat_lt, codes, Option, Some, None, if◌then◌else◌}
use Rattle.ic_laws.specs.Character.{hash}
use Rattle.ic_laws.specs.Scan.{past_run, run_of}
use Rattle.ic_laws.specs.Scene.{past_front}
use Rattle.ic_input.specs.Convention.{is_nothing, percent}
use Rattle.ic_tables.specs.Formats.{is_date, may_stand_in_symbol}

-- What the code of a number asks for: a text before the digits, one after them, and whether two decimals are shown.
pub record CodeParts : Type 0 where
  pub before : List ℕ
  pub after : List ℕ
  pub decimals : Bool

-- a percent sign alone
abbrev pub is_percent : List ℕ → Bool
is_percent [] = false
is_percent (c ∷ cs) = c == percent && is_nothing cs

-- beside digits stands nothing, a percent sign after them, or one symbol at one side
abbrev pub stands_beside : (List ℕ → Bool) → List ℕ → List ℕ → Bool
stands_beside symbol [] after = is_nothing after || is_percent after || symbol after
stands_beside symbol (c ∷ cs) after = is_nothing after && symbol (c ∷ cs)

-- a symbol has one to four characters: no digit, no blank, none of the marks of numbers and formats
abbrev pub has_up_to : ℕ → List ℕ → Bool
has_up_to most [] = true
has_up_to most (c ∷ cs) = nat_lt 0 most && may_stand_in_symbol c && has_up_to (most - 1) cs

abbrev pub is_symbol : List ℕ → Bool
is_symbol [] = false
is_symbol (c ∷ cs) = has_up_to 4 (c ∷ cs)

abbrev pub digits_code : Bool → List ℕ
digits_code false = codes "#,##0"
digits_code true = codes "#,##0.00"

-- the code that asks for these parts
abbrev pub code_text : CodeParts → List ℕ
code_text c = c.before ++ (digits_code c.decimals ++ c.after)

-- the parts are those of a code that numbers are shown by
abbrev pub is_supported : CodeParts → Bool
is_supported c = stands_beside is_symbol c.before c.after

-- a text is the code of these parts
abbrev pub IsNumberCode : List ℕ → CodeParts → Type 0
IsNumberCode text c = (text ≡ code_text c) × (is_supported c ≡ true)

-- the same as a function: what stands before the first #, the digits, and what stands after them
abbrev pub supported : List ℕ → Bool → List ℕ → Option CodeParts
supported before decimals after =
    if stands_beside is_symbol before after then Some (record { before = before; after = after; decimals = decimals }) else None

abbrev pub past_decimals : List ℕ → List ℕ → Option (List ℕ) → Option CodeParts
past_decimals before rest (Some after) = supported before true after
past_decimals before rest None = supported before false rest

abbrev pub past_digits_code : List ℕ → Option (List ℕ) → Option CodeParts
past_digits_code before None = None
past_digits_code before (Some rest) = past_decimals before rest (past_front (codes ".00") rest)

abbrev pub is_no_hash : ℕ → Bool
is_no_hash c = not (c == hash)

unfoldable pub number_code : List ℕ → Option CodeParts
number_code text = past_digits_code (run_of is_no_hash text) (past_front (codes "#,##0") (past_run is_no_hash text))

-- the codes of dates
abbrev pub is_date_code : List ℕ → Bool
is_date_code code = is_date code
