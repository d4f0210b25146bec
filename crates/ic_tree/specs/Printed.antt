-- The canonical text of a tree, level by level: what a level writes around the texts of what is below it.
use Rattle.std.specs.Prelude.{◌≡◌, ℕ, zero, suc, ◌+◌, List, [], ◌∷◌, ◌++◌, true, false, ◌==◌, codes, Option, flat_map, nat_eq, if◌then◌else◌}
use Rattle.ic_laws.specs.Amount.{amount_text}
use Rattle.ic_laws.specs.Character.{at_sign, comma, double_quote, minus, semicolon}
use Rattle.ic_laws.specs.Dialect.{DialectMeaning, boolean_number, error_number, reference_text, word_text}
use Rattle.ic_laws.specs.Reading.{printed}
use Rattle.ic_laws.specs.SheetText.{local_text}
use Rattle.ic_laws.specs.Token.{sign_text, string_text}
use Rattle.ic_laws.specs.Parse.{Pair, SpelledKind}
use Rattle.ic_laws.specs.Tree.{Kind, Spelled}
use Rattle.ic_laws.specs.Yield.{sheet_name}
use Rattle.ic_laws.specs.declared.dialect.WordKind.TheVariants as kinds
use Rattle.ic_laws.specs.declared.tree.Constant.{Constant}
use Rattle.ic_laws.specs.declared.tree.Constant.TheVariants as constants
use Rattle.ic_laws.specs.declared.tree.PrefixSign.{PrefixSign}
use Rattle.ic_laws.specs.declared.tree.PrefixSign.TheVariants as prefixes
use Rattle.ic_laws.specs.declared.tree.LetPair.{LetPair}
use Rattle.ic_laws.specs.declared.tree.Tree.{Tree, roll-Tree}
use Rattle.ic_laws.specs.declared.tree.Tree.TheOpen as one

-- what stands before the text of this number: nothing before the first one, and a separator before each other
abbrev pub separator_before : ℕ → ℕ → List ℕ
separator_before separator zero = []
separator_before separator (suc n) = separator ∷ []

-- texts of which the first has this number, each after what stands before it
abbrev pub each_from : {A : Type 0} → ℕ → ℕ → (A → List ℕ) → List A → List ℕ
each_from separator n text [] = []
each_from separator n text (x ∷ xs) = separator_before separator n ++ text x ++ each_from separator (n + 1) text xs

-- texts with a separator between each two of them
abbrev pub all_between : {A : Type 0} → ℕ → (A → List ℕ) → List A → List ℕ
all_between separator text xs = each_from separator 0 text xs

-- texts, each before a separator
abbrev pub each_before : {A : Type 0} → ℕ → (A → List ℕ) → List A → List ℕ
each_before separator text [] = []
each_before separator text (x ∷ xs) = text x ++ separator ∷ each_before separator text xs

-- a text with each quote in it doubled
abbrev pub doubled_char : ℕ → List ℕ
doubled_char c = if c == double_quote then double_quote ∷ double_quote ∷ [] else c ∷ []

abbrev pub doubled : List ℕ → List ℕ
doubled text = flat_map doubled_char text

-- the canonical text of a tree
unfoldable pub tree_text : DialectMeaning → Spelled → List ℕ
tree_text d t = printed d t

abbrev pub slash : ℕ
slash = 47

abbrev pub plus : ℕ
plus = 43

-- what stands between the rows of an array: `;`, and `/` where `;` separates arguments
abbrev pub row_separator : DialectMeaning → ℕ
row_separator d = if nat_eq d.list comma then semicolon else slash

abbrev pub prefix_sign : PrefixSign → ℕ
prefix_sign prefixes.Plus = plus
prefix_sign prefixes.Minus = minus
prefix_sign prefixes.At = at_sign

-- a constant of an array
abbrev pub constant_text : DialectMeaning → Constant → List ℕ
constant_text d (constants.Num true units) = minus ∷ amount_text d.decimal units
constant_text d (constants.Num false units) = amount_text d.decimal units
constant_text d (constants.Str text) = string_text text
constant_text d (constants.Bool value) = word_text d kinds.Boolean (boolean_number value)
constant_text d (constants.Err error) = word_text d kinds.Error (error_number error)

-- a row of an array
abbrev pub row_text : DialectMeaning → List Constant → List ℕ
row_text d row = all_between d.list (constant_text d) row

-- Whatever its mentions are, from the texts of the formulas below a level: ----

module _ {S W : Type 0} (d : DialectMeaning) (text : Tree S W → List ℕ) where
  -- the arguments of a function
  abbrev pub written_arguments : List (Tree S W) → List ℕ
  written_arguments arguments = all_between d.list text arguments

  -- a variable of LET and its value
  abbrev pub written_pair : LetPair S W → List ℕ
  written_pair pair = pair.variable ++ d.list ∷ text pair.value

  module _ (sheet : S → Option (List ℕ)) (word : W → List ℕ) where
    -- a level, by the names of its sheets and the texts of its words
    abbrev pub written_kind : Kind S W → List ℕ
    written_kind (one.Num units) = amount_text d.decimal units
    written_kind (one.Str string) = string_text string
    written_kind (one.Bool value) = word_text d kinds.Boolean (boolean_number value)
    written_kind (one.Err error) = word_text d kinds.Error (error_number error)
    written_kind (one.Reference m place) = reference_text d (record { sheet = sheet m; place = place })
    written_kind (one.Local m w) = local_text (sheet_name (sheet m)) (word w)
    written_kind (one.Word w) = word w
    written_kind one.Empty = []
    written_kind (one.Paren x) = codes "(" ++ text x ++ codes ")"
    written_kind (one.Prefix sign x) = prefix_sign sign ∷ text x
    written_kind (one.Percent x) = text x ++ codes "%"
    written_kind (one.Spill x) = text x ++ codes "#"
    written_kind (one.Binary sign a b) = text a ++ sign_text sign ++ text b
    written_kind (one.Fun number arguments) = word_text d kinds.Function number ++ codes "(" ++ (written_arguments arguments ++ codes ")")
    written_kind (one.Call w arguments) = word w ++ codes "(" ++ (written_arguments arguments ++ codes ")")
    written_kind (one.Let pairs body) =
        word_text d kinds.Function d.let_fn ++ codes "(" ++ each_before d.list written_pair pairs ++ (text body ++ codes ")")
    written_kind (one.Lambda parameters body) =
        word_text d kinds.Function d.lambda_fn ++ codes "(" ++ each_before d.list (λ p. p) parameters ++ (text body ++ codes ")")
    written_kind (one.Apply x arguments) = text x ++ codes "(" ++ (written_arguments arguments ++ codes ")")
    written_kind (one.Array rows) = codes "{" ++ all_between (row_separator d) (row_text d) rows ++ codes "}"

-- formulas are written level by level, by the names of their sheets and the texts of their words
pub record IsByLevels {S W : Type 0} (sheet : S → Option (List ℕ)) (word : W → List ℕ) (text : DialectMeaning → Tree S W → List ℕ) : Type 0 where
  pub level : (d : DialectMeaning) (kind : Kind S W) → text d (roll-Tree S W kind) ≡ written_kind d (text d) sheet word kind

-- Of a spelled tree: ----

-- a sheet and a word stand in it as they are written
abbrev pub as_it_is : {A : Type 0} → A → A
as_it_is written = written

abbrev pub arguments_text : DialectMeaning → List Spelled → List ℕ
arguments_text d arguments = written_arguments d (tree_text d) arguments

abbrev pub pair_text : DialectMeaning → Pair → List ℕ
pair_text d pair = written_pair d (tree_text d) pair

abbrev pub kind_text : DialectMeaning → SpelledKind → List ℕ
kind_text d kind = written_kind d (tree_text d) as_it_is as_it_is kind
