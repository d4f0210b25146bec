-- What a text means that is written into a cell or given as the body of a definition, and how a formula is shown.
use Rattle.std.specs.Prelude.{ℕ, ℤ, pos, List, [], ◌∷◌, ◌++◌, reverse, Bool, true, false, ◌==◌, Option, Some, None, is_some, option_map, option_and_then, if◌then◌else◌, codes}
use Rattle.std.specs.Option.{option_or}
use Rattle.ic_laws.specs.Binding.{bound, spelled}
use Rattle.ic_laws.specs.Character.{equals}
use Rattle.ic_laws.specs.CoreBook.{CoreBook, scene_of}
use Rattle.ic_laws.specs.Dialect.{DialectMeaning}
use Rattle.ic_laws.specs.Notations.{Notations, english, english_function}
use Rattle.ic_laws.specs.Parse.{node}
use Rattle.ic_laws.specs.ReadAs.{read_as}
use Rattle.ic_laws.specs.Reading.{printed}
use Rattle.ic_laws.specs.Scan.{first_is, is_blank, past_run}
use Rattle.ic_laws.specs.Scene.{found_sheet}
use Rattle.ic_laws.specs.Tree.{Kind, Spelled}
use Rattle.ic_laws.specs.declared.reference.RefToken.{RefToken}
use Rattle.ic_laws.specs.declared.scene.Scene.{Scene}
use Rattle.ic_laws.specs.declared.tree.Formula.{Formula}
use Rattle.ic_laws.specs.declared.tree.Formula.TheVariants as formulas
use Rattle.ic_laws.specs.declared.tree.Tree.{out-Tree}
use Rattle.ic_laws.specs.declared.tree.Tree.TheOpen as one

-- how formulas are written now, in the cell at a row and a column
abbrev pub shown_at : Notations → CoreBook → ℤ → ℤ → DialectMeaning
shown_at n book row column = n.shown book.locale book.language row column

-- the text is `=` and something after it
abbrev pub is_formula_text : List ℕ → Bool
is_formula_text [] = false
is_formula_text (c ∷ []) = false
is_formula_text (c ∷ d ∷ cs) = c == equals

-- what stands after one `=` at the front
abbrev pub without_equals : List ℕ → List ℕ
without_equals [] = []
without_equals (c ∷ cs) = if c == equals then cs else c ∷ cs

-- the tree of a cell's text: as it stands, or else with a `)` added
abbrev pub cell_tree : DialectMeaning → List ℕ → Option Spelled
cell_tree d text = option_or (read_as d text) (read_as d (text ++ codes ")"))

-- the formula of a text in a cell of the sheet with this id: the tree, bound to what it finds there; else the text
abbrev pub tree_or_raw : (Spelled → Formula) → List ℕ → Option Spelled → Formula
tree_or_raw formula text None = formulas.Raw text
tree_or_raw formula text (Some t) = formula t

abbrev pub cell_formula : Notations → CoreBook → ℕ → ℤ → ℤ → List ℕ → Formula
cell_formula n book id row column text =
    tree_or_raw (λ t. formulas.Tree (bound (english_function n) (scene_of book) (Some id) t)) text (cell_tree (shown_at n book row column) text)

-- A formula as it is shown: written with the names that things have now, in the notation in force; a text that didn't
-- read as it was typed.
abbrev pub shown_formula : Notations → CoreBook → ℤ → ℤ → Formula → List ℕ
shown_formula n book row column (formulas.Tree t) = printed (shown_at n book row column) (spelled (scene_of book) t)
shown_formula n book row column (formulas.Raw text) = text

-- a text without the blanks at its ends
abbrev pub trimmed : List ℕ → List ℕ
trimmed text = reverse (past_run is_blank (reverse (past_run is_blank text)))

-- the sheet of a reference is named, and there is such a sheet
abbrev pub is_found : Scene → Option (List ℕ) → Bool
is_found scene None = false
is_found scene (Some name) = is_some (found_sheet scene name)

-- a reference with nothing after it, to a sheet that is there
abbrev pub whole_reference : Scene → RefToken → List ℕ → Option Spelled
whole_reference scene r [] = if is_found scene r.sheet then Some (node (one.Reference r.sheet r.place)) else None
whole_reference scene r (c ∷ cs) = None

abbrev pub reference_tree : DialectMeaning → Scene → List ℕ → Option Spelled
reference_tree d scene text = option_and_then (λ found. whole_reference scene found.0 found.1) (d.read_ref (trimmed text))

-- a LAMBDA that isn't applied and has no bracket around it
abbrev pub is_lambda_kind : Kind (Option (List ℕ)) (List ℕ) → Bool
is_lambda_kind (one.Lambda parameters body) = true
is_lambda_kind kind = false

abbrev pub if_lambda : Spelled → Option Spelled
if_lambda t = if is_lambda_kind (out-Tree (Option (List ℕ)) (List ℕ) t) then Some t else None

-- in the notation in force, or in English where the text doesn't read in that
abbrev pub lambda_tree : DialectMeaning → DialectMeaning → List ℕ → Option Spelled
lambda_tree active in_english text = option_and_then if_lambda (option_or (read_as active text) (read_as in_english text))

-- the body of a definition: whether it was typed with an equals sign, and its tree
pub record Body : Type 0 where
  pub has_equals : Bool
  pub tree : Spelled

-- A body is a reference with the name of a sheet, or a LAMBDA, with or without one `=` before it. It counts from the first
-- cell.
abbrev pub body_of : Notations → CoreBook → List ℕ → Option Body
body_of n book text =
    option_or (option_map (λ t. record { has_equals = false; tree = t }) (reference_tree (shown_at n book (pos 1) (pos 1)) (scene_of book) text))
    (option_map (λ t. record { has_equals = first_is (λ c. c == equals) text; tree = t }) (lambda_tree (shown_at n book (pos 1) (pos 1)) (n.shown english english (pos 1) (pos 1)) (without_equals text)))

-- the body as it is shown, with its equals sign
abbrev pub shown_body : Notations → CoreBook → Bool → Formula → List ℕ
shown_body n book has_equals body = (if has_equals then equals ∷ [] else []) ++ shown_formula n book (pos 1) (pos 1) body
