-- What becomes of a formula when the sheets or the definitions of its book change: it is written out with the names that
-- things have after the change, and bound again.
use Rattle.std.specs.Prelude.{ℕ, List, map, Option, Some, unwrap_or, if◌then◌else◌}
use Rattle.ic_laws.specs.Binding.{bound, spelled_with}
use Rattle.ic_laws.specs.CoreBook.{Cells, CoreBook, Definition, Sheet}
use Rattle.ic_laws.specs.Notations.{Notations, english_function}
use Rattle.ic_laws.specs.Scene.{name_of_key, name_of_sheet, definition_spelling, same_key, sheet_spelling}
use Rattle.ic_laws.specs.Tree.{Bound}
use Rattle.ic_laws.specs.declared.scene.Scene.{Scene}
use Rattle.ic_laws.specs.declared.tree.Formula.{Formula}
use Rattle.ic_laws.specs.declared.tree.Formula.TheVariants as formulas
use Rattle.ic_laws.specs.declared.tree.NameKey.{NameKey}

-- the key that a definition has after the change, by the one that it had before
abbrev pub KeyChange : Type 0
KeyChange = NameKey → NameKey

-- each definition keeps its key
abbrev pub same_keys : KeyChange
same_keys key = key

-- one definition has a new key
abbrev pub changed_key : NameKey → NameKey → KeyChange
changed_key old new key = if same_key old key then new else key

-- a sheet is written by its name after the change, and by the one before where it is gone
abbrev pub kept_sheet : Scene → Scene → ℕ → List ℕ
kept_sheet before after id = unwrap_or (name_of_sheet after id) (sheet_spelling before id)

-- so is a definition, by its key after the change
abbrev pub kept_name : Scene → Scene → KeyChange → NameKey → List ℕ
kept_name before after change key = unwrap_or (name_of_key after (change key)) (definition_spelling before key)

-- A tree over the change of its book: written so, and bound in the book after it.
abbrev pub kept : (List ℕ → Option ℕ) → Scene → Scene → KeyChange → Option ℕ → Bound → Bound
kept english before after change scope t = bound english after scope (spelled_with (kept_sheet before after) (kept_name before after change) t)

-- a text that didn't read isn't read again
abbrev pub kept_formula : (List ℕ → Option ℕ) → Scene → Scene → KeyChange → Option ℕ → Formula → Formula
kept_formula english before after change scope (formulas.Tree t) = formulas.Tree (kept english before after change scope t)
kept_formula english before after change scope (formulas.Raw text) = formulas.Raw text

-- cells with each formula replaced
abbrev pub mapped_cells : (Formula → Formula) → Cells → Cells
mapped_cells f cells = map (λ cell. (cell.0, f cell.1)) cells

module _ (n : Notations) (before after : Scene) (change : KeyChange) where
  -- words in a cell are looked up from its sheet
  abbrev pub kept_on_sheet : Sheet → Sheet
  kept_on_sheet sheet = record sheet { cells = mapped_cells (kept_formula (english_function n) before after change (Some sheet.id)) sheet.cells }

  -- and words in a definition's body from the sheet that the definition is local to
  abbrev pub kept_in_body : Definition → Definition
  kept_in_body definition = record definition { body = kept_formula (english_function n) before after change definition.scope definition.body }

  -- a book with each formula kept
  abbrev pub with_kept : CoreBook → CoreBook
  with_kept book = record book { sheets = map kept_on_sheet book.sheets; definitions = map kept_in_body book.definitions }
