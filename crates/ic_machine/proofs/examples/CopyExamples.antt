-- A copy of a sheet by example: where its formulas and the definitions that it gets point.
use Rattle.std.proofs.Common.{◌≡◌, cond, ℕ, List, [], ◌∷◌, Bool, true, false, Option, Some, None, codes, ap, refl}
pub use mathlib.Core.Bool.{and-false as no_more}
use Rattle.std.specs.Prelude.{◌&&◌}
use Rattle.caseless.proofs.Computing.{caseless}
use Rattle.ic_laws.specs.Changes.{is_of_sheet}
use Rattle.ic_laws.specs.CoreBook.{Definition}
use Rattle.ic_laws.specs.Mentions.{some_step}
use Rattle.ic_laws.specs.declared.reference.Place.{Place}
use Rattle.ic_laws.specs.declared.scene.Scene.{Scene}
use Rattle.ic_laws.specs.declared.tree.Formula.{Formula}
use Rattle.ic_laws.specs.declared.tree.Formula.TheVariants as formulas
use Rattle.ic_laws.specs.declared.tree.SheetMention.{SheetMention}
use Rattle.ic_laws.specs.declared.tree.SheetMention.TheVariants as sheets
use Rattle.ic_laws.specs.declared.tree.NameMention.{NameMention}
use Rattle.ic_laws.specs.declared.tree.Tree.{fold-roll-Tree}
use Rattle.ic_laws.specs.declared.tree.Tree.TheOpen as one
use Rattle.ic_laws.proofs.binding.Again.{bound_node, bound-node, spelled-node}
use Rattle.ic_tree.specs.Notations.{notations_of}
use Rattle.ic_machine.specs.subjects.Sheets.{copied_formula, copied_of, mentions_sheet}
use Rattle.ic_machine.proofs.examples.Small.{tables}

abbrev reference_at : Place → Formula
reference_at place = formulas.Tree (bound_node (one.Reference (sheets.Sheet 1) place))

-- the sheet, its copy and another, and no definitions
abbrev pub scene : Scene
scene = record { sheets = record { id = 1; name = codes "Sheet1" } ∷ record { id = 3; name = codes "Sheet1 (1)" } ∷ record { id = 2; name = codes "Other" } ∷ []; names = [] }

module _ (place : Place) where
  abbrev reference : SheetMention → Formula
  reference sheet = formulas.Tree (bound_node (one.Reference sheet place))

  -- a reference to the sheet itself is one to the copy
  pub of_itself : copied_formula (notations_of tables) scene 1 3 (reference (sheets.Sheet 1)) ≡ reference (sheets.Sheet 3)
  unfolding caseless notations_of
  of_itself = simp (spelled-node, bound-node)

  -- one to another sheet stays
  pub of_another : copied_formula (notations_of tables) scene 1 3 (reference (sheets.Sheet 2)) ≡ reference (sheets.Sheet 2)
  unfolding caseless notations_of
  of_another = simp (spelled-node, bound-node)

-- of a definition for all sheets and one for the sheet with the same name, which is copied with another of the sheet, the
-- first isn't
abbrev defined : List ℕ → Option ℕ → Formula → Definition
defined name scope body = record { name = name; scope = scope; has_equals = false; body = body }

local_ones : (body : Formula)
    → copied_of 1 (defined (codes "x") None body ∷ defined (codes "x") (Some 1) body ∷ defined (codes "y") (Some 2) body ∷ defined (codes "z") (Some 1) body ∷ [])
    ≡ defined (codes "x") (Some 1) body ∷ defined (codes "z") (Some 1) body ∷ []
unfolding caseless
local_ones body =
    ap (λ (more : Bool). defined (codes "x") (Some 1) body ∷ defined (codes "z") (Some 1) body ∷ cond more (defined (codes "x") None body ∷ []) []) (no_more (mentions_sheet 1 body))

mentions : (place : Place) → mentions_sheet 1 (reference_at place) ≡ true
mentions place = fold-roll-Tree SheetMention NameMention Bool Bool (some_step (is_of_sheet 1) (λ word. false) (λ sheet word. false)) (λ pair. pair.value) (one.Reference (sheets.Sheet 1) place)

-- where the sheet has none of the name, it is copied if its body mentions the sheet
shared_one : (place : Place) → copied_of 1 (defined (codes "x") None (reference_at place) ∷ defined (codes "y") (Some 1) (formulas.Raw []) ∷ [])
    ≡ defined (codes "y") (Some 1) (formulas.Raw []) ∷ defined (codes "x") None (reference_at place) ∷ []
unfolding caseless
shared_one place =
    ap (λ (more : Bool). defined (codes "y") (Some 1) (formulas.Raw []) ∷ cond (more && true) (defined (codes "x") None (reference_at place) ∷ []) []) (mentions place)

-- one that mentions no sheet isn't copied either
no_mention : (text : List ℕ) → copied_of 1 (defined (codes "x") None (formulas.Raw text) ∷ []) ≡ []
unfolding caseless
no_mention text = refl
