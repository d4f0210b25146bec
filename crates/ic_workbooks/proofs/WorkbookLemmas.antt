-- What a book holds as plain records.
use Rattle.std.proofs.Common.{◌≡◌, refl}
use Rattle.ic_laws.specs.Notations.{Notations}
use Rattle.ic_laws.specs.declared.scene.Scene.{Scene}
use Rattle.ic_laws.specs.declared.tree.Formula.{Formula}
use Rattle.ic_laws.specs.declared.tree.Formula.TheVariants as formulas
use Rattle.ic_tree.specs.StoredText.{stored_formula}
use Rattle.ic_workbooks.specs.Workbook.{text_in}

-- the stored text of a formula is its text in the stored form
pub text_is_stored : (n : Notations) (scene : Scene) (formula : Formula) → text_in n.stored scene formula ≡ stored_formula n scene formula
text_is_stored n scene (formulas.Tree t) = refl
text_is_stored n scene (formulas.Raw text) = refl
