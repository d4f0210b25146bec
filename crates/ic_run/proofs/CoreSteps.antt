-- A step of the identity machine's commands is, seen by the core of a model's whole book, what the identity machine does.
use Rattle.std.proofs.Common.{◌≡◌, ℕ, ◌<◌, length, Option, Some, None, is_some, ap, subst}
use Rattle.ic_laws.specs.Command as core
use Rattle.ic_laws.specs.CoreBook.{CellPlace, CoreBook}
use Rattle.ic_laws.specs.CoreStep.{core_step}
use Rattle.ic_laws.specs.Notations.{Notations}
use Rattle.ic_laws.specs.declared.scene.Scene.{Scene}
use Rattle.ic_grid.specs.Merges.{is_covered}
use Rattle.ic_machine.specs.Book as machine
use Rattle.ic_machine.specs.Content.{formula_index}
use Rattle.ic_machine.specs.Core.{IsFree, TakesFormula, told_by, told_by_core, whole_command}
use Rattle.ic_machine.specs.Step.{step}
use Rattle.ic_machine.specs.Valid.{HasCellFormulas, HasFormula}
use Rattle.ic_machine.proofs.valid.ValidLemmas.{all_at}
use Rattle.ic_machine.proofs.as_core.FormulaStepped.{formula_told}
use Rattle.ic_machine.proofs.as_core.SteppedLemmas.{stepped}
use Rattle.ic_parts.specs.Book.{Book, IsValidBook, core_of, notations_in, whole_of}
use Rattle.ic_parts.proofs.WholeLemmas.{whole_core}
use Rattle.ic_parts.proofs.WholeWritten.{in_force_there}
use Rattle.ic_run.specs.Core.{HasNoSign, IsPlain, IsPlainBook}
use Rattle.ic_run.proofs.PlainLemmas.{none_fixed}

-- no merged cells and no array of a plain sheet forbid to write a cell, and each formula of a cell is one of the pool
pooled : (n : Notations) (scene : Scene) (sheet : machine.Sheet) (place : CellPlace) (o : Option ℕ) (index : ℕ) → o ≡ Some index → HasFormula n scene sheet place o → index < length sheet.pool
pooled n scene sheet place None index e h = cc
pooled n scene sheet place (Some k) index e h = let same : k ≡ index = cc in subst (λ i. i < length sheet.pool) same h.0

is_free : (n : Notations) (scene : Scene) (place : CellPlace) (s : machine.Sheet) → IsPlain s.grid → HasCellFormulas n scene s → IsFree s place
is_free n scene place s plain formulas = record {
  uncovered = ap (λ merges. is_covered merges place) plain.merges;
  loose = none_fixed s.grid plain place;
  pooled = λ p content index at is. pooled n scene s p (formula_index content) index is (formulas p content at);
}

takes : (b : Book) → IsValidBook b → IsPlainBook (whole_of b) → (index : ℕ) (place : CellPlace) → TakesFormula (whole_of b) index place
takes b v plain index place = record {
  read = ap is_some (in_force_there b v).1;
  free = λ sheet at. is_free (notations_in b) (machine.scene_in (whole_of b)) place sheet (all_at (λ (s : machine.Sheet). IsPlain s.grid) index (whole_of b).sheets sheet plain at)
      (all_at (HasCellFormulas (notations_in b) (machine.scene_in (whole_of b))) index (whole_of b).sheets sheet v.whole.formulas at);
}

-- of the whole book's own core
by_whole : (b : Book) → IsValidBook b → IsPlainBook (whole_of b) → (k : core.Command) → HasNoSign (whole_command k) → told_by (step (whole_of b) (whole_command k)) ≡ told_by_core (core_step (notations_in b) (machine.core_of (whole_of b)) k)
by_whole b v plain (core.UpdateCellWithFormula sheet row column text) unsigned = formula_told (whole_of b) sheet (row, column) text (takes b v plain sheet (row, column)) unsigned
by_whole b v plain (core.AddSheet name) unsigned = stepped (whole_of b) (whole_command (core.AddSheet name))
by_whole b v plain (core.RenameSheet old new) unsigned = stepped (whole_of b) (whole_command (core.RenameSheet old new))
by_whole b v plain (core.RenameSheetByIndex sheet name) unsigned = stepped (whole_of b) (whole_command (core.RenameSheetByIndex sheet name))
by_whole b v plain (core.MoveSheet sheet to) unsigned = stepped (whole_of b) (whole_command (core.MoveSheet sheet to))
by_whole b v plain (core.DeleteSheet sheet) unsigned = stepped (whole_of b) (whole_command (core.DeleteSheet sheet))
by_whole b v plain (core.DeleteSheetByName name) unsigned = stepped (whole_of b) (whole_command (core.DeleteSheetByName name))
by_whole b v plain (core.DeleteSheetBySheetId id) unsigned = stepped (whole_of b) (whole_command (core.DeleteSheetBySheetId id))
by_whole b v plain (core.NewDefinedName name scope body) unsigned = stepped (whole_of b) (whole_command (core.NewDefinedName name scope body))
by_whole b v plain (core.DeleteDefinedName name scope) unsigned = stepped (whole_of b) (whole_command (core.DeleteDefinedName name scope))
by_whole b v plain (core.IsValidDefinedName name scope body) unsigned = stepped (whole_of b) (whole_command (core.IsValidDefinedName name scope body))
by_whole b v plain core.GetDefinedNameList unsigned = stepped (whole_of b) (whole_command core.GetDefinedNameList)
by_whole b v plain core.GetNewSheetId unsigned = stepped (whole_of b) (whole_command core.GetNewSheetId)
by_whole b v plain (core.SetLocale id) unsigned = stepped (whole_of b) (whole_command (core.SetLocale id))
by_whole b v plain (core.SetLanguage id) unsigned = stepped (whole_of b) (whole_command (core.SetLanguage id))
by_whole b v plain (core.GetCellFormula sheet row column) unsigned = stepped (whole_of b) (whole_command (core.GetCellFormula sheet row column))

pub told_as_core : (b : Book) → IsValidBook b → IsPlainBook (whole_of b) → (k : core.Command) → HasNoSign (whole_command k) → told_by (step (whole_of b) (whole_command k)) ≡ told_by_core (core_step (notations_in b) (core_of b) k)
told_as_core b v plain k unsigned =
    subst (λ (c : CoreBook). told_by (step (whole_of b) (whole_command k)) ≡ told_by_core (core_step (notations_in b) c k)) (whole_core b) (by_whole b v plain k unsigned)
