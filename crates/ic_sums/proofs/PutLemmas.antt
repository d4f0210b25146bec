-- What is left of a model when one formula gets a value, or doesn't.
use Rattle.std.proofs.Common.{◌≡◌, ◌∙◌, ℕ, [], Option, None, Some, Result, Ok, Err, subst, sym}
use Rattle.ic_cells.specs.declared.value.FormulaValue.{FormulaValue}
use Rattle.ic_grid.specs.Block.{Place}
use Rattle.ic_machine.specs.Refusal.{Refusal}
use Rattle.ic_machine.specs.subjects.Arrays.{PutFormulaValue, arrays_step}
use Rattle.ic_parts.proofs.WholeLemmas.{whole_core}
use Rattle.ic_parts.specs.Book.{Book, ModelState, core_of}
use Rattle.ic_parts.specs.Does.{Does, Refused, Wanted}
use Rattle.ic_parts.specs.Fields.{no_fields}
use Rattle.ic_parts.specs.Refused.{refusal_of}
use Rattle.ic_parts.specs.Whole.{whole_of}
use Rattle.ic_parts.specs.declared.error.BookError.{BookError}
use Rattle.ic_sums.specs.Evaluated.{OnlyValues}
use Rattle.ic_sums.proofs.EvaluatedLemmas.{only_core, only_itself, put_only}

module _ (index : ℕ) (place : Place) (value : FormulaValue) (old new : ModelState) where
  as_it_was : new ≡ old → OnlyValues (whole_of old.book) (whole_of new.book)
  as_it_was e = subst (λ (m : ModelState). OnlyValues (whole_of old.book) (whole_of m.book)) (sym e) (only_itself (whole_of old.book))

  refused : (o : Option Refusal) → Refused Wanted (arrays_step (whole_of old.book) (PutFormulaValue index place value)) old new o → OnlyValues (whole_of old.book) (whole_of new.book)
  refused (Some refusal) h = as_it_was h.1
  refused None h = as_it_was h.1

  pub put_does : (result : Result (Unit {0}) BookError) → Does arrays_step (PutFormulaValue index place value) no_fields result old new → OnlyValues (whole_of old.book) (whole_of new.book)
  put_does (Ok done) does = put_only (whole_of old.book) index place value (whole_of new.book) [] does.done
  put_does (Err e) does = refused (refusal_of e) does.done

-- the core is as it was then
pub core_stays : (old new : Book) → OnlyValues (whole_of old) (whole_of new) → core_of new ≡ core_of old
core_stays old new only = sym (whole_core new) ∙ only_core (whole_of old) (whole_of new) only ∙ whole_core old
