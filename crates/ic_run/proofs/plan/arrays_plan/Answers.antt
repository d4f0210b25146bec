use mir.Val.{SFits}
use Rattle.std.proofs.Common.{rules, w32, ℕ, List, chars, refl, subst, sym}
use Rattle.ic_grid.specs.Block.{block_at}
use Rattle.ic_grid.specs.declared.block.Block.{Block}
use Rattle.ic_machine.specs.Command.{OnArrays}
use Rattle.ic_machine.specs.subjects.Arrays.{SetUserArrayFormula}
use Rattle.ic_words.specs.subjects.Arrays.{arrays_meant}
use Rattle.ic_sheets.proofs.CellLemmas.{stored_block}
use Rattle.ic_parts.specs.Translated.{IsToldOf}
use Rattle.ic_parts.specs.Whole.{whole_of}
use Rattle.ic_run.specs.Translate.{IsPlan}
use Rattle.ic_run.proofs.TurnLemmas.{told_where}
use Rattle.ic_run.proofs.plan.arrays_plan.Goals as goal

pub returns-in_ok-array_to_write-in-SetUserArrayFormula : goal.returns-in_ok-array_to_write-in-SetUserArrayFormula
returns-in_ok-array_to_write-in-SetUserArrayFormula c = λ target.
    let a = c.in-SetUserArrayFormula in
    let whole = whole_of c.args.model.now.book in
    let own = c.in_ok-array_to_write-in-SetUserArrayFormula.field-0 in
    let row : SFits w32 a.row = search rules in
    let column : SFits w32 a.column = search rules in
    let width : SFits w32 a.width = search rules in
    let height : SFits w32 a.height = search rules in
    let b = block_at (a.row, a.column) a.width a.height in
    subst (λ k. IsPlan target whole (OnArrays (arrays_meant k)) c.written.result) (sym a.is)
    (c.written.ensures target whole (OnArrays (SetUserArrayFormula a.sheet b a.text)) refl
    (told_where target whole (OnArrays (SetUserArrayFormula a.sheet b a.text)) own
    (subst (λ (t : List ℕ). IsToldOf whole (OnArrays (SetUserArrayFormula a.sheet b t)) own) c.as_str.ensures
    (subst (λ (x : Block). IsToldOf whole (OnArrays (SetUserArrayFormula a.sheet x (chars c.as_str.result.now))) own) (stored_block a.row a.column a.width a.height row column width height) c.in_ok-array_to_write-in-SetUserArrayFormula.ensures))))
