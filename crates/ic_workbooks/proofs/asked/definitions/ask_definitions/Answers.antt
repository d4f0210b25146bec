use Rattle.std.proofs.Common.{◌+◌, ◌∙◌, ℕ, List, refl, sym}
use Rattle.ic_cells.specs.declared.workbook.DefinedName.{DefinedName}
use Rattle.ic_workbooks.proofs.AskedLemmas.{key_taken, not_defined, unread_next}
use Rattle.ic_workbooks.proofs.asked.definitions.ask_definitions.Goals as goal
use Rattle.ic_workbooks.proofs.asked.definitions.ask_definitions.Goals.{then-not-is_defined-via-then-not-is_defined, then-not-is_defined-via-else-not-is_defined+then-is_there}

pub returns-then-not-is_defined : goal.returns-then-not-is_defined
returns-then-not-is_defined c =
    let names : List DefinedName = c.args.names.now in
    let i : ℕ = c.loop-name.name-index in
    elim c.then-not-is_defined.branch [
      | then-not-is_defined-via-then-not-is_defined w ↦ (
        refl,
        not_defined names i (i + 1) c.name-item.result refl c.loop-name-test.true c.name-item.is c.loop-name.definitions c.loop-name.invariant.unread (λ d. let no = sym w.if-not-is_defined.true ∙ c.is_defined.ensures.1 d in cc),
      )
      | then-not-is_defined-via-else-not-is_defined+then-is_there w ↦ (
        refl,
        key_taken names i (i + 1) c.name-item.result refl c.loop-name-test.true c.name-item.is c.loop-name.definitions c.loop-name.invariant.unread (sym w.is_there.ensures ∙ w.if-is_there.true),
      )
    ]

pub loop-name-preserved : goal.loop-name-preserved
loop-name-preserved c =
    let unread = unread_next c.args.names.now c.loop-name.name-index (c.loop-name.name-index + 1) c.name-item.result refl c.loop-name-test.true c.name-item.is c.loop-name.definitions c.loop-name.invariant.unread c.put_name.new.definitions
    (c.is_defined.ensures.0 c.if-not-is_defined.false) (sym c.is_there.ensures ∙ c.if-is_there.false) c.in_ok-put_name.ensures.put in
    record { unread = unread; finds = c.put_name.ensures.finds }
