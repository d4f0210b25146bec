use Rattle.std.proofs.Common.{◌≡◌, ◌+◌, false, refl, true, arith}
use Rattle.ic_laws.specs.CoreBook.{IsId}
use Rattle.std.specs.Cmp.{nat_eq_equiv}
use Rattle.ic_sheets.proofs.ApartLemmas.{not_each}
use Rattle.ic_sheets.proofs.RecordLemmas.{HasId, all_have, id_in, more_have}
use Rattle.ic_sheets.proofs.records.have_ids.Goals as goal

pub loop-worksheet-preserved : goal.loop-worksheet-preserved
loop-worksheet-preserved c =
    let id : IsId c.worksheet-item.result.sheet_id = (omega arith, omega arith) in
    more_have c.args.worksheets.now c.loop-worksheet.worksheet-index c.worksheet-item.result c.loop-worksheet-test.true c.worksheet-item.is c.loop-worksheet.invariant id

pub returns-then-worksheet-eq0 : goal.returns-then-worksheet-eq0
returns-then-worksheet-eq0 c =
    let i = c.loop-worksheet.worksheet-index in (
      λ e. let no : false ≡ true = e in cc,
      λ all.
          absurd
          (not_each nat_eq_equiv HasId id_in c.args.worksheets.now i (i + 1) c.worksheet-item.result refl c.loop-worksheet-test.true c.worksheet-item.is (λ id. let some = id.0 in omega (arith, some, c.if-worksheet-eq0.true)) all),
    )

pub returns : goal.returns
returns c = (λ e. all_have c.args.worksheets.now (λ k d lt. c.loop-worksheet.invariant k d (omega arith) (omega (arith, lt, c.loop-worksheet-test.false))), λ all. refl)
