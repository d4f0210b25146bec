use Rattle.std.specs.List.{AllWithin}
use Rattle.ic_laws.specs.CoreBook.{IsId}
use Rattle.ic_sheets.proofs.records.have_ids.Given as goal

-- those so far have one
abbrev pub invariant-loop-worksheet : goal.invariant-loop-worksheet
invariant-loop-worksheet l = AllWithin (λ w. IsId w.sheet_id) l.worksheets 0 l.worksheet-index
