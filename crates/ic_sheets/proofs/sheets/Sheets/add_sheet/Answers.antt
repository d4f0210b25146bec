use Rattle.std.proofs.Common.{sym, ◌∙◌}
use Rattle.std.proofs.lemmas.List.{length-map}
use Rattle.std.proofs.lemmas.Result.{on_ok_weaker}
use Rattle.ic_laws.proofs.CoreLemmas.{above_greatest}
use Rattle.ic_sheets.proofs.InsertLemmas.{inserted_last}
use Rattle.ic_sheets.specs.Rewriting.{sheets_of}
use Rattle.ic_sheets.specs.Sheet.{sheet_of}
use Rattle.ic_sheets.proofs.sheets.Sheets.add_sheet.Goals as goal

pub insert_sheet-requires-clause-fresh : goal.insert_sheet-requires-clause-fresh
insert_sheet-requires-clause-fresh g c = above_greatest c.args.id _ c.requires.fresh

pub returns-clause-ok : goal.returns-clause-ok
returns-clause-ok g c =
    on_ok_weaker c.insert_sheet.result (λ made. made ∙ inserted_last _ c.len-end.result _ (c.len-end.ensures ∙ sym (length-map (sheets_of c.args.self.now) _ ∙ length-map c.args.self.now sheet_of))) c.insert_sheet.ensures.ok

pub returns-clause-looks_up : goal.returns-clause-looks_up
returns-clause-looks_up g c =
    on_ok_weaker c.insert_sheet.result (λ made. made ∙ inserted_last _ c.len-end.result _ (c.len-end.ensures ∙ sym (length-map c.args.self.now _))) c.insert_sheet.ensures.looks_up
