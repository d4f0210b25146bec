use Rattle.std.proofs.Common.{◌<◌, ◌∙◌, ap, get_or, length, remove, subst, sym}
use Rattle.std.proofs.lemmas.List.{length-map}
use Rattle.ic_laws.specs.Changes.{sheet_gone}
use Rattle.ic_sheets.proofs.IndexLemmas.{read_boxed}
use Rattle.ic_sheets.proofs.KeptLemmas.{finds_same}
use Rattle.ic_sheets.proofs.OwnLemmas.{deleted_looks_up, deleted_made, same_ids, same_names}
use Rattle.ic_sheets.proofs.RewritingLemmas.{read_there}
use Rattle.ic_sheets.proofs.SearchLemmas.{ids, names}
use Rattle.ic_sheets.specs.Rewriting.{Makes, own_rewrites, rewritten_if}
use Rattle.ic_sheets.specs.declared.sheet.Sheet.{Sheet}
use Rattle.ic_sheets.proofs.sheets.Sheets.delete_sheet.Goals as goal

pub take_out-requires-clause-finds : goal.take_out-requires-clause-finds
take_out-requires-clause-finds g c =
    finds_same c.args.ids.now c.args.self.now c.apply.new.self c.requires.finds (ap names c.apply.ensures ∙ same_names c.in_ok-prepared.prepared.items c.args.self.now) (ap ids c.apply.ensures ∙ same_ids c.in_ok-prepared.prepared.items c.args.self.now)

pub take_out-requires-clause-within : goal.take_out-requires-clause-within
take_out-requires-clause-within g c =
    subst (λ n. c.args.index < n) (sym (ap length c.apply.ensures ∙ length-map c.args.self.now (λ s. rewritten_if (own_rewrites s.id c.in_ok-prepared.prepared.items) s))) c.requires.within

pub returns-clause-ok : goal.returns-clause-ok
returns-clause-ok g c = λ sheet at.
    let s = c.as_ref-sheet.result.now in
    deleted_made (sheet_gone (g.F.Finder.scene c.args.definitions.now) sheet.id sheet.name) c.in_ok-prepared.prepared.items c.args.self.now c.take_out.new.self c.args.index
    (subst (λ (s : Sheet). Makes (sheet_gone (g.F.Finder.scene c.args.definitions.now) s.id s.name) c.in_ok-prepared.prepared.items c.args.self.now)
    (read_there c.args.self.now c.args.index s sheet c.requires.within ((read_boxed c.self.inside.list.items c.args.index c.as_ref-sheet.ensures c.index.ensures) ∙ ap (λ xs. get_or xs c.args.index s) c.self.view_is) at)
    (subst (λ n. Makes (sheet_gone (g.F.Finder.scene c.args.definitions.now) s.id n) c.in_ok-prepared.prepared.items c.args.self.now) c.as_str-name.ensures.characters c.in_ok-prepared.ensures))
    (c.take_out.ensures.left ∙ ap (λ xs. remove xs c.args.index) c.apply.ensures)

pub returns-clause-looks_up : goal.returns-clause-looks_up
returns-clause-looks_up g c = λ sheet at.
    let s = c.as_ref-sheet.result.now in
    deleted_looks_up (sheet_gone (g.F.Finder.scene c.args.definitions.now) sheet.id sheet.name) c.in_ok-prepared.prepared.items c.args.self.now c.take_out.new.self c.args.index
    (subst (λ (s : Sheet). Makes (sheet_gone (g.F.Finder.scene c.args.definitions.now) s.id s.name) c.in_ok-prepared.prepared.items c.args.self.now)
    (read_there c.args.self.now c.args.index s sheet c.requires.within ((read_boxed c.self.inside.list.items c.args.index c.as_ref-sheet.ensures c.index.ensures) ∙ ap (λ xs. get_or xs c.args.index s) c.self.view_is) at)
    (subst (λ n. Makes (sheet_gone (g.F.Finder.scene c.args.definitions.now) s.id n) c.in_ok-prepared.prepared.items c.args.self.now) c.as_str-name.ensures.characters c.in_ok-prepared.ensures))
    (c.take_out.ensures.left ∙ ap (λ xs. remove xs c.args.index) c.apply.ensures)
