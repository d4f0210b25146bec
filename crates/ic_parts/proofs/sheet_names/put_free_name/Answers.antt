use Rattle.std.proofs.Common.{◌+◌, ap, chars, map, string_bytes, sym, ◌∙◌}
use Rattle.std.proofs.lemmas.List.{length-map}
use Rattle.ic_sheets.specs.declared.sheet.Sheet.{Sheet as HeldSheet}
use Rattle.ic_parts.specs.SheetNames.{name_with}
use Rattle.ic_parts.proofs.FreeNames.{passed_free, passed_named, passed_soon}
use Rattle.ic_parts.proofs.sheet_names.put_free_name.Goals as goal

pub returns-then-near-known-clause-named : goal.returns-then-near-known-clause-named
returns-then-near-known-clause-named c =
    let names = map (λ (s : HeldSheet). s.name) c.args.sheets.now in
    c.in_ok-near.ensures.named
    ∙ ap (name_with c.args.name.now)
    (sym (passed_free names (name_with c.args.name.now) c.len-count.result c.in_ok-near.near
    (c.len-count.ensures ∙ sym (length-map c.args.sheets.now (λ (s : HeldSheet). s.name)))
    (passed_soon names (name_with c.args.name.now) c.len-count.result c.min-soon.result (c.min-known.result + 8) c.in_ok-near.near
    c.min-soon.ensures c.in_ok-near.ensures.passed c.if-near-known.true)))

pub returns-clause-named : goal.returns-clause-named
returns-clause-named c =
    passed_named (map (λ (s : HeldSheet). s.name) c.args.sheets.now) (name_with c.args.name.now) c.pass_taken-2.result c.len-count.result
    (chars (string_bytes c.pass_taken-2.new.text)) (c.len-count.ensures ∙ sym (length-map c.args.sheets.now (λ (s : HeldSheet). s.name)))
    c.pass_taken-2.ensures.passed c.pass_taken-2.ensures.named
