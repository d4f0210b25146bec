use Rattle.std.proofs.Common.{List, ℕ, ap, chars, map, sym, ◌∙◌}
use Rattle.std.specs.List.{list_any}
use Rattle.ic_laws.specs.Name.{agrees}
use Rattle.ic_sheets.specs.declared.sheet.Sheet.{Sheet as HeldSheet}
use Rattle.ic_parts.proofs.sheet_names.is_number_taken.Goals as goal

pub returns-then-is_marked-clause-taken : goal.returns-then-is_marked-clause-taken
returns-then-is_marked-clause-taken c = sym (c.requires.marked c.args.passed (sym c.is_marked.ensures ∙ c.if-is_marked.true))

pub returns-clause-taken : goal.returns-clause-taken
returns-clause-taken c =
    let named = map (λ (s : HeldSheet). s.name) c.args.sheets.now in
    c.is_taken.ensures ∙ ap (λ (bytes : List ℕ). list_any (agrees (chars bytes)) named) c.as_str.ensures.value
    ∙ ap (λ (t : List ℕ). list_any (agrees t) named) c.in_ok-put_name.ensures
