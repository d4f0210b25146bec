use Rattle.std.proofs.Common.{◌≡◌, ◌++◌, ◌∙◌, [], OnOk, ap, option_map, subst, sym}
use Rattle.std.proofs.lemmas.List.{append-nil}
use Rattle.std.specs.List.{AllByRecursion}
use Rattle.std.specs.Option.{option_map_or}
use Rattle.std.specs.Prelude.{IfSome}
use Rattle.ic_laws.specs.Keeping.{changed_key}
use Rattle.ic_sheets.specs.declared.sheet.Sheet.{Sheet}
use Rattle.ic_parts.specs.Sites.{IsAlikeIn, sheet_sites}
use Rattle.ic_parts.proofs.sites.push_prepared.Goals as goal

pub push_sheet-requires : goal.push_sheet-requires
push_sheet-requires c =
    subst (λ o. IfSome o (λ (s : Sheet). AllByRecursion (IsAlikeIn s.pool.formulas) c.args.rewrites.now.changes)) (sym c.with_id.ensures ∙ ap (option_map (λ s. s.now)) c.in-Some.is) c.requires

pub returns-in-Some : goal.returns-in-Some
returns-in-Some c =
    let keys = changed_key c.args.change.now.old c.args.change.now.new in
    subst (λ o. OnOk c.push_sheet.result (c.push_sheet.new.sites.items ≡ c.args.sites.now.items ++ option_map_or (sheet_sites keys c.args.rewrites.now) o []))
    (sym (sym c.with_id.ensures ∙ ap (option_map (λ s. s.now)) c.in-Some.is)) c.push_sheet.ensures

pub returns-in-None : goal.returns-in-None
returns-in-None c =
    let keys = changed_key c.args.change.now.old c.args.change.now.new in
    sym (append-nil c.args.sites.now.items)
    ∙ ap (λ o. c.args.sites.now.items ++ option_map_or (sheet_sites keys c.args.rewrites.now) o []) (sym (sym c.with_id.ensures ∙ ap (option_map (λ s. s.now)) c.in-None.is))
