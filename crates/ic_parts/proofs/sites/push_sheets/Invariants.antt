use Rattle.std.proofs.Common.{◌≡◌, ◌++◌, drop}
use Rattle.std.specs.Prelude.{flat_map}
use Rattle.ic_laws.specs.Keeping.{changed_key}
use Rattle.ic_parts.specs.Sites.{prepared_sites}
use Rattle.ic_parts.proofs.sites.push_sheets.Given as goal

-- what is listed so far, and the sites of what is left
abbrev pub invariant-loop-prepared : goal.invariant-loop-prepared
invariant-loop-prepared l =
    l.sites.items ++ flat_map (prepared_sites (changed_key l.change.old l.change.new) l.sheets) (drop l.prepared-index l.formulas)
    ≡ l.initial.sites.items ++ flat_map (prepared_sites (changed_key l.change.old l.change.new) l.sheets) l.formulas
