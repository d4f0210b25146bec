use Rattle.std.proofs.Common.{◌≡◌, ◌++◌, ℕ, ap, refl, sym, ◌∙◌}
use Rattle.std.proofs.lemmas.List.{append-nil}
use Rattle.std.specs.BTreeSet.{contains}
use Rattle.std.specs.FinMap as finite
use Rattle.std.specs.Ordering.{nat_cmp}
use Rattle.ic_laws.specs.Keeping.{changed_key}
use Rattle.ic_parts.proofs.CellReads.{same_entries}
use Rattle.ic_parts.proofs.SiteLemmas.{no_sites, none_placed, same_sites}
use Rattle.ic_parts.specs.Sites.{captures_at}
use Rattle.ic_parts.proofs.sites.push_sheet.Goals as goal
use Rattle.ic_parts.proofs.sites.push_sheet.Goals.{else-not-is_empty, then-not-is_empty+in_ok-push_cells}

pub returns : goal.returns
returns c =
    let s = c.args.sheet.now in
    let items = c.args.sites.now.items in
    let places = c.in_ok-places.places in
    let keys = changed_key c.args.change.now.old c.args.change.now.new in
    let test = captures_at keys s.pool.formulas c.args.rewrites.now.changes in
    let its : (index : ℕ) → contains nat_cmp places index ≡ test index = λ index. c.in_ok-places.ensures index ∙ ap (λ all. captures_at keys s.pool.formulas all index) c.changes.ensures in
    elim c.if-not-is_empty.branch [
      | then-not-is_empty+in_ok-push_cells w ↦
          ap (λ v. v.items) w.sites-is ∙ w.in_ok-push_cells.ensures.pushed
          ∙ ap (λ xs. items ++ xs) (same_sites s.id (contains nat_cmp places) test _ _ its (same_entries w.as_map.result.now s.grid.cells w.in_ok-push_cells.ensures.ordered w.as_map.ensures))
      | else-not-is_empty w ↦
          ap (λ v. v.items) w.sites-is ∙ sym (append-nil items)
          ∙ ap (λ xs. items ++ xs) (sym (no_sites s.id test (λ index. sym (its index) ∙ none_placed places.keys index (w.if-not-is_empty.ensures.0 refl)) (finite.entries s.grid.cells)))
    ]
