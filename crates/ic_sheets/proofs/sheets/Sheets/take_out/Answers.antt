use Rattle.std.proofs.Common.{◌<◌, ◌∙◌, ap, sym, subst, refl, false, arith, vec_capacity, length, nat_eq, ℕ}
use Rattle.std.proofs.lemmas.List.Edits.{length-remove}
use Rattle.std.specs.List.{IsDistinct, remove}
use Rattle.ic_laws.proofs.core.Lists.{all_removed}
use Rattle.ic_sheets.proofs.HolderLemmas.{held_without}
use Rattle.ic_sheets.specs.Holders.{KnowsCells, KnowsHolders}
use Rattle.ic_sheets.proofs.IndexLemmas.{read_boxed}
use Rattle.ic_sheets.proofs.DanglingLemmas.{dangling_removed, listed_at, none_other, room_at}
use Rattle.ic_sheets.proofs.KeyLemmas.{found_by_name}
use Rattle.ic_sheets.proofs.KeptLemmas.{finds_removed, ids_removed, kept_removed}
use Rattle.ic_sheets.proofs.PlaceLemmas.{stand_raised}
use Rattle.ic_sheets.specs.Index.{AreAtIndexes, FindsSheets, IsFoundBy, LosesName}
use Rattle.ic_sheets.proofs.SearchLemmas.{ids}
use Rattle.ic_sheets.specs.Search.{index_with_id}
use Rattle.ic_sheets.specs.Mentioners.{KnowsPool, KnowsSheets}
use Rattle.ic_sheets.specs.declared.sheet.Sheet.{Sheet}
use Rattle.ic_sheets.proofs.sheets.Sheets.take_out.Goals as goal

pub take_key-requires : goal.take_key-requires
take_key-requires c =
    let sheets = c.self.inside.list.items in
    let s = c.as_ref-sheet.result.now in
    let lt : c.args.index < length sheets = subst (λ xs. c.args.index < length xs) (sym c.self.view_is) c.requires.within in
    let finds = subst (FindsSheets c.args.ids.now) (sym c.self.view_is) c.requires.finds in
    subst (λ name. IsFoundBy name s.id c.args.ids.now) (sym c.as_str.ensures.characters) (found_by_name c.args.ids.now c.self.inside.greatest sheets c.args.index s c.self.invariant.0 finds lt (read_boxed c.self.inside.list.items c.args.index c.as_ref-sheet.ensures c.index.ensures))

pub lower-requires-clause-differ : goal.lower-requires-clause-differ
lower-requires-clause-differ c =
    let differ = ids_removed c.self.inside.list.items c.args.index c.self.invariant.0.ids_differ in
    subst (λ xs. IsDistinct nat_eq (ids xs)) (sym (c.deref.ensures.value ∙ c.remove.ensures.items)) differ

pub lower-requires-clause-before : goal.lower-requires-clause-before
lower-requires-clause-before c =
    let sheets = c.self.inside.list.items in
    let lt : c.args.index < length sheets = subst (λ xs. c.args.index < length xs) (sym c.self.view_is) c.requires.within in
    let s = c.as_ref-sheet.result.now in
    let read = read_boxed sheets c.args.index c.as_ref-sheet.ensures c.index.ensures in
    let before = c.self.inside.indexes in
    let left = c.deref.ensures.value ∙ c.remove.ensures.items in
    let differ = c.self.invariant.0.ids_differ in
    stand_raised sheets c.args.index s differ lt read before c.take_out.new.self c.deref.result.now c.self.invariant.1 left c.take_out.ensures

pub invariant_of-self : goal.invariant_of-self
invariant_of-self c =
    let sheets = c.self.inside.list.items in
    let s = c.as_ref-sheet.result.now in
    let lt : c.args.index < length sheets = subst (λ xs. c.args.index < length xs) (sym c.self.view_is) c.requires.within in
    let finds = λ (id : ℕ). c.lower.ensures id ∙ ap (index_with_id id) c.deref.ensures.value in
    let placed : AreAtIndexes c.lower.new.self c.remove.new.self.items = record { finds = finds } in (
      kept_removed c.self.inside.greatest c.greatest_in-self-inside.result sheets c.remove.new.self.items c.args.index s c.self.invariant.0 lt (read_boxed c.self.inside.list.items c.args.index c.as_ref-sheet.ensures c.index.ensures) c.remove.ensures.items
          (c.greatest_in-self-inside.ensures c.remove.new.self.items placed),
      placed,
      dangling_removed c.self.inside.dangling.items sheets c.args.index s c.self.invariant.2 c.self.invariant.0.ids_differ lt (read_boxed c.self.inside.list.items c.args.index c.as_ref-sheet.ensures c.index.ensures) c.settle.new.ids.items false c.settle.ensures.finds c.settle.ensures.differ
          c.remove.new.self.items refl c.remove.ensures.items,
      omega (arith, c.settle.ensures.capacity, c.self.invariant.3, ap length c.remove.ensures.items, length-remove sheets c.args.index lt),
      subst (KnowsSheets c.self.inside.mentioners) (sym c.remove.ensures.items) (all_removed (λ (x : Sheet). KnowsPool c.self.inside.mentioners x.id x.pool.formulas) sheets c.args.index c.self.invariant.4),
      subst (KnowsHolders c.forget.new.self) (sym c.remove.ensures.items)
          (held_without c.self.inside.holders c.forget.new.self s.id c.forget.ensures.has_all c.forget.ensures.others (remove sheets c.args.index)
          (none_other c.self.inside.dangling.items sheets c.args.index s c.self.invariant.2 c.self.invariant.0.ids_differ lt (read_boxed c.self.inside.list.items c.args.index c.as_ref-sheet.ensures c.index.ensures))
          (all_removed (KnowsCells c.self.inside.holders) sheets c.args.index c.self.invariant.5)),
    )

pub settle-requires-clause-was : goal.settle-requires-clause-was
settle-requires-clause-was c =
    let sheets = c.self.inside.list.items in
    let lt : c.args.index < length sheets = subst (λ xs. c.args.index < length xs) (sym c.self.view_is) c.requires.within in
    listed_at c.self.inside.dangling.items sheets c.args.index c.as_ref-sheet.result.now c.self.invariant.2 c.self.invariant.0.ids_differ lt (read_boxed c.self.inside.list.items c.args.index c.as_ref-sheet.ensures c.index.ensures) ∙ sym c.dangles.ensures

pub settle-requires-clause-room : goal.settle-requires-clause-room
settle-requires-clause-room c clean =
    let sheets = c.self.inside.list.items in
    let lt : c.args.index < length sheets = subst (λ xs. c.args.index < length xs) (sym c.self.view_is) c.requires.within in
    subst (λ n. n < vec_capacity c.self.inside.dangling) (sym c.self.inside.dangling.ok.0)
    (room_at c.self.inside.dangling.items sheets c.args.index c.as_ref-sheet.result.now c.self.invariant.2 c.self.invariant.0.ids_differ lt (read_boxed c.self.inside.list.items c.args.index c.as_ref-sheet.ensures c.index.ensures) (vec_capacity c.self.inside.dangling) c.self.invariant.3 (sym c.dangles.ensures ∙ clean))

pub returns-clause-finds : goal.returns-clause-finds
returns-clause-finds c =
    let sheets = c.self.inside.list.items in
    let s = c.as_ref-sheet.result.now in
    let lt : c.args.index < length sheets = subst (λ xs. c.args.index < length xs) (sym c.self.view_is) c.requires.within in
    let finds = subst (FindsSheets c.args.ids.now) (sym c.self.view_is) c.requires.finds in
    finds_removed c.args.ids.now c.take_key.new.ids c.self.inside.greatest sheets c.remove.new.self.items c.args.index s c.self.invariant.0 finds lt (read_boxed c.self.inside.list.items c.args.index c.as_ref-sheet.ensures c.index.ensures) c.remove.ensures.items
    (subst (λ name. LosesName name c.args.ids.now c.take_key.new.ids) c.as_str.ensures.characters c.take_key.ensures)
