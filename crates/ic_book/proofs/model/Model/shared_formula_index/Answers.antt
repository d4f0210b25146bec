use Rattle.std.proofs.Common.{◌≤◌, ◌+◌, List, Some, true, length, map, option_map, IfSome, refl, sym, ap, subst, ◌∙◌}
use Rattle.std.specs.List.{slice_get}
use Rattle.std.proofs.lemmas.Option.{slice_get-map}
use Rattle.ic_laws.specs.CoreStep.{updated_at}
use Rattle.ic_laws.specs.ValidCore.{IsPooled}
use Rattle.ic_pool.specs.Pool.{IsPlaced}
use Rattle.ic_sheets.proofs.RewritingLemmas.{sheet_there}
use Rattle.ic_sheets.proofs.WriteLemmas.{at_err}
use Rattle.ic_sheets.specs.Sheet as sheets
use Rattle.ic_sheets.specs.Sheet.{Sheet}
use Rattle.ic_sheets.specs.declared.sheet.Sheet.{Sheet as HeldSheet}
use Rattle.ic_parts.specs.Book.{ModelState, core_of, notations_in, scene_in}
use Rattle.ic_book.specs.Inside.{held, held_state, with_sheets}
use Rattle.ic_changes.specs.LookUps.{LooksUpAsBefore}
use Rattle.ic_parts.specs.Written.{pool_at, with_pool}
use Rattle.ic_book.proofs.HeldLemmas.{held_again, placed, placed_core, placed_held, pool_at_is}
use Rattle.ic_parts.proofs.HeldLemmas.{whole_at, whole_updated, within_of}
use Rattle.ic_changes.proofs.LookUpLemmas.{look_ups_left}
use Rattle.ic_parts.proofs.NameIndexLemmas.{indexed_seen, indexed_updated}
use Rattle.ic_book.proofs.model.Model.shared_formula_index.Goals as goal

pub invariant_of-self : goal.invariant_of-self
invariant_of-self g c = record {
  book = held_again c.self.inside c.self.invariant.book c.self.inside.lists.styles c.place_copy.new.self refl c.in_err-place_copy.ensures.err;
  names = indexed_seen c.self.inside.names c.self.inside.contents.sheets _ c.self.inside.contents.definitions c.self.invariant.names c.in_err-place_copy.ensures.err;
}

pub returns-in_err-place_copy-clause-still : goal.returns-in_err-place_copy-clause-still
returns-in_err-place_copy-clause-still g c = λ e. c.place_copy.ensures.still (sym (slice_get-map (λ (s : HeldSheet). s.pool.is_whole) c.self.inside.contents.sheets c.args.sheet) ∙ ap (λ (m : ModelState). slice_get m.has_all c.args.sheet) c.self.view_is ∙ e)

pub returns-in_err-place_copy-clause-cost : goal.returns-in_err-place_copy-clause-cost
returns-in_err-place_copy-clause-cost g c = subst (λ pool. c.place_copy.new.steps ≤ c.args.steps.now + length pool) (pool_at_is c.self.inside c.self.invariant.book c.args.sheet ∙ ap (λ (m : ModelState). pool_at m.book c.args.sheet) c.self.view_is) c.place_copy.ensures.cost

pub invariant_of-self-2 : goal.invariant_of-self-2
invariant_of-self-2 g c =
    let at = (sheet_there c.self.inside.contents.sheets c.args.sheet (within_of c.self.inside.contents.sheets c.len.result c.args.sheet c.len.ensures c.if-index-len.false)) in
    record {
      book = placed_held c.self.inside c.self.invariant.book c.place_copy.new.self c.args.sheet at.0 at.1 c.args.tree.now c.in_ok-place_copy.field-0 c.in_ok-place_copy.ensures.ok.0 c.in_ok-place_copy.ensures.ok.1 c.in_ok-place_copy.ensures.ok.2
          (subst (λ o. IfSome o (λ (s : Sheet). IsPooled (notations_in (held c.self.inside)) (scene_in (held c.self.inside)) (Some s.id) c.args.tree.now)) (slice_get-map sheets.sheet_of c.self.inside.contents.sheets c.args.sheet ∙ ap (option_map sheets.sheet_of) at.1)
          (subst (λ (m : ModelState). IfSome (slice_get m.book.sheets c.args.sheet) (λ s. IsPooled (notations_in m.book) (scene_in m.book) (Some s.id) c.args.tree.now)) (sym c.self.view_is) c.requires));
      names = indexed_updated c.self.inside.names c.self.inside.contents.sheets _ c.self.inside.contents.definitions c.self.invariant.names _ c.args.sheet c.in_ok-place_copy.ensures.ok.2 (λ s. refl);
    }

pub returns-clause-placed : goal.returns-clause-placed
returns-clause-placed g c = (
  c.in_ok-place_copy.ensures.ok.0,
  subst (λ pool. IsPlaced c.args.tree.now c.in_ok-place_copy.field-0 pool c.in_ok-place_copy.ensures.ok.0) (pool_at_is c.self.inside c.self.invariant.book c.args.sheet ∙ ap (λ (m : ModelState). pool_at m.book c.args.sheet) c.self.view_is) c.in_ok-place_copy.ensures.ok.1,
  placed c.self.inside c.self.invariant.book c.place_copy.new.self c.args.sheet c.in_ok-place_copy.ensures.ok.0 c.in_ok-place_copy.ensures.ok.2 ∙ ap (λ (m : ModelState). with_pool c.args.sheet c.in_ok-place_copy.ensures.ok.0 m.book) c.self.view_is,
)

pub returns-clause-core : goal.returns-clause-core
returns-clause-core g c =
    let at = (sheet_there c.self.inside.contents.sheets c.args.sheet (within_of c.self.inside.contents.sheets c.len.result c.args.sheet c.len.ensures c.if-index-len.false)) in
    placed_core c.self.inside c.self.invariant.book c.place_copy.new.self c.args.sheet at.0 at.1 c.args.tree.now c.in_ok-place_copy.field-0 c.in_ok-place_copy.ensures.ok.0 c.in_ok-place_copy.ensures.ok.1 c.in_ok-place_copy.ensures.ok.2 ∙ ap (λ (m : ModelState). core_of m.book) c.self.view_is

pub returns-clause-looks_up : goal.returns-clause-looks_up
returns-clause-looks_up g c = ap (map (λ (s : HeldSheet). s.pool.is_whole)) c.in_ok-place_copy.ensures.ok.2 ∙ whole_updated _ (λ s. refl) c.args.sheet c.self.inside.contents.sheets ∙ ap (λ (m : ModelState). updated_at (λ b. true) c.args.sheet m.has_all) c.self.view_is

pub returns-clause-still : goal.returns-clause-still
returns-clause-still g c = λ e. c.in_ok-place_copy.ensures.still (sym (slice_get-map (λ (s : HeldSheet). s.pool.is_whole) c.self.inside.contents.sheets c.args.sheet) ∙ ap (λ (m : ModelState). slice_get m.has_all c.args.sheet) c.self.view_is ∙ e)

pub returns-clause-cost : goal.returns-clause-cost
returns-clause-cost g c = subst (λ pool. c.place_copy.new.steps ≤ c.args.steps.now + length pool) (pool_at_is c.self.inside c.self.invariant.book c.args.sheet ∙ ap (λ (m : ModelState). pool_at m.book c.args.sheet) c.self.view_is) c.in_ok-place_copy.ensures.cost

pub returns-clause-whole : goal.returns-clause-whole
returns-clause-whole g c =
    let at = sheet_there c.self.inside.contents.sheets c.args.sheet (within_of c.self.inside.contents.sheets c.len.result c.args.sheet c.len.ensures c.if-index-len.false) in
    ap (λ (ws : List HeldSheet). slice_get (map (λ (s : HeldSheet). s.pool.is_whole) ws) c.args.sheet) c.in_ok-place_copy.ensures.ok.2 ∙ whole_at _ (λ s. refl) c.args.sheet c.self.inside.contents.sheets at.0 at.1

pub returns-in_err-place_copy-clause-left : goal.returns-in_err-place_copy-clause-left
returns-in_err-place_copy-clause-left g c =
    at_err c.from_residual.result _
    (subst (λ (m : ModelState). LooksUpAsBefore c.args.sheet m (held_state (with_sheets c.place_copy.new.self c.self.inside))) c.self.view_is
    (look_ups_left c.args.sheet c.self.inside.contents.sheets c.place_copy.new.self c.in_err-place_copy.ensures.looks_up))
