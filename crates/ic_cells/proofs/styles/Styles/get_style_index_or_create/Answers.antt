use Rattle.std.proofs.Common.{◌≡◌, ◌∙◌, ap, sym, Some, None, length, ◌++◌, ◌∷◌, []}
use Rattle.std.specs.BTreeMap.{get}
use Rattle.std.specs.Cmp.Lexicographic.{slice_cmp}
use Rattle.std.specs.Ordering.{nat_cmp}
use Rattle.ic_cells.specs.Key.{code}
use Rattle.ic_cells.specs.Style.{first_place, is_style}
use Rattle.ic_cells.proofs.IndexLemmas.{indexed_push}
use Rattle.ic_cells.proofs.PlacedLemmas.{list_found, list_pushed, number_found, number_pushed, placed_found, placed_pushed}
use Rattle.ic_cells.proofs.StyleLemmas.{is_style-Decides, place_of_code}
use Rattle.ic_cells.proofs.styles.Styles.get_style_index_or_create.Goals as goal

-- what the map answers is the first place
pub returns-in-Some-clause-number : goal.returns-in-Some-clause-number
returns-in-Some-clause-number c =
    let found : first_place c.args.style.now c.args.self.now ≡ Some c.in-Some.at.now =
    sym
    (c.in-Some.ensures.value ∙ ap (get (slice_cmp nat_cmp) c.self.inside.index) c.in_ok-key.ensures ∙ c.self.invariant.finds (code c.args.style.now)
    ∙ place_of_code c.args.style.now c.self.inside.list.items ∙ ap (first_place c.args.style.now) c.self.view_is) in
    sym (number_found is_style c.args.style.now c.args.self.now c.in-Some.at.now found)

pub returns-in-Some-clause-styles : goal.returns-in-Some-clause-styles
returns-in-Some-clause-styles c =
    let found : first_place c.args.style.now c.args.self.now ≡ Some c.in-Some.at.now =
    sym
    (c.in-Some.ensures.value ∙ ap (get (slice_cmp nat_cmp) c.self.inside.index) c.in_ok-key.ensures ∙ c.self.invariant.finds (code c.args.style.now)
    ∙ place_of_code c.args.style.now c.self.inside.list.items ∙ ap (first_place c.args.style.now) c.self.view_is) in
    sym (list_found is_style c.args.style.now c.args.self.now c.in-Some.at.now found)

pub returns-in-Some-clause-placed : goal.returns-in-Some-clause-placed
returns-in-Some-clause-placed c =
    let found : first_place c.args.style.now c.args.self.now ≡ Some c.in-Some.at.now =
    sym
    (c.in-Some.ensures.value ∙ ap (get (slice_cmp nat_cmp) c.self.inside.index) c.in_ok-key.ensures ∙ c.self.invariant.finds (code c.args.style.now)
    ∙ place_of_code c.args.style.now c.self.inside.list.items ∙ ap (first_place c.args.style.now) c.self.view_is) in
    placed_found is_style is_style-Decides c.args.style.now c.in-Some.at.now c.args.self.now found

-- where it answers nothing the style is new
pub invariant_of-self-2 : goal.invariant_of-self-2
invariant_of-self-2 c =
    let list = c.self.inside.list.items in
    let none : first_place c.args.style.now list ≡ None =
    sym
    (c.in_default.ensures.value ∙ ap (get (slice_cmp nat_cmp) c.self.inside.index) c.in_ok-key.ensures ∙ c.self.invariant.finds (code c.args.style.now)
    ∙ place_of_code c.args.style.now list) in
    indexed_push c.self.inside.index c.insert.new.self list c.push_reserved.new.self.items c.args.style.now c.in_ok-key.key _ c.self.invariant none
    c.in_ok-key.ensures (ap length c.as_slice-at.ensures.value) c.in_ok-insert.ensures.updates
    (c.push_reserved.ensures.items ∙ ap (λ xs. xs ++ c.in_ok-copy.copy ∷ []) c.reserve.ensures.items ∙ ap (λ s. list ++ s ∷ []) c.in_ok-copy.ensures)

pub returns-clause-number : goal.returns-clause-number
returns-clause-number c =
    let none : first_place c.args.style.now c.args.self.now ≡ None =
    sym
    (c.in_default.ensures.value ∙ ap (get (slice_cmp nat_cmp) c.self.inside.index) c.in_ok-key.ensures ∙ c.self.invariant.finds (code c.args.style.now)
    ∙ place_of_code c.args.style.now c.self.inside.list.items ∙ ap (first_place c.args.style.now) c.self.view_is) in
    ap length (c.as_slice-at.ensures.value ∙ c.self.view_is) ∙ sym (number_pushed is_style c.args.style.now c.args.self.now none)

pub returns-clause-styles : goal.returns-clause-styles
returns-clause-styles c =
    let none : first_place c.args.style.now c.args.self.now ≡ None =
    sym
    (c.in_default.ensures.value ∙ ap (get (slice_cmp nat_cmp) c.self.inside.index) c.in_ok-key.ensures ∙ c.self.invariant.finds (code c.args.style.now)
    ∙ place_of_code c.args.style.now c.self.inside.list.items ∙ ap (first_place c.args.style.now) c.self.view_is) in
    c.push_reserved.ensures.items ∙ ap (λ xs. xs ++ c.in_ok-copy.copy ∷ []) (c.reserve.ensures.items ∙ c.self.view_is)
    ∙ ap (λ s. c.args.self.now ++ s ∷ []) c.in_ok-copy.ensures ∙ sym (list_pushed is_style c.args.style.now c.args.self.now none)

pub returns-clause-placed : goal.returns-clause-placed
returns-clause-placed c =
    let none : first_place c.args.style.now c.args.self.now ≡ None =
    sym
    (c.in_default.ensures.value ∙ ap (get (slice_cmp nat_cmp) c.self.inside.index) c.in_ok-key.ensures ∙ c.self.invariant.finds (code c.args.style.now)
    ∙ place_of_code c.args.style.now c.self.inside.list.items ∙ ap (first_place c.args.style.now) c.self.view_is) in
    placed_pushed is_style is_style-Decides c.args.style.now _ c.args.self.now c.push_reserved.new.self.items none (ap length (c.as_slice-at.ensures.value ∙ c.self.view_is))
    (c.push_reserved.ensures.items ∙ ap (λ xs. xs ++ c.in_ok-copy.copy ∷ []) (c.reserve.ensures.items ∙ c.self.view_is)
    ∙ ap (λ s. c.args.self.now ++ s ∷ []) c.in_ok-copy.ensures)
