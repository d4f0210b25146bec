-- That no reference lies outside is that each lies inside; and the formulas of cells are those of what the cells are.
use mathlib.Core.Path.{fun_ext}
use Rattle.std.proofs.Common.{◌≡◌, ◌↔◌, ◌<◌, ◌∙◌, ℕ, zero, suc, ℤ, List, [], ◌∷◌, Bool, false, not, map, length, get_or, Some, None, refl, sym, ap, arith, subst, option_map}
use Rattle.std.proofs.lemmas.Bool.{or_parts, not-false as negated}
use Rattle.std.proofs.lemmas.List.Elements.{All-contains, All-from_recursion, Contains-get_or, recursion_from_All}
use Rattle.std.proofs.lemmas.Map.Views.{btree_map_get_iff}
use Rattle.std.proofs.lemmas.Option.{slice_get_within}
use Rattle.std.specs.Prelude.{unwrap_or}
use Rattle.std.specs.BTreeMap as tree
use Rattle.std.specs.BTreeMap.{BTreeMap}
use Rattle.std.specs.FinMap as finite
use Rattle.std.specs.List.{AllByRecursion, Contains, list_any, slice_get}
pub use Rattle.std.proofs.lemmas.Bool.{not-true as unnegated}
use Rattle.ic_laws.proofs.core.CellWritten.{place_cmp_total, place_tied}
use Rattle.ic_laws.proofs.binding.Again.{BoundKind, bound_node}
use Rattle.ic_laws.proofs.binding.Induction.{Every, EveryPair, OfChildren, by_nodes, every_below, every_here, every_made, every_value}
use Rattle.ic_laws.specs.Binding.{BoundPair}
use Rattle.ic_laws.specs.CoreBook.{CellPlace}
use Rattle.ic_laws.specs.Position.{is_inside}
use Rattle.ic_laws.specs.Tree.{Bound}
use Rattle.ic_laws.specs.declared.tree.Formula.{Formula}
use Rattle.ic_laws.specs.declared.tree.Formula.TheVariants as formulas
use Rattle.ic_laws.specs.declared.tree.LetPair.{every_made-LetPair, fold-roll-LetPair, roll-LetPair}
use Rattle.ic_laws.specs.declared.tree.NameMention.{NameMention}
use Rattle.ic_laws.specs.declared.tree.SheetMention.{SheetMention}
use Rattle.ic_laws.specs.declared.tree.Tree.{fold-roll-Tree, map-Tree}
use Rattle.ic_laws.specs.declared.tree.Tree.TheOpen.{LetPair-F}
use Rattle.ic_laws.specs.declared.tree.Tree.TheOpen as one
use Rattle.ic_cells.specs.Cell.{cell_formula_index}
use Rattle.ic_cells.specs.Maps.{place_cmp}
use Rattle.ic_cells.specs.declared.cell.Cell.{Cell}
use Rattle.ic_cells.specs.declared.cell.Cell.TheVariants as cells
use Rattle.ic_grid.proofs.WalkLemmas.{map_get}
use Rattle.ic_grid.specs.Contents.{Contents}
use Rattle.ic_machine.proofs.contents.AlikeGrid.{get-seen, stands_seen}
use Rattle.ic_machine.specs.Alike.{seen_by}
use Rattle.ic_machine.specs.Book as machine
use Rattle.ic_machine.specs.Content.{Content, content_of, formula_in, formula_index}
use Rattle.ic_workbooks.specs.HandedIn.{HasFormulaAt, HasFormulas, IsReferenceInside}
use Rattle.ic_workbooks.specs.Numbered.{renumbered}
use Rattle.ic_workbooks.specs.Referring.{HasCellFormulas, outside_step, some_outside}
use Rattle.ic_parts.proofs.WholeLemmas.{index_seen}
use Rattle.ic_pool.proofs.MentionLemmas.{neither}

module _ {X : Type 0} (test : X → Bool) (P : X → Type 0) where
  none_told : (xs : List X) → AllByRecursion (λ x. (test x ≡ false → P x) × (P x → test x ≡ false)) xs → list_any (λ b. b) (map test xs) ≡ false → AllByRecursion P xs
  none_told [] h e = tt
  none_told (x ∷ xs) h e = let parts = or_parts (test x) _ e in (h.0.0 parts.0, none_told xs h.1 parts.1)

  all_told : (xs : List X) → AllByRecursion (λ x. (test x ≡ false → P x) × (P x → test x ≡ false)) xs → AllByRecursion P xs → list_any (λ b. b) (map test xs) ≡ false
  all_told [] h p = refl
  all_told (x ∷ xs) h p = neither (h.0.1 p.0) (all_told xs h.1 p.1)

module _ (row column : ℤ) where
  abbrev NoPair : LetPair-F SheetMention NameMention Bound BoundPair → Type 0
  NoPair pair = Unit {0}

  abbrev Inside : Bound → Type 0
  Inside t = Every (IsReferenceInside row column) NoPair t

  abbrev InsidePair : BoundPair → Type 0
  InsidePair pair = EveryPair (IsReferenceInside row column) NoPair pair

  abbrev outside : Bound → Bool
  outside t = some_outside row column t

  abbrev outside_pair : BoundPair → Bool
  outside_pair pair = outside pair.value

  abbrev Told : Bound → Type 0
  Told t = (outside t ≡ false → Inside t) × (Inside t → outside t ≡ false)

  abbrev ToldPair : BoundPair → Type 0
  ToldPair pair = (outside_pair pair ≡ false → InsidePair pair) × (InsidePair pair → outside_pair pair ≡ false)

  abbrev outside_below : BoundKind → Bool
  outside_below kind = outside_step row column (map-Tree SheetMention NameMention Bound BoundPair Bool Bool outside outside_pair kind)

  outside_node : (kind : BoundKind) → outside (bound_node kind) ≡ outside_below kind
  outside_node kind =
      fold-roll-Tree SheetMention NameMention Bool Bool (outside_step row column) (λ pair. pair.value) kind
      ∙ ap (λ (g : BoundPair → Bool). outside_step row column (map-Tree SheetMention NameMention Bound BoundPair Bool Bool outside g kind))
      (fun_ext (λ pair. fold-roll-LetPair SheetMention NameMention Bool Bool (outside_step row column) (λ p. p.value) (record { variable = pair.variable; value = pair.value })))

  -- what a node without references outside has, and that a node which has it is one
  kind_inside : (kind : BoundKind) → OfChildren Told ToldPair kind → outside_below kind ≡ false → IsReferenceInside row column kind × OfChildren Inside InsidePair kind
  kind_inside (one.Num units) h e = (tt, tt)
  kind_inside (one.Str text) h e = (tt, tt)
  kind_inside (one.Bool value) h e = (tt, tt)
  kind_inside (one.Err code) h e = (tt, tt)
  kind_inside (one.Reference sheet place) h e = (negated (is_inside place row column) e, tt)
  kind_inside (one.Local sheet name) h e = (tt, tt)
  kind_inside (one.Word name) h e = (tt, tt)
  kind_inside one.Empty h e = (tt, tt)
  kind_inside (one.Paren x) h e = (tt, h.0 e)
  kind_inside (one.Prefix sign x) h e = (tt, h.0 e)
  kind_inside (one.Percent x) h e = (tt, h.0 e)
  kind_inside (one.Spill x) h e = (tt, h.0 e)
  kind_inside (one.Binary sign a b) h e = let parts = or_parts (outside a) _ e in (tt, (h.0.0 parts.0, h.1.0 parts.1))
  kind_inside (one.Fun number arguments) h e = (tt, none_told outside Inside arguments h e)
  kind_inside (one.Call name arguments) h e = (tt, none_told outside Inside arguments h e)
  kind_inside (one.Let pairs body) h e = let parts = or_parts _ (outside body) e in (tt, (none_told outside_pair InsidePair pairs h.0 parts.0, h.1.0 parts.1))
  kind_inside (one.Lambda parameters body) h e = (tt, h.0 e)
  kind_inside (one.Apply x arguments) h e = let parts = or_parts (outside x) _ e in (tt, (h.0.0 parts.0, none_told outside Inside arguments h.1 parts.1))
  kind_inside (one.Array rows) h e = (tt, tt)

  kind_told : (kind : BoundKind) → OfChildren Told ToldPair kind → IsReferenceInside row column kind → OfChildren Inside InsidePair kind → outside_below kind ≡ false
  kind_told (one.Num units) h here below = refl
  kind_told (one.Str text) h here below = refl
  kind_told (one.Bool value) h here below = refl
  kind_told (one.Err code) h here below = refl
  kind_told (one.Reference sheet place) h here below = ap not here
  kind_told (one.Local sheet name) h here below = refl
  kind_told (one.Word name) h here below = refl
  kind_told one.Empty h here below = refl
  kind_told (one.Paren x) h here below = h.1 below
  kind_told (one.Prefix sign x) h here below = h.1 below
  kind_told (one.Percent x) h here below = h.1 below
  kind_told (one.Spill x) h here below = h.1 below
  kind_told (one.Binary sign a b) h here below = neither (h.0.1 below.0) (h.1.1 below.1)
  kind_told (one.Fun number arguments) h here below = all_told outside Inside arguments h below
  kind_told (one.Call name arguments) h here below = all_told outside Inside arguments h below
  kind_told (one.Let pairs body) h here below = neither (all_told outside_pair InsidePair pairs h.0 below.0) (h.1.1 below.1)
  kind_told (one.Lambda parameters body) h here below = h.1 below
  kind_told (one.Apply x arguments) h here below = neither (h.0.1 below.0) (all_told outside Inside arguments h.1 below.1)
  kind_told (one.Array rows) h here below = refl

  node_told : (kind : BoundKind) → OfChildren Told ToldPair kind → Told (bound_node kind)
  node_told kind h = (
    λ e. let both = kind_inside kind h (sym (outside_node kind) ∙ e) in every_made (IsReferenceInside row column) NoPair kind both.0 both.1,
    λ every. outside_node kind ∙ kind_told kind h (every_here (IsReferenceInside row column) NoPair kind every) (every_below (IsReferenceInside row column) NoPair kind every),
  )

  pair_told : (variable : List ℕ) (value : Bound) → Told value → ToldPair (roll-LetPair SheetMention NameMention (record { variable = variable; value = value }))
  pair_told variable value h = (
    λ e. every_made-LetPair SheetMention NameMention (IsReferenceInside row column) NoPair (record { variable = variable; value = value }) (record { variable = variable; value = (value, h.0 e) }) refl tt,
    λ every. h.1 (every_value (IsReferenceInside row column) NoPair (roll-LetPair SheetMention NameMention (record { variable = variable; value = value })) every),
  )

  -- no reference of a tree lies outside exactly where each lies inside
  pub inside_told : (t : Bound) → Told t
  inside_told = by_nodes Told ToldPair node_told pair_told

-- the cells, one after another ----

module _ (pool : List Formula) where
  abbrev Entry : Type 0
  Entry = CellPlace × Cell

  abbrev HasEntry : Entry → Type 0
  HasEntry e = HasFormulaAt pool e.0 (cell_formula_index e.1)

  -- what is asked of these cells with their places
  abbrev pub HasEntries : List Entry → Type 0
  HasEntries es = AllByRecursion HasEntry es

  module _ (m : BTreeMap CellPlace Cell) (v : Contents Cell) (ordered : tree.IsOrdered place_cmp m) (same : finite.from_entries m.entries ≡ v) where
    stands : (place : CellPlace) (cell : Cell) → (finite.get v place ≡ Some cell) ↔ Contains m.entries (place, cell)
    stands place cell =
        let there = btree_map_get_iff place_cmp_total place_tied m ordered place cell in
        let is = map_get place_cmp_total m v same place in
        (λ e. there.0 (is ∙ e), λ contained. sym is ∙ there.1 contained)

    all_entries : HasCellFormulas pool v ↔ HasEntries m.entries
    all_entries = (
      λ h. recursion_from_All HasEntry m.entries (λ k d lt.
          let e : Entry = get_or m.entries k d in h e.0 e.1 ((stands e.0 e.1).1 (Contains-get_or m.entries k d lt))),
      λ h place cell e. All-contains HasEntry m.entries (place, cell) (All-from_recursion HasEntry m.entries h) ((stands place cell).0 e),
    )

  -- of all cells it is asked exactly where it is of all entries of their map; one that has it needs not be asked again, and
  -- in the end none is left
  pub entries_first : (m : BTreeMap CellPlace Cell) (v : Contents Cell) (es : List Entry) → tree.IsOrdered place_cmp m → finite.from_entries m.entries ≡ v → es ≡ m.entries → HasCellFormulas pool v ↔ HasEntries es
  entries_first m v es ordered same all = subst (λ (es : List Entry). HasCellFormulas pool v ↔ HasEntries es) (sym all) (all_entries m v ordered same)

  module _ (v : Contents Cell) (es : List Entry) (so_far : HasCellFormulas pool v ↔ HasEntries es) where
    pub entries_next : (rest : List Entry) (place : CellPlace) (cell : Cell) → es ≡ (place, cell) ∷ rest → HasFormulaAt pool place (cell_formula_index cell) → HasCellFormulas pool v ↔ HasEntries rest
    entries_next rest place cell next has = (λ h. (subst HasEntries next (so_far.0 h)).1, λ h. so_far.1 (subst HasEntries (sym next) (has, h)))

    pub entries_last : es ≡ [] → HasCellFormulas pool v
    entries_last none = so_far.1 (subst HasEntries (sym none) tt)

-- what stands at an index of a pool is its formula there; and past the end there is none
pub formula_there : (pool : List Formula) (index : ℕ) (formula : Formula) → slice_get pool index ≡ Some formula → (index < length pool) × (formula_in pool index ≡ formula)
formula_there pool index formula there = (slice_get_within pool index formula there, ap (λ o. unwrap_or o (formulas.Raw [])) there)

pub no_formula : (pool : List Formula) (index : ℕ) → slice_get pool index ≡ None → index < length pool → ⊥
no_formula [] index none lt = omega (arith, lt)
no_formula (formula ∷ pool) zero none lt = cc
no_formula (formula ∷ pool) (suc index) none lt = no_formula pool index none (omega (arith, lt))

-- the formulas of cells are those of what stands at their places in a sheet of the machine
pub formulas_seen : (strings : List (List ℕ)) (pool : List Formula) (m : Contents Cell) (s : machine.Sheet) → s.pool ≡ pool → s.grid.contents ≡ seen_by (content_of strings) m → HasCellFormulas pool m ↔ HasFormulas s
formulas_seen strings pool m s by_pool by_cells = (
  λ h place content e.
      let was = stands_seen (content_of strings) (finite.get m place) content (sym (get-seen (content_of strings) m place) ∙ ap (λ (x : Contents Content). finite.get x place) (sym by_cells) ∙ e) in
      subst (λ (fs : List Formula). HasFormulaAt fs place (formula_index content)) (sym by_pool)
      (subst (HasFormulaAt pool place) (sym (index_seen strings was.0) ∙ ap formula_index was.2) (h place was.0 was.1)),
  λ h place cell e.
      subst (λ (fs : List Formula). HasFormulaAt fs place (cell_formula_index cell)) by_pool
      (subst (HasFormulaAt s.pool place) (index_seen strings cell)
      (h place (content_of strings cell) (ap (λ (x : Contents Content). finite.get x place) by_cells ∙ get-seen (content_of strings) m place ∙ ap (option_map (content_of strings)) e))),
)

-- the formulas of cells don't depend on the numbers of their strings
index_kept : (numbers : List ℕ) (cell : Cell) → cell_formula_index (renumbered numbers cell) ≡ cell_formula_index cell
index_kept numbers (cells.EmptyCell s) = refl
index_kept numbers (cells.BooleanCell v s) = refl
index_kept numbers (cells.NumberCell v s) = refl
index_kept numbers (cells.ErrorCell e s) = refl
index_kept numbers (cells.SharedString i s) = refl
index_kept numbers (cells.CellFormula f s v) = refl
index_kept numbers (cells.ArrayFormula kind f s r v) = refl
index_kept numbers (cells.SpillCell s a v) = refl

pub formulas_numbered : (numbers : List ℕ) (pool : List Formula) (m : Contents Cell) → HasCellFormulas pool (seen_by (renumbered numbers) m) ↔ HasCellFormulas pool m
formulas_numbered numbers pool m = (
  λ h place cell e.
      subst (HasFormulaAt pool place) (index_kept numbers cell)
      (h place (renumbered numbers cell) (get-seen (renumbered numbers) m place ∙ ap (option_map (renumbered numbers)) e)),
  λ h place cell e.
      let was = stands_seen (renumbered numbers) (finite.get m place) cell (sym (get-seen (renumbered numbers) m place) ∙ e) in
      subst (HasFormulaAt pool place) (sym (index_kept numbers was.0) ∙ ap cell_formula_index was.2) (h place was.0 was.1),
)
