-- Each command that writes a cell keeps what always holds of a book.
use Rattle.std.proofs.Common.{◌≡◌, ℕ, ℤ, pos, ◌+◌, ◌<◌, ◌≤◌, List, [], ◌∷◌, ◌++◌, length, Bool, true, false, cond, Option, Some, None, refl, sym, ap, subst, ◌∙◌, arith, inl, inr, length-append, codes}
use Rattle.std.proofs.lemmas.Bool.{and_from}
use Rattle.std.proofs.lemmas.Option.{slice_get_within}
use Rattle.std.specs.FinMap as finite
use Rattle.std.specs.List.{AllByRecursion, slice_get}
use Rattle.std.specs.Option.{option_or}
use Rattle.std.specs.Prelude.{is_none, is_some, not, option_and_then, option_map, unwrap_or}
use Rattle.ic_laws.proofs.core.Lists.{all_pushed}
use Rattle.ic_laws.proofs.core.Named.{book_named}
use Rattle.ic_laws.proofs.kept.Kept.{kept_where_less}
use Rattle.ic_laws.proofs.kept.TreeFacts.{tree_facts}
use Rattle.ic_laws.specs.Amount.{is_amount}
use Rattle.ic_laws.specs.CoreBook.{CellPlace}
use Rattle.ic_laws.specs.FormulaReading.{shown_at, tree_or_raw}
use Rattle.ic_laws.specs.Binding.{bound}
use Rattle.ic_laws.specs.Notations.{Notations, english_function}
use Rattle.ic_laws.specs.Position.{is_column, is_row}
use Rattle.ic_laws.specs.ReadAs.{read_as}
use Rattle.ic_laws.specs.Tree.{Spelled}
use Rattle.ic_laws.specs.ValidCore.{IsKeptFormula, IsPooled}
use Rattle.ic_laws.specs.declared.scene.Scene.{Scene}
use Rattle.ic_laws.specs.declared.tree.Formula.{Formula}
use Rattle.ic_laws.specs.declared.tree.Formula.TheVariants as formulas
use Rattle.ic_tree.proofs.NotationLaws.{notations_are}
use Rattle.ic_pool.proofs.PlacedLemmas.{first_found}
use Rattle.ic_pool.specs.Code.{code}
use Rattle.ic_pool.specs.Pool.{first_place}
use Rattle.ic_cells.specs.Style.{AreStyles, default_style, is_style}
use Rattle.ic_cells.specs.Style as style_list
use Rattle.ic_cells.specs.declared.layout.ColumnProps.{ColumnProps}
use Rattle.ic_cells.specs.declared.layout.RowProps.{RowProps}
use Rattle.ic_cells.specs.declared.cell.ArrayKind.TheVariants as arrays
use Rattle.ic_cells.specs.declared.style.Style.{Style}
use Rattle.ic_cells.specs.declared.value.FormulaValue.TheVariants as fvalues
use Rattle.ic_input.specs.declared.input.Typed.{Typed}
use Rattle.ic_input.specs.declared.input.Typed.TheVariants as kinds
use Rattle.ic_grid.proofs.LoosenLemmas.{loosened_arrays, loosened_merges}
use Rattle.ic_grid.specs.Arrays.{anchor_at}
use Rattle.ic_grid.specs.Block.{is_in_sheet}
use Rattle.ic_grid.specs.Prepare.{written}
use Rattle.ic_grid.specs.Shape.{is_loose}
use Rattle.ic_grid.specs.Style.{first_style}
use Rattle.ic_machine.specs.Book.{Book, Grid, Sheet, core_of, notations_in, scene_in, style_number_at}
use Rattle.ic_machine.specs.Content.{AnchorContent, BoolContent, Content, FormulaContent, NumContent, formula_in, formula_index, held, shape_of, style_of}
use Rattle.ic_machine.specs.InForce.{formula_typed, typed_in}
use Rattle.ic_machine.specs.Kept.{StaysValid, StaysValidIf, gives_amount}
use Rattle.ic_machine.specs.Placed.{index_in_pool, is_dynamic, pool_with}
use Rattle.ic_machine.specs.Refusal.{Causes, InvalidColumn, InvalidRow, NotAFormula, first_refusal}
use Rattle.ic_machine.specs.Styling.{numbered, restyled}
use Rattle.ic_machine.specs.Valid.{HasAmount, HasFormula, HasGridStyles, IsStyleNumber, IsValidBook}
use Rattle.ic_machine.specs.subjects.Writing as writing
use Rattle.ic_machine.specs.subjects.Writing.{Writing, Written, bool_step, formula_at_place, formula_step, formula_written, input_step, number_step, place_causes, text_step, text_written, typed_written, unquoted, value_written, with_content, write_causes, write_step, writing_step}
use Rattle.ic_machine.proofs.as_core.CoreValid.{core_valid}
use Rattle.ic_machine.proofs.as_core.FormulaLemmas.{formula_placed, formula_stays}
use Rattle.ic_machine.proofs.valid.StylesStay.{HasNumber, has_number}
use Rattle.ic_machine.proofs.valid.TypedAmounts.{typed_in_amount}
use Rattle.ic_machine.proofs.valid.ValidLemmas.{HoldsOf, by_asking, holds_at, put_valid, stays_found, stays_unless, styles_more}
use Rattle.ic_machine.proofs.valid.WritingStays.{begins_at, stands, was_at, written_inside, written_loosens}

-- a sheet with another content at a place, and more formulas ----

module _ (n : Notations) (scene : Scene) (s : Sheet) (p : CellPlace) (w : Written) where
  -- what a write puts there is no part of an array, has the style that it is given, its formula, if it has one, is kept and in
  -- the pool, where all others stay, and its number, if it is one, is an amount
  pub record IsGood : Type 0 where
    pub loose : (k : ℕ) → is_loose (shape_of (w.content k)) ≡ true
    pub style : (k : ℕ) → style_of (w.content k) ≡ k
    pub pool : AllByRecursion (IsPooled n scene (Some s.id)) w.pool
    pub longer : length s.pool ≤ length w.pool
    pub stays : (i : ℕ) → i < length s.pool → formula_in w.pool i ≡ formula_in s.pool i
    pub formula : (k : ℕ) → HasFormula n scene (record s { pool = w.pool }) p (formula_index (w.content k))
    pub amount : (k : ℕ) → HasAmount (w.content k)

  module _ (good : IsGood) (count more number : ℕ) (holds : HoldsOf n scene count s) (le : count ≤ more) (below : number < more) (here : is_in_sheet p ≡ true) where
    abbrev new : Sheet
    new = with_content p w.pool (w.content number) s

    lifted : (q : CellPlace) (o : Option ℕ) → HasFormula n scene s q o → HasFormula n scene new q o
    lifted q None h = tt
    lifted q (Some i) h =
        let longer = good.longer in
        let lt = h.0 in
        (omega (arith, lt, longer), subst (λ (f : Formula). IsKeptFormula n scene (Some s.id) q.0 q.1 f) (sym (good.stays i h.0)) h.1)

    written_holds : HoldsOf n scene more new
    written_holds =
        let inside = written_inside s.grid.contents p (w.content number) holds.inside here in
        let loosens = written_loosens s.grid.contents p (w.content number) (good.loose number) in
        record {
          pool = good.pool;
          inside = inside;
          formulas = λ q y e. elim (stands s.grid.contents p (w.content number) q y e) [
            | inl x ↦ subst (λ (place : CellPlace). HasFormula n scene new place (formula_index y)) (sym x.0) (subst (λ (c : Content). HasFormula n scene new p (formula_index c)) (sym x.1) (good.formula number))
            | inr x ↦
                let was = was_at s.grid.contents (anchor_at held s.grid.contents p) q y x.1 in
                lifted q (formula_index y) (subst (HasFormula n scene s q) (sym was.index) (holds.formulas q was.old was.at))
          ];
          styles = record {
            contents = λ q y e. elim (stands s.grid.contents p (w.content number) q y e) [
              | inl x ↦ subst (λ k. k < more) (sym (ap style_of x.1 ∙ good.style number)) below
              | inr x ↦
                  let was = was_at s.grid.contents (anchor_at held s.grid.contents p) q y x.1 in
                  let lt : style_of was.old < count = holds.styles.contents q was.old was.at in
                  subst (λ k. k < more) (sym was.style) (omega (arith, lt, le))
            ];
            rows = (styles_more count more le s.grid holds.styles).rows;
            columns = (styles_more count more le s.grid holds.styles).columns;
          };
          arrays = loosened_arrays held s.grid.contents (written held p (w.content number) s.grid.contents) (begins_at (anchor_at held s.grid.contents p)) loosens holds.arrays inside;
          merges = loosened_merges held s.grid.contents (written held p (w.content number) s.grid.contents) (begins_at (anchor_at held s.grid.contents p)) loosens s.grid.merges holds.merges;
          layout = record { frozen = holds.layout.frozen; lines = record { rows = holds.layout.lines.rows; columns = holds.layout.lines.columns } };
          amounts = λ q y e. elim (stands s.grid.contents p (w.content number) q y e) [
            | inl x ↦ subst HasAmount (sym x.1) (good.amount number)
            | inr x ↦ let was = was_at s.grid.contents (anchor_at held s.grid.contents p) q y x.1 in was.amount (holds.amounts q was.old was.at)
          ];
        }

-- the number of a style ----

number_or : (count : ℕ) (a b c : Option ℕ) → IsStyleNumber count a → IsStyleNumber count b → IsStyleNumber count c → 0 < count → first_style a b c < count
number_or count (Some k) b c h g f z = h
number_or count None (Some k) c h g f z = g
number_or count None None (Some k) h g f z = f
number_or count None None None h g f z = z

optional : {X : Type 0} (count : ℕ) (style : X → Option ℕ) (o : Option X) → ((x : X) → o ≡ Some x → IsStyleNumber count (style x)) → IsStyleNumber count (option_and_then style o)
optional count style None h = tt
optional count style (Some x) h = h x refl

of_content : (count : ℕ) (o : Option Content) → ((x : Content) → o ≡ Some x → style_of x < count) → IsStyleNumber count (option_map style_of o)
of_content count None h = tt
of_content count (Some x) h = h x refl

pub number_below : (count : ℕ) (grid : Grid) (p : CellPlace) → HasGridStyles count grid → 0 < count → style_number_at grid p.0 p.1 < count
number_below count grid p h z =
    number_or count (option_map style_of (finite.get grid.contents p)) (option_and_then (λ (r : RowProps). r.style) (finite.get grid.rows p.0)) (option_and_then (λ (c : ColumnProps). c.style) (finite.get grid.columns p.1))
    (of_content count (finite.get grid.contents p) (h.contents p)) (optional count (λ (r : RowProps). r.style) (finite.get grid.rows p.0) (h.rows p.0)) (optional count (λ (c : ColumnProps). c.style) (finite.get grid.columns p.1) (h.columns p.1)) z

restyled_by : (t : Bool) (s : Style) (number : ℕ) (all : List Style) → AreStyles all → number < length all
    → HasNumber all (cond t (record { number = number; styles = all }) (numbered s all)).styles (cond t (record { number = number; styles = all }) (numbered s all)).number
restyled_by true s number all are lt = record { are = are; more = omega (arith); below = lt }
restyled_by false s number all are lt = has_number s all are

restyled_has : (change : Style → Style) (number : ℕ) (all : List Style) → AreStyles all → number < length all → HasNumber all (restyled change number all).styles (restyled change number all).number
restyled_has change number all are lt =
    restyled_by (is_style (change (style_list.style_at all number)) (style_list.style_at all number)) (change (style_list.style_at all number)) number all are lt

-- a step that writes ----

pub place_clear : (row column : Bool) (others : Causes) → first_refusal ((not row, InvalidRow) ∷ (not column, InvalidColumn) ∷ others) ≡ None → (row ≡ true) × (column ≡ true)
place_clear false column others e = cc
place_clear true false others e = cc
place_clear true true others e = (refl, refl)

module _ (b : Book) (valid : IsValidBook b) where
  pub write_stays : (index : ℕ) (p : CellPlace) (w : Sheet → Written) (causes : Causes)
      → ((s : Sheet) → slice_get b.sheets index ≡ Some s → is_row p.0 ≡ true → is_column p.1 ≡ true → IsGood (notations_in b) (scene_in b) s p (w s)) → StaysValid (write_step b index p w causes)
  write_stays index p w causes good =
      stays_found b valid index _
      (λ s e. stays_unless (first_refusal (place_causes p ++ (write_causes s p ++ causes))) _ []
      (λ clear.
      let place = place_clear (is_row p.0) (is_column p.1) (write_causes s p ++ causes) clear in
      let holds = holds_at b valid index s e in
      let some = slice_get_within b.styles 0 default_style valid.styles.styles.default in
      let styled = restyled_has (w s).change (style_number_at s.grid p.0 p.1) b.styles valid.styles.styles (number_below (length b.styles) s.grid p holds.styles some) in
      put_valid b valid index s (with_content p (w s).pool ((w s).content (restyled (w s).change (style_number_at s.grid p.0 p.1) b.styles).number) s) e refl refl
      (restyled (w s).change (style_number_at s.grid p.0 p.1) b.styles).styles styled.are styled.more
      (written_holds (notations_in b) (scene_in b) s p (w s) (good s e place.0 place.1) (length b.styles) (length (restyled (w s).change (style_number_at s.grid p.0 p.1) b.styles).styles)
      (restyled (w s).change (style_number_at s.grid p.0 p.1) b.styles).number holds styled.more styled.below (and_from _ _ place.0 place.1))))

  -- a value
  module _ (index : ℕ) (s : Sheet) (e : slice_get b.sheets index ≡ Some s) (p : CellPlace) where
    plain : (content : ℕ → Content) (change : Style → Style) → ((k : ℕ) → is_loose (shape_of (content k)) ≡ true) → ((k : ℕ) → style_of (content k) ≡ k) → ((k : ℕ) → formula_index (content k) ≡ None) → ((k : ℕ) → HasAmount (content k))
        → IsGood (notations_in b) (scene_in b) s p (record { content = content; change = change; pool = s.pool })
    plain content change loose style none amount = record {
      loose = loose;
      style = style;
      pool = (holds_at b valid index s e).pool;
      longer = omega (arith);
      stays = λ i lt. refl;
      formula = λ k. subst (HasFormula (notations_in b) (scene_in b) s p) (sym (none k)) tt;
      amount = amount;
    }

    -- a formula
    dynamic_loose : (t : Bool) (at k : ℕ) → is_loose (shape_of (cond t (AnchorContent at (pos 1, pos 1) arrays.Dynamic fvalues.Unevaluated k) (FormulaContent at fvalues.Unevaluated k))) ≡ true
    dynamic_loose true at k = refl
    dynamic_loose false at k = refl

    dynamic_style : (t : Bool) (at k : ℕ) → style_of (cond t (AnchorContent at (pos 1, pos 1) arrays.Dynamic fvalues.Unevaluated k) (FormulaContent at fvalues.Unevaluated k)) ≡ k
    dynamic_style true at k = refl
    dynamic_style false at k = refl

    dynamic_index : (t : Bool) (at k : ℕ) → formula_index (cond t (AnchorContent at (pos 1, pos 1) arrays.Dynamic fvalues.Unevaluated k) (FormulaContent at fvalues.Unevaluated k)) ≡ Some at
    dynamic_index true at k = refl
    dynamic_index false at k = refl

    dynamic_amount : (t : Bool) (at k : ℕ) → HasAmount (cond t (AnchorContent at (pos 1, pos 1) arrays.Dynamic fvalues.Unevaluated k) (FormulaContent at fvalues.Unevaluated k))
    dynamic_amount true at k = tt
    dynamic_amount false at k = tt

    pool_by : (f : Formula) (t : Bool) → IsPooled (notations_in b) (scene_in b) (Some s.id) f → AllByRecursion (IsPooled (notations_in b) (scene_in b) (Some s.id)) (cond t s.pool (s.pool ++ f ∷ []))
    pool_by f true h = (holds_at b valid index s e).pool
    pool_by f false h = all_pushed (IsPooled (notations_in b) (scene_in b) (Some s.id)) s.pool f (holds_at b valid index s e).pool h

    longer_by : (f : Formula) (t : Bool) → length s.pool ≤ length (cond t s.pool (s.pool ++ f ∷ []))
    longer_by f true = omega (arith)
    longer_by f false = let more : length (s.pool ++ f ∷ []) ≡ length s.pool + 1 = length-append s.pool (f ∷ []) in omega (arith, more)

    index_by : (f : Formula) (o : Option ℕ) → first_place (code f) s.pool ≡ o → unwrap_or o (length s.pool) < length (cond (is_some o) s.pool (s.pool ++ f ∷ []))
    index_by f None is = let more : length (s.pool ++ f ∷ []) ≡ length s.pool + 1 = length-append s.pool (f ∷ []) in omega (arith, more)
    index_by f (Some i) is = slice_get_within s.pool i f (first_found f s.pool i is).here

    pooled_of : (f : Formula) → IsKeptFormula (notations_in b) (scene_in b) (Some s.id) p.0 p.1 f → IsPooled (notations_in b) (scene_in b) (Some s.id) f
    pooled_of (formulas.Tree t) h = kept_where_less (notations_in b) _ (λ place. Unit {0}) (λ place inside. tt) (scene_in b) (Some s.id) t h
    pooled_of (formulas.Raw text) h = tt

    formula_good : (f : Formula) → IsKeptFormula (notations_in b) (scene_in b) (Some s.id) p.0 p.1 f → IsGood (notations_in b) (scene_in b) s p (formula_written b s f)
    formula_good f kept = record {
      loose = λ k. dynamic_loose (is_dynamic b.tables.kinds f) (index_in_pool f s.pool) k;
      style = λ k. dynamic_style (is_dynamic b.tables.kinds f) (index_in_pool f s.pool) k;
      pool = pool_by f (is_some (first_place (code f) s.pool)) (pooled_of f kept);
      longer = longer_by f (is_some (first_place (code f) s.pool));
      stays = λ i lt. formula_stays f s.pool i lt;
      formula = λ k. subst (HasFormula (notations_in b) (scene_in b) (record s { pool = pool_with f s.pool }) p) (sym (dynamic_index (is_dynamic b.tables.kinds f) (index_in_pool f s.pool) k))
          (index_by f (first_place (code f) s.pool) refl, subst (λ (g : Formula). IsKeptFormula (notations_in b) (scene_in b) (Some s.id) p.0 p.1 g) (sym (formula_placed f s.pool)) kept);
      amount = λ k. dynamic_amount (is_dynamic b.tables.kinds f) (index_in_pool f s.pool) k;
    }

    -- the formula of a text is kept
    read_kept : (text : List ℕ) (o q : Option Spelled) → read_as (shown_at (notations_in b) (core_of b) p.0 p.1) text ≡ o → read_as (shown_at (notations_in b) (core_of b) p.0 p.1) (text ++ codes ")") ≡ q
        → IsKeptFormula (notations_in b) (scene_in b) (Some s.id) p.0 p.1 (tree_or_raw (λ t. formulas.Tree (bound (english_function (notations_in b)) (scene_in b) (Some s.id) t)) text (option_or o q))
    read_kept text (Some t) q h g =
        (tree_facts (notations_in b) (notations_are b.tables valid.tables)).reads (scene_in b) (book_named (notations_in b) (core_of b) (core_valid b valid)) (shown_at (notations_in b) (core_of b) p.0 p.1) p.0 p.1
        ((notations_are b.tables valid.tables).shown b.locale b.language p.0 p.1 valid.locale valid.language) text t h (Some s.id)
    read_kept text None (Some t) h g =
        (tree_facts (notations_in b) (notations_are b.tables valid.tables)).reads (scene_in b) (book_named (notations_in b) (core_of b) (core_valid b valid)) (shown_at (notations_in b) (core_of b) p.0 p.1) p.0 p.1
        ((notations_are b.tables valid.tables).shown b.locale b.language p.0 p.1 valid.locale valid.language) (text ++ codes ")") t g (Some s.id)
    read_kept text None None h g = tt

    pub text_kept : (text : List ℕ) → IsKeptFormula (notations_in b) (scene_in b) (Some s.id) p.0 p.1 (formula_at_place b s p text)
    text_kept text = read_kept text (read_as (shown_at (notations_in b) (core_of b) p.0 p.1) text) (read_as (shown_at (notations_in b) (core_of b) p.0 p.1) (text ++ codes ")")) refl refl

    pub text_good : (text : List ℕ) → IsGood (notations_in b) (scene_in b) s p (formula_written b s (formula_at_place b s p text))
    text_good text = formula_good (formula_at_place b s p text) (text_kept text)

    typed_good : (t : Typed) → ((v : ℤ) (code : Option (List ℕ)) → t ≡ kinds.Number v code → is_amount v ≡ true) → IsGood (notations_in b) (scene_in b) s p (typed_written b s p t)
    typed_good kinds.Empty h = plain _ _ (λ k. refl) (λ k. refl) (λ k. refl) (λ k. tt)
    typed_good (kinds.Quoted text) h = plain _ _ (λ k. refl) (λ k. refl) (λ k. refl) (λ k. tt)
    typed_good (kinds.Formula text) h = text_good text
    typed_good (kinds.Number amount format) h = plain _ _ (λ k. refl) (λ k. refl) (λ k. refl) (λ k. h amount format refl)
    typed_good (kinds.Boolean truth) h = plain _ _ (λ k. refl) (λ k. refl) (λ k. refl) (λ k. tt)
    typed_good (kinds.Error e) h = plain _ _ (λ k. refl) (λ k. refl) (λ k. refl) (λ k. tt)
    typed_good (kinds.Text text) h = plain _ _ (λ k. refl) (λ k. refl) (λ k. refl) (λ k. tt)

-- a number that is given is an amount
number_stays : (b : Book) (valid : IsValidBook b) (sheet : ℕ) (p : CellPlace) (amount : ℤ) → is_amount amount ≡ true → StaysValid (number_step sheet p amount b)
unfolding number_step
number_stays b valid sheet p amount is =
    write_stays b valid sheet p (λ s. value_written s (λ style. NumContent amount style)) []
    (λ s e r c. plain b valid sheet s e p (λ style. NumContent amount style) unquoted (λ k. refl) (λ k. refl) (λ k. refl) (λ k. is))

pub writing_stays : (b : Book) (command : Writing) → IsValidBook b → StaysValidIf (gives_amount command) (writing_step b command)
unfolding input_step text_step formula_step bool_step
writing_stays b (writing.SetUserInput sheet row column text) valid =
    write_stays b valid sheet (row, column) (λ s. typed_written b s (row, column) (typed_in b text)) [] (λ s e r c. typed_good b valid sheet s e (row, column) (typed_in b text) (typed_in_amount b valid text))
writing_stays b (writing.UpdateCellWithText sheet row column text) valid =
    write_stays b valid sheet (row, column) (λ s. text_written b s text) []
    (λ s e r c. plain b valid sheet s e (row, column) (text_written b s text).content (text_written b s text).change (λ k. refl) (λ k. refl) (λ k. refl) (λ k. tt))
writing_stays b (writing.UpdateCellWithFormula sheet row column text) valid =
    write_stays b valid sheet (row, column) (λ s. formula_written b s (formula_at_place b s (row, column) (unwrap_or (formula_typed b text) []))) ((is_none (formula_typed b text), NotAFormula) ∷ [])
    (λ s e r c. text_good b valid sheet s e (row, column) (unwrap_or (formula_typed b text) []))
writing_stays b (writing.UpdateCellWithBool sheet row column truth) valid =
    write_stays b valid sheet (row, column) (λ s. value_written s (λ style. BoolContent truth style)) []
    (λ s e r c. plain b valid sheet s e (row, column) (λ style. BoolContent truth style) unquoted (λ k. refl) (λ k. refl) (λ k. refl) (λ k. tt))
writing_stays b (writing.UpdateCellWithNumber sheet row column amount) valid = by_asking (is_amount amount) _ (number_stays b valid sheet (row, column) amount)
