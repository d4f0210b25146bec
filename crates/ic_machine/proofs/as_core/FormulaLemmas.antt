-- A formula that is written: seen by the core, it is what the identity machine writes.
use Rattle.std.proofs.Common.{◌≡◌, ℕ, ◌<◌, List, [], ◌∷◌, ◌++◌, length, Bool, true, false, cond, Option, Some, None, refl, sym, ap, subst, ◌∙◌, T}
use Rattle.std.specs.BTreeMap.{insert_entry}
use Rattle.std.specs.Cmp.{IsTotalOrder}
use Rattle.std.specs.FinMap as finite
use Rattle.std.specs.FinMap.Entries as entries
use Rattle.std.specs.Option.{option_to_list}
use Rattle.std.specs.Ordering.{eq_by_cmp, is_eq, is_lt, match_ordering}
use Rattle.std.specs.Prelude.{◌&&◌, flat_map, is_some, option_and_then, option_map, unwrap_or}
use Rattle.std.specs.declared.cmp.Ordering.{Ordering}
use Rattle.std.specs.declared.cmp.Ordering.TheVariants.{Less, Equal, Greater}
use Rattle.ic_laws.proofs.core.CellWritten.{place_cmp_total, place_tied}
use Rattle.ic_laws.specs.CoreBook.{CellPlace, Cells, place_cmp}
use Rattle.ic_laws.specs.declared.tree.Formula.{Formula}
use Rattle.ic_pool.proofs.PlacedLemmas.{first_found, first_pushed}
use Rattle.ic_pool.specs.Code.{code}
use Rattle.ic_pool.specs.Pool.{first_place}
use Rattle.ic_grid.proofs.ContentsLemmas.{get-remade}
use Rattle.ic_grid.specs.Arrays.{anchor_at}
use Rattle.ic_grid.specs.Contents.{Contents, changed_where}
use Rattle.ic_grid.specs.Prepare.{anchor_reset, prepared, released_if, unspilled, without_spill, written}
use Rattle.ic_machine.specs.Book.{Sheet, core_cells}
use Rattle.ic_machine.specs.Content.{AnchorContent, BoolContent, Content, EmptyContent, ErrContent, FormulaContent, NumContent, SpillContent, TextContent, formula_in, formula_index, held}
use Rattle.ic_machine.specs.Core.{HasPooled}
use Rattle.ic_machine.specs.Placed.{index_in_pool, pool_with}
use Rattle.ic_cells.proofs.ColumnLemmas.{tie as is_equal}
use Rattle.ic_laws.proofs.General.{in_front}

-- Entries with some values taken out, and the others made into something else. ----

pub first_of_two : (a b : Bool) → T (a && b) → T a
first_of_two true b p = tt
first_of_two false b p = p

pub second_of_two : (a b : Bool) → T (a && b) → T b
second_of_two true b p = p
second_of_two false b p = absurd p

both_of_two : (a b : Bool) → T a → T b → T (a && b)
both_of_two true b p q = q
both_of_two false b p q = p

pub is_less : (r : Ordering) → T (is_lt r) → r ≡ Less
is_less Less p = refl
is_less Equal p = absurd p
is_less Greater p = absurd p

module _ {K Y : Type 0} (R : K → K → Ordering) where
  pub find_below : (q : K) (es : List (K × Y)) → T (entries.below_all R q es) → finite.find R q es ≡ None
  find_below q [] p = refl
  find_below q (e ∷ es) p =
      ap (λ r. cond (is_eq r) (Some e.1) (finite.find R q es)) (is_less (R q e.0) (first_of_two (is_lt (R q e.0)) (entries.below_all R q es) p))
      ∙ find_below q es (second_of_two (is_lt (R q e.0)) (entries.below_all R q es) p)

  pub below_tied : IsTotalOrder R → (x y : K) (es : List (K × Y)) → R x y ≡ Equal → T (entries.below_all R y es) → T (entries.below_all R x es)
  below_tied o x y [] p h = tt
  below_tied o x y (e ∷ es) p h =
      both_of_two (is_lt (R x e.0)) (entries.below_all R x es)
      (subst (λ r. T (is_lt r)) (sym (o.congr x y e.0 p)) (first_of_two (is_lt (R y e.0)) (entries.below_all R y es) h))
      (below_tied o x y es p (second_of_two (is_lt (R y e.0)) (entries.below_all R y es) h))

  put-insert : (es : List (K × Y)) (k : K) (v : Y) → finite.put R k v es ≡ insert_entry R es k v
  put-insert [] k v = refl
  put-insert (e ∷ es) k v =
      elim (R k e.0) as (λ r. entries.by_order r ((k, v) ∷ e ∷ es) ((e.0, v) ∷ es) (e ∷ finite.put R k v es) ≡ match_ordering r ((k, v) ∷ e ∷ es) ((e.0, v) ∷ es) (e ∷ insert_entry R es k v)) [
        | Less ↦ refl
        | Equal ↦ refl
        | Greater ↦ ap (λ (rest : List (K × Y)). e ∷ rest) (put-insert es k v)
      ]

module _ {K X Z Y : Type 0} (R : K → K → Ordering) (g : X → Option Z) (h : Z → Y) where
  abbrev one_made : K → Option Z → List (K × Y)
  one_made k o = option_to_list (option_map (λ z. (k, h z)) o)

  abbrev all_made : List (K × X) → List (K × Y)
  all_made es = flat_map (λ e. one_made e.0 (g e.1)) es

  below_one : (x k : K) (o : Option Z) (rest : List (K × Y)) → T (is_lt (R x k)) → T (entries.below_all R x rest) → T (entries.below_all R x (one_made k o ++ rest))
  below_one x k None rest p q = q
  below_one x k (Some z) rest p q = both_of_two (is_lt (R x k)) (entries.below_all R x rest) p q

  below_made : (x : K) (es : List (K × X)) → T (entries.below_all R x es) → T (entries.below_all R x (all_made es))
  below_made x [] p = tt
  below_made x (e ∷ es) p =
      below_one x e.0 (g e.1) (all_made es) (first_of_two (is_lt (R x e.0)) (entries.below_all R x es) p)
      (below_made x es (second_of_two (is_lt (R x e.0)) (entries.below_all R x es) p))

  sorted_one : (k : K) (o : Option Z) (rest : List (K × Y)) → T (entries.below_all R k rest) → T (finite.is_sorted R rest) → T (finite.is_sorted R (one_made k o ++ rest))
  sorted_one k None rest p q = q
  sorted_one k (Some z) rest p q = both_of_two (entries.below_all R k rest) (finite.is_sorted R rest) p q

  pub sorted_made : (es : List (K × X)) → T (finite.is_sorted R es) → T (finite.is_sorted R (all_made es))
  sorted_made [] p = tt
  sorted_made (e ∷ es) p =
      sorted_one e.0 (g e.1) (all_made es) (below_made e.0 es (first_of_two (entries.below_all R e.0 es) (finite.is_sorted R es) p))
      (sorted_made es (second_of_two (entries.below_all R e.0 es) (finite.is_sorted R es) p))

  -- what is found among them
  find_one : (q k : K) (o : Option Z) (rest : List (K × Y)) → (eq_by_cmp R q k ≡ true → finite.find R q rest ≡ None)
      → finite.find R q (one_made k o ++ rest) ≡ cond (eq_by_cmp R q k) (option_map h o) (finite.find R q rest)
  find_one q k None rest none =
      elim (eq_by_cmp R q k) as (λ b. (b ≡ true → finite.find R q rest ≡ None) → finite.find R q rest ≡ cond b None (finite.find R q rest)) [
        | true ↦ λ n. n refl
        | false ↦ λ n. refl
      ] none
  find_one q k (Some z) rest none = refl

  at_either : (b : Bool) (x : X) (o : Option X) → cond b (option_map h (g x)) (option_map h (option_and_then g o)) ≡ option_map h (option_and_then g (cond b (Some x) o))
  at_either true x o = refl
  at_either false x o = refl

  pub find-made : IsTotalOrder R → (q : K) (es : List (K × X)) → T (finite.is_sorted R es) → finite.find R q (all_made es) ≡ option_map h (option_and_then g (finite.find R q es))
  find-made o q [] p = refl
  find-made o q (e ∷ es) p =
      find_one q e.0 (g e.1) (all_made es)
      (λ t. find_below R q (all_made es)
      (below_tied R o q e.0 (all_made es) (is_equal (R q e.0) t) (below_made e.0 es (first_of_two (entries.below_all R e.0 es) (finite.is_sorted R es) p))))
      ∙ ap (cond (eq_by_cmp R q e.0) (option_map h (g e.1))) (find-made o q es (second_of_two (entries.below_all R e.0 es) (finite.is_sorted R es) p))
      ∙ at_either (eq_by_cmp R q e.0) e.1 (finite.find R q es)

-- A place that is prepared: no formula changes. ----

pub unspilled_formula : (a : CellPlace) (x : Content) → formula_index (unspilled held a x) ≡ formula_index x
unspilled_formula a (EmptyContent style) = refl
unspilled_formula a (BoolContent truth style) = refl
unspilled_formula a (NumContent amount style) = refl
unspilled_formula a (ErrContent e style) = refl
unspilled_formula a (TextContent text style) = refl
unspilled_formula a (FormulaContent index value style) = refl
unspilled_formula a (AnchorContent index area kind value style) = refl
unspilled_formula a (SpillContent anchor value style) = no_formula (eq_by_cmp place_cmp a anchor)
  where
    no_formula : (b : Bool) → formula_index (cond b (EmptyContent style) (SpillContent anchor value style)) ≡ None
    no_formula true = refl
    no_formula false = refl

pub reset_formula : (x : Content) → formula_index (anchor_reset held x) ≡ formula_index x
reset_formula (EmptyContent style) = refl
reset_formula (BoolContent truth style) = refl
reset_formula (NumContent amount style) = refl
reset_formula (ErrContent e style) = refl
reset_formula (TextContent text style) = refl
reset_formula (FormulaContent index value style) = refl
reset_formula (AnchorContent index area kind value style) = refl
reset_formula (SpillContent anchor value style) = refl

abbrev index_at : Contents Content → CellPlace → Option ℕ
index_at m q = option_and_then formula_index (finite.get m q)

changed_one : (b : Bool) (change : Content → Content) (x : Content) → formula_index (change x) ≡ formula_index x → formula_index (cond b (change x) x) ≡ formula_index x
changed_one true change x e = e
changed_one false change x e = refl

changed_any : (b : Bool) (change : Content → Content) (o : Option Content) → ((x : Content) → formula_index (change x) ≡ formula_index x)
    → option_and_then formula_index (option_and_then (λ x. Some (cond b (change x) x)) o) ≡ option_and_then formula_index o
changed_any b change None same = refl
changed_any b change (Some x) same = changed_one b change x (same x)

changed_formula : (test : CellPlace → Bool) (change : Content → Content) (m : Contents Content) (q : CellPlace) → ((x : Content) → formula_index (change x) ≡ formula_index x)
    → index_at (changed_where test change m) q ≡ index_at m q
changed_formula test change m q same =
    ap (option_and_then formula_index) (get-remade (λ q x. Some (cond (test q) (change x) x)) m q) ∙ changed_any (test q) change (finite.get m q) same

released_formula : (o : Option CellPlace) (m : Contents Content) (q : CellPlace) → index_at (released_if held o m) q ≡ index_at m q
released_formula None m q = refl
released_formula (Some a) m q =
    changed_formula (λ q. eq_by_cmp place_cmp q a) (anchor_reset held) (without_spill held a m) q reset_formula
    ∙ changed_formula (λ q. true) (unspilled held a) m q (unspilled_formula a)

pub prepared_formula : (p : CellPlace) (m : Contents Content) (q : CellPlace) → index_at (prepared held p m) q ≡ index_at m q
prepared_formula p m q = released_formula (anchor_at held m p) m q

-- A formula in a pool. ----

found_in : (f : Formula) (pool : List Formula) (o : Option ℕ) → first_place (code f) pool ≡ o → formula_in (cond (is_some o) pool (pool ++ f ∷ [])) (unwrap_or o (length pool)) ≡ f
found_in f pool None e = ap (λ (x : Option Formula). unwrap_or x (formula_in [] 0)) ((first_pushed f pool e).here)
found_in f pool (Some index) e = ap (λ (x : Option Formula). unwrap_or x (formula_in [] 0)) ((first_found f pool index e).here)

pub formula_placed : (f : Formula) (pool : List Formula) → formula_in (pool_with f pool) (index_in_pool f pool) ≡ f
formula_placed f pool = found_in f pool (first_place (code f) pool) refl

stays_in : (f : Formula) (pool : List Formula) (i : ℕ) (b : Bool) → i < length pool → formula_in (cond b pool (pool ++ f ∷ [])) i ≡ formula_in pool i
stays_in f pool i true lt = refl
stays_in f pool i false lt = ap (λ (x : Option Formula). unwrap_or x (formula_in [] 0)) (in_front pool (f ∷ []) i lt)

pub formula_stays : (f : Formula) (pool : List Formula) (i : ℕ) → i < length pool → formula_in (pool_with f pool) i ≡ formula_in pool i
formula_stays f pool i lt = stays_in f pool i (is_some (first_place (code f) pool)) lt

-- The cells of a sheet. ----

module _ (s : Sheet) (place : CellPlace) (f : Formula) (content : Content) (pooled : HasPooled s) (at : formula_index content ≡ Some (index_in_pool f s.pool)) where
  abbrev before : Contents Content
  before = s.grid.contents

  same_index : (q : CellPlace) (o : Option Content) → finite.get before q ≡ o → (i : Option ℕ) → option_and_then formula_index o ≡ i → option_map (formula_in (pool_with f s.pool)) i ≡ option_map (formula_in s.pool) i
  same_index q o e None e' = refl
  same_index q None e (Some i) e' = cc
  same_index q (Some x) e (Some i) e' = ap (λ (y : Formula). Some y) (formula_stays f s.pool i (pooled q x i e e'))

  at_place : (b : Bool) (q : CellPlace)
      → option_map (formula_in (pool_with f s.pool)) (option_and_then formula_index (cond b (Some content) (finite.get (prepared held place before) q)))
      ≡ cond b (Some f) (option_map (formula_in s.pool) (index_at before q))
  at_place true q = ap (option_map (formula_in (pool_with f s.pool))) at ∙ ap (λ (y : Formula). Some y) (formula_placed f s.pool)
  at_place false q =
      ap (option_map (formula_in (pool_with f s.pool))) (prepared_formula place before q)
      ∙ same_index q (finite.get before q) refl (index_at before q) refl

  found_after : (q : CellPlace)
      → finite.find place_cmp q (core_cells (pool_with f s.pool) (finite.entries (written held place content before)))
      ≡ finite.find place_cmp q (insert_entry place_cmp (core_cells s.pool (finite.entries before)) place f)
  found_after q =
      find-made place_cmp formula_index (formula_in (pool_with f s.pool)) place_cmp_total q (finite.entries (written held place content before)) (finite.entries_sorted (written held place content before))
      ∙ ap (λ (o : Option Content). option_map (formula_in (pool_with f s.pool)) (option_and_then formula_index o))
      (sym (finite.get-entries (written held place content before) q) ∙ finite.get-insert place_cmp_total (prepared held place before) place content q)
      ∙ at_place (eq_by_cmp place_cmp q place) q
      ∙ ap (λ (o : Option Content). cond (eq_by_cmp place_cmp q place) (Some f) (option_map (formula_in s.pool) (option_and_then formula_index o))) (finite.get-entries before q)
      ∙ ap (cond (eq_by_cmp place_cmp q place) (Some f)) (sym (find-made place_cmp formula_index (formula_in s.pool) place_cmp_total q (finite.entries before) (finite.entries_sorted before)))
      ∙ sym (entries.find-put place_cmp place_cmp_total q place f (core_cells s.pool (finite.entries before)))
      ∙ ap (finite.find place_cmp q) (put-insert place_cmp (core_cells s.pool (finite.entries before)) place f)

  pub cells_after : core_cells (pool_with f s.pool) (finite.entries (written held place content before)) ≡ insert_entry place_cmp (core_cells s.pool (finite.entries before)) place f
  cells_after =
      entries.same_entries place_cmp place_cmp_total place_tied
      (core_cells (pool_with f s.pool) (finite.entries (written held place content before))) (insert_entry place_cmp (core_cells s.pool (finite.entries before)) place f)
      (sorted_made place_cmp formula_index (formula_in (pool_with f s.pool)) (finite.entries (written held place content before)) (finite.entries_sorted (written held place content before)))
      (subst (λ (es : Cells). T (finite.is_sorted place_cmp es)) (put-insert place_cmp (core_cells s.pool (finite.entries before)) place f)
      (entries.is_sorted-put place_cmp place_cmp_total place f (core_cells s.pool (finite.entries before))
      (sorted_made place_cmp formula_index (formula_in s.pool) (finite.entries before) (finite.entries_sorted before))))
      found_after
