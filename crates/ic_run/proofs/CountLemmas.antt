-- Counts of replies by their texts, and of cells with formulas.
use Rattle.std.proofs.Common.{◌≡◌, ◌++◌, ◌+◌, ℕ, List, [], ◌∷◌, Bool, T, true, false, cond, ◌&&◌, length, map, Option, Some, None, Result, Ok, Err, OnOk, option_map, bytes_eq, codes, flat_map, refl, ap, ap₂, sym, subst, ◌∙◌, length-append}
use Rattle.std.proofs.lemmas.Bool.{and_parts}
use Rattle.std.proofs.lemmas.List.Sums.{sum_by-cons}
use Rattle.std.proofs.lemmas.Str.{chars-IsAscii}
use Rattle.std.specs.BTreeMap as tree
use Rattle.std.specs.BTreeMap.{BTreeMap}
use Rattle.std.specs.FinMap as finite
use Rattle.std.specs.FinMap.{is_sorted}
use Rattle.std.specs.FinMap.Entries.{below_all}
use Rattle.std.specs.List.{AllByRecursion, count_by, list_all}
use Rattle.std.specs.List.Sorted.{IsStrictlySortedBy}
use Rattle.std.specs.Option.{is_some, option_to_list}
use Rattle.std.specs.Ordering.{is_lt}
use Rattle.std.specs.declared.cmp.Ordering.TheVariants.{Less}
use Rattle.ic_laws.proofs.core.CellWritten.{place_cmp_total, place_tied}
use Rattle.ic_laws.specs.CoreBook.{CellPlace, CoreBook}
use Rattle.ic_laws.specs.CoreBook as core
use Rattle.ic_laws.specs.declared.tree.Formula.{Formula}
use Rattle.ic_cells.specs.Cell.{cell_formula_index}
use Rattle.ic_cells.specs.Maps.{place_cmp}
use Rattle.ic_cells.specs.declared.cell.Cell.{Cell}
use Rattle.ic_cells.specs.declared.sheet.Worksheet.{Worksheet}
use Rattle.ic_grid.specs.Contents.{Contents}
use Rattle.ic_machine.specs.Reply.{Reply, reply_text}
use Rattle.ic_sheets.specs.Sheet.{Sheet, cell_of, cells_of, formula_in, sheet_core}
use Rattle.ic_words.proofs.ReplyLemmas.{are_ascii, tested_ascii}
use Rattle.ic_parts.proofs.WholeLemmas.{whole_core}
use Rattle.ic_parts.specs.Book.{Book}
use Rattle.ic_parts.specs.Whole.{whole_of}
use Rattle.ic_workbooks.specs.Workbook.{workbook_of, worksheet_of}
use Rattle.ic_run.specs.Counts.{formulas_in, formulas_of, has_formula, told_some}
use Rattle.ic_run.specs.Make.{formula_count, is_refused_as, told_if_some, told_names, told_refusal, told_refusals}

-- a count of what a list is made into
counts_made : {X Y : Type 0} (p : X → Bool) (q : Y → Bool) (f : Y → X) → ((y : Y) → p (f y) ≡ q y) → (ys : List Y) → count_by p (map f ys) ≡ count_by q ys
counts_made p q f same [] = refl
counts_made p q f same (y ∷ ys) =
    sum_by-cons (λ x. cond (p x) 1 0) (f y) (map f ys) ∙ ap₂ (λ (a b : ℕ). a + b) (ap (λ (t : Bool). cond t 1 0) (same y)) (counts_made p q f same ys)
    ∙ sym (sum_by-cons (λ z. cond (q z) 1 0) y ys)

-- Cells. ----

both : (a b : Bool) → T a → T b → T (a && b)
both true b p q = q
both false b p q = elim p [ ]

-- an ordered map has the entries of the finite map that contracts see
module _ {X : Type 0} where
  lowest : (x : CellPlace) (es : List (CellPlace × X)) → AllByRecursion (λ y. place_cmp x y ≡ Less) (map (λ (e : CellPlace × X). e.0) es) → T (below_all place_cmp x es)
  lowest x [] h = tt
  lowest x (e ∷ es) h = both (is_lt (place_cmp x e.0)) (below_all place_cmp x es) (subst (λ r. T (is_lt r)) (sym h.0) tt) (lowest x es h.1)

  rising : (es : List (CellPlace × X)) → IsStrictlySortedBy place_cmp (map (λ (e : CellPlace × X). e.0) es) → T (is_sorted place_cmp es)
  unfolding IsStrictlySortedBy
  rising [] h = tt
  rising (e ∷ es) h = both (below_all place_cmp e.0 es) (is_sorted place_cmp es) (lowest e.0 es h.0) (rising es h.1)

  own_entries : (m : BTreeMap CellPlace X) (v : Contents X) → tree.IsOrdered place_cmp m → finite.from_entries m.entries ≡ v → m.entries ≡ finite.entries v
  own_entries m v ordered e =
      let up = rising m.entries ordered in
      sym (finite.entries-from_sorted place_cmp m.entries up)
      ∙ ap finite.entries (finite.same_map place_cmp_total place_tied (finite.from_sorted {R = place_cmp} m.entries) (finite.from_entries {R = place_cmp} m.entries)
      (λ q. finite.get-from_sorted place_cmp m.entries q up ∙ sym (finite.get-from_entries place_cmp_total m.entries q)) ∙ e)

-- the cells of such a map that have a formula
pub values_counted : (m : BTreeMap CellPlace Cell) (v : Contents Cell) → tree.IsOrdered place_cmp m → finite.from_entries m.entries ≡ v → count_by has_formula (tree.values m) ≡ formulas_in v
values_counted m v ordered e =
    counts_made has_formula (λ (e : CellPlace × Cell). has_formula e.1) (λ (e : CellPlace × Cell). e.1) (λ e. refl) m.entries
    ∙ ap (count_by (λ (e : CellPlace × Cell). has_formula e.1)) (own_entries m v ordered e)

-- the core of a sheet has as many
one_or_none : {A : Type 0} (o : Option ℕ) (g : ℕ → A) → length (option_to_list (option_map g o)) ≡ cond (is_some o) 1 0
one_or_none None g = refl
one_or_none (Some n) g = refl

cells_counted : (pool : List Formula) (es : List (CellPlace × Cell)) → length (cells_of pool es) ≡ count_by (λ (e : CellPlace × Cell). has_formula e.1) es
cells_counted pool [] = refl
cells_counted pool (e ∷ es) =
    length-append (cell_of pool e) (cells_of pool es)
    ∙ ap₂ (λ (a b : ℕ). a + b) (one_or_none (cell_formula_index e.1) (λ at. let c : CellPlace × Formula = (e.0, formula_in pool at) in c)) (cells_counted pool es)
    ∙ sym (sum_by-cons (λ (e : CellPlace × Cell). cond (has_formula e.1) 1 0) e es)

abbrev cells_in : List core.Sheet → List (CellPlace × Formula)
cells_in sheets = flat_map (λ (s : core.Sheet). s.cells) sheets

sheets_counted : (book : Book) (sheets : List Sheet) → length (cells_in (map sheet_core sheets)) ≡ formulas_of (map (worksheet_of book) sheets)
sheets_counted book [] = refl
sheets_counted book (s ∷ sheets) =
    length-append (sheet_core s).cells (cells_in (map sheet_core sheets))
    ∙ ap₂ (λ (a b : ℕ). a + b) (cells_counted s.pool (finite.entries s.grid.cells)) (sheets_counted book sheets)
    ∙ sym (sum_by-cons (λ (w : Worksheet). formulas_in w.cells) (worksheet_of book s) (map (worksheet_of book) sheets))

-- so the records of a book's sheets have as many as the book
pub formulas_counted : (book : Book) → formulas_of (workbook_of book).worksheets ≡ formula_count (whole_of book)
formulas_counted book = sym (ap (λ (c : CoreBook). length (cells_in c.sheets)) (whole_core book) ∙ sheets_counted book book.sheets)

-- Replies. ----

refused_as : (name : List ℕ) (r : Reply) → bytes_eq (reply_text r) (codes "error\t" ++ name) ≡ is_refused_as name r
refused_as name (Ok fields) = refl
refused_as name (Err refusal) = refl

refusal_told : (replies : List Reply) (name : List ℕ) → are_ascii name ≡ true → told_some (map reply_text replies) (codes "error\t" ++ name) ≡ told_refusal replies name
refusal_told replies name ascii =
    let text : List ℕ = codes "error\t" ++ name in
    ap (told_if_some text)
    (ap (λ (t : List ℕ). count_by (λ r. bytes_eq r t) (map reply_text replies)) (chars-IsAscii text (tested_ascii text ascii))
    ∙ counts_made (λ r. bytes_eq r text) (is_refused_as name) reply_text (refused_as name) replies)

all_told : (replies : List Reply) (names : List (List ℕ)) → list_all are_ascii names ≡ true
    → flat_map (told_some (map reply_text replies)) (map (λ name. codes "error\t" ++ name) names) ≡ flat_map (told_refusal replies) names
all_told replies [] h = refl
all_told replies (name ∷ names) h =
    let p = and_parts (are_ascii name) (list_all are_ascii names) h in
    ap₂ (λ (a b : List ℕ). a ++ b) (refusal_told replies name p.0) (all_told replies names p.1)

-- all refusals are told by the texts of replies
pub refusals_told : {X E : Type 0} (r : Result X E) (old new : List ℕ) (texts : List (List ℕ)) (replies : List Reply) → texts ≡ map reply_text replies
    → OnOk r (new ≡ old ++ flat_map (told_some texts) (map (λ name. codes "error\t" ++ name) told_names)) → OnOk r (new ≡ old ++ told_refusals replies)
unfolding told_refusals
refusals_told (Ok x) old new texts replies are e =
    e ∙ ap (λ (ts : List (List ℕ)). old ++ flat_map (told_some ts) (map (λ name. codes "error\t" ++ name) told_names)) are ∙ ap (λ (t : List ℕ). old ++ t) (all_told replies told_names refl)
refusals_told (Err e) old new texts replies are h = h
