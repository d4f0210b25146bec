-- Texts that are kept once, and cells with the numbers of theirs: what is seen of the cells stays.
use Rattle.std.proofs.Common.{◌≡◌, ◌∙◌, ◌⊎◌, inl, inr, ◌<◌, ◌≤◌, ◌+◌, ℕ, zero, suc, List, [], ◌∷◌, ◌++◌, Option, Some, None, option_map, map, length, length-append, take, get_or, unwrap_or, refl, sym, ap, ap₂, subst, arith}
use Rattle.std.proofs.lemmas.List.{length-map, map-append, take_all, take_more}
use Rattle.std.proofs.lemmas.Bool.Decides.{Decides-ltb}
use Rattle.std.specs.Bool.{Decides}
use Rattle.std.specs.FinMap as finite
use Rattle.std.specs.List.{AllByRecursion, slice_get}
use Rattle.ic_laws.proofs.core.Lists.{all_pushed}
use Rattle.ic_laws.specs.CoreBook.{CellPlace}
use Rattle.ic_cells.specs.Cell.{string_at}
use Rattle.ic_cells.specs.Listed.{IsPlaced}
use Rattle.ic_cells.specs.declared.cell.Cell.{Cell}
use Rattle.ic_cells.specs.declared.cell.Cell.TheVariants as cells
use Rattle.ic_grid.proofs.ContentsLemmas.{same_contents}
use Rattle.ic_grid.specs.Contents.{Contents}
use Rattle.ic_machine.proofs.contents.AlikeGrid.{empty-seen, get-seen, insert-seen}
use Rattle.ic_machine.specs.Alike.{seen_by}
use Rattle.ic_machine.specs.Content.{Content, TextContent, content_of}
use Rattle.ic_parts.specs.Book.{HasString}
use Rattle.ic_workbooks.specs.Numbered.{AreNumbered, is_string_below, number_at, renumbered}
use Rattle.ic_parts.proofs.CopyLemmas.{inserted, inserted_last, inserted_next}

-- ---- texts, one after another

-- a text that is placed leaves those that were there
string_stays : (x : List ℕ) (at : ℕ) (before after : List (List ℕ)) → IsPlaced x at before after → (n : ℕ) → n < length before → string_at after n ≡ string_at before n
string_stays x at before after placed n lt = by_place (found_or at (length before))
  where
    found_or : (i k : ℕ) → (i < k) ⊎ (k ≤ i)
    found_or i k = grind arith

    earlier : (xs : List (List ℕ)) (y : List ℕ) (k : ℕ) → k < length xs → string_at (xs ++ y ∷ []) k ≡ string_at xs k
    earlier [] y k h = absurd (omega arith)
    earlier (z ∷ xs) y zero h = refl
    earlier (z ∷ xs) y (suc k) h = earlier xs y k (omega arith)

    by_place : (at < length before) ⊎ (length before ≤ at) → string_at after n ≡ string_at before n
    by_place (inl lt_at) = ap (λ xs. string_at xs n) (placed.found lt_at)
    by_place (inr le) = ap (λ xs. string_at xs n) (placed.pushed le) ∙ earlier before x n lt

longer : (x : List ℕ) (at : ℕ) (before after : List (List ℕ)) → IsPlaced x at before after → length before ≤ length after
longer x at before after placed = by_place (found_or at (length before))
  where
    found_or : (i k : ℕ) → (i < k) ⊎ (k ≤ i)
    found_or i k = grind arith

    by_place : (at < length before) ⊎ (length before ≤ at) → length before ≤ length after
    by_place (inl lt_at) = let e = ap length (placed.found lt_at) in omega (arith, e)
    by_place (inr le) = let e = ap length (placed.pushed le) in let f = length-append before (x ∷ []) in omega (arith, e, f)

here_below : (x : List ℕ) (n : ℕ) (xs : List (List ℕ)) → slice_get xs n ≡ Some x → n < length xs
here_below x n [] e = cc
here_below x zero (y ∷ xs) e = omega arith
here_below x (suc n) (y ∷ xs) e = let h = here_below x n xs e in omega (arith, h)

module _ (texts : List (List ℕ)) where
  abbrev pub NumberedTo : ℕ → List ℕ → List (List ℕ) → Type 0
  NumberedTo i numbers strings = AreNumbered (take i texts) numbers strings

  pub numbered_start : (numbers : List ℕ) (strings : List (List ℕ)) → numbers ≡ [] → NumberedTo 0 numbers strings
  numbered_start numbers strings none = record {
    told = ap (map (string_at strings)) none;
    within = subst (AllByRecursion (λ n. n < length strings)) (sym none) tt;
  }

  pub numbered_end : (i : ℕ) (numbers : List ℕ) (strings : List (List ℕ)) → NumberedTo i numbers strings → length texts ≤ i → AreNumbered texts numbers strings
  numbered_end i numbers strings done end = record { told = done.told ∙ take_all i texts end; within = done.within }

  module _ (i next : ℕ) (text : List ℕ) (is_next : i + 1 ≡ next) (below : i < length texts) (item : text ≡ get_or texts i text) where
    one_item : take next texts ≡ take i texts ++ text ∷ []
    one_item = ap (λ n. take n texts) (sym is_next) ∙ take_more texts i text below ∙ ap (λ y. take i texts ++ y ∷ []) (sym item)

    same_strings : (before after : List (List ℕ)) → ((n : ℕ) → n < length before → string_at after n ≡ string_at before n) → (ns : List ℕ) → AllByRecursion (λ n. n < length before) ns
        → map (string_at after) ns ≡ map (string_at before) ns
    same_strings before after stays [] h = refl
    same_strings before after stays (n ∷ ns) h = ap₂ ◌∷◌ (stays n h.0) (same_strings before after stays ns h.1)

    all_wider : (k m : ℕ) → k ≤ m → (ns : List ℕ) → AllByRecursion (λ n. n < k) ns → AllByRecursion (λ n. n < m) ns
    all_wider k m le [] h = tt
    all_wider k m le (n ∷ ns) h = (let lt = h.0 in omega (arith, le, lt), all_wider k m le ns h.1)

    pub numbered_next : (numbers after : List ℕ) (strings more : List (List ℕ)) (at : ℕ) → NumberedTo i numbers strings → IsPlaced text at strings more → after ≡ numbers ++ at ∷ [] → NumberedTo next after more
    numbered_next numbers after strings more at done placed put = record {
      told = ap (map (string_at more)) put ∙ map-append (string_at more) numbers (at ∷ [])
          ∙ ap₂ (λ xs (x : List ℕ). xs ++ x ∷ []) (same_strings strings more (string_stays text at strings more placed) numbers done.within ∙ done.told)
          (ap (λ o. unwrap_or o []) placed.first.here)
          ∙ sym one_item;
      within = subst (AllByRecursion (λ n. n < length more)) (sym put)
          (all_pushed (λ n. n < length more) numbers at (all_wider (length strings) (length more) (longer text at strings more placed) numbers done.within) (here_below text at more placed.first.here));
    }

-- ---- what is seen of cells

module _ (texts : List (List ℕ)) (numbers : List ℕ) (strings : List (List ℕ)) (kept : AreNumbered texts numbers strings) where
  string_told : (index : ℕ) → index < length texts → string_at strings (number_at numbers index) ≡ string_at texts index
  string_told index lt =
      go numbers index index (let e = ap length kept.told in let f = length-map numbers (string_at strings) in omega (arith, lt, e, f)) ∙ ap (λ xs. string_at xs index) kept.told
    where
      go : (ns : List ℕ) (k d : ℕ) → k < length ns → string_at strings (unwrap_or (slice_get ns k) d) ≡ string_at (map (string_at strings) ns) k
      go [] k d h = absurd (omega arith)
      go (n ∷ ns) zero d h = refl
      go (n ∷ ns) (suc k) d h = go ns k d (omega arith)

  content_told : (cell : Cell) → HasString (length texts) cell → content_of strings (renumbered numbers cell) ≡ content_of texts cell
  content_told (cells.EmptyCell s) h = refl
  content_told (cells.BooleanCell v s) h = refl
  content_told (cells.NumberCell v s) h = refl
  content_told (cells.ErrorCell e s) h = refl
  content_told (cells.SharedString index s) h = ap (λ text. TextContent text s) (string_told index h)
  content_told (cells.CellFormula f s v) h = refl
  content_told (cells.ArrayFormula k f s r v) h = refl
  content_told (cells.SpillCell s a v) h = refl

  pub seen_told : (m : Contents Cell) → ((p : CellPlace) (cell : Cell) → finite.get m p ≡ Some cell → HasString (length texts) cell) → seen_by (content_of strings) (seen_by (renumbered numbers) m) ≡ seen_by (content_of texts) m
  seen_told m has =
      same_contents _ _
      (λ p. get-seen (content_of strings) (seen_by (renumbered numbers) m) p ∙ ap (option_map (content_of strings)) (get-seen (renumbered numbers) m p) ∙ by_cell p (finite.get m p) refl ∙ sym (get-seen (content_of texts) m p))
    where
      by_cell : (p : CellPlace) (o : Option Cell) → finite.get m p ≡ o → option_map (content_of strings) (option_map (renumbered numbers) o) ≡ option_map (content_of texts) o
      by_cell p None e = refl
      by_cell p (Some cell) e = ap (λ (x : Content). let o : Option Content = Some x in o) (content_told cell (has p cell e))

  -- the numbers are among the strings
  pub string_there : (cell : Cell) → HasString (length texts) cell → HasString (length strings) (renumbered numbers cell)
  string_there (cells.EmptyCell s) h = tt
  string_there (cells.BooleanCell v s) h = tt
  string_there (cells.NumberCell v s) h = h
  string_there (cells.ErrorCell e s) h = tt
  string_there (cells.SharedString index s) h =
      go numbers index index (let lt : index < length texts = h in let e = ap length kept.told in let f = length-map numbers (string_at strings) in omega (arith, lt, e, f)) kept.within
    where
      go : (ns : List ℕ) (k d : ℕ) → k < length ns → AllByRecursion (λ n. n < length strings) ns → unwrap_or (slice_get ns k) d < length strings
      go [] k d lt all = absurd (omega (arith, lt))
      go (n ∷ ns) zero d lt all = all.0
      go (n ∷ ns) (suc k) d lt all = go ns k d (omega (arith, lt)) all.1
  string_there (cells.CellFormula f s v) h = tt
  string_there (cells.ArrayFormula k f s r v) h = tt
  string_there (cells.SpillCell s a v) h = tt

-- ---- cells that are copied one after another

module _ (numbers : List ℕ) (m : Contents Cell) where
  -- what is copied so far, seen with the numbers of its strings, with the rest put in
  pub record CopiedTo (out : Contents Cell) (rest : List (CellPlace × Cell)) : Type 0 where
    pub so_far : Contents Cell
    pub seen : out ≡ seen_by (renumbered numbers) so_far
    pub all : inserted so_far rest ≡ m

  pub copied_start : (out : Contents Cell) (rest : List (CellPlace × Cell)) → out ≡ finite.empty → inserted finite.empty rest ≡ m → CopiedTo out rest
  copied_start out rest none all = record { so_far = finite.empty; seen = none ∙ sym (empty-seen (renumbered numbers)); all = all }

  pub copied_next : (out after : Contents Cell) (es rest : List (CellPlace × Cell)) (p : CellPlace) (cell : Cell) → CopiedTo out es → es ≡ (p, cell) ∷ rest → after ≡ finite.insert out p (renumbered numbers cell) → CopiedTo after rest
  copied_next out after es rest p cell done next put = record {
    so_far = finite.insert done.so_far p cell;
    seen = put ∙ ap (λ (c : Contents Cell). finite.insert c p (renumbered numbers cell)) done.seen ∙ sym (insert-seen (renumbered numbers) done.so_far p cell);
    all = inserted_next m done.so_far (finite.insert done.so_far p cell) es rest p cell done.all next refl;
  }

  pub copied_end : (out : Contents Cell) (es : List (CellPlace × Cell)) → CopiedTo out es → es ≡ [] → out ≡ seen_by (renumbered numbers) m
  copied_end out es done none = done.seen ∙ ap (seen_by (renumbered numbers)) (inserted_last m done.so_far es done.all none)

-- ---- whether strings are there

pub string_decided : (count : ℕ) (cell : Cell) → Decides (is_string_below count cell) (HasString count cell)
string_decided count (cells.SharedString index s) = Decides-ltb index count
string_decided count (cells.EmptyCell s) = (λ e. tt, λ h. refl)
string_decided count (cells.BooleanCell v s) = (λ e. tt, λ h. refl)
string_decided count (cells.NumberCell v s) = (λ e. e, λ h. h)
string_decided count (cells.ErrorCell e s) = (λ e. tt, λ h. refl)
string_decided count (cells.CellFormula f s v) = (λ e. tt, λ h. refl)
string_decided count (cells.ArrayFormula k f s r v) = (λ e. tt, λ h. refl)
string_decided count (cells.SpillCell s a v) = (λ e. tt, λ h. refl)
