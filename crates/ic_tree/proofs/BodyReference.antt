-- What a body takes for a reference is what is one beside the cells: from which cell a text is read changes what a reference
-- counts from, and neither how far it goes nor which sheet it names.
use Rattle.std.proofs.Common.{◌≡◌, ◌∙◌, ℕ, ℤ, pos, List, [], ◌∷◌, Bool, true, false, ◌==◌, cond, Option, Some, None, is_some, option_map, option_and_then, Result, Ok, is_ok, refl, sym, ap, subst}
use Rattle.ic_laws.specs.CoreBook.{CoreBook, scene_of}
use Rattle.ic_laws.specs.Dialect.{DialectMeaning}
use Rattle.ic_laws.specs.FormulaReading.{is_found, reference_tree, shown_at, trimmed, whole_reference}
use Rattle.ic_laws.specs.Notations.{AreNotations}
use Rattle.ic_laws.specs.Parse.{node}
use Rattle.ic_laws.specs.Scene.{found_sheet}
use Rattle.ic_laws.specs.Tree.{Spelled}
use Rattle.ic_laws.specs.ValidCore.{IsValidCore}
use Rattle.ic_laws.specs.declared.reference.Place.{Place}
use Rattle.ic_laws.specs.declared.reference.RefToken.{RefToken}
use Rattle.ic_laws.specs.declared.scene.Scene.{Scene}
use Rattle.ic_laws.specs.declared.tree.Tree.TheOpen as one
use Rattle.ic_refs.specs.A1.{a1_at, a1_place_at, cell_at, column_at, pair_at, past_colon, position_of, read_position, row_at}
use Rattle.ic_refs.specs.Formula.{ParsesFormula, ◌>>=◌, found_or, formula_token, not_a_reference, place_on, whole_of}
use Rattle.ic_laws.specs.SheetText.{sheet_at}
use Rattle.ic_refs.specs.Sheet.{or_else, reference_at, with_sheet}
use Rattle.ic_refs.specs.declared.error.ReferenceError.{ReferenceError}
use Rattle.ic_refs.specs.declared.error.ReferenceError.TheVariants as errors
use Rattle.ic_refs.specs.declared.reference.ParsedReference.{ParsedReference}
use Rattle.ic_tables.specs.Tables.{IsWellFormed, TableSet, language_of, locale_of}
use Rattle.ic_tree.proofs.ClashLemmas.{shown_as}
use Rattle.ic_tree.proofs.NotationLaws.{notations_are}
use Rattle.ic_tree.specs.Notations.{notations_of}
use Rattle.ic_laws.proofs.General.{some_there as there}

-- two readings leave the same
abbrev Alike : {X Y : Type 0} → Option (X × List ℕ) → Option (Y × List ℕ) → Type 0
Alike a b = option_map (λ f. f.1) a ≡ option_map (λ f. f.1) b

position_alike : (absolute : Bool) (o p : ℤ) (read : ℕ × List ℕ) → Alike (read_position absolute o read) (read_position absolute p read)
position_alike absolute o p read = by (read.0 == 0)
  where
    by : (none : Bool) → Alike (cond none None (Some (position_of absolute o read.0, read.1))) (cond none None (Some (position_of absolute p read.0, read.1)))
    by true = refl
    by false = refl

map_alike : {X Y Z W : Type 0} (f : X → Z) (g : Y → W) (a : Option (X × List ℕ)) (b : Option (Y × List ℕ)) → Alike a b → Alike (option_map (λ r. (f r.0, r.1)) a) (option_map (λ r. (g r.0, r.1)) b)
map_alike f g None None e = refl
map_alike f g (Some x) (Some y) e = e
map_alike f g None (Some y) e = absurd (cc)
map_alike f g (Some x) None e = absurd (cc)

then_alike : {X Y Z W : Type 0} (k : X → List ℕ → Option (Z × List ℕ)) (l : Y → List ℕ → Option (W × List ℕ)) (a : Option (X × List ℕ)) (b : Option (Y × List ℕ)) → Alike a b → ((x : X) (y : Y) (rest : List ℕ) → Alike (k x rest) (l y rest))
    → Alike (option_and_then (λ r. k r.0 r.1) a) (option_and_then (λ r. l r.0 r.1) b)
then_alike k l None None e h = refl
then_alike k l (Some x) (Some y) e h = let same : x.1 ≡ y.1 = cc in subst (λ rest. Alike (k x.0 x.1) (l y.0 rest)) same (h x.0 y.0 x.1)
then_alike k l None (Some y) e h = absurd (cc)
then_alike k l (Some x) None e h = absurd (cc)

or_alike : {X Y : Type 0} (a c : Option (X × List ℕ)) (b d : Option (Y × List ℕ)) → Alike a b → Alike c d → Alike (or_else a c) (or_else b d)
or_alike None c None d e f = f
or_alike (Some x) c (Some y) d e f = e
or_alike None c (Some y) d e f = absurd (cc)
or_alike (Some x) c None d e f = absurd (cc)

cell_alike : (row column other_row other_column : ℤ) (text : List ℕ) → Alike (cell_at row column text) (cell_at other_row other_column text)
cell_alike row column other_row other_column text =
    then_alike (λ c rest. option_map (λ r. (record { row = r.0; column = c }, r.1)) (row_at row rest)) (λ c rest. option_map (λ r. (record { row = r.0; column = c }, r.1)) (row_at other_row rest))
    (column_at column text) (column_at other_column text) (position_alike _ column other_column _)
    (λ x y rest. map_alike (λ r. record { row = r; column = x }) (λ r. record { row = r; column = y }) (row_at row rest) (row_at other_row rest) (position_alike _ row other_row _))

pair_alike : {X Y : Type 0} (read : List ℕ → Option (X × List ℕ)) (other : List ℕ → Option (Y × List ℕ)) → ((text : List ℕ) → Alike (read text) (other text)) → (text : List ℕ) → Alike (pair_at read text) (pair_at other text)
pair_alike {X} {Y} read other h text =
    then_alike (λ x rest. option_and_then (λ s. option_map (λ b. ((x, b.0), b.1)) (read s)) (past_colon rest)) (λ y rest. option_and_then (λ s. option_map (λ b. ((y, b.0), b.1)) (other s)) (past_colon rest))
    (read text) (other text) (h text) (λ x y rest. after x y (past_colon rest))
  where
    after : (x : X) (y : Y) (o : Option (List ℕ)) → Alike {X = X × X} {Y = Y × Y} (option_and_then (λ s. option_map (λ b. ((x, b.0), b.1)) (read s)) o) (option_and_then (λ s. option_map (λ b. ((y, b.0), b.1)) (other s)) o)
    after x y None = refl
    after x y (Some s) = map_alike (λ b. (x, b)) (λ b. (y, b)) (read s) (other s) (h s)

place_alike : (row column other_row other_column : ℤ) (text : List ℕ) → Alike (a1_place_at row column text) (a1_place_at other_row other_column text)
place_alike row column other_row other_column text =
    or_alike _ _ _ _ (map_alike _ _ (pair_at (cell_at row column) text) (pair_at (cell_at other_row other_column) text) (pair_alike (cell_at row column) (cell_at other_row other_column) (cell_alike row column other_row other_column) text))
    (or_alike _ _ _ _ (map_alike _ _ (cell_at row column text) (cell_at other_row other_column text) (cell_alike row column other_row other_column text))
    (or_alike _ _ _ _
    (map_alike _ _ (pair_at (column_at column) text) (pair_at (column_at other_column) text) (pair_alike (column_at column) (column_at other_column) (λ t. position_alike _ column other_column _) text))
    (map_alike _ _ (pair_at (row_at row) text) (pair_at (row_at other_row) text) (pair_alike (row_at row) (row_at other_row) (λ t. position_alike _ row other_row _) text))))

-- the sheet that is named, and what stands after the reference
abbrev seen : Option (RefToken × List ℕ) → Option (Option (List ℕ) × List ℕ)
seen o = option_map (λ f. (f.0.sheet, f.1)) o

sheet_alike : (sheet : Option (List ℕ)) (a b : Option (Place × List ℕ)) → Alike a b → seen (with_sheet sheet a) ≡ seen (with_sheet sheet b)
sheet_alike sheet None None e = refl
sheet_alike sheet (Some x) (Some y) e = let same : x.1 ≡ y.1 = cc in ap (λ rest. Some (sheet, rest)) same
sheet_alike sheet None (Some y) e = absurd (cc)
sheet_alike sheet (Some x) None e = absurd (cc)

either_alike : (a b c d : Option (RefToken × List ℕ)) → seen a ≡ seen b → seen c ≡ seen d → seen (or_else a c) ≡ seen (or_else b d)
either_alike None None c d e f = f
either_alike (Some x) (Some y) c d e f = e
either_alike None (Some y) c d e f = absurd (cc)
either_alike (Some x) None c d e f = absurd (cc)

reference_alike : (read other : List ℕ → Option (Place × List ℕ)) → ((text : List ℕ) → Alike (read text) (other text)) → (text : List ℕ) → seen (reference_at read text) ≡ seen (reference_at other text)
reference_alike read other h text = either_alike _ _ _ _ (named (sheet_at text)) (sheet_alike None (read text) (other text) (h text))
  where
    named : (o : Option (List ℕ × List ℕ)) → seen (option_and_then (λ f. with_sheet (Some f.0) (read f.1)) o) ≡ seen (option_and_then (λ f. with_sheet (Some f.0) (other f.1)) o)
    named None = refl
    named (Some f) = sheet_alike (Some f.0) (read f.1) (other f.1) (h f.1)

-- a whole text that names a sheet that is there
abbrev accepts : Scene → Option (Option (List ℕ) × List ℕ) → Bool
accepts scene None = false
accepts scene (Some (sheet, [])) = is_found scene sheet
accepts scene (Some (sheet, c ∷ cs)) = false

taken : (scene : Scene) (o : Option (RefToken × List ℕ)) → is_some (option_and_then (λ f. whole_reference scene f.0 f.1) o) ≡ accepts scene (seen o)
taken scene None = refl
taken scene (Some (r, c ∷ cs)) = refl
taken scene (Some (r, [])) = by (node (one.Reference r.sheet r.place)) (is_found scene r.sheet)
  where
    by : (t : Spelled) (b : Bool) → is_some (cond b (Some t) None) ≡ b
    by t true = refl
    by t false = refl

abbrev Answers : Scene → List ℕ → Option ℕ → Type 0
Answers scene name answer = answer ≡ found_sheet scene name

answered : (scene : Scene) (sheet : Option (List ℕ)) (place : Place) (answer : Result ParsedReference ReferenceError) → ParsesFormula (Answers scene) None (Ok (record { sheet = sheet; place = place })) answer → is_ok answer ≡ is_found scene sheet
answered scene None place answer h = rw (h.2, h.1) refl
answered scene (Some name) place answer h = by (found_sheet scene name) h.1.0 h.1.1 h.0 h.1.2 h.2
  where
    by : (found told : Option ℕ) → told ≡ found → (number : Result ℕ ReferenceError) → number ≡ found_or (errors.SheetUnknown name) told → answer ≡ (number >>= λ s. Ok (place_on place s)) → is_ok answer ≡ is_some found
    by None told same number told_as is = rw (is, told_as, same) refl
    by (Some id) told same number told_as is = rw (is, told_as, same) refl

parsed_alike : (scene : Scene) (e : ReferenceError) (o : Option (RefToken × List ℕ)) (answer : Result ParsedReference ReferenceError) → ParsesFormula (Answers scene) None (found_or e (whole_of o)) answer → is_ok answer ≡ accepts scene (seen o)
parsed_alike scene e None answer h = ap is_ok h
parsed_alike scene e (Some (r, c ∷ cs)) answer h = ap is_ok h
parsed_alike scene e (Some (r, [])) answer h = answered scene r.sheet r.place answer h

-- What is shown in a cell is read there in the A1 form.
shown_reads_a1 : (tables : TableSet) → IsWellFormed tables → (book : CoreBook) → IsValidCore (notations_of tables) book → (row column : ℤ) → (shown_at (notations_of tables) book row column).read_ref ≡ a1_at row column
unfolding notations_of
shown_reads_a1 tables h book valid row column =
    let notations : AreNotations (notations_of tables) = notations_are tables h in
    let l = there (language_of tables book.language) valid.language in
    let e = there (language_of tables _) notations.english_language in
    let named = there (locale_of tables book.locale) valid.locale in
    sym (ap (λ (d : DialectMeaning). d.read_ref) (shown_as _ _ _ l.0 e.0 named.0 l.1 e.1 named.1 row column))

pub body_reference : (tables : TableSet) → IsWellFormed tables → (book : CoreBook) → IsValidCore (notations_of tables) book → (text : List ℕ) (answer : Result ParsedReference ReferenceError)
    → ParsesFormula (λ name id. id ≡ found_sheet (scene_of book) name) None (formula_token text) answer → is_some (reference_tree (shown_at (notations_of tables) book (pos 1) (pos 1)) (scene_of book) text) ≡ is_ok answer
body_reference tables h book valid text answer parses =
    let scene : Scene = scene_of book in
    let token : List ℕ = trimmed text in
    ap (λ (read : List ℕ → Option (RefToken × List ℕ)). is_some (option_and_then (λ f. whole_reference scene f.0 f.1) (read token))) (shown_reads_a1 tables h book valid (pos 1) (pos 1))
    ∙ taken scene (a1_at (pos 1) (pos 1) token)
    ∙ ap (accepts scene) (reference_alike (a1_place_at (pos 1) (pos 1)) (a1_place_at (pos 0) (pos 0)) (place_alike (pos 1) (pos 1) (pos 0) (pos 0)) token)
    ∙ sym (parsed_alike scene (not_a_reference token) (reference_at (a1_place_at (pos 0) (pos 0)) token) answer parses)
