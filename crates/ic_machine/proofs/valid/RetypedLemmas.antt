-- What a cell shows, typed into it again, leaves what it held.
use Rattle.std.proofs.Common.{◌≡◌, ◌≢◌, ℕ, zero, suc, ℤ, List, [], ◌∷◌, ◌++◌, Bool, true, false, ◌&&◌, cond, codes, Option, Some, None, Ok, option_map, refl, sym, ap, subst, ◌∙◌, inl}
use Rattle.std.proofs.lemmas.Bool.{and_parts, true≢false}
use Rattle.std.proofs.lemmas.Bool.Decides.{Decides-int_eq}
use Rattle.std.specs.FinMap as finite
use Rattle.std.specs.List.{slice_get}
use Rattle.std.specs.Option.{option_map_or, option_or}
use Rattle.ic_laws.proofs.core.CellWritten.{place_cmp_total}
use Rattle.ic_laws.specs.Amount.{amount_text, is_amount}
use Rattle.ic_laws.specs.Binding.{bound, spelled}
use Rattle.ic_laws.specs.Character.{dot, equals, quote}
use Rattle.ic_laws.specs.Clash.{clashes_with}
use Rattle.ic_laws.specs.CoreBook.{CellPlace}
use Rattle.ic_laws.specs.CoreStep.{updated_at}
use Rattle.ic_laws.specs.Dialect.{DialectMeaning, boolean_number, error_number}
use Rattle.ic_laws.specs.FormulaReading.{shown_at, tree_or_raw}
use Rattle.ic_laws.specs.NextToken.{tokens_by}
use Rattle.ic_laws.specs.Notations.{english, english_function, is_cell}
use Rattle.ic_laws.specs.Parse.{expression, operand, parsed, reader}
use Rattle.ic_laws.specs.ReadAs.{read_as}
use Rattle.ic_laws.specs.Reading.{printed}
use Rattle.ic_laws.specs.Tree.{Bound, Spelled}
use Rattle.ic_laws.specs.ValidCore.{IsKept, IsKeptFormula}
use Rattle.ic_laws.specs.declared.tree.Error.{Error}
use Rattle.ic_laws.specs.declared.tree.Error.TheVariants as errors
use Rattle.ic_laws.specs.declared.tree.Formula.{Formula}
use Rattle.ic_laws.specs.declared.tree.Formula.TheVariants as formulas
use Rattle.ic_tables.proofs.WellFormed.{formats_of_named}
use Rattle.ic_tables.specs.Formats.{decimal_separator}
use Rattle.ic_tables.specs.Tables.{language_of, locale_of}
use Rattle.ic_tables.specs.Words.{boolean_words, error_words}
use Rattle.ic_tables.specs.declared.language.Language.{Language}
use Rattle.ic_tables.specs.declared.locale.NamedLocale.{NamedLocale}
use Rattle.ic_tree.proofs.ClashLemmas.{shown_reads_unless_clash}
use Rattle.ic_tree.proofs.NotationLaws.{knows_language_is, knows_locale_is, notations_are}
use Rattle.ic_tree.specs.LanguageWords.{is_boolean_word, is_function_word}
use Rattle.ic_cells.specs.Value.{boolean_word, error_word}
use Rattle.ic_input.proofs.AgainLemmas.{amount_again}
use Rattle.ic_input.proofs.TypedLaws.{formula_exactly}
use Rattle.ic_input.proofs.TypedSteps.{tells_texts}
use Rattle.ic_input.proofs.WordAgain.{booleans_again, errors_again, formulas_again, quoted_again, texts_again}
use Rattle.ic_input.specs.Again.{AreOfTables}
use Rattle.ic_input.specs.Code.{is_date_code}
use Rattle.ic_input.specs.Typed.{formula_of, typed}
use Rattle.ic_input.specs.declared.input.Typed.{Typed}
use Rattle.ic_input.specs.declared.input.Typed.TheVariants as kinds
use Rattle.ic_grid.proofs.ContentsLemmas.{same_itself}
use Rattle.ic_grid.specs.Contents.{Contents}
use Rattle.ic_grid.specs.Prepare.{prepared, written}
use Rattle.ic_machine.specs.Book.{Book, Sheet, Stepped, content_at, core_of, found_or, notations_in, scene_in, style_number_at, unless, unless_refused}
use Rattle.ic_machine.specs.Content.{AnchorContent, BoolContent, Content, EmptyContent, ErrContent, FormulaContent, NumContent, SpillContent, TextContent, formula_in, formula_index, held, style_of}
use Rattle.ic_machine.specs.InForce as in_force_words
use Rattle.ic_machine.specs.InForce.{InForce, all_there, boolean_in, by_notation, decimal_in, error_in, formatted_in, in_force, is_number, is_text, shown_number, shown_words, typed_in}
use Rattle.ic_machine.specs.Placed.{index_in_pool, is_dynamic}
use Rattle.ic_machine.specs.Refusal.{Causes, InvalidSheet, Refusal, first_refusal}
use Rattle.ic_machine.specs.Reply.{Field, text_field}
use Rattle.ic_machine.specs.Retyped.{HoldsThere, IsSameAs, IsSameAsAny, RetypedStays, SameFormula, clashes_in}
use Rattle.ic_machine.specs.Styling.{restyled}
use Rattle.ic_machine.specs.Valid.{HasAmount, HasFormula, IsValidBook}
use Rattle.ic_machine.specs.subjects.Reading.{content_step, format_of, formula_text, shown_content}
use Rattle.ic_machine.specs.subjects.Writing.{Written, formula_at_place, formula_written, input_step, place_causes, typed_written, with_content, with_written, write_causes}
use Rattle.ic_machine.proofs.as_core.CoreValid.{core_valid}
use Rattle.ic_machine.proofs.as_core.FormulaLemmas.{formula_placed}
use Rattle.ic_machine.proofs.as_core.FormulaStepped.{indexed}
use Rattle.ic_machine.proofs.valid.ValidLemmas.{holds_at}
use Rattle.ic_laws.proofs.General.{some_there as there}

-- The notation in force of a valid book. ----

record HasForce (b : Book) : Type 0 where
  named : NamedLocale
  language : Language
  beside : Language
  locale_is : locale_of b.tables b.locale ≡ Some named
  language_is : language_of b.tables b.language ≡ Some language
  beside_is : language_of b.tables english ≡ Some beside

has_force : (b : Book) → IsValidBook b → HasForce b
has_force b valid =
    let l = there (locale_of b.tables b.locale) (sym (knows_locale_is b.tables b.locale) ∙ valid.locale) in
    let language = there (language_of b.tables b.language) (sym (knows_language_is b.tables b.language) ∙ valid.language) in
    let beside = there (language_of b.tables english) (sym (knows_language_is b.tables english) ∙ (notations_are b.tables valid.tables).english_language) in
    record { named = l.0; language = language.0; beside = beside.0; locale_is = l.1; language_is = language.1; beside_is = beside.1 }

-- the word of each boolean and of each error value stands at its number
pub boolean_at : (l : Language) (b : Bool) → slice_get (boolean_words l) (boolean_number b) ≡ Some (boolean_word l b)
boolean_at l true = refl
boolean_at l false = refl

pub error_at : (l : Language) (e : Error) → slice_get (error_words l) (error_number e) ≡ Some (error_word l e)
error_at l errors.REF = refl
error_at l errors.NAME = refl
error_at l errors.VALUE = refl
error_at l errors.DIV = refl
error_at l errors.NA = refl
error_at l errors.NUM = refl
error_at l errors.NIMPL = refl
error_at l errors.SPILL = refl
error_at l errors.CALC = refl
error_at l errors.CIRC = refl
error_at l errors.ERROR = refl
error_at l errors.NULL = refl

-- a typed number that is told to be one is one
pub number_told : (v : ℤ) (t : Typed) → is_number v t ≡ true → (code : Option (List ℕ)) × (t ≡ kinds.Number v code)
number_told v kinds.Empty h = absurd (true≢false (sym h))
number_told v (kinds.Quoted text) h = absurd (true≢false (sym h))
number_told v (kinds.Formula text) h = absurd (true≢false (sym h))
number_told v (kinds.Number w code) h = (code, ap (λ (x : ℤ). kinds.Number x code) ((Decides-int_eq w v).0 h))
number_told v (kinds.Boolean truth) h = absurd (true≢false (sym h))
number_told v (kinds.Error e) h = absurd (true≢false (sym h))
number_told v (kinds.Text text) h = absurd (true≢false (sym h))

-- and a text that is told to be one is one
text_told : (t : Typed) → is_text t ≡ true → (text : List ℕ) × (t ≡ kinds.Text text)
text_told kinds.Empty h = absurd (true≢false (sym h))
text_told (kinds.Quoted text) h = absurd (true≢false (sym h))
text_told (kinds.Formula text) h = absurd (true≢false (sym h))
text_told (kinds.Number v code) h = absurd (true≢false (sym h))
text_told (kinds.Boolean truth) h = absurd (true≢false (sym h))
text_told (kinds.Error e) h = absurd (true≢false (sym h))
text_told (kinds.Text text) h = (text, refl)

-- nothing reads as a tree
pub empty_reads : (d : DialectMeaning) → read_as d [] ≡ None
unfolding tokens_by parsed reader expression operand
empty_reads d = refl

-- a book whose locale and languages are there has them in force
pub in_force_is : (b : Book) (named : NamedLocale) (l beside : Language) → locale_of b.tables b.locale ≡ Some named → language_of b.tables b.language ≡ Some l → language_of b.tables english ≡ Some beside
    → in_force b ≡ Some (record { locale = named.locale; language = l; beside = beside })
in_force_is b named l beside locale_is language_is beside_is =
    ap (λ (o : Option NamedLocale). all_there o (language_of b.tables b.language) (language_of b.tables english)) locale_is
    ∙ ap (λ (o : Option Language). all_there (Some named) o (language_of b.tables english)) language_is
    ∙ ap (λ (o : Option Language). all_there (Some named) (Some l) o) beside_is

module _ (b : Book) (valid : IsValidBook b) where
  force : HasForce b
  force = has_force b valid

  abbrev f : InForce
  f = record { locale = force.named.locale; language = force.language; beside = force.beside }

  force_is : in_force b ≡ Some f
  force_is = in_force_is b force.named force.language force.beside force.locale_is force.language_is force.beside_is

  by_force : {A : Type 0} (otherwise : A) (make : InForce → A) → by_notation otherwise make (in_force b) ≡ make f
  by_force otherwise make = ap (by_notation otherwise make) force_is

  of_tables : AreOfTables b.tables f.locale f.language f.beside
  of_tables = record {
    well = valid.tables;
    formats = formats_of_named b.tables valid.tables b.locale force.named force.locale_is;
    code = b.language;
    found = force.language_is;
    code_beside = english;
    found_beside = force.beside_is;
  }

  typed_is : (text : List ℕ) → typed_in b text ≡ typed f.locale f.language f.beside text
  typed_is text = by_force (kinds.Text text) (λ (g : InForce). typed g.locale g.language g.beside text)

  -- what is shown of a value, typed again ----

  boolean_typed : (truth : Bool) → typed_in b (boolean_in b truth) ≡ kinds.Boolean truth
  boolean_typed truth =
      ap (typed_in b) (by_force [] (λ (g : InForce). boolean_word g.language truth)) ∙ typed_is (boolean_word f.language truth)
      ∙ booleans_again b.tables f.locale f.language f.beside truth (boolean_word f.language truth) of_tables (boolean_at f.language truth)

  error_typed : (e : Error) → typed_in b (error_in b e) ≡ kinds.Error e
  error_typed e =
      ap (typed_in b) (by_force [] (λ (g : InForce). error_word g.language e)) ∙ typed_is (error_word f.language e)
      ∙ errors_again b.tables f.locale f.language f.beside e (error_word f.language e) of_tables (error_at f.language e)

  amount_typed : (v : ℤ) → is_amount v ≡ true → typed_in b (amount_text (decimal_in b) v) ≡ kinds.Number v None
  amount_typed v h =
      ap (λ (separator : ℕ). typed_in b (amount_text separator v)) (by_force dot (λ (g : InForce). decimal_separator g.locale))
      ∙ typed_is (amount_text (decimal_separator f.locale) v)
      ∙ amount_again f.locale (tells_texts b.tables f.locale of_tables.formats) f.language f.beside v h

  number_typed : (code : List ℕ) (v : ℤ) → is_amount v ≡ true → (given : Option (List ℕ)) × (typed_in b (shown_number b code v) ≡ kinds.Number v given)
  number_typed code v h = go (is_date_code code && is_number v (typed_in b (formatted_in b code v))) refl
    where
      go : (test : Bool) → (is_date_code code && is_number v (typed_in b (formatted_in b code v))) ≡ test
          → (given : Option (List ℕ)) × (typed_in b (cond test (formatted_in b code v) (amount_text (decimal_in b) v)) ≡ kinds.Number v given)
      go true e = number_told v (typed_in b (formatted_in b code v)) (and_parts (is_date_code code) (is_number v (typed_in b (formatted_in b code v))) e).1
      go false e = (None, amount_typed v h)

  pub empty_typed : typed_in b [] ≡ kinds.Empty
  unfolding typed
  empty_typed = typed_is []

  pub quoted_typed : (text : List ℕ) → typed_in b (quote ∷ text) ≡ kinds.Quoted text
  quoted_typed text = typed_is (quote ∷ text) ∙ quoted_again f.locale f.language f.beside text

  -- a text that is typed as a text is typed as itself
  pub same_text : (text : List ℕ) → is_text (typed_in b text) ≡ true → typed_in b text ≡ kinds.Text text
  same_text text e =
      let told = text_told (typed_in b text) e in
      let same : told.0 ≡ text = texts_again b.tables f.locale f.language f.beside text told.0 of_tables.formats (sym (typed_is text) ∙ told.1) in
      told.1 ∙ ap (λ (x : List ℕ). kinds.Text x) same

  -- the content that is written where a text is shown
  words_written : (s : Sheet) (place : CellPlace) (text : List ℕ) (style : ℕ) → (typed_written b s place (typed_in b (shown_words b text))).content style ≡ TextContent text style
  words_written s place text style = go (is_text (typed_in b text)) refl
    where
      go : (test : Bool) → is_text (typed_in b text) ≡ test → (typed_written b s place (typed_in b (cond test text (quote ∷ text)))).content style ≡ TextContent text style
      go false e = ap (λ (t : Typed). (typed_written b s place t).content style) (quoted_typed text)
      go true e = ap (λ (t : Typed). (typed_written b s place t).content style) (same_text text e)

  -- a formula, whichever sheet its words are looked up from
  module _ (scope : Option ℕ) (place : CellPlace) (cell : is_cell place.0 place.1 ≡ true) (t : Bound) (kept : IsKept (notations_in b) (scene_in b) scope place.0 place.1 t) (free : clashes_in b t ≡ false) where
    abbrev d : DialectMeaning
    d = shown_at (notations_in b) (core_of b) place.0 place.1

    abbrev shown : List ℕ
    shown = printed d (spelled (scene_in b) t)

    pub tree_reads : read_as d shown ≡ Some (spelled (scene_in b) t)
    tree_reads =
        shown_reads_unless_clash b.tables valid.tables (core_of b) (core_valid b valid) f.language force.language_is scope place.0 place.1 cell t kept
        (sym (by_force true (λ (g : InForce). clashes_with (is_boolean_word g.language) (is_function_word g.language) t)) ∙ free)

    pub some_shown : shown ≢ []
    some_shown e = no_tree (sym (empty_reads d) ∙ ap (read_as d) (sym e) ∙ tree_reads)
      where
        no_tree : {A : Type 0} {x : A} → None ≡ Some x → ⊥
        no_tree h = cc

    pub formula_typed : typed_in b (equals ∷ shown) ≡ kinds.Formula shown
    formula_typed = typed_is (equals ∷ shown) ∙ formulas_again f.locale f.language f.beside shown some_shown

    pub formula_told : in_force_words.formula_typed b (equals ∷ shown) ≡ Some shown
    formula_told = by_force None (λ (g : InForce). formula_of g.locale (equals ∷ shown)) ∙ (formula_exactly f.locale (tells_texts b.tables f.locale of_tables.formats) (equals ∷ shown) shown).0 (inl (refl, some_shown))

  -- in a cell of a sheet
  module _ (index : ℕ) (s : Sheet) (at : slice_get b.sheets index ≡ Some s) (place : CellPlace) (cell : is_cell place.0 place.1 ≡ true) (t : Bound)
      (kept : IsKept (notations_in b) (scene_in b) (Some s.id) place.0 place.1 t) (free : clashes_in b t ≡ false) where
    abbrev there_shown : List ℕ
    there_shown = printed (shown_at (notations_in b) (core_of b) place.0 place.1) (spelled (scene_in b) t)

    pub read_again : formula_at_place b s place there_shown ≡ formulas.Tree t
    read_again =
        ap
        (λ (o : Option Spelled).
        tree_or_raw (λ u. formulas.Tree (bound (english_function (notations_in b)) (scene_in b) (Some s.id) u)) there_shown
        (option_or o (read_as (shown_at (notations_in b) (core_of b) place.0 place.1) (there_shown ++ codes ")"))))
        (tree_reads (Some s.id) place cell t kept free)
        ∙ ap (λ (u : Bound). formulas.Tree u) kept.settled

    held_again : (w : Written) → w ≡ typed_written b s place (typed_in b (equals ∷ there_shown)) → (k : ℕ) → option_map (formula_in w.pool) (formula_index (w.content k)) ≡ Some (formulas.Tree t)
    held_again w is k =
        ap (λ (x : Written). option_map (formula_in x.pool) (formula_index (x.content k)))
        (is ∙ ap (typed_written b s place) (formula_typed (Some s.id) place cell t kept free) ∙ ap (formula_written b s) read_again)
        ∙ ap (option_map (formula_in (formula_written b s (formulas.Tree t)).pool)) (indexed (is_dynamic b.tables.kinds (formulas.Tree t)) (index_in_pool (formulas.Tree t) s.pool) k)
        ∙ ap (λ (g : Formula). Some g) (formula_placed (formulas.Tree t) s.pool)

  -- each content
  module _ (index : ℕ) (s : Sheet) (at : slice_get b.sheets index ≡ Some s) (place : CellPlace) where
    abbrev again : List ℕ → Written
    again text = typed_written b s place (typed_in b text)

    abbrev left : Written → ℕ → Sheet
    left w k = with_content place w.pool (w.content k) s

    put : (content : ℕ → Content) → ((k : ℕ) → style_of (content k) ≡ k) → (now : Content) (k : ℕ) → now ≡ content k → now ≡ content (style_of now)
    put content style now k e = e ∙ ap content (sym (ap style_of e ∙ style k))

    told : (text : List ℕ) (t : Typed) (k : ℕ) → typed_in b text ≡ t → (again text).content k ≡ (typed_written b s place t).content k
    told text t k e = ap (λ (x : Typed). (typed_written b s place x).content k) e

    nothing : (k : ℕ) → (again []).content k ≡ EmptyContent k
    nothing k = told [] kinds.Empty k empty_typed

    same_formula : (g : Formula) → is_cell place.0 place.1 ≡ true → IsKeptFormula (notations_in b) (scene_in b) (Some s.id) place.0 place.1 g → (k : ℕ)
        → SameFormula b (left (again (formula_text b place g)) k) ((again (formula_text b place g)).content k) g
    same_formula (formulas.Raw text) cell kept k = tt
    same_formula (formulas.Tree t) cell kept k = λ free. held_again index s at place cell t kept free (again (formula_text b place (formulas.Tree t))) refl k

    same_as : (was : Content) → is_cell place.0 place.1 ≡ true → HasFormula (notations_in b) (scene_in b) s place (formula_index was) → HasAmount was → (k : ℕ)
        → IsSameAs b s (left (again (shown_content b s place was)) k) was ((again (shown_content b s place was)).content k)
    same_as (EmptyContent style) cell has good k = put (λ j. EmptyContent j) (λ j. refl) _ k (nothing k)
    same_as (BoolContent truth style) cell has good k = put (λ j. BoolContent truth j) (λ j. refl) _ k (told (boolean_in b truth) (kinds.Boolean truth) k (boolean_typed truth))
    same_as (NumContent amount style) cell has good k =
        let t = number_typed (format_of b (NumContent amount style)) amount good in
        put (λ j. NumContent amount j) (λ j. refl) _ k (told (shown_number b (format_of b (NumContent amount style)) amount) (kinds.Number amount t.0) k t.1)
    same_as (ErrContent e style) cell has good k = put (λ j. ErrContent e j) (λ j. refl) _ k (told (error_in b e) (kinds.Error e) k (error_typed e))
    same_as (TextContent text style) cell has good k = put (λ j. TextContent text j) (λ j. refl) _ k (words_written s place text k)
    same_as (FormulaContent i value style) cell has good k = same_formula (formula_in s.pool i) cell has.1 k
    same_as (AnchorContent i area kind value style) cell has good k = same_formula (formula_in s.pool i) cell has.1 k
    same_as (SpillContent anchor value style) cell has good k = tt

    -- what the place shows
    abbrev shown_at_place : Option Content → List ℕ
    shown_at_place o = option_map_or (shown_content b s place) o []

    same_any : (o : Option Content) → content_at s place.0 place.1 ≡ o → (k : ℕ) → IsSameAsAny b s (left (again (shown_at_place o)) k) o ((again (shown_at_place o)).content k)
    same_any None e k = put (λ j. EmptyContent j) (λ j. refl) _ k (nothing k)
    same_any (Some was) e k =
        let holds = holds_at b valid index s at in
        same_as was (holds.inside place was e) (holds.formulas place was e) (holds.amounts place was e) k

    -- the sheet that is left stands at the index, and the content at the place
    sheet_there : (new : Sheet) (i : ℕ) (xs : List Sheet) (old : Sheet) → slice_get xs i ≡ Some old → slice_get (updated_at (λ x. new) i xs) i ≡ Some new
    sheet_there new i [] old e = absurd (cc)
    sheet_there new zero (x ∷ xs) old e = refl
    sheet_there new (suc i) (x ∷ xs) old e = sheet_there new i xs old e

    content_there : (x : Content) (m : Contents Content) → finite.get (written held place x m) place ≡ Some x
    content_there x m = finite.get-insert place_cmp_total (prepared held place m) place x place ∙ ap (λ (t : Bool). cond t (Some x) (finite.get (prepared held place m) place)) (same_itself place)

    abbrev now : Option Content
    now = content_at s place.0 place.1

    written_holds : (w : Written) → ((k : ℕ) → IsSameAsAny b s (left w k) now (w.content k)) → HoldsThere (with_written b index s place w) index place (λ after content. IsSameAsAny b s after now content)
    written_holds w same =
        let number = (restyled w.change (style_number_at s.grid place.0 place.1) b.styles).number in
        record {
          sheet = left w number;
          found = sheet_there (left w number) index b.sheets s at;
          content = w.content number;
          there = content_there (w.content number) s.grid.contents;
          is_so = same number;
        }

    -- what the steps say
    shown_is : (read : Book) (shown : List ℕ) → content_step index place b ≡ Ok (read, text_field shown) → shown_at_place now ≡ shown
    unfolding content_step
    shown_is read shown e =
        let is : ◌≡◌ {A = Stepped Book} (Ok (b, text_field (shown_at_place now))) (Ok (read, text_field shown)) =
        sym (ap (λ (o : Option Sheet). found_or InvalidSheet (option_map (λ (sheet : Sheet). unless_refused [] b (text_field (option_map_or (shown_content b sheet place) (content_at sheet place.0 place.1) []))) o)) at) ∙ e in
        let pair : ◌≡◌ {A = Book × List Field} (b, text_field (shown_at_place now)) (read, text_field shown) = cc in
        let fields : text_field (shown_at_place now) ≡ text_field shown = ap (λ (p : Book × List Field). p.1) pair in cc

    left_is : (o : Option Refusal) (whole after : Book) (fields : List Field) → unless o whole [] ≡ Ok (after, fields) → whole ≡ after
    left_is None whole after fields e = let pair : ◌≡◌ {A = Book × List Field} (whole, []) (after, fields) = cc in ap (λ (p : Book × List Field). p.0) pair
    left_is (Some refusal) whole after fields e = absurd (cc)

    abbrev causes : Causes
    causes = place_causes place ++ (write_causes s place ++ [])

    after_is : (after : Book) (shown : List ℕ) (fields : List Field) → input_step index place shown b ≡ Ok (after, fields) → with_written b index s place (again shown) ≡ after
    unfolding input_step
    after_is after shown fields e =
        left_is (first_refusal causes) (with_written b index s place (again shown)) after fields
        (sym
        (ap
        (λ (o : Option Sheet).
        found_or InvalidSheet
        (option_map (λ (sheet : Sheet). unless_refused (place_causes place ++ (write_causes sheet place ++ [])) (with_written b index sheet place (typed_written b sheet place (typed_in b shown))) []) o))
        at)
        ∙ e)

    typed_holds : (read after : Book) (shown : List ℕ) (fields : List Field) → content_step index place b ≡ Ok (read, text_field shown) → input_step index place shown b ≡ Ok (after, fields)
        → HoldsThere after index place (λ sheet content. IsSameAsAny b s sheet now content)
    typed_holds read after shown fields reads writes =
        let same = shown_is read shown reads in
        subst (λ (c : Book). HoldsThere c index place (λ sheet content. IsSameAsAny b s sheet now content)) (after_is after shown fields writes)
        (subst (λ (text : List ℕ). HoldsThere (with_written b index s place (again text)) index place (λ sheet content. IsSameAsAny b s sheet now content)) same
        (written_holds (again (shown_at_place now)) (λ k. same_any now refl k)))

pub retyped_stays : RetypedStays
retyped_stays b read after index place s shown fields valid at reads writes = typed_holds b valid index s at place read after shown fields reads writes
