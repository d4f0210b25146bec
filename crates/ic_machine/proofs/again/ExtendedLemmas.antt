-- A formula that is written out for another cell is typed there as the same tree, but for the references that leave the sheet.
use mathlib.Core.Path.{fun_ext}
use Rattle.std.proofs.Common.{◌≡◌, ◌∙◌, refl, sym, ap, subst, ℕ, ℤ, zero, suc, List, [], ◌∷◌, ◌++◌, Bool, true, false, Option, Some, None, Ok, if◌then◌else◌}
use Rattle.std.proofs.lemmas.Bool.{and_from, not-false}
use Rattle.std.specs.List.{AllByRecursion, slice_get}
use Rattle.std.specs.Option.{option_map_or, option_or}
use Rattle.std.specs.Prelude.{is_none, option_map}
use Rattle.ic_laws.proofs.core.Named.{book_named}
use Rattle.ic_laws.proofs.kept.TreeFacts.{tree_facts}
use Rattle.ic_laws.specs.Binding.{spelled}
use Rattle.ic_laws.specs.Character.{equals}
use Rattle.ic_laws.specs.CoreBook.{CellPlace}
use Rattle.ic_laws.specs.Dialect.{word_text}
use Rattle.ic_laws.specs.FormulaReading.{shown_at}
use Rattle.ic_laws.specs.Notations.{AreNotations, IsShownForm, Notations, english, is_cell}
use Rattle.ic_laws.specs.Position.{is_column, is_inside, is_row}
use Rattle.ic_laws.specs.ReadAs.{read_as}
use Rattle.ic_laws.specs.Reading.{printed}
use Rattle.ic_laws.specs.Tree.{Bound, Spelled, is_written_sheet}
use Rattle.ic_laws.specs.ValidCore.{IsKept, IsPlaceInside, IsPooled}
use Rattle.ic_laws.specs.declared.dialect.WordKind.TheVariants as kinds
use Rattle.ic_laws.specs.declared.reference.RefToken.{RefToken}
use Rattle.ic_laws.specs.declared.tree.Error.TheVariants as errors
use Rattle.ic_laws.specs.declared.tree.Formula.{Formula}
use Rattle.ic_laws.specs.declared.tree.Formula.TheVariants as formulas
use Rattle.ic_cells.specs.Value.{error_word}
use Rattle.ic_tables.specs.Tables.{language_of, locale_of}
use Rattle.ic_tree.proofs.NotationLaws.{knows_language_is, knows_locale_is, notations_are}
use Rattle.ic_tree.specs.LanguageWords.{is_boolean_word, is_function_word}
use Rattle.ic_machine.specs.Book.{Book, Sheet, core_of, notations_in, scene_in, unless}
use Rattle.ic_machine.specs.Content.{formula_in, formula_index}
use Rattle.ic_machine.specs.Extended.{CopiedIsOver, CopiedTextStays, ExtendedIsSame, ExtendedIsTyped, ExtendedIsWritten, IsCopiedOver, IsReferenceWritten, ReferenceIsWritten, form_at, place_of, tree_bound, tree_there}
use Rattle.ic_machine.specs.InForce as in_force_words
use Rattle.ic_machine.specs.InForce.{InForce, by_notation, error_in, in_force, typed_in}
use Rattle.ic_machine.specs.Lost.{with_lost}
use Rattle.ic_machine.specs.Refusal.{Refusal, first_refusal}
use Rattle.ic_machine.specs.Reply.{text_field}
use Rattle.ic_machine.specs.Retyped.{clashes_in}
use Rattle.ic_machine.specs.Valid.{IsValidBook}
use Rattle.ic_machine.specs.subjects.Extending.{CellOf, copied_causes, copied_text, copied_tree, extend_copied_step, localized_text, reads_not, source_id, tree_extended}
use Rattle.ic_machine.specs.subjects.Reading.{formula_text}
use Rattle.ic_machine.proofs.again.BodyAgain.{error_written}
use Rattle.ic_machine.proofs.as_core.CoreValid.{core_valid}
use Rattle.ic_machine.proofs.bound.InsertedBinds.{accepted, told}
use Rattle.ic_machine.proofs.valid.InsertedStays.{none_holds}
use Rattle.ic_machine.proofs.lost.LostKept.{kept_lost, outside, printed_same}
use Rattle.ic_machine.proofs.lost.LostTrees.{clash_lost}
use Rattle.ic_machine.proofs.valid.RetypedLemmas.{formula_told, formula_typed, in_force_is, read_again, tree_reads}
use Rattle.ic_machine.proofs.valid.ValidLemmas.{holds_at}
use Rattle.ic_laws.proofs.General.{some_there as there}

pub extended_is_same : ExtendedIsSame
extended_is_same book index sheet content t target valid at held cell kept free = (
  printed (shown_at (notations_in book) (core_of book) target.0 target.1) (spelled (scene_in book) t),
  ap (typed_in book) (ap (λ (o : Option Formula). option_map_or (formula_text book target) o (localized_text book content)) held)
      ∙ formula_typed book valid (Some sheet.id) target cell t kept free,
  read_again book valid index sheet at target cell t kept free,
)

-- a formula of a pool, or the empty text past its end
in_pool : (P : Formula → Type 0) → P (formulas.Raw []) → (pool : List Formula) (i : ℕ) → AllByRecursion P pool → P (formula_in pool i)
in_pool P blank [] i h = blank
in_pool P blank (x ∷ pool) zero h = h.0
in_pool P blank (x ∷ pool) (suc i) h = in_pool P blank pool i h.1

-- it clashes with its lost references where it did
same_clash : (b : Book) (row column : ℤ) (t : Bound) → clashes_in b (with_lost row column t) ≡ clashes_in b t
same_clash b row column t =
    ap (λ (make : InForce → Bool). by_notation true make (in_force b)) (fun_ext (λ (f : InForce). clash_lost row column (is_boolean_word f.language) (is_function_word f.language) t))

module _ (b : Book) (valid : IsValidBook b) where
  abbrev n : Notations
  n = notations_in b

  notations : AreNotations n
  notations = notations_are b.tables valid.tables

  shown_form : (place : CellPlace) → IsShownForm n (form_at b place) place.0 place.1
  shown_form place = notations.shown b.locale b.language place.0 place.1 valid.locale valid.language

  same_text : (place : CellPlace) (t : Bound) → printed (form_at b place) (spelled (scene_in b) (with_lost place.0 place.1 t)) ≡ printed (form_at b place) (spelled (scene_in b) t)
  same_text place t = printed_same n (scene_in b) place.0 place.1 (form_at b place) (shown_form place) t

  -- the formula of a content
  pooled : (index : ℕ) (s : Sheet) → slice_get b.sheets index ≡ Some s → (o : Option ℕ) (t : Bound) → option_map (formula_in s.pool) o ≡ Some (formulas.Tree t) → IsPooled n (scene_in b) (Some s.id) (formulas.Tree t)
  pooled index s at None t e = absurd (cc)
  pooled index s at (Some i) t e =
      let same : formula_in s.pool i ≡ formulas.Tree t = cc in
      subst (IsPooled n (scene_in b) (Some s.id)) same (in_pool (IsPooled n (scene_in b) (Some s.id)) tt s.pool i (holds_at b valid index s at).pool)

  -- the word of an error value
  word_is : (place : CellPlace) → word_text (form_at b place) kinds.Error 0 ≡ error_in b errors.REF
  word_is place =
      let l = there (locale_of b.tables b.locale) (sym (knows_locale_is b.tables b.locale) ∙ valid.locale) in
      let language = there (language_of b.tables b.language) (sym (knows_language_is b.tables b.language) ∙ valid.language) in
      let beside = there (language_of b.tables english) (sym (knows_language_is b.tables english) ∙ notations.english_language) in
      error_written b.tables valid.tables b.locale b.language language.0 valid.locale language.1 place.0 place.1 errors.REF
      ∙ sym (ap (by_notation [] (λ (f : InForce). error_word f.language errors.REF)) (in_force_is b l.0 language.0 beside.0 l.1 language.1 beside.1))

  written_by : (place : CellPlace) (r : RefToken) → is_cell place.0 place.1 ≡ true → is_written_sheet r.sheet ≡ true → (t : Bool) → is_inside r.place place.0 place.1 ≡ t → IsReferenceWritten b place r t
  written_by place r cell sheet true e = λ rest end.
      let form = shown_form place in
      let can : (form_at b place).can_spell r ≡ true = form.writes_inside r cell e sheet in
      ap (λ (t : Bool). (form_at b place).read_ref ((if t then (form_at b place).spell_ref r else word_text (form_at b place) kinds.Error 0) ++ rest)) can ∙ form.lawful.reads_spelled r rest can end
  written_by place r cell sheet false e =
      ap (λ (t : Bool). if t then (form_at b place).spell_ref r else word_text (form_at b place) kinds.Error 0) (outside n (scene_in b) place.0 place.1 (form_at b place) (shown_form place) r e)
      ∙ word_is place

pub extended_is_written : ExtendedIsWritten
extended_is_written b index s content t target valid at held =
    ap (λ (o : Option Formula). option_map_or (formula_text b target) o (localized_text b content)) held ∙ ap (λ (text : List ℕ). equals ∷ text) (sym (same_text b valid target t))

pub extended_is_typed : ExtendedIsTyped
extended_is_typed b index s content t target valid at held cell free =
    let u : Bound = with_lost target.0 target.1 t in
    let kept : IsKept (notations_in b) (scene_in b) (Some s.id) target.0 target.1 u =
    kept_lost (notations_in b) (scene_in b) target.0 target.1 (Some s.id) (λ place. Unit {0}) t (pooled b valid index s at (formula_index content) t held) in
    let clear : clashes_in b u ≡ false = same_clash b target.0 target.1 t ∙ free in (
      printed (form_at b target) (spelled (scene_in b) u),
      ap (typed_in b) (extended_is_written b index s content t target valid at held) ∙ formula_typed b valid (Some s.id) target cell u kept clear,
      read_again b valid index s at target cell u kept clear,
    )

pub reference_is_written : ReferenceIsWritten
reference_is_written b target r valid cell sheet = written_by b valid target r cell sheet (is_inside r.place target.0 target.1) refl

-- a copied text ----

answered : (refusal : Option Refusal) (b after : Book) (x y : List ℕ) → unless refusal b (text_field x) ≡ Ok (after, text_field y) → (refusal ≡ None) × (y ≡ x)
answered refusal b after x y e =
    let fields : text_field y ≡ text_field x = told refusal b after (text_field x) (text_field y) e in ((accepted refusal b after (text_field x) (text_field y) e).0, cc)

module _ (b : Book) (valid : IsValidBook b) (source target : CellOf) where
  abbrev scope : Option ℕ
  scope = source_id b source target

  -- what reads at the source is kept there where it is bound
  read_kept : (text : List ℕ) (u : Spelled) (o q : Option Spelled) → read_as (shown_at (notations_in b) (core_of b) source.row source.column) text ≡ o
      → read_as ((notations_in b).shown english english source.row source.column) text ≡ q → option_or o q ≡ Some u
      → IsKept (notations_in b) (scene_in b) scope source.row source.column (tree_bound b source target u)
  read_kept text u (Some v) q one two e =
      let same : v ≡ u = cc in
      (tree_facts (notations_in b) (notations b valid)).reads (scene_in b) (book_named (notations_in b) (core_of b) (core_valid b valid)) (form_at b (source.row, source.column)) source.row source.column
      (shown_form b valid (source.row, source.column)) text u (one ∙ ap (λ (w : Spelled). Some w) same) scope
  read_kept text u None (Some v) one two e =
      let same : v ≡ u = cc in
      (tree_facts (notations_in b) (notations b valid)).reads (scene_in b) (book_named (notations_in b) (core_of b) (core_valid b valid)) ((notations_in b).shown english english source.row source.column) source.row source.column
      ((notations b valid).shown english english source.row source.column (notations b valid).english_locale (notations b valid).english_language) text u (two ∙ ap (λ (w : Spelled). Some w) same) scope
  read_kept text u None None one two e = absurd (cc)

  tree_over : (formula answer : List ℕ) (cell : is_cell target.row target.column ≡ true) (o : Option Spelled) → copied_tree b source target formula ≡ o → is_none o ≡ false → answer ≡ option_map_or (tree_extended b source target) o []
      → IsCopiedOver b source target formula answer
  tree_over formula answer cell None read some e = absurd (cc)
  tree_over formula answer cell (Some u) read some e =
      let place : CellPlace = place_of b source target in
      let t : Bound = with_lost target.row target.column (tree_bound b source target u) in
      let kept : IsKept (notations_in b) (scene_in b) scope target.row target.column t =
      kept_lost (notations_in b) (scene_in b) target.row target.column scope (IsPlaceInside source.row source.column) (tree_bound b source target u)
      (read_kept formula u (read_as (shown_at (notations_in b) (core_of b) source.row source.column) formula) (read_as ((notations_in b).shown english english source.row source.column) formula) refl refl read) in
      let written : answer ≡ equals ∷ printed (form_at b place) (tree_there b source target u) =
      e ∙ ap (λ (text : List ℕ). equals ∷ text) (sym (same_text b valid place (tree_bound b source target u))) in
      record {
        tree = u;
        read = read;
        written = written;
        reads = λ free.
            let clear : clashes_in b t ≡ false = same_clash b target.row target.column (tree_bound b source target u) ∙ free in (
              printed (form_at b place) (tree_there b source target u),
              ap (in_force_words.formula_typed b) written ∙ formula_told b valid scope place cell t kept clear,
              tree_reads b valid scope place cell t kept clear,
            );
      }

pub copied_is_over : CopiedIsOver
unfolding extend_copied_step
copied_is_over b source target text formula answer valid is e =
    let done = answered (first_refusal (copied_causes b source target text)) b b (copied_text b source target text (in_force_words.formula_typed b text)) answer e in
    let clear = none_holds (copied_causes b source target text) done.0 in
    tree_over b valid source target formula answer (and_from _ _ (not-false (is_row target.row) clear.1.1.1.0) (not-false (is_column target.column) clear.1.1.1.1.1.0)) (copied_tree b source target formula) refl
    (sym (ap (reads_not b source target) is) ∙ clear.1.1.1.1.1.1.0) (done.1 ∙ ap (copied_text b source target text) is)

pub copied_text_stays : CopiedTextStays
unfolding extend_copied_step
copied_text_stays b source target text answer is e =
    let done = answered (first_refusal (copied_causes b source target text)) b b (copied_text b source target text (in_force_words.formula_typed b text)) answer e in
    done.1 ∙ ap (copied_text b source target text) is
