-- A kept tree is written so that it reads back: in the stored form always, and in a form that is shown in a cell where none
-- of its words is a word of that form.
use Rattle.std.proofs.Common.{◌≡◌, ◌↔◌, ℕ, ℤ, List, [], ◌∷◌, true, false, Option, None, Some, option_map, refl, sym, ap, subst, ◌∙◌}
use Rattle.std.specs.Prelude.{IsNone, IsSome}
use Rattle.std.specs.List.{AllByRecursion, list_all}
use Rattle.std.proofs.lemmas.Bool.{and_parts}
use Rattle.std.proofs.lemmas.Option.{same_Some}
use Rattle.ic_laws.specs.Binding.{bound, spelled, spelled_kind}
use Rattle.ic_laws.specs.Dialect.{DialectMeaning}
use Rattle.ic_laws.specs.Name.{is_variable}
use Rattle.ic_laws.specs.Notations.{AreNotations, HasFunction, IsShownForm, Notations, english_function, is_cell}
use Rattle.ic_laws.specs.Parse.{SpelledKind}
use Rattle.ic_laws.specs.Position.{is_place_within}
use Rattle.ic_laws.specs.ReadAs.{read_as}
use Rattle.ic_laws.specs.Reading.{Fits, FitsKind, FitsPair, IsFreeWord, printed}
use Rattle.ic_laws.specs.Scene.{definition_spelling, sheet_spelling}
use Rattle.ic_laws.specs.Tree.{Bound, IsKindWell, IsPairWell, IsWellFormed, Spelled, is_written_sheet, spelled_names}
use Rattle.ic_laws.specs.ValidCore.{IsKept, IsKeptWhere, IsPlaceInside}
use Rattle.ic_laws.specs.declared.dialect.WordKind.TheVariants as kinds
use Rattle.ic_laws.specs.declared.reference.Place.{Place}
use Rattle.ic_laws.specs.declared.reference.RefToken.{RefToken}
use Rattle.ic_laws.specs.declared.scene.Scene.{Scene}
use Rattle.ic_laws.specs.declared.tree.Tree.{every-Tree}
use Rattle.ic_laws.specs.declared.tree.Tree.TheOpen as one
use Rattle.ic_laws.proofs.binding.Again.{BoundKind, children_spelled}
use Rattle.ic_laws.proofs.core.Named.{IsNamed}
use Rattle.ic_laws.proofs.kept.Everywhere.{every_both}
use Rattle.ic_laws.proofs.kept.Kept.{CanBeKeptWhere, english_by_fold, spelled_can_be_kept, spelling_writes}
use Rattle.ic_laws.proofs.kept.Lifting.{every_spelled}
use Rattle.ic_laws.proofs.kept.Stays.{Stays, settled_stays}
use Rattle.ic_laws.proofs.kept.Tokens.{OfNode}
use Rattle.ic_laws.proofs.parsing.ReadAs.{read_as_complete}
use Rattle.ic_laws.proofs.printing.Trees.{printed_reads}

-- No word of a node is one of a form's: a word and a parameter is no word for true or false, and what is called no function
-- word.
abbrev pub HasNoFormWord : DialectMeaning → SpelledKind → Type 0
HasNoFormWord d (one.Word word) = IsFreeWord d word
HasNoFormWord d (one.Call word arguments) = IsNone (d.find kinds.Function word)
HasNoFormWord d (one.Lambda parameters body) = AllByRecursion (IsFreeWord d) parameters
HasNoFormWord d kind = Unit {0}

-- no word of a tree is
abbrev pub HasNoFormWords : DialectMeaning → Spelled → Type 0
HasNoFormWords d t = every-Tree (Option (List ℕ)) (List ℕ) (HasNoFormWord d) (FitsPair d) t

-- what is called is no English function
abbrev pub CallsNoFunction : Notations → SpelledKind → Type 0
CallsNoFunction n (one.Call word arguments) = IsNone (n.stored.find kinds.Function word)
CallsNoFunction n kind = Unit {0}

-- A form in which a tree that can be kept can be written, if it has no word of the form: it has the numbers of LET and
-- LAMBDA, the functions, and the references whose places are as asked.
pub record WritesKept (n : Notations) (d : DialectMeaning) (Inside : Place → Type 0) : Type 0 where
  pub let_same : d.let_fn ≡ n.stored.let_fn
  pub lambda_same : d.lambda_fn ≡ n.stored.lambda_fn
  pub functions : (number : ℕ) → HasFunction n number → IsSome (d.word kinds.Function number)
  pub references : (r : RefToken) → is_place_within r.place ≡ true → Inside r.place → is_written_sheet r.sheet ≡ true → d.can_spell r ≡ true

module _ (n : Notations) (d : DialectMeaning) (Inside : Place → Type 0) (writes : WritesKept n d Inside) where
  -- what a node has that can be kept
  record IsKeptNode (kind : SpelledKind) : Type 0 where
    well : IsKindWell spelled_names n.stored.let_fn n.stored.lambda_fn kind
    lies : OfNode Inside (HasFunction n) kind

  fits_kind : (kind : SpelledKind) → IsKeptNode kind → HasNoFormWord d kind → FitsKind d kind
  fits_kind (one.Reference sheet place) h free = writes.references (record { sheet = sheet; place = place }) h.well.places h.lies h.well.words
  fits_kind (one.Word word) h free = free
  fits_kind (one.Call word arguments) h free = free
  fits_kind (one.Fun number arguments) h free = writes.functions number h.lies
  fits_kind (one.Lambda parameters body) h free = free
  fits_kind kind h free = tt

  pub kept_fits : (t : Spelled) → CanBeKeptWhere n Inside t → HasNoFormWords d t → Fits d t
  kept_fits t h free = record {
    well = subst (λ l. IsWellFormed spelled_names d.let_fn l t) (sym writes.lambda_same) (subst (λ l. IsWellFormed spelled_names l n.stored.lambda_fn t) (sym writes.let_same) h.well);
    nodes =
        every_both IsKeptNode IsPairWell (HasNoFormWord d) (FitsPair d) (FitsKind d) (FitsPair d) fits_kind (λ pair well free. free) t
        (every_both (IsKindWell spelled_names n.stored.let_fn n.stored.lambda_fn) IsPairWell (OfNode Inside (HasFunction n)) (λ pair. Unit {0}) IsKeptNode IsPairWell
        (λ kind well lies. record { well = well; lies = lies }) (λ pair well lies. well) t h.well.nodes h.parts) free;
  }

-- the forms that are shown in a cell of the sheet are such, and so is the stored form
pub shown_writes : (n : Notations) (d : DialectMeaning) (row column : ℤ) → IsShownForm n d row column → is_cell row column ≡ true → WritesKept n d (IsPlaceInside row column)
shown_writes n d row column form cell = record {
  let_same = form.let_same;
  lambda_same = form.lambda_same;
  functions = λ number. (form.functions number).0;
  references = λ r within inside sheet. form.writes_inside r cell inside sheet;
}

pub stored_writes : (n : Notations) → AreNotations n → (Inside : Place → Type 0) → WritesKept n n.stored Inside
stored_writes n notations Inside = record {
  let_same = refl;
  lambda_same = refl;
  functions = λ number h. h;
  references = λ r within inside sheet. notations.stored_writes r within sheet;
}

module _ (n : Notations) (notations : AreNotations n) (scene : Scene) (named : IsNamed scene) (scope : Option ℕ) (Inside : Place → Type 0) where
  -- a kept tree is spelled so that it can be kept
  pub spelling_can_be_kept : (t : Bound) → IsKeptWhere n Inside scene scope t → CanBeKeptWhere n Inside (spelled scene t)
  spelling_can_be_kept t h = spelled_can_be_kept n scene scope Inside (sheet_spelling scene) (definition_spelling scene) (spelling_writes scene named) notations t h

  -- the words of a kept tree are no words of the stored form ----

  free_word : (word : List ℕ) → is_variable word ≡ true → IsFreeWord n.stored word
  free_word word h = at (n.stored.find kinds.Boolean word) refl
    where
      at : (found : Option ℕ) → n.stored.find kinds.Boolean word ≡ found → IsNone found
      at None e = refl
      at (Some number) e = let no : is_variable word ≡ false = notations.stored_booleans word number e in cc

  free_words : (words : List (List ℕ)) → list_all is_variable words ≡ true → AllByRecursion (IsFreeWord n.stored) words
  free_words [] h = tt
  free_words (word ∷ words) h = let parts = and_parts (is_variable word) (list_all is_variable words) h in (free_word word parts.0, free_words words parts.1)

  no_function : (kind : BoundKind) → Stays (english_function n) scene scope kind → CallsNoFunction n (spelled_kind (sheet_spelling scene) (definition_spelling scene) (children_spelled (sheet_spelling scene) (definition_spelling scene) kind))
  no_function (one.Call word arguments) stays = subst IsNone (sym stays.no_function) refl
  no_function kind stays = tt

  pub calls_no_function : (t : Bound) → IsKeptWhere n Inside scene scope t → every-Tree (Option (List ℕ)) (List ℕ) (CallsNoFunction n) (λ pair. Unit {0}) (spelled scene t)
  calls_no_function t h =
      every_spelled (sheet_spelling scene) (definition_spelling scene) (Stays (english_function n) scene scope) (λ pair. Unit {0}) (CallsNoFunction n) (λ pair. Unit {0})
      (record { node = no_function; pair = λ variable value stays. tt }) t (settled_stays (english_function n) scene scope (english_by_fold n notations) t h.settled)

  no_stored_word : (kind : SpelledKind) → IsKindWell spelled_names n.stored.let_fn n.stored.lambda_fn kind → CallsNoFunction n kind → HasNoFormWord n.stored kind
  no_stored_word (one.Word word) h called = free_word word h.words
  no_stored_word (one.Call word arguments) h called = called
  no_stored_word (one.Lambda parameters body) h called = free_words parameters h.words
  no_stored_word kind h called = tt

  no_stored_words : (t : Bound) → IsKeptWhere n Inside scene scope t → HasNoFormWords n.stored (spelled scene t)
  no_stored_words t h =
      every_both (IsKindWell spelled_names n.stored.let_fn n.stored.lambda_fn) IsPairWell (CallsNoFunction n) (λ pair. Unit {0}) (HasNoFormWord n.stored) (FitsPair n.stored) no_stored_word
      (λ pair well called. free_word pair.variable well.variable) (spelled scene t) (spelling_can_be_kept t h).well.nodes (calls_no_function t h)

  -- A kept tree can be written in the stored form, and its stored text reads as what is written.
  pub stored_fits : (t : Bound) → IsKeptWhere n Inside scene scope t → Fits n.stored (spelled scene t)
  stored_fits t h = kept_fits n n.stored Inside (stored_writes n notations Inside) (spelled scene t) (spelling_can_be_kept t h) (no_stored_words t h)

  pub stored_reads : (t : Bound) → IsKeptWhere n Inside scene scope t → read_as n.stored (printed n.stored (spelled scene t)) ≡ Some (spelled scene t)
  stored_reads t h = read_as_complete n.stored notations.stored (printed n.stored (spelled scene t)) (spelled scene t) (printed_reads n.stored notations.stored (spelled scene t) (stored_fits t h))

-- In a form that is shown in a cell, where it has no word of the form.
module _ (n : Notations) (notations : AreNotations n) (scene : Scene) (named : IsNamed scene) (scope : Option ℕ) (row column : ℤ) where
  pub shown_fits : (d : DialectMeaning) → IsShownForm n d row column → is_cell row column ≡ true → (t : Bound) → IsKept n scene scope row column t → HasNoFormWords d (spelled scene t) → Fits d (spelled scene t)
  shown_fits d form cell t h free = kept_fits n d (IsPlaceInside row column) (shown_writes n d row column form cell) (spelled scene t) (spelling_can_be_kept n notations scene named scope (IsPlaceInside row column) t h) free

  pub shown_reads : (d : DialectMeaning) → IsShownForm n d row column → is_cell row column ≡ true → (t : Bound) → IsKept n scene scope row column t → HasNoFormWords d (spelled scene t) → read_as d (printed d (spelled scene t)) ≡ Some (spelled scene t)
  shown_reads d form cell t h free = read_as_complete d form.lawful (printed d (spelled scene t)) (spelled scene t) (printed_reads d form.lawful (spelled scene t) (shown_fits d form cell t h free))

-- So its stored text is read and bound as the tree.
pub stored_text_binds : (n : Notations) → AreNotations n → (scene : Scene) → IsNamed scene → (scope : Option ℕ) (Inside : Place → Type 0) (t : Bound) → IsKeptWhere n Inside scene scope t
    → option_map (bound (english_function n) scene scope) (read_as n.stored (printed n.stored (spelled scene t))) ≡ Some t
stored_text_binds n notations scene named scope Inside t h =
    ap (option_map (bound (english_function n) scene scope)) (stored_reads n notations scene named scope Inside t h) ∙ ap (λ u. Some u) h.settled

-- Trees that are kept in one scene for one scope have equal stored texts exactly where they are equal.
pub stored_text_decides : (n : Notations) → AreNotations n → (scene : Scene) → IsNamed scene → (scope : Option ℕ) (Inside OfOther : Place → Type 0) (t u : Bound) → IsKeptWhere n Inside scene scope t → IsKeptWhere n OfOther scene scope u
    → printed n.stored (spelled scene t) ≡ printed n.stored (spelled scene u) ↔ t ≡ u
stored_text_decides n notations scene named scope Inside OfOther t u kept_t kept_u = (
  λ same.
      let read : read_as n.stored (printed n.stored (spelled scene t)) ≡ Some (spelled scene t) = stored_reads n notations scene named scope Inside t kept_t in
      let other : read_as n.stored (printed n.stored (spelled scene u)) ≡ Some (spelled scene u) = stored_reads n notations scene named scope OfOther u kept_u in
      let one_spelling : spelled scene t ≡ spelled scene u = same_Some (spelled scene t) (spelled scene u) (sym read ∙ (ap (read_as n.stored) same ∙ other)) in
      sym kept_t.settled ∙ (ap (bound (english_function n) scene scope) one_spelling ∙ kept_u.settled),
  λ same. ap (λ x. printed n.stored (spelled scene x)) same,
)
