-- A kept tree that doesn't clash with a form has no word of it, so it is shown in the form so that it reads back.
use mathlib.Core.Path.{fun_ext}
use Rattle.std.proofs.Common.{◌≡◌, ℕ, ℤ, List, [], ◌∷◌, ◌++◌, map, Bool, true, false, ◌||◌, Option, Some, refl, sym, ap, ◌∙◌}
use Rattle.std.specs.Prelude.{IsNone, codes, is_some}
use Rattle.std.specs.Option.{option_or}
use Rattle.std.specs.List.{AllByRecursion, list_all, list_any}
use Rattle.std.proofs.lemmas.Bool.{and_parts}
use Rattle.ic_laws.specs.Binding.{BoundPair, bound, bound_pair_of, spelled, spelled_kind, spelled_word}
use Rattle.ic_laws.specs.Clash.{clashes_step, clashes_with, mentioned_name, one_clashes, pair_clashes}
use Rattle.ic_laws.specs.CoreBook.{CoreBook, scene_of}
use Rattle.ic_laws.specs.Dialect.{DialectMeaning, IsLawful}
use Rattle.ic_laws.specs.FormulaReading.{cell_formula, shown_at, shown_formula, tree_or_raw}
use Rattle.ic_laws.specs.Name.{Agree, fold, is_variable}
use Rattle.ic_laws.specs.Notations.{AreNotations, IsShownForm, Notations, english_function, is_cell}
use Rattle.ic_laws.specs.Parse.{SpelledKind}
use Rattle.ic_laws.specs.ReadAs.{read_as}
use Rattle.ic_laws.specs.Reading.{FitsPair, IsFreeWord, printed}
use Rattle.ic_laws.specs.Scene.{definition_spelling, sheet_spelling}
use Rattle.ic_laws.specs.Tree.{Bound, IsKindWell, IsPairWell, spelled_names}
use Rattle.ic_laws.specs.ValidCore.{IsKept, IsPlaceInside, IsValidCore}
use Rattle.ic_laws.specs.declared.dialect.WordKind.TheVariants as kinds
use Rattle.ic_laws.specs.declared.scene.Scene.{Scene}
use Rattle.ic_laws.specs.declared.tree.Formula.{Formula}
use Rattle.ic_laws.specs.declared.tree.Formula.TheVariants as formulas
use Rattle.ic_laws.specs.declared.tree.LetPair.{every_made-LetPair, fold-roll-LetPair}
use Rattle.ic_laws.specs.declared.tree.NameMention.{NameMention}
use Rattle.ic_laws.specs.declared.tree.NameMention.TheVariants as names
use Rattle.ic_laws.specs.declared.tree.SheetMention.{SheetMention}
use Rattle.ic_laws.specs.declared.tree.Tree.{Tree-F, fold-roll-Tree, map-Tree}
use Rattle.ic_laws.specs.declared.tree.Tree.TheOpen as one
use Rattle.ic_laws.proofs.binding.Again.{BoundKind, bound_node, children_spelled}
use Rattle.ic_laws.proofs.binding.Induction.{Every, EveryPair, OfChildren, by_nodes, every_made}
use Rattle.ic_laws.proofs.binding.SceneLemmas.{spelled_alike}
use Rattle.ic_laws.proofs.core.Named.{IsNamed, book_named}
use Rattle.ic_laws.proofs.kept.Everywhere.{every_both}
use Rattle.ic_laws.proofs.kept.Folded.{fold_again}
use Rattle.ic_laws.proofs.kept.Kept.{english_by_fold}
use Rattle.ic_laws.proofs.kept.Lifting.{BoundParts, SpelledParts, every_spelled}
use Rattle.ic_laws.proofs.kept.Stays.{NameStays, Stays, settled_stays}
use Rattle.ic_laws.proofs.kept.Written.{CallsNoFunction, HasNoFormWord, HasNoFormWords, calls_no_function, shown_reads, spelling_can_be_kept}
use Rattle.ic_laws.proofs.printing.Signs.{or_neither as neither}

module _ (is_boolean is_function : List ℕ → Bool) where
  -- the mention of a node, or a variable that it binds, is no such word
  abbrev NoClash : BoundKind → Type 0
  NoClash (one.Word word) = is_boolean (mentioned_name word) ≡ false
  NoClash (one.Call word arguments) = is_function (mentioned_name word) ≡ false
  NoClash (one.Lambda parameters body) = list_any is_boolean parameters ≡ false
  NoClash kind = Unit {0}

  abbrev NoPairClash : BoundParts → Type 0
  NoPairClash pair = is_boolean pair.variable ≡ false

  abbrev clashes : Bound → Bool
  clashes = clashes_with is_boolean is_function

  abbrev clashing_pair : BoundPair → Bool
  clashing_pair pair = is_boolean pair.variable || clashes pair.value

  abbrev clashing_parts : BoundKind → Tree-F SheetMention NameMention Bool Bool
  clashing_parts kind = map-Tree SheetMention NameMention Bound BoundPair Bool Bool clashes clashing_pair kind

  clashes-node : (kind : BoundKind) → clashes (bound_node kind) ≡ clashes_step is_boolean is_function (clashing_parts kind)
  clashes-node kind =
      fold-roll-Tree SheetMention NameMention Bool Bool (clashes_step is_boolean is_function) (pair_clashes is_boolean is_function) kind
      ∙ ap (λ (g : BoundPair → Bool). clashes_step is_boolean is_function (map-Tree SheetMention NameMention Bound BoundPair Bool Bool clashes g kind))
      (fun_ext (λ pair. fold-roll-LetPair SheetMention NameMention Bool Bool (clashes_step is_boolean is_function) (pair_clashes is_boolean is_function) (record { variable = pair.variable; value = pair.value })))

  abbrev Free : Bound → Type 0
  Free t = clashes t ≡ false → Every NoClash NoPairClash t

  abbrev PairFree : BoundPair → Type 0
  PairFree pair = clashing_pair pair ≡ false → EveryPair NoClash NoPairClash pair

  all_free : (ts : List Bound) → AllByRecursion Free ts → one_clashes (map clashes ts) ≡ false → AllByRecursion (Every NoClash NoPairClash) ts
  all_free [] h e = tt
  all_free (t ∷ ts) h e = let parts = neither (clashes t) (one_clashes (map clashes ts)) e in (h.0 parts.0, all_free ts h.1 parts.1)

  pairs_free : (ps : List BoundPair) → AllByRecursion PairFree ps → one_clashes (map clashing_pair ps) ≡ false → AllByRecursion (EveryPair NoClash NoPairClash) ps
  pairs_free [] h e = tt
  pairs_free (p ∷ ps) h e = let parts = neither (clashing_pair p) (one_clashes (map clashing_pair ps)) e in (h.0 parts.0, pairs_free ps h.1 parts.1)

  here_free : (kind : BoundKind) → clashes_step is_boolean is_function (clashing_parts kind) ≡ false → NoClash kind
  here_free (one.Word word) e = e
  here_free (one.Call word arguments) e = (neither (is_function (mentioned_name word)) (one_clashes (map clashes arguments)) e).0
  here_free (one.Lambda parameters body) e = (neither (list_any is_boolean parameters) (clashes body) e).0
  here_free kind e = tt

  below_free : (kind : BoundKind) → OfChildren Free PairFree kind → clashes_step is_boolean is_function (clashing_parts kind) ≡ false → OfChildren (Every NoClash NoPairClash) (EveryPair NoClash NoPairClash) kind
  below_free (one.Paren x) h e = h e
  below_free (one.Prefix sign x) h e = h e
  below_free (one.Percent x) h e = h e
  below_free (one.Spill x) h e = h e
  below_free (one.Binary sign a b) h e = let parts = neither (clashes a) (clashes b) e in (h.0 parts.0, h.1 parts.1)
  below_free (one.Fun number arguments) h e = all_free arguments h e
  below_free (one.Call word arguments) h e = all_free arguments h (neither (is_function (mentioned_name word)) (one_clashes (map clashes arguments)) e).1
  below_free (one.Let pairs body) h e = let parts = neither (one_clashes (map clashing_pair pairs)) (clashes body) e in (pairs_free pairs h.0 parts.0, h.1 parts.1)
  below_free (one.Lambda parameters body) h e = h (neither (list_any is_boolean parameters) (clashes body) e).1
  below_free (one.Apply x arguments) h e = let parts = neither (clashes x) (one_clashes (map clashes arguments)) e in (h.0 parts.0, all_free arguments h.1 parts.1)
  below_free kind h e = tt

  node_free : (kind : BoundKind) → OfChildren Free PairFree kind → Free (bound_node kind)
  node_free kind h e = let step = sym (clashes-node kind) ∙ e in every_made NoClash NoPairClash kind (here_free kind step) (below_free kind h step)

  pair_free : (variable : List ℕ) (value : Bound) → Free value → PairFree (bound_pair_of variable value)
  pair_free variable value h e =
      let parts = neither (is_boolean variable) (clashes value) e in
      every_made-LetPair SheetMention NameMention NoClash NoPairClash (record { variable = variable; value = value }) (record { variable = variable; value = (value, h parts.1) }) refl parts.0

  -- no node of a tree that doesn't clash does
  all_no_clash : (t : Bound) → clashes_with is_boolean is_function t ≡ false → Every NoClash NoPairClash t
  all_no_clash = by_nodes Free PairFree node_free pair_free

  -- the same of what the mentions are spelled
  abbrev SpelledNoClash : SpelledKind → Type 0
  SpelledNoClash (one.Word word) = is_boolean word ≡ false
  SpelledNoClash (one.Call word arguments) = is_function word ≡ false
  SpelledNoClash (one.Lambda parameters body) = list_any is_boolean parameters ≡ false
  SpelledNoClash kind = Unit {0}

  abbrev SpelledNoPairClash : SpelledParts → Type 0
  SpelledNoPairClash pair = is_boolean pair.variable ≡ false

-- What tells the words of a form: agreeing texts alike, of words those for true and false, and of words that are no English
-- functions the functions.
pub record TellsWords (n : Notations) (d : DialectMeaning) (is_boolean is_function : List ℕ → Bool) : Type 0 where
  pub boolean : (word : List ℕ) → is_variable word ≡ true → is_boolean word ≡ false → IsFreeWord d word
  pub function : (word : List ℕ) → IsNone (english_function n word) → is_function word ≡ false → IsNone (d.find kinds.Function word)
  pub boolean_by_fold : (a b : List ℕ) → Agree a b → is_boolean a ≡ is_boolean b
  pub function_by_fold : (a b : List ℕ) → Agree a b → is_function a ≡ is_function b

module _ (n : Notations) (notations : AreNotations n) (scene : Scene) (named : IsNamed scene) (scope : Option ℕ) (row column : ℤ) (d : DialectMeaning) (is_boolean is_function : List ℕ → Bool) (tells : TellsWords n d is_boolean is_function) where
  -- a definition that stays is spelled as its folded name is told
  spelled_told : (is_word : List ℕ → Bool) → ((a b : List ℕ) → Agree a b → is_word a ≡ is_word b) → (mention : NameMention) → NameStays scene scope mention → is_word (mentioned_name mention) ≡ false → is_word (spelled_word (definition_spelling scene) mention) ≡ false
  spelled_told is_word by_fold (names.Var word) stays e = e
  spelled_told is_word by_fold (names.Dangling word) stays e = e
  spelled_told is_word by_fold (names.Name key) stays e =
      let folded : fold (definition_spelling scene key) ≡ key.name = spelled_alike scene scope key.name key key.name stays.found in
      by_fold (definition_spelling scene key) key.name (sym (fold_again (definition_spelling scene key)) ∙ ap fold folded) ∙ e

  told_spelled : (kind : BoundKind) → NoClash is_boolean is_function kind → Stays (english_function n) scene scope kind
      → SpelledNoClash is_boolean is_function (spelled_kind (sheet_spelling scene) (definition_spelling scene) (children_spelled (sheet_spelling scene) (definition_spelling scene) kind))
  told_spelled (one.Word word) e stays = spelled_told is_boolean tells.boolean_by_fold word stays e
  told_spelled (one.Call word arguments) e stays = spelled_told is_function tells.function_by_fold word stays.stays e
  told_spelled (one.Lambda parameters body) e stays = e
  told_spelled kind e stays = tt

  free_parameters : (words : List (List ℕ)) → list_all is_variable words ≡ true → list_any is_boolean words ≡ false → AllByRecursion (IsFreeWord d) words
  free_parameters [] h e = tt
  free_parameters (word ∷ words) h e =
      let good = and_parts (is_variable word) (list_all is_variable words) h in
      let free = neither (is_boolean word) (list_any is_boolean words) e in
      (tells.boolean word good.0 free.0, free_parameters words good.1 free.1)

  -- what a node of a kept tree has, as it is spelled
  record IsSpelledNode (kind : SpelledKind) : Type 0 where
    well : IsKindWell spelled_names n.stored.let_fn n.stored.lambda_fn kind
    calls : CallsNoFunction n kind

  record IsBoundNode (kind : BoundKind) : Type 0 where
    free : NoClash is_boolean is_function kind
    stays : Stays (english_function n) scene scope kind

  no_form_word : (kind : SpelledKind) → IsSpelledNode kind → SpelledNoClash is_boolean is_function kind → HasNoFormWord d kind
  no_form_word (one.Word word) h e = tells.boolean word h.well.words e
  no_form_word (one.Call word arguments) h e = tells.function word h.calls e
  no_form_word (one.Lambda parameters body) h e = free_parameters parameters h.well.words e
  no_form_word kind h e = tt

  -- A kept tree that doesn't clash with the words of a form has none of them.
  pub no_form_words : (t : Bound) → IsKept n scene scope row column t → clashes_with is_boolean is_function t ≡ false → HasNoFormWords d (spelled scene t)
  no_form_words t h e =
      every_both IsSpelledNode IsPairWell (SpelledNoClash is_boolean is_function) (SpelledNoPairClash is_boolean is_function) (HasNoFormWord d) (FitsPair d) no_form_word
      (λ pair well free. tells.boolean pair.variable well.variable free) (spelled scene t)
      (every_both (IsKindWell spelled_names n.stored.let_fn n.stored.lambda_fn) IsPairWell (CallsNoFunction n) (λ pair. Unit {0}) IsSpelledNode IsPairWell
      (λ kind well calls. record { well = well; calls = calls }) (λ pair well calls. well) (spelled scene t)
      (spelling_can_be_kept n notations scene named scope (IsPlaceInside row column) t h).well.nodes (calls_no_function n notations scene named scope (IsPlaceInside row column) t h))
      (every_spelled (sheet_spelling scene) (definition_spelling scene) IsBoundNode (NoPairClash is_boolean is_function) (SpelledNoClash is_boolean is_function) (SpelledNoPairClash is_boolean is_function)
      (record { node = λ kind told. told_spelled kind told.free told.stays; pair = λ variable value free. free }) t
      (every_both (NoClash is_boolean is_function) (NoPairClash is_boolean is_function) (Stays (english_function n) scene scope) (λ pair. Unit {0}) IsBoundNode (NoPairClash is_boolean is_function)
      (λ kind free stays. record { free = free; stays = stays }) (λ pair free stays. free) t (all_no_clash is_boolean is_function t e) (settled_stays (english_function n) scene scope (english_by_fold n notations) t h.settled)))

-- A form tells its own words.
pub own_words : (n : Notations) (d : DialectMeaning) → IsLawful d → TellsWords n d (λ word. is_some (d.find kinds.Boolean word)) (λ word. is_some (d.find kinds.Function word))
own_words n d lawful = record {
  boolean = λ word good none. none;
  function = λ word english none. none;
  boolean_by_fold = λ a b same. ap is_some (lawful.finds_agreeing kinds.Boolean a b same);
  function_by_fold = λ a b same. ap is_some (lawful.finds_agreeing kinds.Function a b same);
}

-- What is shown in a cell of a valid book and typed there again is the formula that is shown, unless it clashes.
pub shown_again : (n : Notations) → AreNotations n → (book : CoreBook) → IsValidCore n book → (id : ℕ) (row column : ℤ) (t : Bound) → is_cell row column ≡ true → IsKept n (scene_of book) (Some id) row column t
    → clashes_with (λ word. is_some ((shown_at n book row column).find kinds.Boolean word)) (λ word. is_some ((shown_at n book row column).find kinds.Function word)) t ≡ false
    → cell_formula n book id row column (shown_formula n book row column (formulas.Tree t)) ≡ formulas.Tree t
shown_again n notations book valid id row column t cell h free =
    let d : DialectMeaning = shown_at n book row column in
    let form : IsShownForm n d row column = notations.shown book.locale book.language row column valid.locale valid.language in
    let text : List ℕ = printed d (spelled (scene_of book) t) in
    let named : IsNamed (scene_of book) = book_named n book valid in
    let none : HasNoFormWords d (spelled (scene_of book) t) =
    no_form_words n notations (scene_of book) named (Some id) row column d (λ word. is_some (d.find kinds.Boolean word)) (λ word. is_some (d.find kinds.Function word)) (own_words n d form.lawful) t h free in
    let reads : read_as d text ≡ Some (spelled (scene_of book) t) = shown_reads n notations (scene_of book) named (Some id) row column d form cell t h none in
    ap (λ o. tree_or_raw (λ u. formulas.Tree (bound (english_function n) (scene_of book) (Some id) u)) text (option_or o (read_as d (text ++ codes ")")))) reads ∙ ap (λ u. let f : Formula = formulas.Tree u in f) h.settled
