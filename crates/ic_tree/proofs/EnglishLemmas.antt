-- A kept tree has no word of English: no variable is a word for true or false, and what is called is no function.
use mathlib.Core.Path.{fun_ext}
use Rattle.std.proofs.Common.{◌≡◌, ◌∙◌, ℕ, ℤ, List, [], ◌∷◌, map, Bool, true, false, ◌||◌, Option, Some, None, is_some, refl, sym, ap, subst}
use Rattle.std.specs.Prelude.{codes}
use Rattle.std.specs.List.{AllByRecursion, list_all, list_any}
use Rattle.std.proofs.lemmas.Bool.{and_parts}
use Rattle.ic_laws.specs.Binding.{BoundPair, bound_pair_of}
use Rattle.ic_laws.specs.Clash.{clashes_step, clashes_with, mentioned_name, one_clashes, pair_clashes}
use Rattle.ic_laws.specs.CoreBook.{CoreBook, scene_of}
use Rattle.ic_laws.specs.Dialect.{DialectMeaning}
use Rattle.ic_laws.specs.Name.{Agree, fold, is_variable}
use Rattle.ic_laws.specs.Notations.{AreNotations, Notations, english_function}
use Rattle.ic_laws.specs.Scene.{definition_spelling}
use Rattle.ic_laws.specs.Tree.{Bound, IsKindWell, IsPairWell, bound_names, is_word_mention}
use Rattle.ic_laws.specs.ValidCore.{IsKept, IsKeptWhere, IsPlaceInside, IsValidCore}
use Rattle.ic_laws.specs.declared.dialect.WordKind.TheVariants as kinds
use Rattle.ic_laws.specs.declared.reference.Place.{Place}
use Rattle.ic_laws.specs.declared.scene.Scene.{Scene}
use Rattle.ic_laws.specs.declared.tree.LetPair.{every_here-LetPair, fold-roll-LetPair}
use Rattle.ic_laws.specs.declared.tree.NameKey.{NameKey}
use Rattle.ic_laws.specs.declared.tree.NameMention.{NameMention}
use Rattle.ic_laws.specs.declared.tree.NameMention.TheVariants as names
use Rattle.ic_laws.specs.declared.tree.SheetMention.{SheetMention}
use Rattle.ic_laws.specs.declared.tree.Tree.{Tree-F, fold-roll-Tree, map-Tree}
use Rattle.ic_laws.specs.declared.tree.Tree.TheOpen as one
use Rattle.ic_laws.proofs.binding.Again.{BoundKind, bound_node}
use Rattle.ic_laws.proofs.binding.Induction.{Every, EveryPair, OfChildren, by_nodes, every_below, every_here, every_value}
use Rattle.ic_laws.proofs.binding.SceneLemmas.{spelled_alike}
use Rattle.ic_laws.proofs.core.Named.{IsNamed, book_named}
use Rattle.ic_laws.proofs.kept.Everywhere.{every_both}
use Rattle.ic_laws.proofs.kept.Folded.{fold_again}
use Rattle.ic_laws.proofs.kept.Kept.{english_by_fold, spelling_writes, identifier_word as identifier_is_variable}
use Rattle.ic_laws.proofs.kept.Lifting.{BoundParts}
use Rattle.ic_laws.proofs.kept.Stays.{CallStays, KeyStays, NameStays, Stays, settled_stays}
use Rattle.ic_tables.specs.Tables.{IsWellFormed, TableSet, language_of}
use Rattle.ic_tables.specs.declared.language.Language.{Language}
use Rattle.ic_tree.proofs.NotationLaws.{notations_are}
use Rattle.ic_tree.specs.LanguageWords.{boolean_of, function_of, is_boolean_word, is_function_word}
use Rattle.ic_tree.specs.Notations.{notations_of, stored_in}
use Rattle.ic_tree.specs.Stored.{stored_meaning}

both_false : (a b : Bool) → a ≡ false → b ≡ false → (a || b) ≡ false
both_false true b e f = cc
both_false false b e f = f

-- a tree doesn't clash where no node of it does
module _ (is_boolean is_function : List ℕ → Bool) where
  abbrev Apart : BoundKind → Type 0
  Apart (one.Word word) = is_boolean (mentioned_name word) ≡ false
  Apart (one.Call word arguments) = is_function (mentioned_name word) ≡ false
  Apart (one.Lambda parameters body) = list_any is_boolean parameters ≡ false
  Apart kind = Unit {0}

  abbrev PairApart : BoundParts → Type 0
  PairApart pair = is_boolean pair.variable ≡ false

  abbrev clashes : Bound → Bool
  clashes = clashes_with is_boolean is_function

  abbrev clashing_pair : BoundPair → Bool
  clashing_pair pair = is_boolean pair.variable || clashes pair.value

  abbrev clashing_parts : BoundKind → Tree-F SheetMention NameMention Bool Bool
  clashing_parts kind = map-Tree SheetMention NameMention Bound BoundPair Bool Bool clashes clashing_pair kind

  clashes-opened : (kind : BoundKind) → clashes (bound_node kind) ≡ clashes_step is_boolean is_function (clashing_parts kind)
  clashes-opened kind =
      fold-roll-Tree SheetMention NameMention Bool Bool (clashes_step is_boolean is_function) (pair_clashes is_boolean is_function) kind
      ∙ ap (λ (g : BoundPair → Bool). clashes_step is_boolean is_function (map-Tree SheetMention NameMention Bound BoundPair Bool Bool clashes g kind))
      (fun_ext (λ pair. fold-roll-LetPair SheetMention NameMention Bool Bool (clashes_step is_boolean is_function) (pair_clashes is_boolean is_function) (record { variable = pair.variable; value = pair.value })))

  abbrev Clear : Bound → Type 0
  Clear t = Every Apart PairApart t → clashes t ≡ false

  abbrev PairClear : BoundPair → Type 0
  PairClear pair = EveryPair Apart PairApart pair → clashing_pair pair ≡ false

  all_clear : (ts : List Bound) → AllByRecursion Clear ts → AllByRecursion (Every Apart PairApart) ts → one_clashes (map clashes ts) ≡ false
  all_clear [] h a = refl
  all_clear (t ∷ ts) h a = both_false (clashes t) (one_clashes (map clashes ts)) (h.0 a.0) (all_clear ts h.1 a.1)

  pairs_clear : (ps : List BoundPair) → AllByRecursion PairClear ps → AllByRecursion (EveryPair Apart PairApart) ps → one_clashes (map clashing_pair ps) ≡ false
  pairs_clear [] h a = refl
  pairs_clear (p ∷ ps) h a = both_false (clashing_pair p) (one_clashes (map clashing_pair ps)) (h.0 a.0) (pairs_clear ps h.1 a.1)

  kind_clear : (kind : BoundKind) → OfChildren Clear PairClear kind → Apart kind → OfChildren (Every Apart PairApart) (EveryPair Apart PairApart) kind → clashes_step is_boolean is_function (clashing_parts kind) ≡ false
  kind_clear (one.Word word) h e a = e
  kind_clear (one.Paren x) h e a = h a
  kind_clear (one.Prefix sign x) h e a = h a
  kind_clear (one.Percent x) h e a = h a
  kind_clear (one.Spill x) h e a = h a
  kind_clear (one.Binary sign x y) h e a = both_false (clashes x) (clashes y) (h.0 a.0) (h.1 a.1)
  kind_clear (one.Fun number arguments) h e a = all_clear arguments h a
  kind_clear (one.Call word arguments) h e a = both_false (is_function (mentioned_name word)) (one_clashes (map clashes arguments)) e (all_clear arguments h a)
  kind_clear (one.Let pairs body) h e a = both_false (one_clashes (map clashing_pair pairs)) (clashes body) (pairs_clear pairs h.0 a.0) (h.1 a.1)
  kind_clear (one.Lambda parameters body) h e a = both_false (list_any is_boolean parameters) (clashes body) e (h a)
  kind_clear (one.Apply x arguments) h e a = both_false (clashes x) (one_clashes (map clashes arguments)) (h.0 a.0) (all_clear arguments h.1 a.1)
  kind_clear kind h e a = refl

  node_clear : (kind : BoundKind) → OfChildren Clear PairClear kind → Clear (bound_node kind)
  node_clear kind h e = clashes-opened kind ∙ kind_clear kind h (every_here Apart PairApart kind e) (every_below Apart PairApart kind e)

  pair_clear : (variable : List ℕ) (value : Bound) → Clear value → PairClear (bound_pair_of variable value)
  pair_clear variable value h e =
      both_false (is_boolean variable) (clashes value) (every_here-LetPair SheetMention NameMention Apart PairApart (bound_pair_of variable value) e)
      (h (every_value Apart PairApart (bound_pair_of variable value) e))

  none_clashes : (t : Bound) → Every Apart PairApart t → clashes_with is_boolean is_function t ≡ false
  none_clashes = by_nodes Clear PairClear node_clear pair_clear

-- the words of the stored form are those of English, and no node of a kept tree has one
module _ (n : Notations) (notations : AreNotations n) (scene : Scene) (named : IsNamed scene) (scope : Option ℕ) where
  abbrev english_boolean : List ℕ → Bool
  english_boolean word = is_some (n.stored.find kinds.Boolean word)

  abbrev calls_english : List ℕ → Bool
  calls_english word = is_some (n.stored.find kinds.Function word)

  no_boolean : (word : List ℕ) → is_variable word ≡ true → english_boolean word ≡ false
  no_boolean word good = at (n.stored.find kinds.Boolean word) refl
    where
      at : (found : Option ℕ) → n.stored.find kinds.Boolean word ≡ found → is_some found ≡ false
      at None e = refl
      at (Some number) e = let no : is_variable word ≡ false = notations.stored_booleans word number e in absurd (cc)

  no_booleans : (words : List (List ℕ)) → list_all is_variable words ≡ true → list_any english_boolean words ≡ false
  no_booleans [] h = refl
  no_booleans (word ∷ words) h =
      let parts = and_parts (is_variable word) (list_all is_variable words) h in
      both_false (english_boolean word) (list_any english_boolean words) (no_boolean word parts.0) (no_booleans words parts.1)

  -- a key is told as the name that the definition has
  told_alike : (key : NameKey) → KeyStays scene scope key → Agree key.name (definition_spelling scene key)
  told_alike key stays = ap fold (sym (spelled_alike scene scope key.name key key.name stays.found)) ∙ fold_again (definition_spelling scene key)

  word_apart : (word : NameMention) → is_word_mention is_variable word ≡ true → NameStays scene scope word → english_boolean (mentioned_name word) ≡ false
  word_apart (names.Var word) good stays = no_boolean word good
  word_apart (names.Dangling word) good stays = no_boolean word good
  word_apart (names.Name key) good stays =
      ap is_some (notations.stored.finds_agreeing kinds.Boolean key.name (definition_spelling scene key) (told_alike key stays))
      ∙ no_boolean (definition_spelling scene key) (identifier_is_variable (definition_spelling scene key) ((spelling_writes scene named).definition key stays.named))

  call_apart : (word : NameMention) → CallStays (english_function n) scene scope word → calls_english (mentioned_name word) ≡ false
  call_apart (names.Var word) stays = ap is_some stays.no_function
  call_apart (names.Dangling word) stays = ap is_some stays.no_function
  call_apart (names.Name key) stays =
      ap is_some (notations.stored.finds_agreeing kinds.Function key.name (definition_spelling scene key) (told_alike key stays.stays)) ∙ ap is_some stays.no_function

  node_apart : (kind : BoundKind) → IsKindWell bound_names n.stored.let_fn n.stored.lambda_fn kind → Stays (english_function n) scene scope kind → Apart english_boolean calls_english kind
  node_apart (one.Word word) well stays = word_apart word well.words stays
  node_apart (one.Call word arguments) well stays = call_apart word stays
  node_apart (one.Lambda parameters body) well stays = no_booleans parameters well.words
  node_apart kind well stays = tt

  kept_apart : (Inside : Place → Type 0) (t : Bound) → IsKeptWhere n Inside scene scope t → clashes_with english_boolean calls_english t ≡ false
  kept_apart Inside t h =
      none_clashes english_boolean calls_english t
      (every_both (IsKindWell bound_names n.stored.let_fn n.stored.lambda_fn) IsPairWell (Stays (english_function n) scene scope) (λ pair. Unit {0}) (Apart english_boolean calls_english) (PairApart english_boolean calls_english)
      node_apart (λ pair well stays. no_boolean pair.variable well.variable) t h.well.nodes (settled_stays (english_function n) scene scope (english_by_fold n notations) t h.settled))

-- A kept tree of a valid book never clashes with the English of the tables.
pub english_free : (tables : TableSet) → IsWellFormed tables → (book : CoreBook) → IsValidCore (notations_of tables) book → (e : Language) → language_of tables (codes "en") ≡ Some e
    → (scope : Option ℕ) (row column : ℤ) (t : Bound) → IsKept (notations_of tables) (scene_of book) scope row column t → clashes_with (is_boolean_word e) (is_function_word e) t ≡ false
unfolding notations_of function_of boolean_of
english_free tables h book valid e found scope row column t kept =
    let n : Notations = notations_of tables in
    let stored : n.stored ≡ stored_meaning e = ap stored_in found in
    subst (λ (d : DialectMeaning). clashes_with (λ word. is_some (d.find kinds.Boolean word)) (λ word. is_some (d.find kinds.Function word)) t ≡ false) stored
    (kept_apart n (notations_are tables h) (scene_of book) (book_named n book valid) scope (IsPlaceInside row column) t kept)
