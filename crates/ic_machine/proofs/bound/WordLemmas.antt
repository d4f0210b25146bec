-- The mentions of a formula that was bound in one scene, spelled, and bound in another: one for each, and what holds of each.
use mathlib.Core.Path.{fun_ext}
use Rattle.std.proofs.Common.{◌≡◌, ℕ, List, [], ◌∷◌, ◌++◌, map, flat_map, Option, None, Some, refl, sym, ap, ap₂, subst, ◌∙◌}
use Rattle.std.specs.List.{AllByRecursion, AllZip}
use Rattle.ic_laws.proofs.binding.Again.{BoundKind, bound-node, bound_node, children_spelled, once, pair_spelled, spell, spelled-node, under}
use Rattle.ic_laws.proofs.binding.Induction.{OfChildren, by_nodes}
use Rattle.ic_laws.specs.Binding.{Binders, Binds, BindsPair, BoundPair, all_bound, bound, bound_call, bound_local, bound_sheet, bound_word, pair_binds, pairs_bound, spelled_kind, spelled_sheet, spelled_with, spelled_word, with_parameters, with_variables}
use Rattle.ic_laws.specs.Mentions.{LocalMention}
use Rattle.ic_laws.specs.Parse.{Pair, SpelledKind, node}
use Rattle.ic_laws.specs.Tree.{Bound, Spelled}
use Rattle.ic_laws.specs.declared.scene.Scene.{Scene}
use Rattle.ic_laws.specs.declared.tree.LetPair.{fold-roll-LetPair}
use Rattle.ic_laws.specs.declared.tree.NameKey.{NameKey}
use Rattle.ic_laws.specs.declared.tree.NameMention.{NameMention}
use Rattle.ic_laws.specs.declared.tree.SheetMention.{SheetMention}
use Rattle.ic_laws.specs.declared.tree.Tree.{Tree-F, fold-Tree, fold-roll-Tree, map-Tree}
use Rattle.ic_laws.specs.declared.tree.Tree.TheOpen as one
use Rattle.ic_machine.specs.Binds.{locals_in, locals_step, plain_words_in, plain_words_step, sheets_in, sheets_step}
use Rattle.ic_machine.specs.Capture.{words_in, words_step}

abbrev pub Word : Type 0
Word = Option NameMention

-- what is gathered from the mentions of a formula, from left to right
module _ {A : Type 0} (of_sheet : SheetMention → List A) (of_word : Word → List A) (of_local : SheetMention → NameMention → List A) where
  abbrev gathered : List (List A) → List A
  gathered parts = flat_map (λ x. x) parts

  abbrev marks_step : Tree-F SheetMention NameMention (List A) (List A) → List A
  marks_step (one.Reference sheet place) = of_sheet sheet
  marks_step (one.Local sheet word) = of_local sheet word
  marks_step (one.Word word) = of_word (Some word)
  marks_step (one.Paren x) = x
  marks_step (one.Prefix sign x) = x
  marks_step (one.Percent x) = x
  marks_step (one.Spill x) = x
  marks_step (one.Binary sign a b) = a ++ b
  marks_step (one.Fun number arguments) = of_word None ++ gathered arguments
  marks_step (one.Call word arguments) = of_word (Some word) ++ gathered arguments
  marks_step (one.Let pairs body) = gathered pairs ++ body
  marks_step (one.Lambda parameters body) = body
  marks_step (one.Apply x arguments) = x ++ gathered arguments
  marks_step kind = []

  abbrev marks_in : Bound → List A
  marks_in t = fold-Tree SheetMention NameMention (List A) (List A) marks_step (λ pair. pair.value) t

  abbrev at_node : BoundKind → List A
  at_node kind = marks_step (map-Tree SheetMention NameMention Bound BoundPair (List A) (List A) marks_in (λ pair. marks_in pair.value) kind)

  marks-node : (kind : BoundKind) → marks_in (bound_node kind) ≡ at_node kind
  marks-node kind =
      fold-roll-Tree SheetMention NameMention (List A) (List A) marks_step (λ pair. pair.value) kind
      ∙ ap (λ (g : BoundPair → List A). marks_step (map-Tree SheetMention NameMention Bound BoundPair (List A) (List A) marks_in g kind))
      (fun_ext (λ pair. fold-roll-LetPair SheetMention NameMention (List A) (List A) marks_step (λ p. p.value) (record { variable = pair.variable; value = pair.value })))

zip_appended : {A : Type 0} (R : A → A → Type 0) (xs ys us vs : List A) → AllZip R xs ys → AllZip R us vs → AllZip R (xs ++ us) (ys ++ vs)
zip_appended R [] [] us vs h g = g
zip_appended R [] (y ∷ ys) us vs h g = absurd h
zip_appended R (x ∷ xs) [] us vs h g = absurd h
zip_appended R (x ∷ xs) (y ∷ ys) us vs h g = (h.0, zip_appended R xs ys us vs h.1 g)

-- what is each what a function makes of another is the others, mapped
pub mapped_zip : {A : Type 0} (g : A → A) (xs ys : List A) → AllZip (λ x y. y ≡ g x) xs ys → ys ≡ map g xs
mapped_zip g [] [] h = refl
mapped_zip g [] (y ∷ ys) h = absurd h
mapped_zip g (x ∷ xs) [] h = absurd h
mapped_zip g (x ∷ xs) (y ∷ ys) h = ap₂ (λ a bs. a ∷ bs) h.0 (mapped_zip g xs ys h.1)

-- what is asked of a mention that was found from one sheet and is looked up from another
pub record MarksBecome {A : Type 0} (of_sheet : SheetMention → List A) (of_word : Word → List A) (of_local : SheetMention → NameMention → List A) (english : List ℕ → Option ℕ) (scope other : Option ℕ) (before after : Scene) (sheet_text : ℕ → List ℕ) (key_text : NameKey → List ℕ) (R : A → A → Type 0) : Type 0 where
  pub sheet : (name : Option (List ℕ)) → AllZip R (of_sheet (bound_sheet before name)) (of_sheet (bound_sheet after (spelled_sheet sheet_text (bound_sheet before name))))
  pub word : (binders : Binders) (word : List ℕ) → AllZip R (of_word (Some (bound_word before scope binders word))) (of_word (Some (bound_word after other binders (spelled_word key_text (bound_word before scope binders word)))))
  pub local : (name : Option (List ℕ)) (word : List ℕ) → let sheet : SheetMention = bound_sheet before name in let found : SheetMention = bound_sheet after (spelled_sheet sheet_text sheet) in
      AllZip R (of_local sheet (bound_local before sheet word)) (of_local found (bound_local after found (spelled_word key_text (bound_local before sheet word))))
  pub none : AllZip R (of_word None) (of_word None)
  pub called : (binders : Binders) (word : List ℕ) (number : ℕ) → english word ≡ None → english (spelled_word key_text (bound_word before scope binders word)) ≡ Some number
      → AllZip R (of_word (Some (bound_word before scope binders word))) (of_word None)

module _ {A : Type 0} (of_sheet : SheetMention → List A) (of_word : Word → List A) (of_local : SheetMention → NameMention → List A) (english : List ℕ → Option ℕ) (scope other : Option ℕ) (before after : Scene) (sheet_text : ℕ → List ℕ) (key_text : NameKey → List ℕ) (R : A → A → Type 0) where
  abbrev marks : Bound → List A
  marks t = marks_in of_sheet of_word of_local t

  abbrev first : Spelled → Binds
  first = under english before scope

  abbrev then : Spelled → Binds
  then = under english after other

  abbrev respelled : Bound → Spelled
  respelled = spell sheet_text key_text

  -- whichever variables are seen
  abbrev Each : Spelled → Type 0
  Each t = (binders : Binders) → AllZip R (marks (first t binders)) (marks (then (respelled (first t binders)) binders))

  abbrev EachPair : Pair → Type 0
  EachPair pair = Each pair.value

  abbrev all_words : List Bound → List A
  all_words ts = flat_map (λ x. x) (map marks ts)

  abbrev pair_words : List BoundPair → List A
  pair_words pairs = flat_map (λ x. x) (map (λ pair. marks pair.value) pairs)

  each_of_all : (ts : List Spelled) (binders : Binders) → AllByRecursion Each ts
      → AllZip R (all_words (all_bound (map first ts) binders)) (all_words (all_bound (map then (map respelled (all_bound (map first ts) binders))) binders))
  each_of_all [] binders h = tt
  each_of_all (t ∷ ts) binders h =
      zip_appended R (marks (first t binders)) (marks (then (respelled (first t binders)) binders)) (all_words (all_bound (map first ts) binders))
      (all_words (all_bound (map then (map respelled (all_bound (map first ts) binders))) binders)) (h.0 binders) (each_of_all ts binders h.1)

  abbrev pairs_first : List Pair → List BindsPair
  pairs_first pairs = map (pair_binds english before scope) pairs

  abbrev pairs_then : List Pair → Binders → List BindsPair
  pairs_then pairs binders = map (pair_binds english after other) (map (pair_spelled sheet_text key_text) (pairs_bound (pairs_first pairs) binders))

  each_of_pairs : (pairs : List Pair) (binders : Binders) → AllByRecursion EachPair pairs
      → AllZip R (pair_words (pairs_bound (pairs_first pairs) binders)) (pair_words (pairs_bound (pairs_then pairs binders) binders))
  each_of_pairs [] binders h = tt
  each_of_pairs (pair ∷ pairs) binders h =
      zip_appended R (marks (first pair.value binders)) (marks (then (respelled (first pair.value binders)) binders)) (pair_words (pairs_bound (pairs_first pairs) (binders ++ pair.variable ∷ [])))
      (pair_words (pairs_bound (pairs_then pairs (binders ++ pair.variable ∷ [])) (binders ++ pair.variable ∷ []))) (h.0 binders) (each_of_pairs pairs (binders ++ pair.variable ∷ []) h.1)

  -- the variables are the same
  same_variables : (pairs : List Pair) (binders : Binders) → map (λ (pair : BindsPair). pair.variable) (pairs_then pairs binders) ≡ map (λ (pair : BindsPair). pair.variable) (pairs_first pairs)
  same_variables [] binders = refl
  same_variables (pair ∷ pairs) binders = ap (λ names. pair.variable ∷ names) (same_variables pairs (binders ++ pair.variable ∷ []))

  module _ (become : MarksBecome of_sheet of_word of_local english scope other before after sheet_text key_text R) where
    abbrev back : BoundKind → Binders → BoundKind
    back kind binders = once english after other (spelled_kind sheet_text key_text (children_spelled sheet_text key_text kind)) binders

    level : (kind : SpelledKind) (binders : Binders) → OfChildren Each EachPair kind → AllZip R (at_node of_sheet of_word of_local (once english before scope kind binders)) (at_node of_sheet of_word of_local (back (once english before scope kind binders) binders))
    level (one.Num units) binders h = tt
    level (one.Str text) binders h = tt
    level (one.Bool value) binders h = tt
    level (one.Err code) binders h = tt
    level (one.Reference sheet place) binders h = become.sheet sheet
    level (one.Local sheet word) binders h = become.local sheet word
    level (one.Word word) binders h = become.word binders word
    level one.Empty binders h = tt
    level (one.Paren x) binders h = h binders
    level (one.Prefix sign x) binders h = h binders
    level (one.Percent x) binders h = h binders
    level (one.Spill x) binders h = h binders
    level (one.Binary sign a b) binders h =
        zip_appended R (marks (first a binders)) (marks (then (respelled (first a binders)) binders)) (marks (first b binders)) (marks (then (respelled (first b binders)) binders)) (h.0 binders) (h.1 binders)
    level (one.Fun number arguments) binders h = zip_appended R (of_word None) (of_word None) (all_words (all_bound (map first arguments) binders)) (all_words (all_bound (map then (map respelled (all_bound (map first arguments) binders))) binders)) become.none (each_of_all arguments binders h)
    level (one.Call word arguments) binders h = go (english word) refl
      where
        first_words : List A
        first_words = all_words (all_bound (map first arguments) binders)

        then_words : List A
        then_words = all_words (all_bound (map then (map respelled (all_bound (map first arguments) binders))) binders)

        spelling : List ℕ
        spelling = spelled_word key_text (bound_word before scope binders word)

        stays : english word ≡ None → (found : Option ℕ) → english spelling ≡ found
            → AllZip R (of_word (Some (bound_word before scope binders word)) ++ first_words) (at_node of_sheet of_word of_local (bound_call english after other found spelling (map then (map respelled (all_bound (map first arguments) binders))) binders))
        stays e (Some number) f = zip_appended R (of_word (Some (bound_word before scope binders word))) (of_word None) first_words then_words (become.called binders word number e f) (each_of_all arguments binders h)
        stays e None f = zip_appended R (of_word (Some (bound_word before scope binders word))) (of_word (Some (bound_word after other binders spelling))) first_words then_words (become.word binders word) (each_of_all arguments binders h)

        go : (found : Option ℕ) → english word ≡ found
            → AllZip R (at_node of_sheet of_word of_local (bound_call english before scope found word (map first arguments) binders)) (at_node of_sheet of_word of_local (back (bound_call english before scope found word (map first arguments) binders) binders))
        go (Some number) e = zip_appended R (of_word None) (of_word None) first_words then_words become.none (each_of_all arguments binders h)
        go None e = stays e (english spelling) refl
    level (one.Let pairs body) binders h =
        let seen : Binders = with_variables (pairs_first pairs) binders in
        zip_appended R (pair_words (pairs_bound (pairs_first pairs) binders)) (pair_words (pairs_bound (pairs_then pairs binders) binders)) (marks (first body seen))
        (marks (then (respelled (first body seen)) (with_variables (pairs_then pairs binders) binders))) (each_of_pairs pairs binders h.0)
        (subst (λ (names : List (List ℕ)). AllZip R (marks (first body seen)) (marks (then (respelled (first body seen)) (binders ++ names)))) (sym (same_variables pairs binders)) (h.1 seen))
    level (one.Lambda parameters body) binders h = h (with_parameters parameters binders)
    level (one.Apply x arguments) binders h =
        zip_appended R (marks (first x binders)) (marks (then (respelled (first x binders)) binders)) (all_words (all_bound (map first arguments) binders))
        (all_words (all_bound (map then (map respelled (all_bound (map first arguments) binders))) binders)) (h.0 binders) (each_of_all arguments binders h.1)
    level (one.Array rows) binders h = tt

    each_node : (kind : SpelledKind) → OfChildren Each EachPair kind → Each (node kind)
    each_node kind h binders =
        let kind_bound : BoundKind = once english before scope kind binders in
        subst (λ (t : Bound). AllZip R (marks t) (marks (then (respelled t) binders))) (sym (bound-node english before scope kind binders))
        (subst (λ (u : List A). AllZip R u (marks (then (respelled (bound_node kind_bound)) binders))) (sym (marks-node of_sheet of_word of_local kind_bound))
        (subst (λ (t : Spelled). AllZip R (at_node of_sheet of_word of_local kind_bound) (marks (then t binders))) (sym (spelled-node sheet_text key_text kind_bound))
        (subst (λ (t : Bound). AllZip R (at_node of_sheet of_word of_local kind_bound) (marks t)) (sym (bound-node english after other (spelled_kind sheet_text key_text (children_spelled sheet_text key_text kind_bound)) binders))
        (subst (λ (u : List A). AllZip R (at_node of_sheet of_word of_local kind_bound) u) (sym (marks-node of_sheet of_word of_local (back kind_bound binders))) (level kind binders h)))))

    each_under : (t : Spelled) → Each t
    each_under = by_nodes Each EachPair each_node (λ variable value h. h)

    marks_become : (t : Spelled) → AllZip R (marks (bound english before scope t)) (marks (bound english after other (spelled_with sheet_text key_text (bound english before scope t))))
    marks_become t = each_under t []

-- the words ----

abbrev one_word : Word → List Word
one_word word = word ∷ []

abbrev no_word : SheetMention → NameMention → List Word
no_word sheet word = []

abbrev local_word : SheetMention → NameMention → List Word
local_word sheet word = Some word ∷ []

abbrev no_sheet : SheetMention → List Word
no_sheet sheet = []

plain_words_are : (kind : Tree-F SheetMention NameMention (List Word) (List Word)) → marks_step no_sheet one_word no_word kind ≡ plain_words_step kind
plain_words_are (one.Num units) = refl
plain_words_are (one.Str text) = refl
plain_words_are (one.Bool value) = refl
plain_words_are (one.Err code) = refl
plain_words_are (one.Reference sheet place) = refl
plain_words_are (one.Local sheet word) = refl
plain_words_are (one.Word word) = refl
plain_words_are one.Empty = refl
plain_words_are (one.Paren x) = refl
plain_words_are (one.Prefix sign x) = refl
plain_words_are (one.Percent x) = refl
plain_words_are (one.Spill x) = refl
plain_words_are (one.Binary sign a b) = refl
plain_words_are (one.Fun number arguments) = refl
plain_words_are (one.Call word arguments) = refl
plain_words_are (one.Let pairs body) = refl
plain_words_are (one.Lambda parameters body) = refl
plain_words_are (one.Apply x arguments) = refl
plain_words_are (one.Array rows) = refl

same_plain_words : (t : Bound) → marks_in no_sheet one_word no_word t ≡ plain_words_in t
same_plain_words t = ap (λ (step : Tree-F SheetMention NameMention (List Word) (List Word) → List Word). fold-Tree SheetMention NameMention (List Word) (List Word) step (λ pair. pair.value) t) (fun_ext plain_words_are)

words_are : (kind : Tree-F SheetMention NameMention (List Word) (List Word)) → marks_step no_sheet one_word local_word kind ≡ words_step kind
words_are (one.Num units) = refl
words_are (one.Str text) = refl
words_are (one.Bool value) = refl
words_are (one.Err code) = refl
words_are (one.Reference sheet place) = refl
words_are (one.Local sheet word) = refl
words_are (one.Word word) = refl
words_are one.Empty = refl
words_are (one.Paren x) = refl
words_are (one.Prefix sign x) = refl
words_are (one.Percent x) = refl
words_are (one.Spill x) = refl
words_are (one.Binary sign a b) = refl
words_are (one.Fun number arguments) = refl
words_are (one.Call word arguments) = refl
words_are (one.Let pairs body) = refl
words_are (one.Lambda parameters body) = refl
words_are (one.Apply x arguments) = refl
words_are (one.Array rows) = refl

same_words : (t : Bound) → marks_in no_sheet one_word local_word t ≡ words_in t
same_words t = ap (λ (step : Tree-F SheetMention NameMention (List Word) (List Word) → List Word). fold-Tree SheetMention NameMention (List Word) (List Word) step (λ pair. pair.value) t) (fun_ext words_are)

-- what is asked of a word that was found from one sheet and is looked up from another
pub record WordsBecome (english : List ℕ → Option ℕ) (scope other : Option ℕ) (before after : Scene) (key_text : NameKey → List ℕ) (R : Word → Word → Type 0) : Type 0 where
  pub word : (binders : Binders) (word : List ℕ) → R (Some (bound_word before scope binders word)) (Some (bound_word after other binders (spelled_word key_text (bound_word before scope binders word))))
  pub none : R None None
  pub called : (binders : Binders) (word : List ℕ) (number : ℕ) → english word ≡ None → english (spelled_word key_text (bound_word before scope binders word)) ≡ Some number → R (Some (bound_word before scope binders word)) None

-- those without a sheet
pub plain_words_become : (english : List ℕ → Option ℕ) (scope other : Option ℕ) (before after : Scene) (sheet_text : ℕ → List ℕ) (key_text : NameKey → List ℕ) (R : Word → Word → Type 0) → WordsBecome english scope other before after key_text R → (t : Spelled)
    → AllZip R (plain_words_in (bound english before scope t)) (plain_words_in (bound english after other (spelled_with sheet_text key_text (bound english before scope t))))
plain_words_become english scope other before after sheet_text key_text R become t =
    let old : Bound = bound english before scope t in
    let new : Bound = bound english after other (spelled_with sheet_text key_text old) in
    subst (λ (xs : List Word). AllZip R xs (plain_words_in new)) (same_plain_words old)
    (subst (λ (ys : List Word). AllZip R (marks_in no_sheet one_word no_word old) ys) (same_plain_words new)
    (marks_become no_sheet one_word no_word english scope other before after sheet_text key_text R
    (record { sheet = λ name. tt; word = λ binders word. (become.word binders word, tt); local = λ name word. tt; none = (become.none, tt); called = λ binders word number e f. (become.called binders word number e f, tt) }) t))

-- all of them
pub words_become : (english : List ℕ → Option ℕ) (scope other : Option ℕ) (before after : Scene) (sheet_text : ℕ → List ℕ) (key_text : NameKey → List ℕ) (R : Word → Word → Type 0) → WordsBecome english scope other before after key_text R
    → ((name : Option (List ℕ)) (word : List ℕ) → R (Some (bound_local before (bound_sheet before name) word)) (Some (bound_local after (bound_sheet after (spelled_sheet sheet_text (bound_sheet before name))) (spelled_word key_text (bound_local before (bound_sheet before name) word)))))
    → (t : Spelled) → AllZip R (words_in (bound english before scope t)) (words_in (bound english after other (spelled_with sheet_text key_text (bound english before scope t))))
words_become english scope other before after sheet_text key_text R become local t =
    let old : Bound = bound english before scope t in
    let new : Bound = bound english after other (spelled_with sheet_text key_text old) in
    subst (λ (xs : List Word). AllZip R xs (words_in new)) (same_words old)
    (subst (λ (ys : List Word). AllZip R (marks_in no_sheet one_word local_word old) ys) (same_words new)
    (marks_become no_sheet one_word local_word english scope other before after sheet_text key_text R
    (record { sheet = λ name. tt; word = λ binders word. (become.word binders word, tt); local = λ name word. (local name word, tt); none = (become.none, tt); called = λ binders word number e f. (become.called binders word number e f, tt) }) t))

-- the mentions of sheets ----

abbrev sheet_of_local : SheetMention → NameMention → List SheetMention
sheet_of_local sheet word = sheet ∷ []

sheets_are : (kind : Tree-F SheetMention NameMention (List SheetMention) (List SheetMention)) → marks_step (λ sheet. sheet ∷ []) (λ word. []) sheet_of_local kind ≡ sheets_step kind
sheets_are (one.Num units) = refl
sheets_are (one.Str text) = refl
sheets_are (one.Bool value) = refl
sheets_are (one.Err code) = refl
sheets_are (one.Reference sheet place) = refl
sheets_are (one.Local sheet word) = refl
sheets_are (one.Word word) = refl
sheets_are one.Empty = refl
sheets_are (one.Paren x) = refl
sheets_are (one.Prefix sign x) = refl
sheets_are (one.Percent x) = refl
sheets_are (one.Spill x) = refl
sheets_are (one.Binary sign a b) = refl
sheets_are (one.Fun number arguments) = refl
sheets_are (one.Call word arguments) = refl
sheets_are (one.Let pairs body) = refl
sheets_are (one.Lambda parameters body) = refl
sheets_are (one.Apply x arguments) = refl
sheets_are (one.Array rows) = refl

same_sheets : (t : Bound) → marks_in (λ sheet. sheet ∷ []) (λ word. []) sheet_of_local t ≡ sheets_in t
same_sheets t =
    ap (λ (step : Tree-F SheetMention NameMention (List SheetMention) (List SheetMention) → List SheetMention). fold-Tree SheetMention NameMention (List SheetMention) (List SheetMention) step (λ pair. pair.value) t) (fun_ext sheets_are)

-- where each that was found becomes f of it, the mentions of sheets are mapped
pub sheets_become : (english : List ℕ → Option ℕ) (scope other : Option ℕ) (before after : Scene) (sheet_text : ℕ → List ℕ) (key_text : NameKey → List ℕ) (f : SheetMention → SheetMention)
    → ((name : Option (List ℕ)) → bound_sheet after (spelled_sheet sheet_text (bound_sheet before name)) ≡ f (bound_sheet before name)) → (t : Spelled)
    → sheets_in (bound english after other (spelled_with sheet_text key_text (bound english before scope t))) ≡ map f (sheets_in (bound english before scope t))
sheets_become english scope other before after sheet_text key_text f become t =
    let old : Bound = bound english before scope t in
    let new : Bound = bound english after other (spelled_with sheet_text key_text old) in
    mapped_zip f (sheets_in old) (sheets_in new)
    (subst (λ (xs : List SheetMention). AllZip (λ m u. u ≡ f m) xs (sheets_in new)) (same_sheets old)
    (subst (λ (ys : List SheetMention). AllZip (λ m u. u ≡ f m) (marks_in (λ sheet. sheet ∷ []) (λ word. []) sheet_of_local old) ys) (same_sheets new)
    (marks_become (λ sheet. sheet ∷ []) (λ word. []) sheet_of_local english scope other before after sheet_text key_text (λ m u. u ≡ f m)
    (record { sheet = λ name. (become name, tt); word = λ binders word. tt; local = λ name word. (become name, tt); none = tt; called = λ binders word number e f. tt }) t)))

-- the words with their sheets ----

abbrev one_local : SheetMention → NameMention → List LocalMention
one_local sheet word = (sheet, word) ∷ []

locals_are : (kind : Tree-F SheetMention NameMention (List LocalMention) (List LocalMention)) → marks_step (λ sheet. []) (λ word. []) one_local kind ≡ locals_step kind
locals_are (one.Num units) = refl
locals_are (one.Str text) = refl
locals_are (one.Bool value) = refl
locals_are (one.Err code) = refl
locals_are (one.Reference sheet place) = refl
locals_are (one.Local sheet word) = refl
locals_are (one.Word word) = refl
locals_are one.Empty = refl
locals_are (one.Paren x) = refl
locals_are (one.Prefix sign x) = refl
locals_are (one.Percent x) = refl
locals_are (one.Spill x) = refl
locals_are (one.Binary sign a b) = refl
locals_are (one.Fun number arguments) = refl
locals_are (one.Call word arguments) = refl
locals_are (one.Let pairs body) = refl
locals_are (one.Lambda parameters body) = refl
locals_are (one.Apply x arguments) = refl
locals_are (one.Array rows) = refl

same_locals : (t : Bound) → marks_in (λ sheet. []) (λ word. []) one_local t ≡ locals_in t
same_locals t =
    ap (λ (step : Tree-F SheetMention NameMention (List LocalMention) (List LocalMention) → List LocalMention). fold-Tree SheetMention NameMention (List LocalMention) (List LocalMention) step (λ pair. pair.value) t) (fun_ext locals_are)

-- where each becomes f of it, all of them are mapped
pub locals_become : (english : List ℕ → Option ℕ) (scope other : Option ℕ) (before after : Scene) (sheet_text : ℕ → List ℕ) (key_text : NameKey → List ℕ) (f : LocalMention → LocalMention)
    → ((name : Option (List ℕ)) (word : List ℕ)
    → let sheet : SheetMention = bound_sheet before name in let found : SheetMention = bound_sheet after (spelled_sheet sheet_text sheet) in
    ◌≡◌ {A = LocalMention} (found, bound_local after found (spelled_word key_text (bound_local before sheet word))) (f (sheet, bound_local before sheet word)))
    → (t : Spelled) → locals_in (bound english after other (spelled_with sheet_text key_text (bound english before scope t))) ≡ map f (locals_in (bound english before scope t))
locals_become english scope other before after sheet_text key_text f become t =
    let old : Bound = bound english before scope t in
    let new : Bound = bound english after other (spelled_with sheet_text key_text old) in
    mapped_zip f (locals_in old) (locals_in new)
    (subst (λ (xs : List LocalMention). AllZip (λ m u. u ≡ f m) xs (locals_in new)) (same_locals old)
    (subst (λ (ys : List LocalMention). AllZip (λ m u. u ≡ f m) (marks_in (λ sheet. []) (λ word. []) one_local old) ys) (same_locals new)
    (marks_become (λ sheet. []) (λ word. []) one_local english scope other before after sheet_text key_text (λ m u. u ≡ f m)
    (record { sheet = λ name. tt; word = λ binders word. tt; local = λ name word. (become name word, tt); none = tt; called = λ binders word number e f. tt }) t)))
