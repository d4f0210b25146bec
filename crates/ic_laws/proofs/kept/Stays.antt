-- What binding gives is there in its own scene: each sheet and each definition that a settled formula mentions is one of
-- the scene's, what dangles is found by nothing, and what is called is no English function.
use Rattle.std.proofs.Common.{◌≡◌, ℕ, List, [], map, Bool, true, false, Option, None, Some, refl, sym, ap, subst, ◌∙◌, nat_eq, if◌then◌else◌}
use Rattle.std.specs.Prelude.{option_map, IsSome}
use Rattle.std.specs.List.{find}
use Rattle.std.proofs.lemmas.Bool.{eq-eqb}
use Rattle.ic_laws.specs.Binding.{Binders, IsSettled, RespectsFolding, bound, bound_call, bound_local, bound_sheet, bound_word, is_bound_by, name_or_dangling, sheet_or_dangling, spelled, spelled_word}
use Rattle.ic_laws.specs.Name.{agrees, fold}
use Rattle.ic_laws.specs.Parse.{SpelledKind}
use Rattle.ic_laws.specs.Scene.{definition_at, found_local, found_name, found_sheet, key_found, name_of_key, name_of_sheet, definition_spelling}
use Rattle.ic_laws.specs.Tree.{Bound, Spelled}
use Rattle.ic_laws.specs.declared.scene.NameSpelling.{NameSpelling}
use Rattle.ic_laws.specs.declared.scene.Scene.{Scene}
use Rattle.ic_laws.specs.declared.scene.SheetName.{SheetName}
use Rattle.ic_laws.specs.declared.tree.NameKey.{NameKey}
use Rattle.ic_laws.specs.declared.tree.NameMention.{NameMention}
use Rattle.ic_laws.specs.declared.tree.NameMention.TheVariants as names
use Rattle.ic_laws.specs.declared.tree.SheetMention.{SheetMention}
use Rattle.ic_laws.specs.declared.tree.SheetMention.TheVariants as sheets
use Rattle.ic_laws.specs.declared.tree.Tree.{every-Tree}
use Rattle.ic_laws.specs.declared.tree.Tree.TheOpen as one
use Rattle.ic_laws.proofs.binding.Again.{BoundKind, once, under}
use Rattle.ic_laws.proofs.binding.Induction.{every_of_all}
use Rattle.ic_laws.proofs.binding.SceneLemmas.{found_by_other, found_has_definition, local_is_found, word_fold}
use Rattle.ic_laws.proofs.kept.Lifting.{every_bound}

-- a sheet that is mentioned has a name in the scene, and a name that dangles finds none
abbrev pub SheetStays : Scene → SheetMention → Type 0
SheetStays scene sheets.Own = Unit {0}
SheetStays scene (sheets.Sheet id) = IsSome (name_of_sheet scene id)
SheetStays scene (sheets.Dangling name) = found_sheet scene name ≡ None

-- a definition that is mentioned has a name in the scene and is found by its folded name, and a word that dangles finds none
pub record KeyStays (scene : Scene) (scope : Option ℕ) (key : NameKey) : Type 0 where
  pub named : IsSome (name_of_key scene key)
  pub found : key_found scene scope key.name ≡ Some key

abbrev pub NameStays : Scene → Option ℕ → NameMention → Type 0
NameStays scene scope (names.Var word) = Unit {0}
NameStays scene scope (names.Name key) = KeyStays scene scope key
NameStays scene scope (names.Dangling word) = found_name scene scope word ≡ None

-- a definition that is mentioned with its sheet has a name in the scene
abbrev pub LocalStays : Scene → NameMention → Type 0
LocalStays scene (names.Name key) = IsSome (name_of_key scene key)
LocalStays scene mention = Unit {0}

-- what is called stays, and its spelling is no function
pub record CallStays (english : List ℕ → Option ℕ) (scene : Scene) (scope : Option ℕ) (word : NameMention) : Type 0 where
  pub stays : NameStays scene scope word
  pub no_function : english (spelled_word (definition_spelling scene) word) ≡ None

-- each mention of a node stays
abbrev pub Stays : (List ℕ → Option ℕ) → Scene → Option ℕ → BoundKind → Type 0
Stays english scene scope (one.Reference sheet place) = SheetStays scene sheet
Stays english scene scope (one.Local sheet word) = SheetStays scene sheet × LocalStays scene word
Stays english scene scope (one.Word word) = NameStays scene scope word
Stays english scene scope (one.Call word arguments) = CallStays english scene scope word
Stays english scene scope kind = Unit {0}

-- and each of a formula
abbrev pub AllStays : (List ℕ → Option ℕ) → Scene → Option ℕ → Bound → Type 0
AllStays english scene scope t = every-Tree SheetMention NameMention (Stays english scene scope) (λ pair. Unit {0}) t

some_there : {X Y : Type 0} (f : X → Y) (o : Option X) (x : X) → o ≡ Some x → IsSome (option_map f o)
some_there f o x e = subst (λ (p : Option _). IsSome (option_map f p)) (sym e) refl

sheet_stays : (scene : Scene) (name : Option (List ℕ)) → SheetStays scene (bound_sheet scene name)
sheet_stays scene None = tt
sheet_stays scene (Some name) = go (find (λ (s : SheetName). agrees s.name name) scene.sheets) refl
  where
    go : (o : Option SheetName) → find (λ (s : SheetName). agrees s.name name) scene.sheets ≡ o → SheetStays scene (sheet_or_dangling name (found_sheet scene name))
    go None e =
        let none : found_sheet scene name ≡ None = ap (option_map (λ (s : SheetName). s.id)) e in subst (λ o. SheetStays scene (sheet_or_dangling name o)) (sym none) none
    go (Some s) e =
        let other = found_by_other (λ (x : SheetName). agrees x.name name) (λ (x : SheetName). nat_eq x.id s.id) scene.sheets s e (eq-eqb s.id s.id refl) in
        subst (λ o. SheetStays scene (sheet_or_dangling name o)) (sym (ap (option_map (λ (x : SheetName). x.id)) e))
        (some_there (λ (x : SheetName). x.name) (find (λ (x : SheetName). nat_eq x.id s.id) scene.sheets) other.0 other.1)

name_stays : (scene : Scene) (scope : Option ℕ) (binders : Binders) (word : List ℕ) → NameStays scene scope (bound_word scene scope binders word)
name_stays scene scope binders word = go (is_bound_by binders word) (found_name scene scope word) refl
  where
    go : (b : Bool) (found : Option NameKey) → found_name scene scope word ≡ found → NameStays scene scope (if b then names.Var word else name_or_dangling word found)
    go true found e = tt
    go false None e = e
    go false (Some key) e =
        let has = found_has_definition scene scope (fold word) key e in record {
          named = some_there (λ (d : NameSpelling). d.name) (definition_at scene key.name key.scope) has.definition has.found;
          found = ap (key_found scene scope) has.same ∙ e;
        }

local_stays : (scene : Scene) (sheet : SheetMention) (word : List ℕ) → LocalStays scene (bound_local scene sheet word)
local_stays scene sheets.Own word = tt
local_stays scene (sheets.Dangling name) word = tt
local_stays scene (sheets.Sheet id) word = go (found_local scene id word) refl
  where
    go : (found : Option NameKey) → found_local scene id word ≡ found → LocalStays scene (name_or_dangling word found)
    go None e = tt
    go (Some key) e =
        let has = found_has_definition scene (Some id) (fold word) key (local_is_found scene id (fold word) key e) in
        some_there (λ (d : NameSpelling). d.name) (definition_at scene key.name key.scope) has.definition has.found

module _ (english : List ℕ → Option ℕ) (scene : Scene) (scope : Option ℕ) (by_fold : RespectsFolding english) where
  here : (kind : SpelledKind) (binders : Binders) → Stays english scene scope (once english scene scope kind binders)
  here (one.Reference sheet place) binders = sheet_stays scene sheet
  here (one.Local sheet word) binders = (sheet_stays scene sheet, local_stays scene (bound_sheet scene sheet) word)
  here (one.Word word) binders = name_stays scene scope binders word
  here (one.Call word arguments) binders = at (english word) refl
    where
      at : (found : Option ℕ) → english word ≡ found → Stays english scene scope (bound_call english scene scope found word (map (under english scene scope) arguments) binders)
      at (Some number) e = tt
      at None e = record { stays = name_stays scene scope binders word; no_function = by_fold _ word (word_fold scene scope binders word) ∙ e }
  here kind binders = tt

  -- each mention of a bound formula stays
  pub bound_stays : (t : Spelled) → AllStays english scene scope (bound english scene scope t)
  bound_stays t =
      every_bound english scene scope (λ kind. Unit {0}) (λ pair. Unit {0}) (Stays english scene scope) (λ pair. Unit {0})
      (record { node = λ kind binders h. here kind binders; pair = λ variable value binders h. tt }) t
      (every_of_all (λ kind. Unit {0}) (λ pair. Unit {0}) (λ kind. tt) (λ pair. tt) t) []

  -- and so does each of a settled one
  pub settled_stays : (t : Bound) → IsSettled english scene scope t → AllStays english scene scope t
  settled_stays t settled = subst (AllStays english scene scope) settled (bound_stays (spelled scene t))
