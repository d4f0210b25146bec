-- Each mention of a bound formula holds in its scene.
use Rattle.std.proofs.Common.{◌≡◌, ℕ, List, [], map, Bool, true, false, Option, None, Some, refl, sym, ap, subst, ◌∙◌, nat_eq, if◌then◌else◌}
use Rattle.std.specs.Prelude.{option_map}
use Rattle.std.specs.List.{find}
use Rattle.std.proofs.lemmas.Bool.{eq-eqb}
use Rattle.ic_laws.proofs.binding.Again.{BoundKind, once, under}
use Rattle.ic_laws.proofs.binding.Induction.{every_of_all}
use Rattle.ic_laws.proofs.binding.SceneLemmas.{found_has_definition, local_is_found}
use Rattle.ic_laws.proofs.keeping.Finding.{any_where_found}
use Rattle.ic_laws.proofs.kept.Lifting.{every_bound}
use Rattle.ic_laws.specs.Binding.{Binders, IsSettled, bound, bound_call, bound_local, bound_sheet, bound_word, is_bound_by, name_or_dangling, sheet_or_dangling, spelled}
use Rattle.ic_laws.specs.Changes.{LocalHolds, MentionsHold, SheetHolds, WordHolds}
use Rattle.ic_laws.specs.Mentions.{OfMentions}
use Rattle.ic_laws.specs.Name.{fold, agrees}
use Rattle.ic_laws.specs.Parse.{SpelledKind}
use Rattle.ic_laws.specs.Scene.{found_local, found_name, found_sheet, key_found, local_key}
use Rattle.ic_laws.specs.Tree.{Spelled, Bound}
use Rattle.ic_laws.specs.declared.scene.Scene.{Scene}
use Rattle.ic_laws.specs.declared.scene.SheetName.{SheetName}
use Rattle.ic_laws.specs.declared.tree.NameKey.{NameKey}
use Rattle.ic_laws.specs.declared.tree.NameMention.TheVariants as names
use Rattle.ic_laws.specs.declared.tree.SheetMention.{SheetMention}
use Rattle.ic_laws.specs.declared.tree.SheetMention.TheVariants as sheets
use Rattle.ic_laws.specs.declared.tree.Tree.TheOpen as one

-- what a name finds is there
pub sheet_holds : (scene : Scene) (name : Option (List ℕ)) → SheetHolds scene (bound_sheet scene name)
sheet_holds scene None = tt
sheet_holds scene (Some name) = go (find (λ (s : SheetName). agrees s.name name) scene.sheets) refl
  where
    go : (o : Option SheetName) → find (λ (s : SheetName). agrees s.name name) scene.sheets ≡ o → SheetHolds scene (sheet_or_dangling name (found_sheet scene name))
    go None e =
        let none : found_sheet scene name ≡ None = ap (option_map (λ (s : SheetName). s.id)) e in subst (λ o. SheetHolds scene (sheet_or_dangling name o)) (sym none) none
    go (Some s) e =
        subst (λ o. SheetHolds scene (sheet_or_dangling name o)) (sym (ap (option_map (λ (x : SheetName). x.id)) e))
        (any_where_found (λ x. agrees x.name name) (λ x. nat_eq x.id s.id) scene.sheets s e (eq-eqb s.id s.id refl))

pub word_holds : (scene : Scene) (scope : Option ℕ) (binders : Binders) (word : List ℕ) → WordHolds scene scope (bound_word scene scope binders word)
word_holds scene scope binders word = go (is_bound_by binders word) (found_name scene scope word) refl
  where
    go : (b : Bool) (found : Option NameKey) → found_name scene scope word ≡ found → WordHolds scene scope (if b then names.Var word else name_or_dangling word found)
    go true found e = tt
    go false None e = e
    go false (Some key) e = ap (key_found scene scope) (found_has_definition scene scope (fold word) key e).same ∙ e

pub local_holds : (scene : Scene) (sheet : SheetMention) (word : List ℕ) → LocalHolds scene sheet (bound_local scene sheet word)
local_holds scene sheets.Own word = tt
local_holds scene (sheets.Dangling name) word = tt
local_holds scene (sheets.Sheet id) word = go (found_local scene id word) refl
  where
    go : (found : Option NameKey) → found_local scene id word ≡ found → LocalHolds scene (sheets.Sheet id) (name_or_dangling word found)
    go None e = e
    go (Some key) e = ap (local_key scene id) (found_has_definition scene (Some id) (fold word) key (local_is_found scene id (fold word) key e)).same ∙ e

module _ (english : List ℕ → Option ℕ) (scene : Scene) (scope : Option ℕ) where
  abbrev Here : BoundKind → Type 0
  Here = OfMentions (SheetHolds scene) (WordHolds scene scope) (LocalHolds scene)

  here : (kind : SpelledKind) (binders : Binders) → Here (once english scene scope kind binders)
  here (one.Reference sheet place) binders = sheet_holds scene sheet
  here (one.Local sheet word) binders = (sheet_holds scene sheet, local_holds scene (bound_sheet scene sheet) word)
  here (one.Word word) binders = word_holds scene scope binders word
  here (one.Call word arguments) binders = go (english word)
    where
      go : (found : Option ℕ) → Here (bound_call english scene scope found word (map (under english scene scope) arguments) binders)
      go (Some number) = tt
      go None = word_holds scene scope binders word
  here kind binders = tt

  -- each mention of a bound formula holds
  pub bound_holds : (t : Spelled) → MentionsHold scene scope (bound english scene scope t)
  bound_holds t =
      every_bound english scene scope (λ kind. Unit {0}) (λ pair. Unit {0}) Here (λ pair. Unit {0})
      (record { node = λ kind binders h. here kind binders; pair = λ variable value binders h. tt }) t
      (every_of_all (λ kind. Unit {0}) (λ pair. Unit {0}) (λ kind. tt) (λ pair. tt) t) []

  -- and so does each of a settled one
  pub settled_holds : (t : Bound) → IsSettled english scene scope t → MentionsHold scene scope t
  settled_holds t settled = subst (MentionsHold scene scope) settled (bound_holds (spelled scene t))
