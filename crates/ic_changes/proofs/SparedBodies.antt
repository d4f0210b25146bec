-- Bodies that a change leaves, since all was found in them.
use Rattle.std.proofs.Common.{◌≡◌, ℕ, List, [], ◌∷◌, map, Bool, true, false, ◌&&◌, ◌||◌, cond, Option, Some, None, sym, ap, ◌∙◌, refl}
use mathlib.Core.Bool.{and-false as and_false}
use Rattle.std.specs.Prelude.{bytes_eq, option_map}
use Rattle.std.specs.List.{AllByRecursion, find, list_any}
use Rattle.std.specs.Option.{option_or}
use Rattle.std.proofs.lemmas.Slice.Eq.{bytes_eq-Decides}
use Rattle.ic_laws.proofs.keeping.Books.{trees_settled}
use Rattle.ic_laws.proofs.keeping.Holds.{settled_holds}
use Rattle.ic_laws.proofs.keeping.Kept.{spared_is_same}
use Rattle.ic_laws.proofs.keeping.Spared.{none_passes}
use Rattle.ic_laws.specs.Binding.{IsSettled}
use Rattle.ic_laws.specs.BookTrees.{OfBody, OfTree}
use Rattle.ic_laws.specs.Changes.{IsSpared, LocalHolds, SheetHolds, WordHolds, changes_local, changes_sheet, changes_word, could_mean, could_mean_local, definition_added, sheet_named}
use Rattle.ic_laws.specs.CoreBook.{CoreBook, Definition, scene_of, spelling_of}
use Rattle.ic_laws.specs.CoreStep.{has_definition, is_named}
use Rattle.ic_laws.specs.Name.{fold}
use Rattle.ic_laws.specs.Notations.{Notations, english_function}
use Rattle.ic_laws.specs.Scene.{definition_at, key_of, same_scope}
use Rattle.ic_laws.specs.Tree.{Bound}
use Rattle.ic_laws.specs.ValidCore.{IsValidCore}
use Rattle.ic_laws.specs.declared.scene.NameSpelling.{NameSpelling}
use Rattle.ic_laws.specs.declared.scene.Scene.{Scene}
use Rattle.ic_laws.specs.declared.tree.Formula.{Formula}
use Rattle.ic_laws.specs.declared.tree.Formula.TheVariants as formulas
use Rattle.ic_laws.specs.declared.tree.NameMention.{NameMention}
use Rattle.ic_laws.specs.declared.tree.NameMention.TheVariants as names
use Rattle.ic_laws.specs.declared.tree.SheetMention.{SheetMention}
use Rattle.ic_laws.specs.declared.tree.SheetMention.TheVariants as sheets
use Rattle.ic_definitions.specs.Bodies.{StaysWhereFound}
use Rattle.ic_pool.proofs.ChangeLemmas.{naming_spares_found, untouched_stays}
use Rattle.ic_pool.specs.Mentions.{formula_after, has_dangling, is_dangling, is_dangling_local, is_dangling_word}
use Rattle.ic_parts.proofs.MentionPairs.{mentions_both}

is_there : {X : Type 0} → Option X → Bool
is_there None = false
is_there (Some x) = true

nothing_is_found : {X : Type 0} {x : X} → None ≡ Some x → ⊥
unfolding is_there
nothing_is_found e = let no : false ≡ true = ap is_there e in cc

-- a sheet that gets a name leaves bodies in which all was found
pub naming_bodies : (scene : Scene) (id : ℕ) (name : List ℕ) (ds : List Definition) → AllByRecursion (StaysWhereFound (sheet_named scene id name)) ds
naming_bodies scene id name [] = tt
naming_bodies scene id name (d ∷ ds) =
    (λ found. ap (λ (body : Formula). let e : Definition = record d { body = body } in e) (untouched_stays (sheet_named scene id name) d.scope d.body (naming_spares_found scene id name d.scope d.body found)), naming_bodies scene id name ds)

-- ---- a definition that is local to none

none_named : (name : List ℕ) (ds : List Definition) → list_any (is_named name None) ds ≡ false → find (λ (x : NameSpelling). bytes_eq (fold x.name) (fold name) && same_scope x.scope None) (map spelling_of ds) ≡ None
none_named name [] e = refl
none_named name (d ∷ ds) e = step (is_named name None d) e (none_named name ds)
  where
    rest : Option NameSpelling
    rest = find (λ (x : NameSpelling). bytes_eq (fold x.name) (fold name) && same_scope x.scope None) (map spelling_of ds)

    step : (b : Bool) → (b || list_any (is_named name None) ds) ≡ false → (list_any (is_named name None) ds ≡ false → rest ≡ None) → cond b (Some (spelling_of d)) rest ≡ None
    step true e none = cc
    step false e none = none e

module _ (book : CoreBook) (d : NameSpelling) (global : d.scope ≡ None) (free : has_definition book d.name None ≡ false) where
  abbrev scene : Scene
  scene = scene_of book

  nothing_there : definition_at scene (fold d.name) None ≡ None
  nothing_there = none_named d.name book.definitions free

  -- a word that holds and found something can't mean it
  cant_mean : (scope : Option ℕ) (m : NameMention) → WordHolds scene scope m → is_dangling_word m ≡ false → could_mean (key_of d) scope m ≡ false
  cant_mean scope (names.Var word) holds e = refl
  cant_mean scope (names.Dangling word) holds e = cc
  cant_mean (Some id) (names.Name found) holds e = ap (λ s. bytes_eq (fold d.name) found.name && same_scope s (Some id)) global ∙ and_false (bytes_eq (fold d.name) found.name)
  cant_mean None (names.Name found) holds e = by_name (bytes_eq (fold d.name) found.name) refl
    where
      by_name : (b : Bool) → bytes_eq (fold d.name) found.name ≡ b → (b && same_scope d.scope None) ≡ false
      by_name false t = refl
      by_name true t =
          let same : fold d.name ≡ found.name = (bytes_eq-Decides (fold d.name) found.name).0 t in
          let none : definition_at scene found.name None ≡ None = ap (λ f. definition_at scene f None) (sym same) ∙ nothing_there in
          absurd (nothing_is_found (sym (ap (λ (o : Option NameSpelling). option_map key_of (option_or o o)) none) ∙ holds))

  -- nor can a word with its sheet that found something
  local_cant_mean : (s : SheetMention) (m : NameMention) → is_dangling_word m ≡ false → could_mean_local (key_of d) s m ≡ false
  local_cant_mean sheets.Own m e = refl
  local_cant_mean (sheets.Sheet found) (names.Var w) e = refl
  local_cant_mean (sheets.Sheet found) (names.Name key) e = refl
  local_cant_mean (sheets.Sheet found) (names.Dangling w) e = cc
  local_cant_mean (sheets.Dangling typed) m e = refl

  module _ (n : Notations) (valid : IsValidCore n book) where
    tree_stays : (scope : Option ℕ) (body : Formula) → OfTree (IsSettled (english_function n) scene scope) body → has_dangling body ≡ false → formula_after (definition_added d) scope body ≡ body
    tree_stays scope (formulas.Raw text) settled found = refl
    tree_stays scope (formulas.Tree t) settled found =
        let spared : IsSpared (definition_added d) scope t =
        mentions_both (SheetHolds scene) (λ m. is_dangling m ≡ false) (λ m. changes_sheet (definition_added d) m ≡ false) (WordHolds scene scope) (λ m. is_dangling_word m ≡ false) (λ m. changes_word (definition_added d) scope m ≡ false)
        (LocalHolds scene) (λ s m. is_dangling_local s m ≡ false) (λ s m. changes_local (definition_added d) s m ≡ false) (λ m holds e. refl) (cant_mean scope) (λ s m p q holds e. local_cant_mean s m e) t
        (settled_holds (english_function n) scene scope t settled) (none_passes is_dangling is_dangling_word is_dangling_local t found) in
        ap (λ (u : Bound). let f : Formula = formulas.Tree u in f) (spared_is_same (definition_added d) scope t spared)

    bodies_stay : (ds : List Definition) → AllByRecursion (OfBody (IsSettled (english_function n) scene)) ds → AllByRecursion (StaysWhereFound (definition_added d)) ds
    bodies_stay [] h = tt
    bodies_stay (e ∷ ds) h = (λ found. ap (λ (body : Formula). let x : Definition = record e { body = body } in x) (tree_stays e.scope e.body h.0 found), bodies_stay ds h.1)

    pub adding_bodies : AllByRecursion (StaysWhereFound (definition_added d)) book.definitions
    adding_bodies = bodies_stay book.definitions (trees_settled n book valid).bodies
