-- Scenes that find and spell alike keep the same trees; so do those whose sheets stand in another order.
use mathlib.Core.Path.{fun_ext}
use Rattle.std.proofs.Common.{◌≡◌, ℕ, zero, suc, ◌<◌, List, [], ◌∷◌, length, map, Bool, true, false, Option, None, Some, refl, sym, ap, ap₂, subst, ◌∙◌, nat_eq, arith, inl, inr, if◌then◌else◌}
use Rattle.std.specs.Prelude.{option_map, unwrap_or}
use Rattle.std.specs.Cmp.{IsEquivalence, nat_eq_equiv}
use Rattle.std.specs.Fmt.{decimal}
use Rattle.std.specs.List.{AllByRecursion, Contains, IsDistinct, find}
use Rattle.std.specs.List.Sorted.{IsPermutation}
use Rattle.std.proofs.lemmas.Bool.{cases_Bool}
use Rattle.std.proofs.lemmas.List.Elements.{All-contains, All-contains_itself, All-from_recursion, recursion_from_All}
use Rattle.std.proofs.lemmas.List.Sorted.{Contains-permutation, IsPermutation-map, IsPermutation-sym}
use Rattle.std.proofs.lemmas.Map.Keys.{IsDistinct-IsPermutation, IsDistinct-head, IsDistinct-tail}
use Rattle.std.proofs.lemmas.Simd.{map-map}
use Rattle.ic_laws.specs.Binding.{Binders, Binds, BindsPair, IsSettled, all_bound, bound, bound_call, bound_kind, bound_local, bound_pair_step, bound_sheet, bound_word, is_bound_by, name_or_dangling, sheet_or_dangling, spelled, spelled_with}
use Rattle.ic_laws.specs.CoreBook.{CoreBook, ids_of, scene_of}
use Rattle.ic_laws.specs.CoreStep.{moved}
use Rattle.ic_laws.specs.Name.{agrees}
use Rattle.ic_laws.specs.Notations.{Notations, english_function}
use Rattle.ic_laws.specs.Scene.{IdsDiffer, SheetsDiffer, found_local, found_name, found_sheet, definition_spelling, sheet_spelling}
use Rattle.ic_laws.specs.Tree.{Bound, Spelled}
use Rattle.ic_laws.specs.ValidCore.{IsKeptWhere, IsValidCore}
use Rattle.ic_laws.specs.declared.reference.Place.{Place}
use Rattle.ic_laws.specs.declared.scene.Scene.{Scene}
use Rattle.ic_laws.specs.declared.scene.SheetName.{SheetName}
use Rattle.ic_laws.specs.declared.tree.NameKey.{NameKey}
use Rattle.ic_laws.specs.declared.tree.NameMention.{NameMention}
use Rattle.ic_laws.specs.declared.tree.NameMention.TheVariants as names
use Rattle.ic_laws.specs.declared.tree.SheetMention.{SheetMention}
use Rattle.ic_laws.specs.declared.tree.SheetMention.TheVariants as sheets
use Rattle.ic_laws.specs.declared.tree.Tree.{Tree-F, fold-Tree}
use Rattle.ic_laws.specs.declared.tree.Tree.TheOpen as one
use Rattle.ic_laws.proofs.CoreLemmas.{agrees_equiv}
use Rattle.ic_laws.proofs.binding.Again.{BoundKind, bound_node}
use Rattle.ic_laws.proofs.binding.SceneLemmas.{find_here, find_later, found_passes}
use Rattle.ic_laws.proofs.core.KeptBook.{mentioned}
use Rattle.ic_laws.proofs.core.Named.{book_named}
use Rattle.ic_laws.proofs.core.SheetMoved.{moved_permutes}
use Rattle.ic_laws.proofs.kept.Kept.{found_has}

-- Two scenes find the same by each text, and spell each sheet and each definition alike.
pub record FindsAlike (before after : Scene) : Type 0 where
  pub sheet : (name : List ℕ) → found_sheet before name ≡ found_sheet after name
  pub name : (scope : Option ℕ) (word : List ℕ) → found_name before scope word ≡ found_name after scope word
  pub local : (id : ℕ) (word : List ℕ) → found_local before id word ≡ found_local after id word
  pub sheet_text : (id : ℕ) → sheet_spelling before id ≡ sheet_spelling after id
  pub key_text : (key : NameKey) → definition_spelling before key ≡ definition_spelling after key

-- a node with what binds each child
abbrev ToBind : Type 0
ToBind = Tree-F (Option (List ℕ)) (List ℕ) Binds BindsPair

module _ (english : List ℕ → Option ℕ) (before after : Scene) (alike : FindsAlike before after) (scope : Option ℕ) where
  sheet_alike : (name : Option (List ℕ)) → bound_sheet before name ≡ bound_sheet after name
  sheet_alike None = refl
  sheet_alike (Some name) = ap (sheet_or_dangling name) (alike.sheet name)

  word_alike : (binders : Binders) (word : List ℕ) → bound_word before scope binders word ≡ bound_word after scope binders word
  word_alike binders word = ap (λ found. if is_bound_by binders word then names.Var word else name_or_dangling word found) (alike.name scope word)

  local_alike : (sheet : SheetMention) (word : List ℕ) → bound_local before sheet word ≡ bound_local after sheet word
  local_alike sheets.Own word = refl
  local_alike (sheets.Sheet id) word = ap (name_or_dangling word) (alike.local id word)
  local_alike (sheets.Dangling name) word = refl

  kind_alike : (kind : ToBind) (binders : Binders) → bound_kind english before scope kind binders ≡ bound_kind english after scope kind binders
  kind_alike (one.Reference sheet place) binders = ap (λ (s : SheetMention). let k : BoundKind = one.Reference s place in k) (sheet_alike sheet)
  kind_alike (one.Local sheet word) binders =
      ap₂ (λ (s : SheetMention) (w : NameMention). let k : BoundKind = one.Local s w in k) (sheet_alike sheet)
      (ap (λ s. bound_local before s word) (sheet_alike sheet) ∙ local_alike (bound_sheet after sheet) word)
  kind_alike (one.Word word) binders = ap (λ (w : NameMention). let k : BoundKind = one.Word w in k) (word_alike binders word)
  kind_alike (one.Call word arguments) binders = at (english word)
    where
      at : (found : Option ℕ) → bound_call english before scope found word arguments binders ≡ bound_call english after scope found word arguments binders
      at (Some number) = refl
      at None = ap (λ (w : NameMention). let k : BoundKind = one.Call w (all_bound arguments binders) in k) (word_alike binders word)
  kind_alike kind binders = refl

  pub bound_alike : (t : Spelled) → bound english before scope t ≡ bound english after scope t
  bound_alike t =
      ap (λ (f : ToBind → Binders → BoundKind). fold-Tree (Option (List ℕ)) (List ℕ) Binds BindsPair (λ kind binders. bound_node (f kind binders)) (bound_pair_step english before scope) t [])
      (fun_ext (λ kind. fun_ext (λ binders. kind_alike kind binders)))

  pub spelled_alike : (t : Bound) → spelled before t ≡ spelled after t
  spelled_alike t = ap₂ (λ (f : ℕ → List ℕ) (g : NameKey → List ℕ). spelled_with f g t) (fun_ext alike.sheet_text) (fun_ext alike.key_text)

  pub settled_alike : (t : Bound) → IsSettled english before scope t → IsSettled english after scope t
  settled_alike t settled = ap (bound english after scope) (sym (spelled_alike t)) ∙ (sym (bound_alike (spelled before t)) ∙ settled)

-- What is kept in one is kept in the other.
pub kept_where_alike : (n : Notations) (before after : Scene) → FindsAlike before after → (scope : Option ℕ) (Inside : Place → Type 0) (t : Bound) → IsKeptWhere n Inside before scope t → IsKeptWhere n Inside after scope t
kept_where_alike n before after alike scope Inside t is_kept =
    record { well = is_kept.well; settled = settled_alike (english_function n) before after alike scope t is_kept.settled; parts = is_kept.parts }

-- another order ----

-- what is found is an element, and where an element passes something is found
found_contained : {X : Type 0} (p : X → Bool) (xs : List X) (x : X) → find p xs ≡ Some x → Contains xs x
found_contained p xs x e = found_has (Contains xs) p xs (recursion_from_All (Contains xs) xs (All-contains_itself xs)) x e

none_passes : {X : Type 0} (p : X → Bool) (xs : List X) → find p xs ≡ None → AllByRecursion (λ x. p x ≡ false) xs
none_passes p [] e = tt
none_passes {X} p (x ∷ xs) e =
    elim (cases_Bool (p x)) [
      | inl here ↦ let no : Some x ≡ None = sym (find_here p x xs here) ∙ e in cc
      | inr later ↦ (later, none_passes p xs (sym (find_later p x xs later) ∙ e))
    ]

contained_passes_not : {X : Type 0} (p : X → Bool) (xs : List X) (x : X) → find p xs ≡ None → Contains xs x → p x ≡ false
contained_passes_not p xs x e h = All-contains (λ y. p y ≡ false) xs x (All-from_recursion (λ y. p y ≡ false) xs (none_passes p xs e)) h

all_unmapped : {A B : Type 0} (P : B → Type 0) (f : A → B) (xs : List A) → AllByRecursion P (map f xs) → AllByRecursion (λ x. P (f x)) xs
all_unmapped P f [] h = tt
all_unmapped P f (x ∷ xs) h = (h.0, all_unmapped P f xs h.1)

module _ {X K : Type 0} (key : X → K) (eq : K → K → Bool) (laws : IsEquivalence eq) where
  -- where no two keys are equal, an element with the key is what is found by it
  found_by_key : (q : K) (xs : List X) (x : X) → IsDistinct eq (map key xs) → Contains xs x → eq (key x) q ≡ true → find (λ y. eq (key y) q) xs ≡ Some x
  found_by_key q [] x differ (k, less, at) same = absurd (omega arith)
  found_by_key q (y ∷ ys) x differ (zero, less, at) same = find_here (λ z. eq (key z) q) y ys (subst (λ z. eq (key z) q ≡ true) (sym at) same) ∙ ap (λ z. Some z) at
  found_by_key q (y ∷ ys) x differ (suc k, less, at) same =
      let rest : Contains ys x = (k, omega arith, at) in
      let apart : eq (key y) (key x) ≡ false = All-contains (λ z. eq (key y) (key z) ≡ false) ys x (All-from_recursion (λ z. eq (key y) (key z) ≡ false) ys (all_unmapped (λ k. eq (key y) k ≡ false) key ys (IsDistinct-head eq (key y) (map key ys) differ))) rest in
      elim (cases_Bool (eq (key y) q)) [
        | inl here ↦
            let joined : eq (key y) (key x) ≡ true = sym (laws.congr q (key y) (key x) (laws.symm q (key y) ∙ here)) ∙ (laws.symm q (key x) ∙ same) in cc
        | inr later ↦ find_later (λ z. eq (key z) q) y ys later ∙ found_by_key q ys x (IsDistinct-tail eq (key y) (map key ys) differ) rest same
      ]

  -- so lists of the same elements find the same
  pub found_permuted : (q : K) (xs ys : List X) → IsPermutation xs ys → IsDistinct eq (map key ys) → find (λ x. eq (key x) q) xs ≡ find (λ x. eq (key x) q) ys
  found_permuted q xs ys permuted differ = at (find (λ x. eq (key x) q) xs) refl
    where
      nothing : (o : Option X) → find (λ x. eq (key x) q) xs ≡ None → find (λ x. eq (key x) q) ys ≡ o → None ≡ o
      nothing None e f = refl
      nothing (Some y) e f =
          let p : X → Bool = λ x. eq (key x) q in
          let no : p y ≡ false = contained_passes_not p xs y e (Contains-permutation ys xs y (IsPermutation-sym xs ys permuted) (found_contained p ys y f)) in
          let yes : p y ≡ true = found_passes p ys y f in cc

      at : (o : Option X) → find (λ x. eq (key x) q) xs ≡ o → find (λ x. eq (key x) q) xs ≡ find (λ x. eq (key x) q) ys
      at (Some x) e = e ∙ sym (found_by_key q ys x differ (Contains-permutation xs ys x permuted (found_contained (λ y. eq (key y) q) xs x e)) (found_passes (λ y. eq (key y) q) xs x e))
      at None e = e ∙ nothing (find (λ x. eq (key x) q) ys) e refl

-- Scenes of the same definitions, whose sheets are the same in another order, find and spell alike.
pub permuted_alike : (before after : Scene) → IsPermutation before.sheets after.sheets → before.names ≡ after.names → SheetsDiffer after → IdsDiffer after → FindsAlike before after
permuted_alike before after permuted same_names sheets_differ ids_differ = record {
  sheet = λ name. ap (option_map (λ (s : SheetName). s.id)) (found_permuted (λ (s : SheetName). s.name) agrees agrees_equiv name before.sheets after.sheets permuted sheets_differ);
  name = λ scope word. ap (λ definitions. found_name (record { sheets = after.sheets; names = definitions }) scope word) same_names;
  local = λ id word. ap (λ definitions. found_local (record { sheets = after.sheets; names = definitions }) id word) same_names;
  sheet_text = λ id. ap (λ o. unwrap_or (option_map (λ (s : SheetName). s.name) o) (decimal id)) (found_permuted (λ (s : SheetName). s.id) nat_eq nat_eq_equiv id before.sheets after.sheets permuted ids_differ);
  key_text = λ key. ap (λ definitions. definition_spelling (record { sheets = after.sheets; names = definitions }) key) same_names;
}

-- a book in which a sheet is moved ----

ids_differ : (book : CoreBook) → IsDistinct nat_eq (ids_of book) → IdsDiffer (scene_of book)
ids_differ book h = subst (IsDistinct nat_eq) (sym (map-map (λ (s : SheetName). s.id) mentioned book.sheets)) h

pub moved_alike : (n : Notations) (book : CoreBook) → IsValidCore n book → (from to : ℕ) → from < length book.sheets → FindsAlike (scene_of book) (scene_of (record book { sheets = moved from to book.sheets }))
moved_alike n book valid from to within =
    let permuted : IsPermutation (map mentioned book.sheets) (map mentioned (moved from to book.sheets)) = IsPermutation-map mentioned book.sheets (moved from to book.sheets) (moved_permutes book.sheets from to within) in
    let after : List SheetName = map mentioned (moved from to book.sheets) in
    permuted_alike (scene_of book) (scene_of (record book { sheets = moved from to book.sheets })) permuted refl
    (IsDistinct-IsPermutation agrees agrees_equiv.symm (map (λ (s : SheetName). s.name) (map mentioned book.sheets)) (map (λ (s : SheetName). s.name) after) (IsPermutation-map (λ (s : SheetName). s.name) (map mentioned book.sheets) after permuted) (book_named n book valid).differ)
    (IsDistinct-IsPermutation nat_eq nat_eq_equiv.symm (map (λ (s : SheetName). s.id) (map mentioned book.sheets)) (map (λ (s : SheetName). s.id) after) (IsPermutation-map (λ (s : SheetName). s.id) (map mentioned book.sheets) after permuted) (ids_differ book valid.ids_differ))
