-- What is found in a scene is found again by its own spelling.
use Rattle.std.proofs.Common.{◌≡◌, ℕ, List, [], ◌∷◌, map, Bool, true, false, cond, ◌&&◌, Option, None, Some, refl, sym, ap, ap₂, subst, ◌∙◌, nat_eq, inl, inr}
use Rattle.std.specs.Option.{option_or}
use Rattle.std.specs.Prelude.{option_map, bytes_eq, unwrap_or}
use Rattle.std.specs.List.{find, list_any, IsDistinct, AllByRecursion}
use Rattle.std.proofs.lemmas.Bool.{and_parts, and_from, cases_Bool, eqb-true, eq-eqb}
use Rattle.std.proofs.lemmas.Slice.Eq.{bytes_eq-Decides}
use Rattle.ic_laws.specs.Name.{fold, agrees}
use Rattle.ic_laws.specs.declared.tree.NameKey.{NameKey}
use Rattle.ic_laws.specs.declared.tree.NameMention.TheVariants as names
use Rattle.ic_laws.specs.declared.tree.SheetMention.{SheetMention}
use Rattle.ic_laws.specs.declared.tree.SheetMention.TheVariants as sheets
use Rattle.std.specs.Fmt.{decimal}
use Rattle.std.specs.Prelude.{if◌then◌else◌}
use Rattle.ic_laws.specs.Binding.{Binders, bound_local, bound_sheet, bound_word, is_bound_by, name_or_dangling, sheet_or_dangling, spelled_sheet, spelled_word}
use Rattle.ic_laws.specs.Scene.{SheetsDiffer, definition_at, found_local, found_name, found_sheet, key_found, key_of, local_key, name_of_key, name_of_sheet, definition_spelling, same_scope, sheet_spelling}
use Rattle.ic_laws.specs.declared.scene.NameSpelling.{NameSpelling}
use Rattle.ic_laws.specs.declared.scene.Scene.{Scene}
use Rattle.ic_laws.specs.declared.scene.SheetName.{SheetName}

some_same : {X : Type 0} (x y : X) → Some x ≡ Some y → x ≡ y
some_same x y e = cc

pub find_here : {X : Type 0} (p : X → Bool) (x : X) (xs : List X) → p x ≡ true → find p (x ∷ xs) ≡ Some x
find_here p x xs t = ap (λ b. cond b (Some x) (find p xs)) t

pub find_later : {X : Type 0} (p : X → Bool) (x : X) (xs : List X) → p x ≡ false → find p (x ∷ xs) ≡ find p xs
find_later p x xs f = ap (λ b. cond b (Some x) (find p xs)) f

-- what is found first passes
pub found_passes : {X : Type 0} (p : X → Bool) (xs : List X) (x : X) → find p xs ≡ Some x → p x ≡ true
found_passes p [] x e = cc
found_passes p (y ∷ ys) x e =
    elim (cases_Bool (p y)) [
      | inl t ↦ subst (λ z. p z ≡ true) (some_same y x (sym (find_here p y ys t) ∙ e)) t
      | inr f ↦ found_passes p ys x (sym (find_later p y ys f) ∙ e)
    ]

-- where one test finds something that passes another, the other finds something too
pub found_by_other : {X : Type 0} (p q : X → Bool) (xs : List X) (x : X) → find p xs ≡ Some x → q x ≡ true → (y : X) × (find q xs ≡ Some y)
found_by_other p q [] x e t = absurd (let no : None ≡ Some x = e in cc)
found_by_other {X} p q (z ∷ zs) x e t =
    elim (cases_Bool (q z)) [
      | inl here ↦ (z, find_here q z zs here)
      | inr f ↦
          elim (cases_Bool (p z)) [
            | inl here ↦ let same : z ≡ x = some_same z x (sym (find_here p z zs here) ∙ e) in absurd (clash (q x) t (subst (λ y. q y ≡ false) same f))
            | inr later ↦
                let more = found_by_other p q zs x (sym (find_later p z zs later) ∙ e) t in (more.0, find_later q z zs f ∙ more.1)
          ]
    ]
  where
    clash : (b : Bool) → b ≡ true → b ≡ false → ⊥
    clash b t f = cc

-- names agree where their foldings are equal
pub agree_from : (a b : List ℕ) → agrees a b ≡ true → fold a ≡ fold b
agree_from a b t = (bytes_eq-Decides (fold a) (fold b)).0 t

pub agree_to : (a b : List ℕ) → fold a ≡ fold b → agrees a b ≡ true
agree_to a b e = (bytes_eq-Decides (fold a) (fold b)).1 e

pub found_name_by_fold : (scene : Scene) (scope : Option ℕ) (a b : List ℕ) → fold a ≡ fold b → found_name scene scope a ≡ found_name scene scope b
found_name_by_fold scene scope a b e = ap (λ f. option_map key_of (option_or (definition_at scene f scope) (definition_at scene f None))) e

-- where no two elements have equal keys, what is found is the first with its key
first_by_key : {X K : Type 0} (key : X → K) (eq : K → K → Bool) (eq_refl : (k : K) → eq k k ≡ true) (p : X → Bool) (xs : List X) (x : X) → IsDistinct eq (map key xs) → find p xs ≡ Some x
    → find (λ y. eq (key y) (key x)) xs ≡ Some x
unfolding IsDistinct
first_by_key key eq eq_refl p [] x differ e = absurd (let no : None ≡ Some x = e in cc)
first_by_key {X} {K} key eq eq_refl p (y ∷ ys) x differ e =
    elim (cases_Bool (p y)) [
      | inl here ↦
          let same : y ≡ x = some_same y x (sym (find_here p y ys here) ∙ e) in
          find_here (λ z. eq (key z) (key x)) y ys (subst (λ z. eq (key z) (key x) ≡ true) (sym same) (eq_refl (key x))) ∙ ap (λ z. Some z) same
      | inr later ↦
          let below : find p ys ≡ Some x = sym (find_later p y ys later) ∙ e in
          find_later (λ z. eq (key z) (key x)) y ys (differs ys differ.0 below) ∙ first_by_key key eq eq_refl p ys x differ.1 below
    ]
  where
    differs : (zs : List X) → AllByRecursion (λ k. eq (key y) k ≡ false) (map key zs) → find p zs ≡ Some x → eq (key y) (key x) ≡ false
    differs [] each e = absurd (let no : None ≡ Some x = e in cc)
    differs (z ∷ zs) each e =
        elim (cases_Bool (p z)) [
          | inl here ↦ subst (λ u. eq (key y) (key u) ≡ false) (some_same z x (sym (find_here p z zs here) ∙ e)) each.0
          | inr later ↦ differs zs each.1 (sym (find_later p z zs later) ∙ e)
        ]

-- the first sheet whose name agrees with a sheet's is that sheet
first_agreeing : (p : SheetName → Bool) (sheets : List SheetName) (sheet : SheetName) → IsDistinct agrees (map (λ (s : SheetName). s.name) sheets) → find p sheets ≡ Some sheet
    → find (λ s. agrees s.name sheet.name) sheets ≡ Some sheet
first_agreeing p sheets sheet differ e = first_by_key (λ (s : SheetName). s.name) agrees (λ k. agree_to k k refl) p sheets sheet differ e

-- a sheet is found by its own name
pub found_by_name : (scene : Scene) → SheetsDiffer scene → (id : ℕ) (sheet : SheetName) → find (λ x. nat_eq x.id id) scene.sheets ≡ Some sheet → found_sheet scene sheet.name ≡ Some id
found_by_name scene differ id sheet e =
    ap (option_map (λ (x : SheetName). x.id)) (first_agreeing (λ x. nat_eq x.id id) scene.sheets sheet differ e)
    ∙ ap (λ n. Some n) (eqb-true sheet.id id (found_passes (λ x. nat_eq x.id id) scene.sheets sheet e))

-- and so it is by its spelling, whatever an id without a sheet is spelled
pub found_by_text : (scene : Scene) → SheetsDiffer scene → (id : ℕ) (sheet : SheetName) (other : List ℕ) → find (λ x. nat_eq x.id id) scene.sheets ≡ Some sheet → found_sheet scene (unwrap_or (name_of_sheet scene id) other) ≡ Some id
found_by_text scene differ id sheet other e =
    ap (λ o. found_sheet scene (unwrap_or (option_map (λ (x : SheetName). x.name) o) other)) e ∙ found_by_name scene differ id sheet e

-- the sheet that a name finds is found again by its own name
sheet_found_again : (scene : Scene) → SheetsDiffer scene → (name : List ℕ) (id : ℕ) → found_sheet scene name ≡ Some id → found_sheet scene (sheet_spelling scene id) ≡ Some id
sheet_found_again scene differ name id e = go (find (λ (s : SheetName). agrees s.name name) scene.sheets) refl e
  where
    go : (o : Option SheetName) → find (λ (s : SheetName). agrees s.name name) scene.sheets ≡ o → option_map (λ (s : SheetName). s.id) o ≡ Some id → found_sheet scene (sheet_spelling scene id) ≡ Some id
    go None f e = absurd (let no : None ≡ Some id = e in cc)
    go (Some s) f e =
        let other = found_by_other (λ x. agrees x.name name) (λ x. nat_eq x.id id) scene.sheets s f (eq-eqb s.id id (some_same s.id id e)) in
        found_by_text scene differ id other.0 (decimal id) other.1

pub sheet_settles : (scene : Scene) → SheetsDiffer scene → (sheet : Option (List ℕ)) → bound_sheet scene (spelled_sheet (sheet_spelling scene) (bound_sheet scene sheet)) ≡ bound_sheet scene sheet
sheet_settles scene differ None = refl
sheet_settles scene differ (Some name) = go (found_sheet scene name) refl
  where
    go : (found : Option ℕ) → found_sheet scene name ≡ found → bound_sheet scene (spelled_sheet (sheet_spelling scene) (sheet_or_dangling name found)) ≡ sheet_or_dangling name found
    go None e = ap (sheet_or_dangling name) e
    go (Some id) e = ap (sheet_or_dangling (sheet_spelling scene id)) (sheet_found_again scene differ name id e)

-- the definition that a word finds has a spelling with the word's folding
pub same_scope_self : (scope : Option ℕ) → same_scope scope scope ≡ true
same_scope_self None = refl
same_scope_self (Some n) = eq-eqb n n refl

-- a definition that is found by a key has a name of that folding
pub folds_to_key : (scene : Scene) (folded : List ℕ) (scope : Option ℕ) (definition : NameSpelling) → definition_at scene folded scope ≡ Some definition → fold definition.name ≡ folded
folds_to_key scene folded scope d e =
    (bytes_eq-Decides (fold d.name) folded).0 (and_parts _ _ (found_passes (λ x. bytes_eq (fold x.name) folded && same_scope x.scope scope) scene.names d e)).0

-- a key that is found has the folded name that finds it, and a definition
pub record HasDefinition (scene : Scene) (folded : List ℕ) (key : NameKey) : Type 0 where
  pub same : key.name ≡ folded
  pub definition : NameSpelling
  pub found : definition_at scene key.name key.scope ≡ Some definition

pub found_has_definition : (scene : Scene) (scope : Option ℕ) (folded : List ℕ) (key : NameKey) → key_found scene scope folded ≡ Some key → HasDefinition scene folded key
found_has_definition scene scope folded key e = go (definition_at scene folded scope) refl (definition_at scene folded None) refl e
  where
    own : (d : NameSpelling) (at : Option ℕ) → definition_at scene folded at ≡ Some d → HasDefinition scene folded (key_of d)
    own d at f =
        let passes = and_from _ _ ((bytes_eq-Decides (fold d.name) (fold d.name)).1 refl) (same_scope_self d.scope) in
        let other = found_by_other (λ x. bytes_eq (fold x.name) folded && same_scope x.scope at) (λ x. bytes_eq (fold x.name) (fold d.name) && same_scope x.scope d.scope) scene.names d f passes in
        record { same = folds_to_key scene folded at d f; definition = other.0; found = other.1 }

    go : (local : Option NameSpelling) → definition_at scene folded scope ≡ local → (global : Option NameSpelling) → definition_at scene folded None ≡ global → option_map key_of (option_or local global) ≡ Some key → HasDefinition scene folded key
    go (Some d) f global g e = subst (HasDefinition scene folded) (some_same (key_of d) key e) (own d scope f)
    go None f (Some d) g e = subst (HasDefinition scene folded) (some_same (key_of d) key e) (own d None g)
    go None f None g e = absurd (let no : None ≡ Some key = e in cc)

-- the definition that a folded name finds has a spelling of that folding, whatever a key without one is spelled
pub spelled_alike : (scene : Scene) (scope : Option ℕ) (folded : List ℕ) (key : NameKey) (other : List ℕ) → key_found scene scope folded ≡ Some key → fold (unwrap_or (name_of_key scene key) other) ≡ folded
spelled_alike scene scope folded key other e =
    let has = found_has_definition scene scope folded key e in
    ap (λ o. fold (unwrap_or (option_map (λ (x : NameSpelling). x.name) o) other)) has.found ∙ (folds_to_key scene key.name key.scope has.definition has.found ∙ has.same)

pub found_spelled_alike : (scene : Scene) (scope : Option ℕ) (word : List ℕ) (key : NameKey) → found_name scene scope word ≡ Some key → fold (definition_spelling scene key) ≡ fold word
found_spelled_alike scene scope word key e = spelled_alike scene scope (fold word) key key.name e

-- what a word is bound to is spelled with the word's folding
pub word_fold : (scene : Scene) (scope : Option ℕ) (binders : Binders) (word : List ℕ) → fold (spelled_word (definition_spelling scene) (bound_word scene scope binders word)) ≡ fold word
word_fold scene scope binders word = go (is_bound_by binders word) (found_name scene scope word) refl
  where
    go : (b : Bool) (found : Option NameKey) → found_name scene scope word ≡ found → fold (spelled_word (definition_spelling scene) (if b then names.Var word else name_or_dangling word found)) ≡ fold word
    go true found e = refl
    go false None e = refl
    go false (Some key) e = found_spelled_alike scene scope word key e

pub word_settles : (scene : Scene) (scope : Option ℕ) (binders : Binders) (word : List ℕ) → bound_word scene scope binders (spelled_word (definition_spelling scene) (bound_word scene scope binders word)) ≡ bound_word scene scope binders word
word_settles scene scope binders word = go (is_bound_by binders word) refl (found_name scene scope word) refl
  where
    go : (b : Bool) → is_bound_by binders word ≡ b → (found : Option NameKey) → found_name scene scope word ≡ found
        → bound_word scene scope binders (spelled_word (definition_spelling scene) (if b then names.Var word else name_or_dangling word found)) ≡ (if b then names.Var word else name_or_dangling word found)
    go true e found f = ap (λ b. if b then names.Var word else name_or_dangling word (found_name scene scope word)) e
    go false e None f = ap₂ (λ b o. if b then names.Var word else name_or_dangling word o) e f
    go false e (Some key) f =
        let spelling : List ℕ = definition_spelling scene key in
        let same : fold spelling ≡ fold word = found_spelled_alike scene scope word key f in
        ap₂ (λ b o. if b then names.Var spelling else name_or_dangling spelling o) (ap (λ w. list_any (λ (variable : List ℕ). bytes_eq (fold variable) w) binders) same ∙ e) (found_name_by_fold scene scope spelling word same ∙ f)

-- what is found among what is local to a sheet is found from that sheet
pub local_is_found : (scene : Scene) (id : ℕ) (folded : List ℕ) (key : NameKey) → local_key scene id folded ≡ Some key → key_found scene (Some id) folded ≡ Some key
local_is_found scene id folded key e = go (definition_at scene folded (Some id)) refl e
  where
    go : (o : Option NameSpelling) → definition_at scene folded (Some id) ≡ o → option_map key_of o ≡ Some key → key_found scene (Some id) folded ≡ Some key
    go None f g = absurd (let no : None ≡ Some key = g in cc)
    go (Some d) f g = ap (λ o. option_map key_of (option_or o (definition_at scene folded None))) f ∙ g

-- a word with its sheet is found again by its own spelling
pub local_settles : (scene : Scene) (sheet : SheetMention) (word : List ℕ) → bound_local scene sheet (spelled_word (definition_spelling scene) (bound_local scene sheet word)) ≡ bound_local scene sheet word
local_settles scene sheets.Own word = refl
local_settles scene (sheets.Dangling name) word = refl
local_settles scene (sheets.Sheet id) word = go (found_local scene id word) refl
  where
    go : (found : Option NameKey) → found_local scene id word ≡ found → bound_local scene (sheets.Sheet id) (spelled_word (definition_spelling scene) (name_or_dangling word found)) ≡ name_or_dangling word found
    go None e = ap (name_or_dangling word) e
    go (Some key) e =
        let spelling : List ℕ = definition_spelling scene key in
        let same : fold spelling ≡ fold word = spelled_alike scene (Some id) (fold word) key key.name (local_is_found scene id (fold word) key e) in
        ap (name_or_dangling spelling) (ap (local_key scene id) same ∙ e)
