-- What mentions become where a definition comes, and where one goes.
use Rattle.std.proofs.Common.{◌≡◌, ℕ, List, [], ◌∷◌, ◌++◌, Bool, true, false, cond, ◌&&◌, ◌||◌, Option, None, Some, refl, sym, ap, ap₂, subst, ◌∙◌, nat_eq, inl, inr, if◌then◌else◌}
use Rattle.std.specs.Prelude.{bytes_eq, option_map, remove, slice_get, unwrap_or}
use Rattle.std.specs.Cmp.Lexicographic.{nat_list_eq_equiv}
use Rattle.std.specs.Option.{option_or}
use Rattle.std.specs.List.{find, list_any}
use Rattle.std.proofs.lemmas.Bool.{and_from, and_parts, cases_Bool, eqb-true}
use Rattle.std.proofs.lemmas.List.Folds.{find-append}
use Rattle.std.proofs.lemmas.Slice.Eq.{bytes_eq-Decides}
use Rattle.ic_laws.proofs.binding.SceneLemmas.{found_passes, same_scope_self}
use Rattle.ic_laws.proofs.keeping.Kept.{Become, key_kept, local_becomes, local_word_stays, sheet_stays, word_stays}
use Rattle.ic_laws.proofs.keeping.Removing.{finds_itself, finds_no_other, removed_finds, removed_finds_none}
use Rattle.ic_laws.specs.Binding.{bound_local, name_or_dangling, spelled_word}
use Rattle.ic_laws.specs.Changes.{LocalHolds, SheetHolds, WordHolds, changed_local, changed_sheet, changed_word, could_mean_local, definition_added, definition_gone, is_of_name, word_after}
use Rattle.ic_laws.specs.Keeping.{kept_name, same_keys}
use Rattle.ic_laws.specs.Name.{fold}
use Rattle.ic_laws.specs.Scene.{KeysDiffer, SheetsDiffer, definition_at, found_local, found_name, found_sheet, key_found, key_of, local_key, definition_spelling, same_key, same_scope}
use Rattle.ic_laws.specs.declared.scene.NameSpelling.{NameSpelling}
use Rattle.ic_laws.specs.declared.scene.Scene.{Scene}
use Rattle.ic_laws.specs.declared.scene.SheetName.{SheetName}
use Rattle.ic_laws.specs.declared.tree.NameKey.{NameKey}
use Rattle.ic_laws.specs.declared.tree.NameMention.{NameMention}
use Rattle.ic_laws.specs.declared.tree.NameMention.TheVariants as names
use Rattle.ic_laws.specs.declared.tree.SheetMention.{SheetMention}
use Rattle.ic_laws.specs.declared.tree.SheetMention.TheVariants as sheets
use Rattle.ic_laws.proofs.core.Defined.{scope_symm as same_scope_flip}

-- keys ----

pub same_scope_from : (a b : Option ℕ) → same_scope a b ≡ true → a ≡ b
same_scope_from None None e = refl
same_scope_from None (Some b) e = absurd (let no : false ≡ true = e in cc)
same_scope_from (Some a) None e = absurd (let no : false ≡ true = e in cc)
same_scope_from (Some a) (Some b) e = ap (λ n. Some n) (eqb-true a b e)

pub same_key_flip : (a b : NameKey) → same_key a b ≡ same_key b a
same_key_flip a b = ap₂ ◌&&◌ (nat_list_eq_equiv.symm a.name b.name) (same_scope_flip a.scope b.scope)

pub key_itself : (a : NameKey) → same_key a a ≡ true
key_itself a = and_from _ _ ((bytes_eq-Decides a.name a.name).1 refl) (same_scope_self a.scope)

abbrev pub key_at : List ℕ → Option ℕ → NameKey
key_at folded scope = record { name = folded; scope = scope }

-- keys that are the same are equal
pub same_key_from : (a b : NameKey) → same_key a b ≡ true → a ≡ b
same_key_from a b e = let parts = and_parts (bytes_eq a.name b.name) (same_scope a.scope b.scope) e in ap₂ key_at ((bytes_eq-Decides a.name b.name).0 parts.0) (same_scope_from a.scope b.scope parts.1)

-- a definition that is found under a name and a scope has that key
found_key : (scene : Scene) (folded : List ℕ) (scope : Option ℕ) (d : NameSpelling) → definition_at scene folded scope ≡ Some d → key_of d ≡ key_at folded scope
found_key scene folded scope d e = same_key_from (key_of d) (key_at folded scope) (found_passes (λ x. same_key (key_of x) (key_at folded scope)) scene.names d e)

-- the local one is found, else the one for all sheets
abbrev either_key : Option NameSpelling → Option NameSpelling → Option NameKey
either_key local global = option_map key_of (option_or local global)

neither : (local global : Option NameSpelling) → either_key local global ≡ None → (local ≡ None) × (global ≡ None)
neither None None e = (refl, refl)
neither None (Some d) e = absurd (let no : Some (key_of d) ≡ None = e in cc)
neither (Some d) global e = absurd (let no : Some (key_of d) ≡ None = e in cc)

-- sheets find the same where they are the same
sheets_hold : (before after : Scene) → after.sheets ≡ before.sheets → (m : SheetMention) → SheetHolds before m → SheetHolds after m
sheets_hold before after e sheets.Own h = tt
sheets_hold before after e (sheets.Sheet id) h = ap (λ (ss : List SheetName). list_any (λ (s : SheetName). nat_eq s.id id) ss) e ∙ h
sheets_hold before after e (sheets.Dangling name) h = ap (λ (ss : List SheetName). let scene : Scene = record { sheets = ss; names = before.names } in found_sheet scene name) e ∙ h

-- a definition comes ----

pub record Adding (before after : Scene) (d : NameSpelling) : Type 0 where
  pub sheets : after.sheets ≡ before.sheets
  pub differ : SheetsDiffer after
  pub names : after.names ≡ before.names ++ d ∷ []

module _ (before after : Scene) (d : NameSpelling) (adding : Adding before after d) (scope : Option ℕ) where
  abbrev has_key : List ℕ → Option ℕ → Bool
  has_key folded at = same_key (key_of d) (key_at folded at)

  abbrev new_at : List ℕ → Option ℕ → Option NameSpelling
  new_at folded at = cond (has_key folded at) (Some d) None

  -- it is found where no other is
  found_after : (folded : List ℕ) → key_found after scope folded ≡ either_key (option_or (definition_at before folded scope) (new_at folded scope)) (option_or (definition_at before folded None) (new_at folded None))
  found_after folded = ap₂ either_key (at_after scope) (at_after None)
    where
      at_after : (at : Option ℕ) → definition_at after folded at ≡ option_or (definition_at before folded at) (new_at folded at)
      at_after at = let p : NameSpelling → Bool = λ x. same_key (key_of x) (key_at folded at) in ap (find p) adding.names ∙ find-append p before.names (d ∷ [])

  -- a word that found nothing
  dangling_becomes : (word : List ℕ) → WordHolds before scope (names.Dangling word) → word_after before after scope (names.Dangling word) ≡ changed_word (definition_added d) scope (names.Dangling word)
  dangling_becomes word h =
      let none = neither (definition_at before (fold word) scope) (definition_at before (fold word) None) h in
      ap (name_or_dangling word) (found_after (fold word) ∙ ap₂ (λ a b. either_key (option_or a (new_at (fold word) scope)) (option_or b (new_at (fold word) None))) none.0 none.1)
      ∙ go (bytes_eq (fold d.name) (fold word)) (same_scope d.scope scope) (same_scope d.scope None)
    where
      go : (a b c : Bool) → name_or_dangling word (either_key (cond (a && b) (Some d) None) (cond (a && c) (Some d) None)) ≡ (if a && (b || c) then names.Name (key_of d) else names.Dangling word)
      go false b c = refl
      go true true c = refl
      go true false true = refl
      go true false false = refl

  -- the definition that is found by the name of one that was found
  key_becomes : (key : NameKey) → key_found before scope key.name ≡ Some key → key_found after scope key.name ≡ Some (if has_key key.name scope then key_of d else key)
  key_becomes key h = found_after key.name ∙ go (definition_at before key.name scope) refl (definition_at before key.name None) h (has_key key.name scope) refl
    where
      go : (local : Option NameSpelling) → definition_at before key.name scope ≡ local → (global : Option NameSpelling) → either_key local global ≡ Some key → (b : Bool) → has_key key.name scope ≡ b
          → either_key (option_or local (cond b (Some d) None)) (option_or global (new_at key.name None)) ≡ Some (if b then key_of d else key)
      go (Some x) f global e true t = ap (λ k. Some k) (found_key before key.name scope x f ∙ sym (same_key_from (key_of d) (key_at key.name scope) t))
      go (Some x) f global e false t = e
      go None f global e true t = refl
      go None f (Some y) e false t = e
      go None f None e false t = absurd (let no : None ≡ Some key = e in cc)

  name_becomes : (key : NameKey) → WordHolds before scope (names.Name key) → word_after before after scope (names.Name key) ≡ changed_word (definition_added d) scope (names.Name key)
  name_becomes key h =
      let spelling : List ℕ = kept_name before after same_keys key in
      ap (name_or_dangling spelling) (ap (key_found after scope) (key_kept before after scope key.name key h) ∙ key_becomes key h) ∙ go spelling (has_key key.name scope)
    where
      go : (spelling : List ℕ) (b : Bool) → name_or_dangling spelling (Some (if b then key_of d else key)) ≡ (if b then names.Name (key_of d) else names.Name key)
      go spelling true = refl
      go spelling false = refl

  -- a word with its sheet
  local_key_after : (id : ℕ) (folded : List ℕ) → local_key after id folded ≡ option_map key_of (option_or (definition_at before folded (Some id)) (new_at folded (Some id)))
  local_key_after id folded = let p : NameSpelling → Bool = λ x. same_key (key_of x) (key_at folded (Some id)) in ap (option_map key_of) (ap (find p) adding.names ∙ find-append p before.names (d ∷ []))

  local_dangling : (id : ℕ) (word : List ℕ) → local_key before id (fold word) ≡ None → name_or_dangling word (found_local after id word) ≡ (if could_mean_local (key_of d) (sheets.Sheet id) (names.Dangling word) then names.Name (key_of d) else names.Dangling word)
  local_dangling id word h =
      ap (name_or_dangling word) (local_key_after id (fold word) ∙ ap (λ o. option_map key_of (option_or o (new_at (fold word) (Some id)))) (none_of (definition_at before (fold word) (Some id)) h))
      ∙ go (bytes_eq (fold d.name) (fold word) && same_scope d.scope (Some id))
    where
      none_of : (o : Option NameSpelling) → option_map key_of o ≡ None → o ≡ None
      none_of None e = refl
      none_of (Some x) e = absurd (let no : Some (key_of x) ≡ None = e in cc)

      go : (b : Bool) → name_or_dangling word (option_map key_of (cond b (Some d) None)) ≡ (if b then names.Name (key_of d) else names.Dangling word)
      go true = refl
      go false = refl

  local_named : (id : ℕ) (key : NameKey) → local_key before id key.name ≡ Some key → local_key after id key.name ≡ Some key
  local_named id key h = local_key_after id key.name ∙ go (definition_at before key.name (Some id)) h
    where
      go : (o : Option NameSpelling) → option_map key_of o ≡ Some key → option_map key_of (option_or o (new_at key.name (Some id))) ≡ Some key
      go None e = absurd (let no : None ≡ Some key = e in cc)
      go (Some x) e = e

  local_word : (s : SheetMention) (m : NameMention) → LocalHolds before s m → bound_local after s (spelled_word (kept_name before after same_keys) m) ≡ (if could_mean_local (key_of d) s m then names.Name (key_of d) else m)
  local_word (sheets.Sheet id) (names.Dangling word) h = local_dangling id word h
  local_word (sheets.Sheet id) (names.Name key) h = local_word_stays before after (sheets.Sheet id) (names.Name key) (local_named id key h)
  local_word (sheets.Sheet id) (names.Var word) h = absurd h
  local_word sheets.Own (names.Dangling word) h = refl
  local_word sheets.Own (names.Name key) h = absurd h
  local_word sheets.Own (names.Var word) h = absurd h
  local_word (sheets.Dangling name) (names.Dangling word) h = refl
  local_word (sheets.Dangling name) (names.Name key) h = absurd h
  local_word (sheets.Dangling name) (names.Var word) h = absurd h

  pub added_becomes : Become before after scope (changed_sheet (definition_added d)) (changed_word (definition_added d) scope) (changed_local (definition_added d))
  added_becomes = record {
    sheet = λ m h. sheet_stays before after adding.differ m (sheets_hold before after adding.sheets m h);
    word = word;
    local = λ s m h k. local_becomes before after s s m _ (sheet_stays before after adding.differ s (sheets_hold before after adding.sheets s h)) (local_word s m k);
  }
    where
      word : (m : NameMention) → WordHolds before scope m → word_after before after scope m ≡ changed_word (definition_added d) scope m
      word (names.Var w) h = refl
      word (names.Name key) h = name_becomes key h
      word (names.Dangling w) h = dangling_becomes w h

-- a definition goes ----

pub record Removing (before after : Scene) (index : ℕ) (d : NameSpelling) : Type 0 where
  pub sheets : after.sheets ≡ before.sheets
  pub differ : SheetsDiffer after
  pub keys : KeysDiffer before
  pub at : slice_get before.names index ≡ Some d
  pub names : after.names ≡ remove before.names index

module _ (before after : Scene) (index : ℕ) (d : NameSpelling) (removing : Removing before after index d) (scope : Option ℕ) where
  abbrev of_key : List ℕ → Option ℕ → NameSpelling → Bool
  of_key folded at x = same_key (key_of x) (key_at folded at)

  none_after : (folded : List ℕ) (at : Option ℕ) → definition_at before folded at ≡ None → definition_at after folded at ≡ None
  none_after folded at e = ap (find (of_key folded at)) removing.names ∙ removed_finds_none (of_key folded at) before.names index e

  -- another definition is found as before
  other_after : (key : NameKey) (at : Option ℕ) (x : NameSpelling) → same_key key (key_of d) ≡ false → definition_at before key.name at ≡ Some x → key_of x ≡ key → definition_at after key.name at ≡ Some x
  other_after key at x apart f e =
      ap (find (of_key key.name at)) removing.names
      ∙ (removed_finds (of_key key.name at) before.names index d removing.at not_it
      ∙ f)
    where
      not_it : of_key key.name at d ≡ false
      not_it = elim (cases_Bool (of_key key.name at d)) [
        | inl t ↦
            let same : key ≡ key_of d = sym e ∙ (found_key before key.name at x f ∙ sym (same_key_from (key_of d) (key_at key.name at) t)) in
            absurd (let no : true ≡ false = sym (key_itself (key_of d)) ∙ (ap (λ k. same_key k (key_of d)) (sym same) ∙ apart) in cc)
        | inr g ↦ g
      ]

  -- so a mention of another holds
  other_holds : (key : NameKey) → same_key key (key_of d) ≡ false → WordHolds before scope (names.Name key) → WordHolds after scope (names.Name key)
  other_holds key apart h = go (definition_at before key.name scope) refl (definition_at before key.name None) refl h
    where
      some : (x : NameSpelling) → Some (key_of x) ≡ Some key → key_of x ≡ key
      some x e = cc

      go : (local : Option NameSpelling) → definition_at before key.name scope ≡ local → (global : Option NameSpelling) → definition_at before key.name None ≡ global → either_key local global ≡ Some key → key_found after scope key.name ≡ Some key
      go (Some x) f global g e = ap (λ o. either_key o (definition_at after key.name None)) (other_after key scope x apart f (some x e)) ∙ e
      go None f (Some y) g e = ap₂ either_key (none_after key.name scope f) (other_after key None y apart g (some y e)) ∙ e
      go None f None g e = absurd (let no : None ≡ Some key = e in cc)

  -- one of the definition that goes means the one for all sheets
  no_longer : definition_at after (fold d.name) d.scope ≡ None
  no_longer = ap (find (of_key (fold d.name) d.scope)) removing.names ∙ finds_no_other key_of same_key same_key_flip before.names index d removing.keys removing.at

  spelled_so : kept_name before after same_keys (key_of d) ≡ d.name
  spelled_so =
      ap (λ o. unwrap_or (option_map (λ (x : NameSpelling). x.name) o) (definition_spelling before (key_of d))) no_longer
      ∙ ap (λ o. unwrap_or (option_map (λ (x : NameSpelling). x.name) o) (fold d.name)) (finds_itself key_of same_key same_key_flip key_itself before.names index d removing.keys removing.at)

  local_gone : key_found before scope (fold d.name) ≡ Some (key_of d) → definition_at after (fold d.name) scope ≡ None
  local_gone h = go (definition_at before (fold d.name) scope) refl (definition_at before (fold d.name) None) h
    where
      some : (x : NameSpelling) → Some (key_of x) ≡ Some (key_of d) → key_of x ≡ key_of d
      some x e = cc

      go : (local : Option NameSpelling) → definition_at before (fold d.name) scope ≡ local → (global : Option NameSpelling) → either_key local global ≡ Some (key_of d) → definition_at after (fold d.name) scope ≡ None
      go None f global e = none_after (fold d.name) scope f
      go (Some x) f global e =
          let same : key_of d ≡ key_at (fold d.name) scope = sym (some x e) ∙ found_key before (fold d.name) scope x f in
          subst (λ (k : NameKey). definition_at after (fold d.name) k.scope ≡ None) same no_longer

  it_becomes : WordHolds before scope (names.Name (key_of d)) → word_after before after scope (names.Name (key_of d)) ≡ name_or_dangling d.name (found_name after None d.name)
  it_becomes h =
      ap (λ text. name_or_dangling text (found_name after scope text)) spelled_so
      ∙ ap (name_or_dangling d.name) (ap (λ o. either_key o (definition_at after (fold d.name) None)) (local_gone h) ∙ ap (option_map key_of) (sym (twice (definition_at after (fold d.name) None))))
    where
      twice : (o : Option NameSpelling) → option_or o o ≡ o
      twice None = refl
      twice (Some x) = refl

  -- a word with its sheet
  local_none : (o : Option NameSpelling) → option_map key_of o ≡ None → o ≡ None
  local_none None e = refl
  local_none (Some x) e = absurd (let no : Some (key_of x) ≡ None = e in cc)

  -- one of the definition that goes dangles by its name
  local_gone_here : (id : ℕ) → local_key before id (fold d.name) ≡ Some (key_of d) → definition_at after (fold d.name) (Some id) ≡ None
  local_gone_here id h = go (definition_at before (fold d.name) (Some id)) refl h
    where
      some : (x : NameSpelling) → Some (key_of x) ≡ Some (key_of d) → key_of x ≡ key_of d
      some x e = cc

      go : (local : Option NameSpelling) → definition_at before (fold d.name) (Some id) ≡ local → option_map key_of local ≡ Some (key_of d) → definition_at after (fold d.name) (Some id) ≡ None
      go None f e = none_after (fold d.name) (Some id) f
      go (Some x) f e =
          let same : key_of d ≡ key_at (fold d.name) (Some id) = sym (some x e) ∙ found_key before (fold d.name) (Some id) x f in
          subst (λ (k : NameKey). definition_at after (fold d.name) k.scope ≡ None) same no_longer

  local_it : (id : ℕ) → local_key before id (fold d.name) ≡ Some (key_of d) → bound_local after (sheets.Sheet id) (kept_name before after same_keys (key_of d)) ≡ names.Dangling d.name
  local_it id h = ap (λ text. name_or_dangling text (found_local after id text)) spelled_so ∙ ap (λ o. name_or_dangling d.name (option_map key_of o)) (local_gone_here id h)

  -- one of another is found as before
  local_other : (id : ℕ) (key : NameKey) → same_key key (key_of d) ≡ false → local_key before id key.name ≡ Some key → local_key after id key.name ≡ Some key
  local_other id key apart h = go (definition_at before key.name (Some id)) refl h
    where
      some : (x : NameSpelling) → Some (key_of x) ≡ Some key → key_of x ≡ key
      some x e = cc

      go : (local : Option NameSpelling) → definition_at before key.name (Some id) ≡ local → option_map key_of local ≡ Some key → local_key after id key.name ≡ Some key
      go None f e = absurd (let no : None ≡ Some key = e in cc)
      go (Some x) f e = ap (option_map key_of) (other_after key (Some id) x apart f (some x e)) ∙ e

  local_word_gone : (s : SheetMention) (m : NameMention) → LocalHolds before s m → bound_local after s (spelled_word (kept_name before after same_keys) m) ≡ (if is_of_name (key_of d) m then names.Dangling d.name else m)
  local_word_gone (sheets.Sheet id) (names.Dangling word) h = ap (λ o. name_or_dangling word (option_map key_of o)) (none_after (fold word) (Some id) (local_none (definition_at before (fold word) (Some id)) h))
  local_word_gone (sheets.Sheet id) (names.Name key) h =
      elim (cases_Bool (same_key key (key_of d))) [
        | inl t ↦ let same : key ≡ key_of d = same_key_from key (key_of d) t in
            rw t (ap (λ k. bound_local after (sheets.Sheet id) (kept_name before after same_keys k)) same ∙ local_it id (subst (λ (k : NameKey). local_key before id k.name ≡ Some k) same h))
        | inr f ↦ rw f (local_word_stays before after (sheets.Sheet id) (names.Name key) (local_other id key f h))
      ]
  local_word_gone (sheets.Sheet id) (names.Var word) h = absurd h
  local_word_gone sheets.Own (names.Dangling word) h = refl
  local_word_gone sheets.Own (names.Name key) h = absurd h
  local_word_gone sheets.Own (names.Var word) h = absurd h
  local_word_gone (sheets.Dangling name) (names.Dangling word) h = refl
  local_word_gone (sheets.Dangling name) (names.Name key) h = absurd h
  local_word_gone (sheets.Dangling name) (names.Var word) h = absurd h

  pub gone_name_becomes : Become before after scope (changed_sheet (definition_gone after d)) (changed_word (definition_gone after d) scope) (changed_local (definition_gone after d))
  gone_name_becomes = record {
    sheet = λ m h. sheet_stays before after removing.differ m (sheets_hold before after removing.sheets m h);
    word = word;
    local = λ s m h k. local_becomes before after s s m _ (sheet_stays before after removing.differ s (sheets_hold before after removing.sheets s h)) (local_word_gone s m k);
  }
    where
      word : (m : NameMention) → WordHolds before scope m → word_after before after scope m ≡ changed_word (definition_gone after d) scope m
      word (names.Var w) h = refl
      word (names.Dangling w) h =
          let none = neither (definition_at before (fold w) scope) (definition_at before (fold w) None) h in
          ap (name_or_dangling w) (ap₂ either_key (none_after (fold w) scope none.0) (none_after (fold w) None none.1))
      word (names.Name key) h =
          elim (cases_Bool (same_key key (key_of d))) [
            | inl t ↦ let same : key ≡ key_of d = same_key_from key (key_of d) t in rw t (ap (λ k. word_after before after scope (names.Name k)) same ∙ it_becomes (subst (λ k. WordHolds before scope (names.Name k)) same h))
            | inr f ↦ rw f (word_stays before after scope (names.Name key) (other_holds key f h))
          ]
