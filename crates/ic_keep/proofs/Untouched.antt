-- A formula that an update of a definition doesn't touch stays as it is, and none of its words is captured.
use Rattle.std.proofs.Common.{◌≡◌, ℕ, ℤ, zero, suc, List, [], ◌∷◌, Bool, true, false, cond, ◌&&◌, Option, None, Some, refl, sym, ap, ap₂, ◌∙◌, nat_eq, inl, inr, if◌then◌else◌}
use Rattle.std.specs.Prelude.{bytes_eq, option_map, slice_get, unwrap_or}
use Rattle.std.specs.List.{find, list_any}
use Rattle.std.specs.Option.{option_or}
use Rattle.std.proofs.lemmas.Bool.{cases_Bool, or_parts}
use Rattle.ic_laws.proofs.binding.SceneLemmas.{find_here, find_later, found_passes}
use Rattle.ic_laws.proofs.keeping.Holds.{settled_holds}
use Rattle.ic_laws.proofs.keeping.Kept.{kept_same}
use Rattle.ic_laws.proofs.keeping.NameChanges.{key_at, key_itself, same_key_from}
use Rattle.ic_laws.proofs.keeping.Spared.{mentions_weaker, none_passes}
use Rattle.ic_laws.proofs.kept.Everywhere.{every_both}
use Rattle.ic_laws.specs.Binding.{IsSettled, RespectsFolding, bound, spelled_word}
use Rattle.ic_laws.specs.Changes.{LocalHolds, MentionsHold, SheetHolds, WordHolds}
use Rattle.ic_laws.specs.CoreStep.{updated_at}
use Rattle.ic_laws.specs.Keeping.{changed_key, kept, kept_formula, kept_name, kept_sheet, same_keys}
use Rattle.ic_laws.specs.Mentions.{AllMentions, OfMentions}
use Rattle.ic_laws.specs.Name.{fold}
use Rattle.ic_laws.specs.Notations.{Notations, english_function}
use Rattle.ic_laws.specs.Scene.{SheetsDiffer, definition_at, definition_spelling, found_sheet, key_found, key_of, local_key, name_of_key, same_key, same_scope}
use Rattle.ic_laws.specs.Tree.{Bound, Kind}
use Rattle.ic_laws.specs.ValidCore.{IsKeptFormula, IsPooled}
use Rattle.ic_laws.specs.declared.scene.NameSpelling.{NameSpelling}
use Rattle.ic_laws.specs.declared.scene.Scene.{Scene}
use Rattle.ic_laws.specs.declared.scene.SheetName.{SheetName}
use Rattle.ic_laws.specs.declared.tree.Formula.{Formula}
use Rattle.ic_laws.specs.declared.tree.Formula.TheVariants as formulas
use Rattle.ic_laws.specs.declared.tree.NameKey.{NameKey}
use Rattle.ic_laws.specs.declared.tree.NameMention.{NameMention}
use Rattle.ic_laws.specs.declared.tree.NameMention.TheVariants as names
use Rattle.ic_laws.specs.declared.tree.SheetMention.{SheetMention}
use Rattle.ic_laws.specs.declared.tree.SheetMention.TheVariants as sheets
use Rattle.ic_laws.specs.declared.tree.Tree.TheOpen as one
use Rattle.ic_keep.proofs.SpelledSame.{spelled_same}
use Rattle.ic_keep.specs.Touched.{IsSettledFormula, is_touched, touches, touches_word}

-- a list in which the item at an index is another ----

-- the item at an index, by a key
module _ {X K : Type 0} (key : X → K) (k : K) (p : X → Bool) (q : K → Bool) (by_key : (x : X) → p x ≡ q (key x)) where
  abbrev IsAt : List X → ℕ → Type 0
  IsAt xs i = option_map key (slice_get xs i) ≡ Some k

  of_key : (x : X) (b : Bool) → Some (key x) ≡ Some k → q k ≡ b → p x ≡ b
  of_key x b e f = let same : key x ≡ k = cc in by_key x ∙ (ap q same ∙ f)

  -- where neither passes, the same is found
  put_finds : (d : X) (xs : List X) (i : ℕ) → IsAt xs i → q k ≡ false → p d ≡ false → find p (updated_at (λ m. d) i xs) ≡ find p xs
  put_finds d [] i at f g = refl
  put_finds d (x ∷ xs) zero at f g = find_later p d xs g ∙ sym (find_later p x xs (of_key x false at f))
  put_finds d (x ∷ xs) (suc i) at f g = ap (cond (p x) (Some x)) (put_finds d xs i at f g)

  -- where it passes, something is found
  finds_some : (xs : List X) (i : ℕ) → IsAt xs i → q k ≡ true → (y : X) × (find p xs ≡ Some y)
  finds_some [] i at t = absurd (let no : None ≡ Some k = at in cc)
  finds_some (x ∷ xs) zero at t = (x, find_here p x xs (of_key x true at t))
  finds_some (x ∷ xs) (suc i) at t =
      elim (cases_Bool (p x)) [
        | inl here ↦ (x, find_here p x xs here)
        | inr later ↦ let more = finds_some xs i at t in (more.0, find_later p x xs later ∙ more.1)
      ]

-- an update of the definition at an index ----

module _ (before after : Scene) (old new : NameKey) (index : ℕ) (d : NameSpelling) (scope : Option ℕ) (same_sheets : after.sheets ≡ before.sheets) (put : after.names ≡ updated_at (λ m. d) index before.names) (is_new : key_of d ≡ new) (is_old : option_map key_of (slice_get before.names index) ≡ Some old) where
  abbrev has : List ℕ → Option ℕ → NameKey → Bool
  has folded at key = same_key key (key_at folded at)

  abbrev passes : List ℕ → Option ℕ → NameSpelling → Bool
  passes folded at x = has folded at (key_of x)

  -- the new name isn't this one
  abbrev Apart : List ℕ → Type 0
  Apart folded = bytes_eq new.name folded ≡ false

  not_new : (folded : List ℕ) (at : Option ℕ) → Apart folded → passes folded at d ≡ false
  not_new folded at apart = ap (has folded at) is_new ∙ ap (λ b. b && same_scope new.scope at) apart

  -- what is found is found again, where it isn't the one that is updated
  abbrev IsOther : Option NameSpelling → Type 0
  IsOther o = (x : NameSpelling) → o ≡ Some x → same_key old (key_of x) ≡ false

  found_again : (folded : List ℕ) (at : Option ℕ) (o : Option NameSpelling) → Apart folded → IsOther o → definition_at before folded at ≡ o → definition_at after folded at ≡ o
  found_again folded at o apart other e =
      elim (cases_Bool (has folded at old)) [
        | inl t ↦
            let some = finds_some key_of old (passes folded at) (has folded at) (λ x. refl) before.names index is_old t in
            let key : key_of some.0 ≡ old = same_key_from (key_of some.0) (key_at folded at) (found_passes (passes folded at) before.names some.0 some.1) ∙ sym (same_key_from old (key_at folded at) t) in
            absurd (clash (same_key old (key_of some.0)) (ap (same_key old) key ∙ itself) (other some.0 (sym e ∙ some.1)))
        | inr f ↦ ap (find (passes folded at)) put ∙ (put_finds key_of old (passes folded at) (has folded at) (λ x. refl) d before.names index is_old f (not_new folded at apart) ∙ e)
      ]
    where
      itself : same_key old old ≡ true
      itself = key_itself old

      clash : (b : Bool) → b ≡ true → b ≡ false → ⊥
      clash b t f = cc

  none_other : IsOther None
  none_other x e = absurd (let no : None ≡ Some x = e in cc)

  some_other : (x : NameSpelling) (key : NameKey) → Some (key_of x) ≡ Some key → same_key old key ≡ false → IsOther (Some x)
  some_other x key e f y g = let same : key_of y ≡ key = cc in ap (same_key old) same ∙ f

  abbrev either : Option NameSpelling → Option NameSpelling → Option NameKey
  either local global = option_map key_of (option_or local global)

  none_of : (o : Option NameSpelling) → option_map key_of o ≡ None → o ≡ None
  none_of None e = refl
  none_of (Some x) e = absurd (let no : Some (key_of x) ≡ None = e in cc)

  -- so is a key
  key_again : (key : NameKey) → same_key old key ≡ false → Apart key.name → key_found before scope key.name ≡ Some key → key_found after scope key.name ≡ Some key
  key_again key f apart h = go (definition_at before key.name scope) refl (definition_at before key.name None) refl h
    where
      go : (local : Option NameSpelling) → definition_at before key.name scope ≡ local → (global : Option NameSpelling) → definition_at before key.name None ≡ global → either local global ≡ Some key → key_found after scope key.name ≡ Some key
      go (Some x) a global b e = ap (λ o. either o (definition_at after key.name None)) (found_again key.name scope (Some x) apart (some_other x key e f) a) ∙ e
      go None a (Some y) b e = ap₂ either (found_again key.name scope None apart none_other a) (found_again key.name None (Some y) apart (some_other y key e f) b) ∙ e
      go None a None b e = absurd (let no : None ≡ Some key = e in cc)

  local_again : (id : ℕ) (key : NameKey) → same_key old key ≡ false → Apart key.name → local_key before id key.name ≡ Some key → local_key after id key.name ≡ Some key
  local_again id key f apart h = go (definition_at before key.name (Some id)) refl h
    where
      go : (o : Option NameSpelling) → definition_at before key.name (Some id) ≡ o → option_map key_of o ≡ Some key → local_key after id key.name ≡ Some key
      go (Some x) a e = ap (option_map key_of) (found_again key.name (Some id) (Some x) apart (some_other x key e f) a) ∙ e
      go None a e = absurd (let no : None ≡ Some key = e in cc)

  -- and what wasn't found isn't
  none_again : (folded : List ℕ) (at : Option ℕ) → Apart folded → definition_at before folded at ≡ None → definition_at after folded at ≡ None
  none_again folded at apart e = found_again folded at None apart none_other e

  neither_again : (folded : List ℕ) → Apart folded → key_found before scope folded ≡ None → key_found after scope folded ≡ None
  neither_again folded apart h = go (definition_at before folded scope) refl (definition_at before folded None) refl h
    where
      go : (local : Option NameSpelling) → definition_at before folded scope ≡ local → (global : Option NameSpelling) → definition_at before folded None ≡ global → either local global ≡ None → key_found after scope folded ≡ None
      go None a None b e = ap₂ either (none_again folded scope apart a) (none_again folded None apart b)
      go None a (Some y) b e = absurd (let no : Some (key_of y) ≡ None = e in cc)
      go (Some x) a global b e = absurd (let no : Some (key_of x) ≡ None = e in cc)

  -- each mention that holds and isn't touched holds after
  sheet_again : (m : SheetMention) → SheetHolds before m → SheetHolds after m
  sheet_again sheets.Own h = tt
  sheet_again (sheets.Sheet id) h = ap (λ (ss : List SheetName). list_any (λ (s : SheetName). nat_eq s.id id) ss) same_sheets ∙ h
  sheet_again (sheets.Dangling name) h = ap (λ (ss : List SheetName). let scene : Scene = record { sheets = ss; names = before.names } in found_sheet scene name) same_sheets ∙ h

  abbrev Untouched : NameMention → Type 0
  Untouched m = touches_word old new m ≡ false

  word_again : (m : NameMention) → WordHolds before scope m → Untouched m → WordHolds after scope m
  word_again (names.Var word) h f = tt
  word_again (names.Name key) h f = let parts = or_parts (same_key old key) (bytes_eq new.name key.name) f in key_again key parts.0 parts.1 h
  word_again (names.Dangling word) h f = neither_again (fold word) f h

  local_word_again : (s : SheetMention) (m : NameMention) → LocalHolds before s m → Untouched m → LocalHolds after s m
  local_word_again (sheets.Sheet id) (names.Name key) h f = let parts = or_parts (same_key old key) (bytes_eq new.name key.name) f in local_again id key parts.0 parts.1 h
  local_word_again (sheets.Sheet id) (names.Dangling word) h f = ap (option_map key_of) (none_again (fold word) (Some id) f (none_of (definition_at before (fold word) (Some id)) h))
  local_word_again (sheets.Sheet id) (names.Var word) h f = absurd h
  local_word_again sheets.Own (names.Dangling word) h f = tt
  local_word_again sheets.Own (names.Name key) h f = absurd h
  local_word_again sheets.Own (names.Var word) h f = absurd h
  local_word_again (sheets.Dangling name) (names.Dangling word) h f = tt
  local_word_again (sheets.Dangling name) (names.Name key) h f = absurd h
  local_word_again (sheets.Dangling name) (names.Var word) h f = absurd h

  abbrev Fails : Kind SheetMention NameMention → Type 0
  Fails = OfMentions (λ sheet. false ≡ false) Untouched (λ sheet word. Untouched word)

  abbrev Holds : Scene → Kind SheetMention NameMention → Type 0
  Holds scene = OfMentions (SheetHolds scene) (WordHolds scene scope) (LocalHolds scene)

  node_again : (kind : Kind SheetMention NameMention) → Holds before kind → Fails kind → Holds after kind
  node_again (one.Reference sheet place) h f = sheet_again sheet h
  node_again (one.Local sheet word) h f = (sheet_again sheet h.0, local_word_again sheet word h.1 f.1)
  node_again (one.Word word) h f = word_again word h f
  node_again (one.Call word arguments) h f = word_again word h f
  node_again kind h f = tt

  -- it is written as it would be if no key changed
  written_same : (m : NameMention) → Untouched m → spelled_word (kept_name before after (changed_key old new)) m ≡ spelled_word (kept_name before after same_keys) m
  written_same (names.Var word) f = refl
  written_same (names.Dangling word) f = refl
  written_same (names.Name key) f =
      ap (λ b. unwrap_or (name_of_key after (if b then new else key)) (definition_spelling before key)) (or_parts (same_key old key) (bytes_eq new.name key.name) f).0

  untouched_tree : (english : List ℕ → Option ℕ) → RespectsFolding english → SheetsDiffer after → (t : Bound) → IsSettled english before scope t → touches old new t ≡ false → kept english before after (changed_key old new) scope t ≡ t
  untouched_tree english by_fold differ t settled f =
      let fails : AllMentions (λ sheet. false ≡ false) Untouched (λ sheet word. Untouched word) t = none_passes (λ sheet. false) (touches_word old new) (λ sheet word. touches_word old new word) t f in
      let hold : MentionsHold after scope t =
      every_both (Holds before) (λ pair. Unit {0}) Fails (λ pair. Unit {0}) (Holds after) (λ pair. Unit {0}) node_again (λ pair h g. tt) t (settled_holds english before scope t settled) fails in
      ap (bound english after scope)
      (spelled_same (kept_sheet before after) (kept_name before after (changed_key old new)) (kept_name before after same_keys) t
      (mentions_weaker (λ sheet. false ≡ false) (λ sheet. Unit {0}) Untouched (λ m. spelled_word (kept_name before after (changed_key old new)) m ≡ spelled_word (kept_name before after same_keys) m) (λ sheet word. Untouched word) (λ sheet m. spelled_word (kept_name before after (changed_key old new)) m ≡ spelled_word (kept_name before after same_keys) m) (λ m h. tt) written_same (λ sheet m h. written_same m h) t fails))
      ∙ kept_same english before after scope differ by_fold t settled hold

-- a tree that isn't touched
pub untouched_stays : (english : List ℕ → Option ℕ) (before after : Scene) (old new : NameKey) (index : ℕ) (d : NameSpelling) (scope : Option ℕ) → RespectsFolding english → SheetsDiffer after → after.sheets ≡ before.sheets
    → after.names ≡ updated_at (λ m. d) index before.names → key_of d ≡ new → option_map key_of (slice_get before.names index) ≡ Some old
    → (t : Bound) → IsSettled english before scope t → is_touched old new (formulas.Tree t) ≡ false → kept english before after (changed_key old new) scope t ≡ t
untouched_stays english before after old new index d scope by_fold differ same_sheets put is_new is_old t settled f =
    untouched_tree before after old new index d scope same_sheets put is_new is_old english by_fold differ t settled f

-- and a formula
pub untouched_formula_stays : (english : List ℕ → Option ℕ) (before after : Scene) (old new : NameKey) (index : ℕ) (d : NameSpelling) (scope : Option ℕ) → RespectsFolding english → SheetsDiffer after → after.sheets ≡ before.sheets
    → after.names ≡ updated_at (λ m. d) index before.names → key_of d ≡ new → option_map key_of (slice_get before.names index) ≡ Some old
    → (f : Formula) → IsSettledFormula english before scope f → is_touched old new f ≡ false → kept_formula english before after (changed_key old new) scope f ≡ f
untouched_formula_stays english before after old new index d scope by_fold differ same_sheets put is_new is_old (formulas.Tree t) settled f =
    ap (λ (u : Bound). let x : Formula = formulas.Tree u in x) (untouched_stays english before after old new index d scope by_fold differ same_sheets put is_new is_old t settled f)
untouched_formula_stays english before after old new index d scope by_fold differ same_sheets put is_new is_old (formulas.Raw text) settled f = refl

-- what a book keeps is settled
pub pooled_is_settled : (n : Notations) (scene : Scene) (scope : Option ℕ) (f : Formula) → IsPooled n scene scope f → IsSettledFormula (english_function n) scene scope f
pooled_is_settled n scene scope (formulas.Tree t) h = h.settled
pooled_is_settled n scene scope (formulas.Raw text) h = tt

pub body_is_settled : (n : Notations) (scene : Scene) (scope : Option ℕ) (row column : ℤ) (f : Formula) → IsKeptFormula n scene scope row column f → IsSettledFormula (english_function n) scene scope f
body_is_settled n scene scope row column (formulas.Tree t) h = h.settled
body_is_settled n scene scope row column (formulas.Raw text) h = tt
