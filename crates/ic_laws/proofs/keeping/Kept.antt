-- Keeping a settled formula replaces each of its mentions by what the change makes of it, and nothing else.
use Rattle.std.proofs.Common.{◌≡◌, ℕ, List, Bool, true, false, Option, None, Some, refl, ap, subst, ◌∙◌, nat_eq, if◌then◌else◌}
use Rattle.std.specs.Prelude.{bytes_eq, option_map, unwrap_or}
use Rattle.std.specs.List.{list_any}
use Rattle.ic_laws.proofs.binding.Again.{FindAgain, bound_again, mapped_same}
use Rattle.ic_laws.proofs.binding.SceneLemmas.{folds_to_key, found_by_text, found_has_definition, local_is_found, spelled_alike}
use Rattle.ic_laws.proofs.binding.Settled.{bound_is_settled}
use Rattle.ic_laws.proofs.keeping.Finding.{found_where_any}
use Rattle.ic_laws.proofs.keeping.Holds.{local_holds, settled_holds, sheet_holds, word_holds}
use Rattle.ic_laws.specs.Binding.{Binders, IsSettled, RespectsFolding, bound_local, bound_sheet, bound_word, is_bound_by, name_or_dangling, sheet_or_dangling, spelled, spelled_with, spelled_word}
use Rattle.ic_laws.specs.Changes.{Change, OfSheets, OfWords, IsSpared, LocalHolds, MentionsHold, SheetHolds, WordHolds, changed_local, changed_sheet, changed_tree, changed_word, changes_local, changes_sheet, changes_word, local_after, sheet_after, word_after}
use Rattle.ic_laws.specs.Keeping.{KeyChange, kept, kept_name, kept_sheet, same_keys}
use Rattle.ic_laws.specs.Mentions.{LocalMention, mapped}
use Rattle.ic_laws.specs.Name.{fold}
use Rattle.ic_laws.specs.Scene.{SheetsDiffer, definition_at, found_name, key_found, local_key, definition_spelling, sheet_spelling}
use Rattle.ic_laws.specs.Tree.{Bound}
use Rattle.ic_laws.specs.declared.scene.NameSpelling.{NameSpelling}
use Rattle.ic_laws.specs.declared.scene.Scene.{Scene}
use Rattle.ic_laws.specs.declared.scene.SheetName.{SheetName}
use Rattle.ic_laws.specs.declared.tree.NameKey.{NameKey}
use Rattle.ic_laws.specs.declared.tree.NameMention.{NameMention}
use Rattle.ic_laws.specs.declared.tree.NameMention.TheVariants as names
use Rattle.ic_laws.specs.declared.tree.SheetMention.{SheetMention}
use Rattle.ic_laws.specs.declared.tree.SheetMention.TheVariants as sheets

-- a kept formula is settled in the scene after
pub kept_is_settled : (english : List ℕ → Option ℕ) (before after : Scene) (change : KeyChange) (scope : Option ℕ) → SheetsDiffer after → RespectsFolding english → (t : Bound) → IsSettled english after scope (kept english before after change scope t)
kept_is_settled english before after change scope differ by_fold t = bound_is_settled english after scope differ by_fold (spelled_with (kept_sheet before after) (kept_name before after change) t)

module _ (before after : Scene) (scope : Option ℕ) where
  abbrev mention : Bool → List ℕ → Option NameKey → NameMention
  mention b word found = if b then names.Var word else name_or_dangling word found

  abbrev kept_word : NameMention → List ℕ
  kept_word = spelled_word (kept_name before after same_keys)

  -- a definition that was found before keeps the folding of its name, whether it is there after or gone
  pub key_kept : (folded : List ℕ) (key : NameKey) → key_found before scope folded ≡ Some key → fold (kept_name before after same_keys key) ≡ folded
  key_kept folded key e = go (definition_at after key.name key.scope) refl
    where
      go : (o : Option NameSpelling) → definition_at after key.name key.scope ≡ o → fold (unwrap_or (option_map (λ (x : NameSpelling). x.name) o) (definition_spelling before key)) ≡ folded
      go None f = spelled_alike before scope folded key key.name e
      go (Some d) f = folds_to_key after key.name key.scope d f ∙ (found_has_definition before scope folded key e).same

  spelling_kept : (binders : Binders) (word : List ℕ) → fold (kept_word (bound_word before scope binders word)) ≡ fold word
  spelling_kept binders word = go (is_bound_by binders word) (found_name before scope word) refl
    where
      go : (b : Bool) (found : Option NameKey) → found_name before scope word ≡ found → fold (kept_word (mention b word found)) ≡ fold word
      go true found e = refl
      go false None e = refl
      go false (Some key) e = key_kept (fold word) key e

  -- so no variable that is seen captures it
  word_kept : (binders : Binders) (word : List ℕ)
      → bound_word after scope binders (kept_word (bound_word before scope binders word)) ≡ word_after before after scope (bound_word before scope binders word)
  word_kept binders word = go (is_bound_by binders word) refl (found_name before scope word) refl
    where
      go : (b : Bool) → is_bound_by binders word ≡ b → (found : Option NameKey) → found_name before scope word ≡ found
          → bound_word after scope binders (kept_word (mention b word found)) ≡ word_after before after scope (mention b word found)
      go true e found f = ap (λ b. mention b word (found_name after scope word)) e
      go false e None f = ap (λ b. mention b word (found_name after scope word)) e
      go false e (Some key) f =
          let spelling : List ℕ = kept_name before after same_keys key in
          ap (λ b. mention b spelling (found_name after scope spelling)) (ap (λ w. list_any (λ (variable : List ℕ). bytes_eq (fold variable) w) binders) (key_kept (fold word) key f) ∙ e)

-- What mentions that hold before become over a change: f and g of them, and l of a word with its sheet.
pub record Become (before after : Scene) (scope : Option ℕ) (f : SheetMention → SheetMention) (g : NameMention → NameMention) (l : SheetMention → NameMention → LocalMention) : Type 0 where
  pub sheet : (m : SheetMention) → SheetHolds before m → sheet_after before after m ≡ f m
  pub word : (m : NameMention) → WordHolds before scope m → word_after before after scope m ≡ g m
  pub local : (s : SheetMention) (m : NameMention) → SheetHolds before s → LocalHolds before s m → local_after before after s m ≡ l s m

-- so does each mention of a settled formula
pub kept_becomes : (english : List ℕ → Option ℕ) (before after : Scene) (scope : Option ℕ) (f : SheetMention → SheetMention) (g : NameMention → NameMention) (l : SheetMention → NameMention → LocalMention) → Become before after scope f g l → RespectsFolding english → (t : Bound)
    → IsSettled english before scope t → kept english before after same_keys scope t ≡ mapped f g l t
kept_becomes english before after scope f g l become by_fold t settled =
    let mentions : FindAgain english scope before after (kept_sheet before after) (kept_name before after same_keys) f g l =
    record {
      sheet = λ name. become.sheet _ (sheet_holds before name);
      word = λ binders word. word_kept before after scope binders word ∙ become.word _ (word_holds before scope binders word);
      local = λ name word. become.local _ _ (sheet_holds before name) (local_holds before (bound_sheet before name) word);
      called = λ binders word e. by_fold _ word (spelling_kept before after scope binders word) ∙ e;
    } in
    subst (λ (u : Bound). kept english before after same_keys scope u ≡ mapped f g l u) settled
    (bound_again english scope before after (kept_sheet before after) (kept_name before after same_keys) f g l mentions (spelled before t))

-- a settled formula is kept as that formula with each mention replaced by what its spelling finds after the change
pub kept_is_mapped : (english : List ℕ → Option ℕ) (before after : Scene) (scope : Option ℕ) → RespectsFolding english → (t : Bound) → IsSettled english before scope t
    → kept english before after same_keys scope t ≡ mapped (sheet_after before after) (word_after before after scope) (local_after before after) t
kept_is_mapped english before after scope = kept_becomes english before after scope (sheet_after before after) (word_after before after scope) (local_after before after) (record { sheet = λ m h. refl; word = λ m h. refl; local = λ s m h k. refl })

-- a mention that holds after the change, too, becomes itself
pub sheet_stays : (before after : Scene) → SheetsDiffer after → (m : SheetMention) → SheetHolds after m → sheet_after before after m ≡ m
sheet_stays before after differ sheets.Own holds = refl
sheet_stays before after differ (sheets.Dangling name) holds = ap (sheet_or_dangling name) holds
sheet_stays before after differ (sheets.Sheet id) holds =
    let there = found_where_any (λ (sheet : SheetName). nat_eq sheet.id id) after.sheets holds in
    ap (sheet_or_dangling (kept_sheet before after id)) (found_by_text after differ id there.0 (sheet_spelling before id) there.1)

pub word_stays : (before after : Scene) (scope : Option ℕ) (m : NameMention) → WordHolds after scope m → word_after before after scope m ≡ m
word_stays before after scope (names.Var word) holds = refl
word_stays before after scope (names.Dangling word) holds = ap (name_or_dangling word) holds
word_stays before after scope (names.Name key) holds =
    let spelling : List ℕ = kept_name before after same_keys key in
    ap (name_or_dangling spelling) (ap (key_found after scope) (spelled_alike after scope key.name key (definition_spelling before key) holds) ∙ holds)

-- a word with its sheet becomes what both become
pub local_becomes : (before after : Scene) (s to : SheetMention) (m word_to : NameMention) → sheet_after before after s ≡ to → bound_local after to (spelled_word (kept_name before after same_keys) m) ≡ word_to → local_after before after s m ≡ (to, word_to)
local_becomes before after s to m word_to e f =
    let P : SheetMention → LocalMention = λ x. (x, bound_local after x (spelled_word (kept_name before after same_keys) m)) in
    let Q : NameMention → LocalMention = λ x. (to, x) in
    ap P e ∙ ap Q f

-- a word with its sheet that holds after the change, too, finds the same
pub local_word_stays : (before after : Scene) (s : SheetMention) (m : NameMention) → LocalHolds after s m → bound_local after s (spelled_word (kept_name before after same_keys) m) ≡ m
local_word_stays before after (sheets.Sheet id) (names.Name key) holds =
    let spelling : List ℕ = kept_name before after same_keys key in
    ap (name_or_dangling spelling) (ap (local_key after id) (spelled_alike after (Some id) key.name key (definition_spelling before key) (local_is_found after id key.name key holds)) ∙ holds)
local_word_stays before after (sheets.Sheet id) (names.Dangling word) holds = ap (name_or_dangling word) holds
local_word_stays before after (sheets.Sheet id) (names.Var word) holds = absurd holds
local_word_stays before after sheets.Own (names.Name key) holds = absurd holds
local_word_stays before after sheets.Own (names.Dangling word) holds = refl
local_word_stays before after sheets.Own (names.Var word) holds = absurd holds
local_word_stays before after (sheets.Dangling name) (names.Name key) holds = absurd holds
local_word_stays before after (sheets.Dangling name) (names.Dangling word) holds = refl
local_word_stays before after (sheets.Dangling name) (names.Var word) holds = absurd holds

pub local_stays : (before after : Scene) → SheetsDiffer after → (s : SheetMention) (m : NameMention) → SheetHolds after s → LocalHolds after s m → local_after before after s m ≡ (s, m)
local_stays before after differ s m sheet_holds holds = local_becomes before after s s m m (sheet_stays before after differ s sheet_holds) (local_word_stays before after s m holds)

-- so where each mention holds, a settled formula is kept as it is
pub kept_same : (english : List ℕ → Option ℕ) (before after : Scene) (scope : Option ℕ) → SheetsDiffer after → RespectsFolding english → (t : Bound) → IsSettled english before scope t → MentionsHold after scope t
    → kept english before after same_keys scope t ≡ t
kept_same english before after scope differ by_fold t settled hold =
    kept_is_mapped english before after scope by_fold t settled
    ∙ mapped_same (sheet_after before after) (word_after before after scope) (local_after before after) (SheetHolds after) (WordHolds after scope) (LocalHolds after) (sheet_stays before after differ) (word_stays before after scope) (local_stays before after differ) t hold

-- and kept again where it was before, if it was kept as it is
pub kept_back : (english : List ℕ → Option ℕ) (before between : Scene) (scope : Option ℕ) → SheetsDiffer before → SheetsDiffer between → RespectsFolding english → (t : Bound) → IsSettled english before scope t
    → kept english before between same_keys scope t ≡ t → kept english between before same_keys scope t ≡ t
kept_back english before between scope differ differ_between by_fold t settled same =
    kept_same english between before scope differ by_fold t (subst (IsSettled english between scope) same (kept_is_settled english before between same_keys scope differ_between by_fold t)) (settled_holds english before scope t settled)

-- a mention that a change can't change is left by it
unchanged_sheet : (change : Change) (m : SheetMention) → changes_sheet change m ≡ false → changed_sheet change m ≡ m
unchanged_sheet (OfSheets is_changed to word_to) m e = ap (λ b. if b then to else m) e
unchanged_sheet (OfWords is_changed to is_local_changed local_to) m e = refl

unchanged_word : (change : Change) (scope : Option ℕ) (m : NameMention) → changes_word change scope m ≡ false → changed_word change scope m ≡ m
unchanged_word (OfSheets is_changed to word_to) scope m e = refl
unchanged_word (OfWords is_changed to is_local_changed local_to) scope m e = ap (λ b. if b then to else m) e

unchanged_local : (change : Change) (s : SheetMention) (m : NameMention) → changes_sheet change s ≡ false → changes_local change s m ≡ false → changed_local change s m ≡ (s, m)
unchanged_local (OfSheets is_changed to word_to) s m e f = let P : Bool → LocalMention = λ b. if b then (to, word_to m) else (s, m) in ap P e
unchanged_local (OfWords is_changed to is_local_changed local_to) s m e f = let P : Bool → LocalMention = λ b. (s, if b then local_to else m) in ap P f

-- and so is a formula with such mentions alone
pub spared_is_same : (change : Change) (scope : Option ℕ) (t : Bound) → IsSpared change scope t → changed_tree change scope t ≡ t
spared_is_same change scope t spared =
    mapped_same (changed_sheet change) (changed_word change scope) (changed_local change) (λ m. changes_sheet change m ≡ false) (λ m. changes_word change scope m ≡ false) (λ s m. changes_local change s m ≡ false) (unchanged_sheet change) (unchanged_word change scope) (unchanged_local change) t spared
