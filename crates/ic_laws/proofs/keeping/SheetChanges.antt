-- What mentions become where a sheet gets a name, and where one goes.
use Rattle.std.proofs.Common.{◌≡◌, ℕ, List, Bool, true, false, Option, None, Some, refl, ap, ◌∙◌, nat_eq, inl, inr, if◌then◌else◌}
use Rattle.std.specs.List.{list_any}
use Rattle.std.specs.Prelude.{unwrap_or}
use Rattle.std.proofs.lemmas.Bool.{cases_Bool, eqb-true}
use Rattle.ic_laws.proofs.keeping.Kept.{Become, local_becomes, local_stays, sheet_stays, word_stays}
use Rattle.ic_laws.specs.Binding.{bound_local, name_or_dangling, sheet_or_dangling, spelled_word}
use Rattle.ic_laws.specs.Changes.{LocalHolds, SheetHolds, WordHolds, changed_local, changed_sheet, changed_word, found_with_sheet, local_after, sheet_after, sheet_gone, sheet_named}
use Rattle.ic_laws.specs.Keeping.{kept_name, kept_sheet, same_keys}
use Rattle.ic_laws.specs.Mentions.{LocalMention}
use Rattle.ic_laws.specs.Name.{agrees, fold}
use Rattle.ic_laws.specs.Scene.{SheetsDiffer, definition_spelling, found_sheet, key_found, local_key, name_of_key}
use Rattle.ic_laws.specs.declared.scene.NameSpelling.{NameSpelling}
use Rattle.ic_laws.specs.declared.scene.Scene.{Scene}
use Rattle.ic_laws.specs.declared.scene.SheetName.{SheetName}
use Rattle.ic_laws.specs.declared.tree.NameKey.{NameKey}
use Rattle.ic_laws.specs.declared.tree.NameMention.{NameMention}
use Rattle.ic_laws.specs.declared.tree.NameMention.TheVariants as names
use Rattle.ic_laws.specs.declared.tree.SheetMention.{SheetMention}
use Rattle.ic_laws.specs.declared.tree.SheetMention.TheVariants as sheets

-- some sheet has this id
abbrev pub has_id : ℕ → List SheetName → Bool
has_id id ss = list_any (λ (s : SheetName). nat_eq s.id id) ss

-- words find the same where the definitions are the same
words_hold : (before after : Scene) → after.names ≡ before.names → (scope : Option ℕ) (m : NameMention) → WordHolds before scope m → WordHolds after scope m
words_hold before after e scope m h = go m h
  where
    same : (folded : List ℕ) → key_found after scope folded ≡ key_found before scope folded
    same folded = ap (λ (ns : List NameSpelling). let scene : Scene = record { sheets = before.sheets; names = ns } in key_found scene scope folded) e

    go : (m : NameMention) → WordHolds before scope m → WordHolds after scope m
    go (names.Var word) h = tt
    go (names.Name key) h = same key.name ∙ h
    go (names.Dangling word) h = same (fold word) ∙ h

-- so do words with their sheets
locals_same : (before after : Scene) → after.names ≡ before.names → (id : ℕ) (folded : List ℕ) → local_key after id folded ≡ local_key before id folded
locals_same before after e id folded = ap (λ (ns : List NameSpelling). let scene : Scene = record { sheets = before.sheets; names = ns } in local_key scene id folded) e

local_holds_there : (before after : Scene) → after.names ≡ before.names → (id : ℕ) (m : NameMention) → LocalHolds before (sheets.Sheet id) m → LocalHolds after (sheets.Sheet id) m
local_holds_there before after e id (names.Var word) h = h
local_holds_there before after e id (names.Name key) h = locals_same before after e id key.name ∙ h
local_holds_there before after e id (names.Dangling word) h = locals_same before after e id (fold word) ∙ h

-- A sheet gets a name: the other sheets are there as before, and of names that found nothing those that agree find it.
pub record Naming (before after : Scene) (id : ℕ) (name : List ℕ) : Type 0 where
  pub words : after.names ≡ before.names
  pub differ : SheetsDiffer after
  pub there : (i : ℕ) → has_id i before.sheets ≡ true → has_id i after.sheets ≡ true
  pub found : (typed : List ℕ) → found_sheet before typed ≡ None → found_sheet after typed ≡ (if agrees name typed then Some id else None)

-- a word that dangled, with the sheet that is found for it
abbrev local_like : Scene → SheetMention → List ℕ → LocalMention
local_like after s word = (s, bound_local after s word)

pub named_becomes : (before after : Scene) (id : ℕ) (name : List ℕ) → Naming before after id name → (scope : Option ℕ) → Become before after scope (changed_sheet (sheet_named before id name)) (changed_word (sheet_named before id name) scope) (changed_local (sheet_named before id name))
named_becomes before after id name naming scope = record { sheet = sheet; word = λ m h. word_stays before after scope m (words_hold before after naming.words scope m h); local = local }
  where
    either : (typed : List ℕ) (b : Bool) → sheet_or_dangling typed (if b then Some id else None) ≡ (if b then sheets.Sheet id else sheets.Dangling typed)
    either typed true = refl
    either typed false = refl

    sheet : (m : SheetMention) → SheetHolds before m → sheet_after before after m ≡ changed_sheet (sheet_named before id name) m
    sheet sheets.Own h = refl
    sheet (sheets.Sheet i) h = sheet_stays before after naming.differ (sheets.Sheet i) (naming.there i h)
    sheet (sheets.Dangling typed) h = ap (sheet_or_dangling typed) (naming.found typed h) ∙ either typed (agrees name typed)

    both : (typed word : List ℕ) (b : Bool)
        → local_like after (if b then sheets.Sheet id else sheets.Dangling typed) word ≡ (if b then (sheets.Sheet id, found_with_sheet before id (names.Dangling word)) else (sheets.Dangling typed, names.Dangling word))
    both typed word true = let P : Option NameKey → LocalMention = λ o. (sheets.Sheet id, name_or_dangling word o) in ap P (locals_same before after naming.words id (fold word))
    both typed word false = refl

    local : (s : SheetMention) (m : NameMention) → SheetHolds before s → LocalHolds before s m → local_after before after s m ≡ changed_local (sheet_named before id name) s m
    local (sheets.Sheet i) m h k = local_stays before after naming.differ (sheets.Sheet i) m (naming.there i h) (local_holds_there before after naming.words i m k)
    local sheets.Own (names.Dangling word) h k = refl
    local sheets.Own (names.Name key) h k = absurd k
    local sheets.Own (names.Var word) h k = absurd k
    local (sheets.Dangling typed) (names.Dangling word) h k =
        let P : SheetMention → LocalMention = λ x. local_like after x word in ap P (sheet (sheets.Dangling typed) h) ∙ both typed word (agrees name typed)
    local (sheets.Dangling typed) (names.Name key) h k = absurd k
    local (sheets.Dangling typed) (names.Var word) h k = absurd k

-- A sheet goes: the other sheets are there as before, and its name, by which it is spelled, finds nothing more.
pub record Going (before after : Scene) (id : ℕ) (name : List ℕ) : Type 0 where
  pub words : after.names ≡ before.names
  pub differ : SheetsDiffer after
  pub there : (i : ℕ) → has_id i before.sheets ≡ true → nat_eq i id ≡ false → has_id i after.sheets ≡ true
  pub found : (typed : List ℕ) → found_sheet before typed ≡ None → found_sheet after typed ≡ None
  pub gone : found_sheet after name ≡ None
  pub spelling : kept_sheet before after id ≡ name

pub gone_becomes : (before after : Scene) (id : ℕ) (name : List ℕ) → Going before after id name → (scope : Option ℕ) → Become before after scope (changed_sheet (sheet_gone before id name)) (changed_word (sheet_gone before id name) scope) (changed_local (sheet_gone before id name))
gone_becomes before after id name going scope = record { sheet = sheet; word = λ m h. word_stays before after scope m (words_hold before after going.words scope m h); local = local }
  where
    dangles : (i : ℕ) → i ≡ id → sheet_after before after (sheets.Sheet i) ≡ sheets.Dangling name
    dangles i e =
        ap (λ k. sheet_or_dangling (kept_sheet before after k) (found_sheet after (kept_sheet before after k))) e
        ∙ (ap (λ text. sheet_or_dangling text (found_sheet after text)) going.spelling
        ∙ ap (sheet_or_dangling name) going.gone)

    sheet : (m : SheetMention) → SheetHolds before m → sheet_after before after m ≡ changed_sheet (sheet_gone before id name) m
    sheet sheets.Own h = refl
    sheet (sheets.Sheet i) h =
        elim (cases_Bool (nat_eq i id)) [
          | inl e ↦ rw e (dangles i (eqb-true i id e))
          | inr e ↦ rw e (sheet_stays before after going.differ (sheets.Sheet i) (going.there i h e))
        ]
    sheet (sheets.Dangling typed) h = ap (sheet_or_dangling typed) (going.found typed h)

    -- a definition stays, and is written as before
    key_text : (key : NameKey) → kept_name before after same_keys key ≡ definition_spelling before key
    key_text key =
        ap (λ (ns : List NameSpelling). let scene : Scene = record { sheets = before.sheets; names = ns } in unwrap_or (name_of_key scene key) (definition_spelling before key)) going.words ∙ twice (name_of_key before key)
      where
        twice : (o : Option (List ℕ)) → unwrap_or o (unwrap_or o key.name) ≡ unwrap_or o key.name
        twice None = refl
        twice (Some text) = refl

    word_text : (m : NameMention) → spelled_word (kept_name before after same_keys) m ≡ spelled_word (definition_spelling before) m
    word_text (names.Var word) = refl
    word_text (names.Name key) = key_text key
    word_text (names.Dangling word) = refl

    local : (s : SheetMention) (m : NameMention) → SheetHolds before s → LocalHolds before s m → local_after before after s m ≡ changed_local (sheet_gone before id name) s m
    local sheets.Own (names.Dangling word) h k = refl
    local sheets.Own (names.Name key) h k = absurd k
    local sheets.Own (names.Var word) h k = absurd k
    local (sheets.Sheet i) m h k =
        elim (cases_Bool (nat_eq i id)) [
          | inl e ↦ rw e (local_becomes before after (sheets.Sheet i) (sheets.Dangling name) m (names.Dangling (spelled_word (definition_spelling before) m)) (dangles i (eqb-true i id e)) (ap (λ text. names.Dangling text) (word_text m)))
          | inr e ↦ rw e (local_stays before after going.differ (sheets.Sheet i) m (going.there i h e) (local_holds_there before after going.words i m k))
        ]
    local (sheets.Dangling typed) (names.Dangling word) h k =
        local_becomes before after (sheets.Dangling typed) (sheets.Dangling typed) (names.Dangling word) (names.Dangling word) (ap (sheet_or_dangling typed) (going.found typed h)) refl
    local (sheets.Dangling typed) (names.Name key) h k = absurd k
    local (sheets.Dangling typed) (names.Var word) h k = absurd k
