-- What mentions become where a sheet comes together with definitions that are local to it.
use Rattle.std.proofs.Common.{◌≡◌, ℕ, List, [], ◌∷◌, ◌++◌, map, Bool, true, false, ◌&&◌, ◌||◌, if◌then◌else◌, inl, inr, Option, Some, None, refl, sym, ap, ap₂, ◌∙◌}
use Rattle.std.proofs.lemmas.Bool.{both_ways, cases_Bool, eqb-true}
use Rattle.std.proofs.lemmas.List.Folds.{find-append}
use Rattle.std.specs.Cmp.{nat_eq_equiv}
use Rattle.std.specs.List.{AllByRecursion, list_any}
use Rattle.std.specs.Option.{option_or}
use Rattle.std.specs.Prelude.{bytes_eq, nat_eq, option_map}
use Rattle.ic_laws.proofs.core.KeptBook.{mentioned}
use Rattle.ic_laws.proofs.keeping.Kept.{Become, local_stays, word_stays}
use Rattle.ic_laws.proofs.keeping.SheetChanges.{Naming, has_id, named_becomes}
use Rattle.ic_laws.specs.Binding.{bound_local}
use Rattle.ic_laws.specs.Changes.{LocalHolds, SheetHolds, WordHolds, changed_local, changed_sheet, changed_word, found_with_sheet, local_after, sheet_after, sheet_named}
use Rattle.ic_laws.specs.CoreBook.{Sheet}
use Rattle.ic_laws.specs.Mentions.{LocalMention}
use Rattle.ic_laws.specs.Name.{agrees, fold}
use Rattle.ic_laws.specs.Scene.{definition_at, key_found, key_of, same_scope}
use Rattle.ic_laws.specs.declared.scene.NameSpelling.{NameSpelling}
use Rattle.ic_laws.specs.declared.scene.Scene.{Scene}
use Rattle.ic_laws.specs.declared.tree.NameMention.{NameMention}
use Rattle.ic_laws.specs.declared.tree.NameMention.TheVariants as names
use Rattle.ic_laws.specs.declared.tree.SheetMention.{SheetMention}
use Rattle.ic_laws.specs.declared.tree.SheetMention.TheVariants as sheets
use Rattle.ic_machine.proofs.bound.CopiedBinds.{or_none, unfound}
use Rattle.ic_machine.proofs.valid.ValidLemmas.{all_of}

-- the ids of the sheets of a core
pub ids_there : (id : ℕ) (ss : List Sheet) → has_id id (map mentioned ss) ≡ list_any (nat_eq id) (map (λ (s : Sheet). s.id) ss)
ids_there id [] = refl
ids_there id (s ∷ ss) = ap₂ (λ (x y : Bool). x || y) (nat_eq_equiv.symm s.id id) (ids_there id ss)

-- the sheets of another scene, and more definitions behind the others
abbrev pub scene_with_more : List NameSpelling → Scene → Scene → Scene
scene_with_more ns before among = record { sheets = among.sheets; names = before.names ++ ns }

-- those that come are local to the sheet with this id
module _ (id : ℕ) (ns : List NameSpelling) (all : AllByRecursion (λ (m : NameSpelling). m.scope ≡ Some id) ns) (before among : Scene) where
  abbrev with_more : Scene
  with_more = scene_with_more ns before among

  -- they are found from no other sheet
  module _ (scope : Option ℕ) (apart : same_scope (Some id) scope ≡ false) where
    same_at : (folded : List ℕ) (at : Option ℕ) → same_scope (Some id) at ≡ false → definition_at with_more folded at ≡ definition_at before folded at
    same_at folded at other =
        find-append (λ (m : NameSpelling). bytes_eq (fold m.name) folded && same_scope m.scope at) before.names ns
        ∙ ap (option_or (definition_at before folded at)) (unfound folded at ns (all_of (λ (m : NameSpelling). m.scope ≡ Some id) (λ (m : NameSpelling). same_scope m.scope at ≡ false) (λ m e. ap (λ o. same_scope o at) e ∙ other) ns all)) ∙ or_none (definition_at before folded at)

    same_found : (folded : List ℕ) → key_found with_more scope folded ≡ key_found before scope folded
    same_found folded = ap₂ (λ (local global : Option NameSpelling). option_map key_of (option_or local global)) (same_at folded scope apart) (same_at folded None refl)

    words_hold : (m : NameMention) → WordHolds before scope m → WordHolds with_more scope m
    words_hold (names.Var word) h = tt
    words_hold (names.Name k) h = same_found k.name ∙ h
    words_hold (names.Dangling word) h = same_found (fold word) ∙ h

  module _ (name : List ℕ) (naming : Naming before among id name) (unused : has_id id before.sheets ≡ false) where
    -- a word that dangled, with the sheet that is found for it
    abbrev local_like : SheetMention → List ℕ → LocalMention
    local_like s word = (s, bound_local with_more s word)

    -- of a formula whose words are looked up from another sheet, or from none
    pub become : (scope : Option ℕ) → same_scope (Some id) scope ≡ false → Become before with_more scope (changed_sheet (sheet_named with_more id name)) (changed_word (sheet_named with_more id name) scope) (changed_local (sheet_named with_more id name))
    become scope apart = record {
      sheet = sheet;
      word = λ m h. word_stays before with_more scope m (words_hold scope apart m h);
      local = local;
    }
      where
        sheet : (m : SheetMention) → SheetHolds before m → sheet_after before with_more m ≡ changed_sheet (sheet_named with_more id name) m
        sheet = (named_becomes before among id name naming scope).sheet

        -- the sheet is a new one
        other : (i : ℕ) → has_id i before.sheets ≡ true → same_scope (Some id) (Some i) ≡ false
        other i h = elim (cases_Bool (nat_eq id i)) [
          | inl t ↦ absurd (both_ways (has_id i before.sheets) (ap (λ k. has_id k before.sheets) (sym (eqb-true id i t)) ∙ unused) h)
          | inr f ↦ f
        ]

        holds : (i : ℕ) → has_id i before.sheets ≡ true → (m : NameMention) → LocalHolds before (sheets.Sheet i) m → LocalHolds with_more (sheets.Sheet i) m
        holds i h (names.Var word) k = k
        holds i h (names.Name key) k = ap (option_map key_of) (same_at scope apart key.name (Some i) (other i h)) ∙ k
        holds i h (names.Dangling word) k = ap (option_map key_of) (same_at scope apart (fold word) (Some i) (other i h)) ∙ k

        both : (typed word : List ℕ) (c : Bool)
            → local_like (if c then sheets.Sheet id else sheets.Dangling typed) word ≡ (if c then (sheets.Sheet id, found_with_sheet with_more id (names.Dangling word)) else (sheets.Dangling typed, names.Dangling word))
        both typed word true = refl
        both typed word false = refl

        local : (s : SheetMention) (m : NameMention) → SheetHolds before s → LocalHolds before s m → local_after before with_more s m ≡ changed_local (sheet_named with_more id name) s m
        local (sheets.Sheet i) m h k = local_stays before with_more naming.differ (sheets.Sheet i) m (naming.there i h) (holds i h m k)
        local sheets.Own (names.Dangling word) h k = refl
        local sheets.Own (names.Name key) h k = absurd k
        local sheets.Own (names.Var word) h k = absurd k
        local (sheets.Dangling typed) (names.Dangling word) h k = ap (λ (x : SheetMention). local_like x word) (sheet (sheets.Dangling typed) h) ∙ both typed word (agrees name typed)
        local (sheets.Dangling typed) (names.Name key) h k = absurd k
        local (sheets.Dangling typed) (names.Var word) h k = absurd k
