-- A kept formula stays itself where sheets come behind those of its scene, under names that it doesn't mean.
use Rattle.std.proofs.Common.{◌≡◌, ℕ, List, [], ◌∷◌, ◌++◌, Bool, false, Option, None, Some, refl, sym, ap, subst, ◌∙◌, nat_eq}
use Rattle.std.proofs.lemmas.List.Folds.{find-append}
use Rattle.std.specs.Fmt.{decimal}
use Rattle.std.specs.List.{AllByRecursion, find}
use Rattle.std.specs.Option.{option_or}
use Rattle.std.specs.Prelude.{option_map, unwrap_or}
use Rattle.ic_laws.proofs.binding.Again.{BoundKind, FindAgain, bound_again, mapped_same}
use Rattle.ic_laws.proofs.binding.SceneLemmas.{find_later, found_by_text, local_is_found, spelled_alike, word_fold, word_settles}
use Rattle.ic_laws.proofs.binding.Settled.{bound_is_settled}
use Rattle.ic_laws.proofs.keeping.Finding.{found_where_any}
use Rattle.ic_laws.proofs.keeping.Holds.{settled_holds}
use Rattle.ic_laws.proofs.keeping.Kept.{kept_same}
use Rattle.ic_laws.proofs.keeping.Sheets.{nothing_found}
use Rattle.ic_laws.proofs.kept.Everywhere.{every_both}
use Rattle.ic_laws.specs.Binding.{IsSettled, RespectsFolding, bound, bound_local, bound_sheet, name_or_dangling, sheet_or_dangling, spelled, spelled_sheet, spelled_word}
use Rattle.ic_laws.specs.Changes.{LocalHolds, SheetHolds, WordHolds}
use Rattle.ic_laws.specs.Keeping.{kept, same_keys}
use Rattle.ic_laws.specs.Mentions.{AllMentions, LocalMention, OfMentions, mapped}
use Rattle.ic_laws.specs.Name.{agrees}
use Rattle.ic_laws.specs.Scene.{SheetsDiffer, definition_spelling, found_sheet, local_key, sheet_spelling}
use Rattle.ic_laws.specs.Tree.{Bound}
use Rattle.ic_laws.specs.declared.scene.Scene.{Scene}
use Rattle.ic_laws.specs.declared.scene.SheetName.{SheetName}
use Rattle.ic_laws.specs.declared.tree.NameMention.{NameMention}
use Rattle.ic_laws.specs.declared.tree.NameMention.TheVariants as names
use Rattle.ic_laws.specs.declared.tree.SheetMention.{SheetMention}
use Rattle.ic_laws.specs.declared.tree.SheetMention.TheVariants as sheets
use Rattle.ic_laws.specs.declared.tree.Tree.TheOpen as one
use Rattle.ic_dump.specs.Passing.{unfound}

-- a scene with sheets more, behind its own
abbrev pub with_sheets : Scene → List SheetName → Scene
with_sheets scene others = record scene { sheets = scene.sheets ++ others }

-- a name agrees with that of none of these sheets
abbrev pub IsNoName : List SheetName → List ℕ → Type 0
IsNoName others name = AllByRecursion (λ (s : SheetName). agrees s.name name ≡ false) others

-- so does each name of a sheet that a mention lacks, and that each mention of a formula lacks
abbrev pub IsApartMention : List SheetName → SheetMention → Type 0
IsApartMention others m = AllByRecursion (IsNoName others) (unfound m)

abbrev pub IsApart : List SheetName → Bound → Type 0
IsApart others t = AllMentions (IsApartMention others) (λ w. Unit {0}) (λ s w. Unit {0}) t

none_named : (others : List SheetName) (name : List ℕ) → IsNoName others name → find (λ (s : SheetName). agrees s.name name) others ≡ None
none_named [] name h = refl
none_named (s ∷ others) name h = find_later (λ (x : SheetName). agrees x.name name) s others h.0 ∙ none_named others name h.1

module _ (scene : Scene) (others : List SheetName) where
  abbrev more : Scene
  more = with_sheets scene others

  -- a name that found nothing finds nothing
  still_unfound : (name : List ℕ) → found_sheet scene name ≡ None → IsNoName others name → found_sheet more name ≡ None
  still_unfound name none apart =
      let p : SheetName → Bool = λ s. agrees s.name name in
      ap (option_map (λ (s : SheetName). s.id))
      (find-append p scene.sheets others ∙ ap (λ o. option_or o (find p others)) (nothing_found (find p scene.sheets) none) ∙ none_named others name apart)

  -- a sheet that is there is there, and is spelled alike
  still_there : (id : ℕ) (s : SheetName) → find (λ (x : SheetName). nat_eq x.id id) scene.sheets ≡ Some s → find (λ (x : SheetName). nat_eq x.id id) more.sheets ≡ Some s
  still_there id s at =
      let p : SheetName → Bool = λ x. nat_eq x.id id in
      find-append p scene.sheets others ∙ ap (λ o. option_or o (find p others)) at

  module _ (differ : SheetsDiffer more) where
    -- what a mention becomes that is spelled in the scene and bound in the one with more
    abbrev again : SheetMention → SheetMention
    again m = bound_sheet more (spelled_sheet (sheet_spelling scene) m)

    abbrev IsFine : SheetMention → Type 0
    IsFine m = SheetHolds scene m × IsApartMention others m

    sheet_again : (m : SheetMention) → IsFine m → again m ≡ m
    sheet_again sheets.Own h = refl
    sheet_again (sheets.Dangling name) h = ap (sheet_or_dangling name) (still_unfound name h.0 h.1.0)
    sheet_again (sheets.Sheet id) h =
        let there = found_where_any (λ (s : SheetName). nat_eq s.id id) scene.sheets h.0 in
        let later = still_there id there.0 there.1 in
        let text : List ℕ = sheet_spelling scene id in
        let same : unwrap_or (option_map (λ (s : SheetName). s.name) (find (λ (s : SheetName). nat_eq s.id id) more.sheets)) (decimal id) ≡ text =
        ap (λ o. unwrap_or (option_map (λ (s : SheetName). s.name) o) (decimal id)) later ∙ sym (ap (λ o. unwrap_or (option_map (λ (s : SheetName). s.name) o) (decimal id)) there.1) in
        ap (sheet_or_dangling text) (ap (found_sheet more) (sym same) ∙ found_by_text more differ id there.0 (decimal id) later)

    local_word : (s : SheetMention) (m : NameMention) → LocalHolds scene s m → bound_local more s (spelled_word (definition_spelling scene) m) ≡ m
    local_word (sheets.Sheet id) (names.Name key) holds =
        let text : List ℕ = definition_spelling scene key in
        ap (name_or_dangling text) (ap (local_key scene id) (spelled_alike scene (Some id) key.name key key.name (local_is_found scene id key.name key holds)) ∙ holds)
    local_word (sheets.Sheet id) (names.Dangling word) holds = ap (name_or_dangling word) holds
    local_word (sheets.Sheet id) (names.Var word) holds = absurd holds
    local_word sheets.Own (names.Name key) holds = absurd holds
    local_word sheets.Own (names.Dangling word) holds = refl
    local_word sheets.Own (names.Var word) holds = absurd holds
    local_word (sheets.Dangling name) (names.Name key) holds = absurd holds
    local_word (sheets.Dangling name) (names.Dangling word) holds = refl
    local_word (sheets.Dangling name) (names.Var word) holds = absurd holds

    -- a word with its sheet
    abbrev both_again : SheetMention → NameMention → LocalMention
    both_again s m = (again s, bound_local more (again s) (spelled_word (definition_spelling scene) m))

    local_again : (s : SheetMention) (m : NameMention) → IsFine s → LocalHolds scene s m → both_again s m ≡ (s, m)
    local_again s m fine holds =
        let P : SheetMention → LocalMention = λ x. (x, bound_local more x (spelled_word (definition_spelling scene) m)) in
        let Q : NameMention → LocalMention = λ x. (s, x) in
        ap P (sheet_again s fine) ∙ ap Q (local_word s m holds)

    -- each node has what both facts of it say
    fine_here : (scope : Option ℕ) (kind : BoundKind) → OfMentions (SheetHolds scene) (WordHolds scene scope) (LocalHolds scene) kind → OfMentions (IsApartMention others) (λ w. Unit {0}) (λ s w. Unit {0}) kind
        → OfMentions IsFine (λ w. Unit {0}) (LocalHolds scene) kind
    fine_here scope (one.Reference sheet place) h a = (h, a)
    fine_here scope (one.Local sheet word) h a = ((h.0, a.0), h.1)
    fine_here scope (one.Word word) h a = tt
    fine_here scope (one.Call word arguments) h a = tt
    fine_here scope kind h a = tt

    module _ (english : List ℕ → Option ℕ) (by_fold : RespectsFolding english) (scope : Option ℕ) (t : Bound) (settled : IsSettled english scene scope t) (apart : IsApart others t) where
      fine : AllMentions IsFine (λ w. Unit {0}) (LocalHolds scene) t
      fine =
          every_both (OfMentions (SheetHolds scene) (WordHolds scene scope) (LocalHolds scene)) (λ pair. Unit {0})
          (OfMentions (IsApartMention others) (λ w. Unit {0}) (λ s w. Unit {0})) (λ pair. Unit {0}) (OfMentions IsFine (λ w. Unit {0}) (LocalHolds scene)) (λ pair. Unit {0})
          (fine_here scope) (λ pair a b. tt) t (settled_holds english scene scope t settled) apart

      -- it is spelled in its scene and bound again where more sheets stand
      pub again_there : bound english more scope (spelled scene t) ≡ t
      again_there =
          let mentions : FindAgain english scope scene more (sheet_spelling scene) (definition_spelling scene) again (λ m. m) both_again =
          record {
            sheet = λ name. refl;
            local = λ name word. refl;
            word = λ binders word. word_settles scene scope binders word;
            called = λ binders word e. by_fold _ word (word_fold scene scope binders word) ∙ e;
          } in
          subst (λ (u : Bound). bound english more scope (spelled scene u) ≡ mapped again (λ m. m) both_again u) settled
          (bound_again english scope scene more (sheet_spelling scene) (definition_spelling scene) again (λ m. m) both_again mentions (spelled scene t))
          ∙ mapped_same again (λ m. m) both_again IsFine (λ w. Unit {0}) (LocalHolds scene) sheet_again (λ m h. refl) local_again t fine

      -- so it is settled there
      pub settled_there : IsSettled english more scope t
      settled_there = subst (IsSettled english more scope) again_there (bound_is_settled english more scope differ by_fold (spelled scene t))

-- and stays as it is when such sheets come and go
module _ (scene : Scene) (english : List ℕ → Option ℕ) (by_fold : RespectsFolding english) (scope : Option ℕ) (t : Bound) (settled : IsSettled english scene scope t) where
  pub stays_over : (before after : List SheetName) → SheetsDiffer (with_sheets scene before) → SheetsDiffer (with_sheets scene after) → IsApart before t → IsApart after t
      → kept english (with_sheets scene before) (with_sheets scene after) same_keys scope t ≡ t
  stays_over before after differ_before differ_after apart_before apart_after =
      let there : IsSettled english (with_sheets scene after) scope t = settled_there scene after differ_after english by_fold scope t settled apart_after in
      kept_same english (with_sheets scene before) (with_sheets scene after) scope differ_after by_fold t
      (settled_there scene before differ_before english by_fold scope t settled apart_before) (settled_holds english (with_sheets scene after) scope t there)
