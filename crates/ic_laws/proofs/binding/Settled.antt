-- A bound formula is settled: spelled and bound again, it is the same.
use Rattle.std.proofs.Common.{◌≡◌, ◌∙◌, ap, refl, ℕ, List, Option}
use Rattle.ic_laws.specs.Tree.{Spelled, Kind}
use Rattle.ic_laws.specs.declared.tree.NameMention.{NameMention}
use Rattle.ic_laws.specs.declared.tree.SheetMention.{SheetMention}
use Rattle.ic_laws.specs.declared.tree.Tree.TheOpen as one
use Rattle.ic_laws.proofs.binding.Again.{FindAgain, bound_again, mapped_same}
use Rattle.ic_laws.proofs.binding.Induction.{every_of_all}
use Rattle.ic_laws.proofs.binding.SceneLemmas.{local_settles, sheet_settles, word_settles, word_fold}
use Rattle.ic_laws.specs.Binding.{IsSettled, RespectsFolding, bound, bound_local, bound_sheet, spelled_sheet, spelled_word}
use Rattle.ic_laws.specs.Mentions.{LocalMention, OfMentions}
use Rattle.ic_laws.specs.Scene.{SheetsDiffer, definition_spelling, sheet_spelling}
use Rattle.ic_laws.specs.declared.scene.Scene.{Scene}

-- a fact of all mentions
abbrev NoSheetFact : SheetMention → Type 0
NoSheetFact mention = Unit {0}

abbrev NoNameFact : NameMention → Type 0
NoNameFact mention = Unit {0}

abbrev NoLocalFact : SheetMention → NameMention → Type 0
NoLocalFact sheet mention = Unit {0}

none_asked : (kind : Kind SheetMention NameMention) → OfMentions NoSheetFact NoNameFact NoLocalFact kind
none_asked (one.Reference sheet place) = tt
none_asked (one.Local sheet word) = (tt, tt)
none_asked (one.Word word) = tt
none_asked (one.Call word arguments) = tt
none_asked kind = tt

-- a word with its sheet, where the sheet is found again
local_again : (scene : Scene) (name : Option (List ℕ)) (word : List ℕ) → bound_sheet scene (spelled_sheet (sheet_spelling scene) (bound_sheet scene name)) ≡ bound_sheet scene name
    → ◌≡◌ {A = LocalMention} (bound_sheet scene (spelled_sheet (sheet_spelling scene) (bound_sheet scene name)), bound_local scene (bound_sheet scene (spelled_sheet (sheet_spelling scene) (bound_sheet scene name))) (spelled_word (definition_spelling scene) (bound_local scene (bound_sheet scene name) word)))
    (bound_sheet scene name, bound_local scene (bound_sheet scene name) word)
local_again scene name word e =
    let s : SheetMention = bound_sheet scene name in
    let text : List ℕ = spelled_word (definition_spelling scene) (bound_local scene s word) in
    let P : SheetMention → LocalMention = λ x. (x, bound_local scene x text) in
    let Q : NameMention → LocalMention = λ m. (s, m) in
    ap P e ∙ ap Q (local_settles scene s word)

find_again : (english : List ℕ → Option ℕ) (scene : Scene) (scope : Option ℕ) → RespectsFolding english
    → ((sheet : Option (List ℕ)) → bound_sheet scene (spelled_sheet (sheet_spelling scene) (bound_sheet scene sheet)) ≡ bound_sheet scene sheet)
    → FindAgain english scope scene scene (sheet_spelling scene) (definition_spelling scene) (λ m. m) (λ m. m) (λ s m. (s, m))
find_again english scene scope by_fold sheet = record {
  sheet = sheet;
  local = λ name word. local_again scene name word (sheet name);
  word = word_settles scene scope;
  called = λ binders word e. by_fold _ word (word_fold scene scope binders word) ∙ e;
}

settled_if : (english : List ℕ → Option ℕ) (scene : Scene) (scope : Option ℕ) → FindAgain english scope scene scene (sheet_spelling scene) (definition_spelling scene) (λ m. m) (λ m. m) (λ s m. (s, m))
    → (t : Spelled) → IsSettled english scene scope (bound english scene scope t)
settled_if english scene scope again t =
    bound_again english scope scene scene (sheet_spelling scene) (definition_spelling scene) (λ m. m) (λ m. m) (λ s m. (s, m)) again t
    ∙ mapped_same (λ m. m) (λ m. m) (λ s m. (s, m)) NoSheetFact NoNameFact NoLocalFact (λ m h. refl) (λ m h. refl) (λ s m h k. refl) (bound english scene scope t)
    (every_of_all (OfMentions NoSheetFact NoNameFact NoLocalFact) (λ pair. Unit {0}) none_asked (λ pair. tt) (bound english scene scope t))

-- a bound formula is settled where no two sheets' names agree
pub bound_is_settled : (english : List ℕ → Option ℕ) (scene : Scene) (scope : Option ℕ) → SheetsDiffer scene → RespectsFolding english → (t : Spelled) → IsSettled english scene scope (bound english scene scope t)
bound_is_settled english scene scope differ by_fold t = settled_if english scene scope (find_again english scene scope by_fold (sheet_settles scene differ)) t
