-- A bound formula is well-formed where its spelled one is, and the other way round where what it mentions is written by
-- names.
use Rattle.std.proofs.Common.{◌≡◌, ◌≢◌, ℕ, ◌+◌, ◌≤◌, List, [], ◌∷◌, map, Bool, true, false, not, ◌&&◌, codes, Option, None, Some, refl, sym, ap, subst, ◌∙◌, if◌then◌else◌}
use Rattle.std.proofs.lemmas.Bool.{and_parts}
use Rattle.ic_laws.specs.Binding.{Binders, BoundPair, bound_call, bound_local, bound_sheet, bound_under, bound_word, is_bound_by, name_or_dangling, pair_binds, pairs_bound, sheet_or_dangling, spelled_kind, spelled_sheet, spelled_with, spelled_word}
use Rattle.ic_laws.specs.Name.{agrees, is_identifier, is_variable}
use Rattle.ic_laws.specs.Parse.{Pair, SpelledKind}
use Rattle.ic_laws.specs.Scene.{found_local, found_name, found_sheet}
use Rattle.ic_laws.specs.Tree.{Bound, CallsCallable, HasArguments, HasElements, HasNames, HasOperands, HasParts, HasPlaces, HasUnsigned, IsKindWell, IsOperand, IsPairWell, IsThere, IsWellFormed, Spelled, bound_names, is_called_name, is_named_mention, is_named_sheet, is_sheet_mention, is_word_mention, is_written_sheet, sign_level, spelled_names}
use Rattle.ic_laws.specs.declared.scene.Scene.{Scene}
use Rattle.ic_laws.specs.declared.tree.NameKey.{NameKey}
use Rattle.ic_laws.specs.declared.tree.NameMention.{NameMention}
use Rattle.ic_laws.specs.declared.tree.NameMention.TheVariants as names
use Rattle.ic_laws.specs.declared.tree.SheetMention.{SheetMention}
use Rattle.ic_laws.specs.declared.tree.SheetMention.TheVariants as sheets
use Rattle.ic_laws.specs.declared.tree.Tree.{every-Tree}
use Rattle.ic_laws.specs.declared.tree.Tree.TheOpen as one
use Rattle.ic_laws.proofs.binding.Again.{BoundKind, children_spelled, once, pair_spelled, under}
use Rattle.ic_laws.proofs.kept.Lifting.{every_bound, every_spelled}
use Rattle.ic_laws.proofs.kept.Shapes.{bound_arguments, bound_size, bound_top, spelled_arguments, spelled_size, spelled_top}
use Rattle.ic_laws.proofs.FoldLaws.{clash as not_both}

-- the words of LET and LAMBDA are these
pub record SpecialWords (english : List ℕ → Option ℕ) (let_fn lambda_fn : ℕ) : Type 0 where
  pub of_let : (word : List ℕ) → english word ≡ Some let_fn → agrees word (codes "LET") ≡ true
  pub of_lambda : (word : List ℕ) → english word ≡ Some lambda_fn → agrees word (codes "LAMBDA") ≡ true

module _ (english : List ℕ → Option ℕ) (scene : Scene) (scope : Option ℕ) (let_fn lambda_fn : ℕ) where
  abbrev kind_of : SpelledKind → Binders → BoundKind
  kind_of = once english scene scope

  tight_bound : (least : ℕ) (t : Spelled) (binders : Binders) → IsOperand least t → IsOperand least (bound_under english scene scope t binders)
  tight_bound least t binders h = subst (λ n. least ≤ n) (sym (bound_top english scene scope t binders).level) h

  there_bound : (t : Spelled) (binders : Binders) → IsThere t → IsThere (bound_under english scene scope t binders)
  there_bound t binders h = (bound_top english scene scope t binders).empty ∙ h

  operands_bound : (kind : SpelledKind) (binders : Binders) → HasOperands kind → HasOperands (kind_of kind binders)
  operands_bound (one.Binary sign a b) binders h = (tight_bound (sign_level sign) a binders h.0, tight_bound (sign_level sign + 1) b binders h.1)
  operands_bound (one.Prefix sign x) binders h = tight_bound 6 x binders h
  operands_bound (one.Percent x) binders h = tight_bound 7 x binders h
  operands_bound (one.Spill x) binders h = tight_bound 7 x binders h
  operands_bound (one.Apply x arguments) binders h = tight_bound 7 x binders h
  operands_bound (one.Call word arguments) binders h = at (english word)
    where
      at : (found : Option ℕ) → HasOperands (bound_call english scene scope found word (map (under english scene scope) arguments) binders)
      at (Some number) = tt
      at None = tt
  operands_bound kind binders h = tt

  called_bound : (kind : SpelledKind) (binders : Binders) → CallsCallable kind → CallsCallable (kind_of kind binders)
  called_bound (one.Apply x arguments) binders h = (bound_top english scene scope x binders).callable ∙ h
  called_bound (one.Call word arguments) binders h = at (english word)
    where
      at : (found : Option ℕ) → CallsCallable (bound_call english scene scope found word (map (under english scene scope) arguments) binders)
      at (Some number) = tt
      at None = tt
  called_bound kind binders h = tt

  arguments_bound : (kind : SpelledKind) (binders : Binders) → HasArguments kind → HasArguments (kind_of kind binders)
  arguments_bound (one.Fun number arguments) binders h = bound_arguments english scene scope arguments binders ∙ h
  arguments_bound (one.Call word arguments) binders h = at (english word)
    where
      at : (found : Option ℕ) → HasArguments (bound_call english scene scope found word (map (under english scene scope) arguments) binders)
      at (Some number) = bound_arguments english scene scope arguments binders ∙ h
      at None = bound_arguments english scene scope arguments binders ∙ h
  arguments_bound (one.Apply x arguments) binders h = bound_arguments english scene scope arguments binders ∙ h
  arguments_bound kind binders h = tt

  parts_bound : (kind : SpelledKind) (binders : Binders) → HasParts kind → HasParts (kind_of kind binders)
  parts_bound (one.Paren x) binders h = there_bound x binders h
  parts_bound (one.Prefix sign x) binders h = there_bound x binders h
  parts_bound (one.Percent x) binders h = there_bound x binders h
  parts_bound (one.Spill x) binders h = there_bound x binders h
  parts_bound (one.Binary sign a b) binders h = (there_bound a binders h.0, there_bound b binders h.1)
  parts_bound (one.Let pairs body) binders h = there_bound body _ h
  parts_bound (one.Lambda parameters body) binders h = there_bound body _ h
  parts_bound (one.Apply x arguments) binders h = there_bound x binders h
  parts_bound (one.Call word arguments) binders h = at (english word)
    where
      at : (found : Option ℕ) → HasParts (bound_call english scene scope found word (map (under english scene scope) arguments) binders)
      at (Some number) = tt
      at None = tt
  parts_bound kind binders h = tt

  some_pairs : (ps : List Pair) (binders : Binders) → ps ≢ [] → pairs_bound (map (pair_binds english scene scope) ps) binders ≢ []
  some_pairs [] binders h e = h refl
  some_pairs (p ∷ ps) binders h e = cc

  elements_bound : (kind : SpelledKind) (binders : Binders) → HasElements kind → HasElements (kind_of kind binders)
  elements_bound (one.Let pairs body) binders h = some_pairs pairs binders h
  elements_bound (one.Array rows) binders h = h
  elements_bound (one.Call word arguments) binders h = at (english word)
    where
      at : (found : Option ℕ) → HasElements (bound_call english scene scope found word (map (under english scene scope) arguments) binders)
      at (Some number) = tt
      at None = tt
  elements_bound kind binders h = tt

  unsigned_bound : (kind : SpelledKind) (binders : Binders) → HasUnsigned kind → HasUnsigned (kind_of kind binders)
  unsigned_bound (one.Num units) binders h = h
  unsigned_bound (one.Array rows) binders h = h
  unsigned_bound (one.Call word arguments) binders h = at (english word)
    where
      at : (found : Option ℕ) → HasUnsigned (bound_call english scene scope found word (map (under english scene scope) arguments) binders)
      at (Some number) = tt
      at None = tt
  unsigned_bound kind binders h = tt

  places_bound : (kind : SpelledKind) (binders : Binders) → HasPlaces kind → HasPlaces (kind_of kind binders)
  places_bound (one.Reference sheet place) binders h = h
  places_bound (one.Call word arguments) binders h = at (english word)
    where
      at : (found : Option ℕ) → HasPlaces (bound_call english scene scope found word (map (under english scene scope) arguments) binders)
      at (Some number) = tt
      at None = tt
  places_bound kind binders h = tt

  sheet_bound : (name : Option (List ℕ)) → is_written_sheet name ≡ true → is_sheet_mention (bound_sheet scene name) ≡ true
  sheet_bound None h = refl
  sheet_bound (Some name) h = at (found_sheet scene name)
    where
      at : (found : Option ℕ) → is_sheet_mention (sheet_or_dangling name found) ≡ true
      at (Some id) = refl
      at None = h

  word_bound : (test : List ℕ → Bool) (binders : Binders) (word : List ℕ) → test word ≡ true → is_word_mention test (bound_word scene scope binders word) ≡ true
  word_bound test binders word h = at (is_bound_by binders word) (found_name scene scope word)
    where
      at : (b : Bool) (found : Option NameKey) → is_word_mention test (if b then names.Var word else name_or_dangling word found) ≡ true
      at true found = h
      at false (Some key) = refl
      at false None = h

  named_bound : (name : Option (List ℕ)) → is_named_sheet name ≡ true → is_named_mention (bound_sheet scene name) ≡ true
  named_bound None h = h
  named_bound (Some name) h = at (found_sheet scene name)
    where
      at : (found : Option ℕ) → is_named_mention (sheet_or_dangling name found) ≡ true
      at (Some id) = refl
      at None = h

  local_bound : (sheet : SheetMention) (word : List ℕ) → is_identifier word ≡ true → is_word_mention is_identifier (bound_local scene sheet word) ≡ true
  local_bound sheets.Own word h = h
  local_bound (sheets.Dangling name) word h = h
  local_bound (sheets.Sheet id) word h = at (found_local scene id word)
    where
      at : (found : Option NameKey) → is_word_mention is_identifier (name_or_dangling word found) ≡ true
      at (Some key) = refl
      at None = h

  module _ (special : SpecialWords english let_fn lambda_fn) where
    names_bound : (kind : SpelledKind) (binders : Binders) → HasNames spelled_names let_fn lambda_fn kind → HasNames bound_names let_fn lambda_fn (kind_of kind binders)
    names_bound (one.Reference sheet place) binders h = sheet_bound sheet h
    names_bound (one.Local sheet word) binders h = (named_bound sheet h.0, local_bound (bound_sheet scene sheet) word h.1)
    names_bound (one.Word word) binders h = word_bound is_variable binders word h
    names_bound (one.Call word arguments) binders h = at (english word) refl
      where
        at : (found : Option ℕ) → english word ≡ found → HasNames bound_names let_fn lambda_fn (bound_call english scene scope found word (map (under english scene scope) arguments) binders)
        at (Some number) e =
            let parts = and_parts (is_variable word && not (agrees word (codes "LET"))) (not (agrees word (codes "LAMBDA"))) h in
            let no_let = (and_parts (is_variable word) (not (agrees word (codes "LET"))) parts.0).1 in (
              λ same. not_both (agrees word (codes "LET")) (special.of_let word (e ∙ ap (λ n. Some n) same)) no_let,
              λ same. not_both (agrees word (codes "LAMBDA")) (special.of_lambda word (e ∙ ap (λ n. Some n) same)) parts.1,
            )
        at None e = word_bound is_called_name binders word h
    names_bound (one.Fun number arguments) binders h = h
    names_bound (one.Lambda parameters body) binders h = h
    names_bound kind binders h = tt

    kind_bound : (kind : SpelledKind) (binders : Binders) → IsKindWell spelled_names let_fn lambda_fn kind → IsKindWell bound_names let_fn lambda_fn (kind_of kind binders)
    kind_bound kind binders h = record {
      operands = operands_bound kind binders h.operands;
      called = called_bound kind binders h.called;
      arguments = arguments_bound kind binders h.arguments;
      parts = parts_bound kind binders h.parts;
      elements = elements_bound kind binders h.elements;
      unsigned = unsigned_bound kind binders h.unsigned;
      words = names_bound kind binders h.words;
      places = places_bound kind binders h.places;
    }

    -- what is bound of a well-formed formula is well-formed
    pub bound_well : (t : Spelled) → IsWellFormed spelled_names let_fn lambda_fn t → IsWellFormed bound_names let_fn lambda_fn (bound_under english scene scope t [])
    bound_well t h =
        let size = bound_size english scene scope t [] in record {
          nodes =
              every_bound english scene scope (IsKindWell spelled_names let_fn lambda_fn) IsPairWell (IsKindWell bound_names let_fn lambda_fn) IsPairWell
              (record { node = kind_bound; pair = λ variable value binders p. record { variable = p.variable; value = there_bound value binders p.value } }) t h.nodes [];
          there = there_bound t [] h.there;
          few_brackets = subst (λ n. n ≤ 128) (sym size.brackets) h.few_brackets;
          low = subst (λ n. n ≤ 1024) (sym size.height) h.low;
        }

module _ (sheet_text : ℕ → List ℕ) (key_text : NameKey → List ℕ) (let_fn lambda_fn : ℕ) where
  abbrev spelled_of : BoundKind → SpelledKind
  spelled_of kind = spelled_kind sheet_text key_text (children_spelled sheet_text key_text kind)

  -- what a node mentions is written by the name of a sheet, by a word, by a word that can be called
  abbrev pub WrittenByNames : BoundKind → Type 0
  WrittenByNames (one.Reference sheet place) = is_written_sheet (spelled_sheet sheet_text sheet) ≡ true
  WrittenByNames (one.Local sheet word) = (is_named_sheet (spelled_sheet sheet_text sheet) ≡ true) × (is_identifier (spelled_word key_text word) ≡ true)
  WrittenByNames (one.Word word) = is_variable (spelled_word key_text word) ≡ true
  WrittenByNames (one.Call word arguments) = is_called_name (spelled_word key_text word) ≡ true
  WrittenByNames kind = Unit {0}

  tight_spelled : (least : ℕ) (t : Bound) → IsOperand least t → IsOperand least (spelled_with sheet_text key_text t)
  tight_spelled least t h = subst (λ n. least ≤ n) (sym (spelled_top sheet_text key_text t).level) h

  there_spelled : (t : Bound) → IsThere t → IsThere (spelled_with sheet_text key_text t)
  there_spelled t h = (spelled_top sheet_text key_text t).empty ∙ h

  operands_spelled : (kind : BoundKind) → HasOperands kind → HasOperands (spelled_of kind)
  operands_spelled (one.Binary sign a b) h = (tight_spelled (sign_level sign) a h.0, tight_spelled (sign_level sign + 1) b h.1)
  operands_spelled (one.Prefix sign x) h = tight_spelled 6 x h
  operands_spelled (one.Percent x) h = tight_spelled 7 x h
  operands_spelled (one.Spill x) h = tight_spelled 7 x h
  operands_spelled (one.Apply x arguments) h = tight_spelled 7 x h
  operands_spelled kind h = tt

  called_spelled : (kind : BoundKind) → CallsCallable kind → CallsCallable (spelled_of kind)
  called_spelled (one.Apply x arguments) h = (spelled_top sheet_text key_text x).callable ∙ h
  called_spelled kind h = tt

  arguments_spelled : (kind : BoundKind) → HasArguments kind → HasArguments (spelled_of kind)
  arguments_spelled (one.Fun number arguments) h = spelled_arguments sheet_text key_text arguments ∙ h
  arguments_spelled (one.Call word arguments) h = spelled_arguments sheet_text key_text arguments ∙ h
  arguments_spelled (one.Apply x arguments) h = spelled_arguments sheet_text key_text arguments ∙ h
  arguments_spelled kind h = tt

  parts_spelled : (kind : BoundKind) → HasParts kind → HasParts (spelled_of kind)
  parts_spelled (one.Paren x) h = there_spelled x h
  parts_spelled (one.Prefix sign x) h = there_spelled x h
  parts_spelled (one.Percent x) h = there_spelled x h
  parts_spelled (one.Spill x) h = there_spelled x h
  parts_spelled (one.Binary sign a b) h = (there_spelled a h.0, there_spelled b h.1)
  parts_spelled (one.Let pairs body) h = there_spelled body h
  parts_spelled (one.Lambda parameters body) h = there_spelled body h
  parts_spelled (one.Apply x arguments) h = there_spelled x h
  parts_spelled kind h = tt

  some_spelled : (ps : List BoundPair) → ps ≢ [] → map (pair_spelled sheet_text key_text) ps ≢ []
  some_spelled [] h e = h refl
  some_spelled (p ∷ ps) h e = cc

  elements_spelled : (kind : BoundKind) → HasElements kind → HasElements (spelled_of kind)
  elements_spelled (one.Let pairs body) h = some_spelled pairs h
  elements_spelled (one.Array rows) h = h
  elements_spelled kind h = tt

  unsigned_spelled : (kind : BoundKind) → HasUnsigned kind → HasUnsigned (spelled_of kind)
  unsigned_spelled (one.Num units) h = h
  unsigned_spelled (one.Array rows) h = h
  unsigned_spelled kind h = tt

  places_spelled : (kind : BoundKind) → HasPlaces kind → HasPlaces (spelled_of kind)
  places_spelled (one.Reference sheet place) h = h
  places_spelled kind h = tt

  names_spelled : (kind : BoundKind) → WrittenByNames kind → HasNames bound_names let_fn lambda_fn kind → HasNames spelled_names let_fn lambda_fn (spelled_of kind)
  names_spelled (one.Reference sheet place) written h = written
  names_spelled (one.Local sheet word) written h = written
  names_spelled (one.Word word) written h = written
  names_spelled (one.Call word arguments) written h = written
  names_spelled (one.Fun number arguments) written h = h
  names_spelled (one.Lambda parameters body) written h = h
  names_spelled kind written h = tt

  -- a node that is well-formed and whose mention is written by a name
  pub record IsWritten (kind : BoundKind) : Type 0 where
    pub well : IsKindWell bound_names let_fn lambda_fn kind
    pub names : WrittenByNames kind

  kind_spelled : (kind : BoundKind) → IsWritten kind → IsKindWell spelled_names let_fn lambda_fn (spelled_of kind)
  kind_spelled kind h = record {
    operands = operands_spelled kind h.well.operands;
    called = called_spelled kind h.well.called;
    arguments = arguments_spelled kind h.well.arguments;
    parts = parts_spelled kind h.well.parts;
    elements = elements_spelled kind h.well.elements;
    unsigned = unsigned_spelled kind h.well.unsigned;
    words = names_spelled kind h.names h.well.words;
    places = places_spelled kind h.well.places;
  }

  -- what is spelled of a well-formed formula is well-formed
  pub spelled_well : (t : Bound) → IsWellFormed bound_names let_fn lambda_fn t → every-Tree SheetMention NameMention IsWritten IsPairWell t → IsWellFormed spelled_names let_fn lambda_fn (spelled_with sheet_text key_text t)
  spelled_well t h written =
      let size = spelled_size sheet_text key_text t in record {
        nodes =
            every_spelled sheet_text key_text IsWritten IsPairWell (IsKindWell spelled_names let_fn lambda_fn) IsPairWell
            (record { node = kind_spelled; pair = λ variable value p. record { variable = p.variable; value = there_spelled value p.value } }) t written;
        there = there_spelled t h.there;
        few_brackets = subst (λ n. n ≤ 128) (sym size.brackets) h.few_brackets;
        low = subst (λ n. n ≤ 1024) (sym size.height) h.low;
      }
