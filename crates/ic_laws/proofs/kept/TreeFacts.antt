-- What a step of a book asks of trees holds in all notations.
use Rattle.std.proofs.Common.{◌≡◌, ℕ, pos, List, [], ◌∷◌, Bool, true, false, Option, None, Some, option_map, cond, ◌==◌, ap, subst}
use Rattle.std.specs.Option.{option_or}
use Rattle.std.proofs.lemmas.Option.{option_and_then_some, same_Some}
use Rattle.ic_laws.specs.Character.{equals}
use Rattle.ic_laws.specs.CoreBook.{CoreBook, scene_of}
use Rattle.ic_laws.specs.Dialect.{DialectMeaning}
use Rattle.ic_laws.specs.FormulaReading.{Body, body_of, if_lambda, is_found, is_lambda_kind, lambda_tree, reference_tree, shown_at, trimmed, whole_reference, without_equals}
use Rattle.ic_laws.specs.Keeping.{same_keys}
use Rattle.ic_laws.specs.Notations.{AreNotations, IsShownForm, Notations, english}
use Rattle.ic_laws.specs.Parse.{node}
use Rattle.ic_laws.specs.ReadAs.{read_as}
use Rattle.ic_laws.specs.Scan.{first_is}
use Rattle.ic_laws.specs.Tree.{Spelled}
use Rattle.ic_laws.specs.ValidCore.{IsPlaceInside}
use Rattle.ic_laws.specs.declared.reference.RefToken.{RefToken}
use Rattle.ic_laws.specs.declared.scene.Scene.{Scene}
use Rattle.ic_laws.specs.declared.tree.Tree.{out-Tree}
use Rattle.ic_laws.specs.declared.tree.Tree.TheOpen as one
use Rattle.ic_laws.proofs.core.Steps.{TreeFacts}
use Rattle.ic_laws.proofs.kept.Kept.{CanBeKept, bound_is_kept, bound_kept, kept_is_kept, read_can_be_kept, reference_can_be_kept}
use Rattle.ic_laws.proofs.kept.Scenes.{kept_where_alike, moved_alike}
use Rattle.ic_laws.proofs.parsing.Soundness.{option_map_some}

-- the first of two answers, or the second
either_some : {A P : Type 0} (a b : Option A) (x : A) → option_or a b ≡ Some x → (a ≡ Some x → P) → (b ≡ Some x → P) → P
either_some (Some y) b x e first second = first e
either_some None b x e first second = second e

-- a whole reference is the reference
whole_is : (P : Spelled → Type 0) (scene : Scene) (r : RefToken) (rest : List ℕ) (t : Spelled) → whole_reference scene r rest ≡ Some t → P (node (one.Reference r.sheet r.place)) → P t
whole_is P scene r [] t e h = at (is_found scene r.sheet) e
  where
    at : (b : Bool) → cond b (Some (node (one.Reference r.sheet r.place))) None ≡ Some t → P t
    at true f = subst P (same_Some (node (one.Reference r.sheet r.place)) t f) h
    at false f = cc
whole_is P scene r (c ∷ cs) t e h = cc

-- the tree of a LAMBDA is the one that was read
lambda_is : (read t : Spelled) → if_lambda read ≡ Some t → read ≡ t
lambda_is read t e = at (is_lambda_kind (out-Tree (Option (List ℕ)) (List ℕ) read)) e
  where
    at : (b : Bool) → cond b (Some read) None ≡ Some t → read ≡ t
    at true f = same_Some read t f
    at false f = cc

module _ (n : Notations) (notations : AreNotations n) (book : CoreBook) (locale : n.knows_locale book.locale ≡ true) (language : n.knows_language book.language ≡ true) where
  abbrev active : DialectMeaning
  active = shown_at n book (pos 1) (pos 1)

  abbrev also : DialectMeaning
  also = n.shown english english (pos 1) (pos 1)

  shown : IsShownForm n (shown_at n book (pos 1) (pos 1)) (pos 1) (pos 1)
  shown = notations.shown book.locale book.language (pos 1) (pos 1) locale language

  in_english : IsShownForm n (n.shown english english (pos 1) (pos 1)) (pos 1) (pos 1)
  in_english = notations.shown english english (pos 1) (pos 1) notations.english_locale notations.english_language

  abbrev Fine : Spelled → Type 0
  Fine = CanBeKept n (pos 1) (pos 1)

  reference_fine : (text : List ℕ) (t : Spelled) → reference_tree active (scene_of book) text ≡ Some t → Fine t
  reference_fine text t e =
      option_and_then_some (λ (found : RefToken × List ℕ). whole_reference (scene_of book) found.0 found.1) (active.read_ref (trimmed text)) t e
      (λ found read whole.
      whole_is Fine (scene_of book) found.0 found.1 t whole
      (reference_can_be_kept n active (pos 1) (pos 1) shown (trimmed text) found.1 found.0 read))

  lambda_fine : (text : List ℕ) (t : Spelled) → lambda_tree active also text ≡ Some t → Fine t
  lambda_fine text t e =
      option_and_then_some if_lambda (option_or (read_as active text) (read_as also text)) t e
      (λ read got is.
      subst Fine (lambda_is read t is)
      (either_some (read_as active text) (read_as also text) read got
      (λ first. read_can_be_kept n active (pos 1) (pos 1) shown text read first)
      (λ second. read_can_be_kept n also (pos 1) (pos 1) in_english text read second)))

  -- the tree of a body can be kept
  pub body_can_be_kept : (text : List ℕ) (b : Body) → body_of n book text ≡ Some b → CanBeKept n (pos 1) (pos 1) b.tree
  body_can_be_kept text b e =
      let plain : Spelled → Body = λ t. record { has_equals = false; tree = t } in
      let with_sign : Spelled → Body = λ t. record { has_equals = first_is (λ c. c == equals) text; tree = t } in
      let reference : Option Spelled = reference_tree active (scene_of book) text in
      let lambda_read : Option Spelled = lambda_tree active also (without_equals text) in
      either_some (option_map plain reference) (option_map with_sign lambda_read) b e
      (λ first. option_map_some plain reference b first (λ t is same. subst Fine (ap (λ (x : Body). x.tree) same) (reference_fine text t is)))
      (λ second. option_map_some with_sign lambda_read b second (λ t is same. subst Fine (ap (λ (x : Body). x.tree) same) (lambda_fine (without_equals text) t is)))

-- What steps ask of trees.
pub tree_facts : (n : Notations) → AreNotations n → TreeFacts n
tree_facts n notations = record {
  keeps = λ before after named named_after scope row column t h. kept_is_kept n notations before after named named_after same_keys scope (IsPlaceInside row column) t h;
  reads = λ scene named d row column form text t read scope. bound_is_kept n notations scene named.differ d row column form text t read scope;
  body = λ book locale language scene named text b e scope. bound_kept n notations scene scope (IsPlaceInside (pos 1) (pos 1)) named.differ b.tree (body_can_be_kept n notations book locale language text b e);
  alike = λ book valid from to within scope row column t h.
      kept_where_alike n (scene_of book) _ (moved_alike n book valid from to within) scope (IsPlaceInside row column) t h;
}
