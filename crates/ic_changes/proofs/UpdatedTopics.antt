-- Each formula that an update touches mentions the name that the definition had, or the one that it gets.
use Rattle.std.proofs.Common.{◌≡◌, ℕ, List, [], ◌∷◌, false, ◌&&◌, refl, ap}
use Rattle.std.proofs.lemmas.Bool.{or_parts}
use Rattle.ic_laws.specs.Name.{fold}
use Rattle.ic_laws.specs.Scene.{same_scope}
use Rattle.ic_laws.specs.declared.tree.Formula.{Formula}
use Rattle.ic_laws.specs.declared.tree.Formula.TheVariants as formulas
use Rattle.ic_laws.specs.declared.tree.NameKey.{NameKey}
use Rattle.ic_laws.specs.declared.tree.NameMention.{NameMention}
use Rattle.ic_laws.specs.declared.tree.NameMention.TheVariants as names
use Rattle.ic_keep.specs.Touched.{is_touched, touches_word}
use Rattle.ic_pool.proofs.ChangeTopics.{apart}
use Rattle.ic_pool.proofs.MentionLemmas.{neither}
use Rattle.ic_pool.proofs.TopicLemmas.{some_among, tree_spared}
use Rattle.ic_keep.specs.Capture.{captured_formula}
use Rattle.ic_keep.specs.declared.change.KeyChange.{KeyChange}
use Rattle.ic_laws.specs.Keeping.{changed_key}
use Rattle.ic_pool.specs.Pool.{is_among}
use Rattle.ic_pool.specs.Remade.{Remade, TouchesAbout}
use Rattle.ic_pool.specs.Tested.{PassesAbout}
use Rattle.ic_pool.specs.Topics.{folded_topic, mentions_some, word_topics}
use Rattle.ic_changes.specs.Updated.{captures_by}

module _ (old new : NameKey) where
  abbrev names_of : List ℕ
  names_of = folded_topic old.name ∷ folded_topic new.name ∷ []

  word_spared : (m : NameMention) → some_among names_of (word_topics m) ≡ false → touches_word old new m ≡ false
  word_spared (names.Var word) e = refl
  word_spared (names.Name key) e =
      let first = or_parts (is_among (folded_topic old.name) (folded_topic key.name ∷ [])) (some_among (folded_topic new.name ∷ []) (folded_topic key.name ∷ [])) e in
      let second = or_parts (is_among (folded_topic new.name) (folded_topic key.name ∷ [])) false first.1 in
      neither (ap (λ b. b && same_scope old.scope key.scope) (apart old.name key.name first.0)) (apart new.name key.name second.0)
  word_spared (names.Dangling word) e =
      let first = or_parts (is_among (folded_topic old.name) (folded_topic (fold word) ∷ [])) (some_among (folded_topic new.name ∷ []) (folded_topic (fold word) ∷ [])) e in
      apart new.name (fold word) (or_parts (is_among (folded_topic new.name) (folded_topic (fold word) ∷ [])) false first.1).0

  pub touched_about : (f : Formula) → mentions_some names_of f ≡ false → is_touched old new f ≡ false
  touched_about (formulas.Tree t) e = tree_spared names_of (λ sheet. false) (touches_word old new) (λ sheet word. touches_word old new word) (λ m h. refl) word_spared (λ sheet m h. word_spared m h) t e
  touched_about (formulas.Raw text) e = refl

-- so does each of which a word is captured
pub captured_about : (rule : Remade) (change : KeyChange) (topics : List ℕ) → TouchesAbout rule topics → PassesAbout (captures_by rule change) topics
captured_about rule change topics about scope f e = ap (λ b. b && captured_formula (changed_key change.old change.new) f (rule.becomes scope f)) (about scope f e)
