-- The formulas that pass a test are looked for at some places, one after another.
use Rattle.std.proofs.Common.{◌≡◌, ℕ, List, [], ◌∷◌, Bool, true, false, ◌&&◌, ◌||◌, Option, Some, None, refl, sym, ap, ◌∙◌}
use Rattle.std.specs.Prelude.{nat_eq}
use Rattle.std.specs.BTreeMap.{is_at}
use Rattle.std.specs.BTreeSet.{BTreeSet, contains}
use Rattle.std.specs.List.{list_any, slice_get}
use Rattle.std.specs.Option.{option_map_or}
use Rattle.std.specs.Ordering.{nat_cmp}
use Rattle.std.proofs.lemmas.Bool.{eqb-true}
use Rattle.ic_laws.specs.declared.scene.Scene.{Scene}
use Rattle.ic_laws.specs.declared.tree.Formula.{Formula}
use Rattle.ic_laws.specs.declared.tree.NameKey.{NameKey}
use Rattle.ic_laws.specs.declared.tree.NameMention.TheVariants as names
use Rattle.ic_pool.specs.MentionPlaces.{HasPassing}
use Rattle.ic_pool.specs.Mentioning.{AreThosePassing, mentions_name, mentions_sheet, passes_at}
use Rattle.ic_pool.specs.Pool.{is_among}
use Rattle.ic_pool.specs.Topics.{folded_topic, mentions_some, sheet_topic}
use Rattle.ic_pool.proofs.ChangeTopics.{deleting_spares, going_spares}
use Rattle.ic_pool.proofs.ChangeLemmas.{both_false as no_more}

absorbed : (q r : Bool) → (q || (r && q)) ≡ q
absorbed true r = refl
absorbed false true = refl
absorbed false false = refl

-- what was put in, or is at the place that is looked at, or is left
joined : (c e r p q : Bool) → (e ≡ true → p ≡ q) → ((c || (e && p)) || (r && q)) ≡ (c || ((e || r) && q))
joined true e r p q same = refl
joined false true r p q same = ap (λ b. b || (r && q)) (same refl) ∙ absorbed q r
joined false false r p q same = refl

pub or_false : (b : Bool) → b ≡ (b || false)
or_false true = refl
or_false false = refl

module _ (test : Formula → Bool) (formulas : List Formula) where
  -- each place that passes is put in or left to look at, and each that is put in passes
  pub record PassingSoFar (left : List ℕ) (passing : BTreeSet ℕ) : Type 0 where
    pub all : (k : ℕ) → (contains nat_cmp passing k || (is_among k left && passes_at test formulas k)) ≡ passes_at test formulas k

  there : (places : List ℕ) (k : ℕ) (o : Option Formula) → slice_get formulas k ≡ o → HasPassing test places formulas
      → option_map_or test o false ≡ true → is_among k places ≡ true
  there places k None is has e = cc
  there places k (Some x) is has e = has k x is e

  pub none_put : (places : List ℕ) (passing : BTreeSet ℕ) → passing.keys ≡ [] → HasPassing test places formulas → PassingSoFar places passing
  none_put places passing none has = record {
    all = λ k.
        ap (λ b. b || (is_among k places && passes_at test formulas k)) (ap (λ ks. list_any (is_at (nat_cmp k)) ks) none)
        ∙ by_test k (passes_at test formulas k) refl;
  }
    where
      by_test : (k : ℕ) (b : Bool) → passes_at test formulas k ≡ b → (is_among k places && b) ≡ b
      by_test k true e = ap (λ r. r && true) (there places k (slice_get formulas k) refl has e)
      by_test k false e = no_more (is_among k places)

  pub one_put : (left : List ℕ) (at : ℕ) (rest : List ℕ) (before after : BTreeSet ℕ) → left ≡ at ∷ rest → PassingSoFar left before
      → ((k : ℕ) → contains nat_cmp after k ≡ (contains nat_cmp before k || (nat_eq k at && passes_at test formulas at))) → PassingSoFar rest after
  one_put left at rest before after begins so_far put = record {
    all = λ k.
        ap (λ b. b || (is_among k rest && passes_at test formulas k)) (put k)
        ∙ joined (contains nat_cmp before k) (nat_eq k at) (is_among k rest) (passes_at test formulas at) (passes_at test formulas k) (λ e. ap (passes_at test formulas) (sym (eqb-true k at e)))
        ∙ ap (λ ks. contains nat_cmp before k || (is_among k ks && passes_at test formulas k)) (sym begins)
        ∙ so_far.all k;
  }

  pub all_put : (left : List ℕ) (passing : BTreeSet ℕ) → left ≡ [] → PassingSoFar left passing → AreThosePassing test formulas passing
  all_put left passing ends so_far k =
      or_false (contains nat_cmp passing k) ∙ ap (λ ks. contains nat_cmp passing k || (is_among k ks && passes_at test formulas k)) (sym ends) ∙ so_far.all k

-- ---- a formula that mentions a sheet or a definition has its topic

no_scene : Scene
no_scene = record { sheets = []; names = [] }

pub sheet_spared : (id topic : ℕ) → topic ≡ sheet_topic id → (formula : Formula) → mentions_some (topic ∷ []) formula ≡ false → mentions_sheet id formula ≡ false
sheet_spared id topic is formula e = going_spares no_scene id [] None formula (ap (λ t. mentions_some (t ∷ []) formula) (sym is) ∙ e)

pub name_spared : (key : NameKey) (topic : ℕ) → topic ≡ folded_topic key.name → (formula : Formula) → mentions_some (topic ∷ []) formula ≡ false → mentions_name key formula ≡ false
name_spared key topic is formula e = deleting_spares key (names.Dangling []) (names.Dangling []) None formula (ap (λ t. mentions_some (t ∷ []) formula) (sym is) ∙ e)
