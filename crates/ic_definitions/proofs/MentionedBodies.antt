-- What is known of the topics of bodies stays known, and what it tells of them.
use Rattle.std.proofs.Common.{◌≡◌, ◌<◌, ◌+◌, ℕ, List, [], ◌∷◌, ◌++◌, Bool, true, false, ◌||◌, cond, get_or, length, map, refl, sym, ap, ap₂, ◌∙◌, remove, subst, suc, take}
use Rattle.std.specs.Prelude.{flat_map, nat_eq}
use Rattle.std.specs.BTreeSet.{BTreeSet, contains}
use Rattle.std.specs.List.{AllByRecursion, list_any}
use Rattle.std.specs.Ordering.{nat_cmp}
use Rattle.std.proofs.lemmas.List.{take_more}
use Rattle.std.proofs.lemmas.List.Folds.{list_any-append}
use Rattle.ic_laws.proofs.core.Lists.{all_pushed, all_removed, all_updated}
use Rattle.ic_laws.proofs.binding.Again.{bound_node}
use Rattle.ic_laws.specs.BookTrees.{with_body_tree}
use Rattle.ic_laws.specs.Changes.{Change, changed_tree}
use Rattle.ic_laws.specs.CoreBook.{Definition}
use Rattle.ic_laws.specs.CoreStep.{updated_at}
use Rattle.ic_laws.specs.Tree.{Bound}
use Rattle.ic_laws.specs.declared.tree.Formula.{Formula}
use Rattle.ic_laws.specs.declared.tree.NameMention.{NameMention}
use Rattle.ic_laws.specs.declared.tree.SheetMention.{SheetMention}
use Rattle.ic_laws.specs.declared.tree.Tree.{fold-roll-Tree}
use Rattle.ic_laws.specs.declared.tree.Tree.TheOpen as one
use Rattle.ic_pool.proofs.ChangeLemmas.{untouched_stays}
use Rattle.ic_pool.proofs.KeyLemmas.{clash}
use Rattle.ic_pool.specs.Pool.{is_among}
use Rattle.ic_pool.specs.Remade.{LeavesUntouched, Remade, TouchesAbout}
use Rattle.ic_pool.specs.Tested.{PassesAbout, Test}
use Rattle.ic_pool.specs.Topics.{SparesOthers, mentions_some, topics_in, topics_step, tree_topics, word_topics}
use Rattle.ic_definitions.specs.Bodies.{with_bodies}
use Rattle.ic_definitions.specs.Mentioned.{HasMore, KnowsBodies, KnowsFormula}
use Rattle.ic_definitions.specs.Remade.{remade_body, touched_bodies}
use Rattle.ic_definitions.specs.Tested.{passes_body}
use Rattle.ic_definitions.specs.declared.bodies.NewBody.{NewBody}
use Rattle.ic_definitions.specs.declared.mentioned.Mentioned.{Mentioned}
use Rattle.ic_definitions.proofs.AppendedNames.{all_taken}
use Rattle.ic_definitions.proofs.BodyLemmas.{with_body}
use Rattle.ic_pool.proofs.MentioningLemmas.{or_false}
use Rattle.ic_pool.proofs.PlaceLemmas.{or_true}

-- ---- sets of topics

or_both : (a b c : Bool) → ((a || b) || c) ≡ (a || (b || c))
or_both true b c = refl
or_both false b c = refl

pub none_put : (set : BTreeSet ℕ) → HasMore set set []
none_put set topic = or_false (contains nat_cmp set topic)

-- one after another
pub both_put : (before between after : BTreeSet ℕ) (a b : List ℕ) → HasMore before between a → HasMore between after b → HasMore before after (a ++ b)
both_put before between after a b first second topic =
    second topic
    ∙ ap (λ c. c || is_among topic b) (first topic)
    ∙ or_both (contains nat_cmp before topic) (is_among topic a) (is_among topic b)
    ∙ ap (λ c. contains nat_cmp before topic || c) (sym (list_any-append (nat_eq topic) a b))

-- ---- the topics of a call

pub fun_topics : (number : ℕ) (arguments all : List Bound) (tree : Bound) → tree ≡ bound_node (one.Fun number arguments) → all ≡ arguments → flat_map (λ ts. ts) (map tree_topics all) ≡ tree_topics tree
fun_topics number arguments all tree is same =
    ap (λ (xs : List Bound). flat_map (λ ts. ts) (map tree_topics xs)) same
    ∙ sym (ap tree_topics is ∙ fold-roll-Tree SheetMention NameMention (List ℕ) (List ℕ) topics_step (λ pair. pair.value) (one.Fun number arguments))

pub call_topics : (word w : NameMention) (arguments all : List Bound) (tree : Bound) → tree ≡ bound_node (one.Call word arguments) → w ≡ word → all ≡ arguments
    → word_topics w ++ flat_map (λ ts. ts) (map tree_topics all) ≡ tree_topics tree
call_topics word w arguments all tree is first second =
    ap₂ (λ (v : NameMention) (xs : List Bound). word_topics v ++ flat_map (λ ts. ts) (map tree_topics xs)) first second
    ∙ sym (ap tree_topics is ∙ fold-roll-Tree SheetMention NameMention (List ℕ) (List ℕ) topics_step (λ pair. pair.value) (one.Call word arguments))

-- ---- what is put in

-- what is in, with what is left to put in, is what was in, with all that is to be put in
pub record PutSoFar (before now : BTreeSet ℕ) (all left : List ℕ) : Type 0 where
  pub same : (topic : ℕ) → (contains nat_cmp now topic || is_among topic left) ≡ (contains nat_cmp before topic || is_among topic all)

pub put_next : (before now after : BTreeSet ℕ) (all left more rest : List ℕ) → PutSoFar before now all left → left ≡ more ++ rest → HasMore now after more → PutSoFar before after all rest
put_next before now after all left more rest so_far is put = record {
  same = λ topic.
      ap (λ b. b || is_among topic rest) (put topic)
      ∙ or_both (contains nat_cmp now topic) (is_among topic more) (is_among topic rest)
      ∙ ap (λ b. contains nat_cmp now topic || b) (sym (ap (is_among topic) is ∙ list_any-append (nat_eq topic) more rest))
      ∙ so_far.same topic;
}

-- the topics of a body that are put in are known, and those of one that was known stay so
pub noted_known : (before after : BTreeSet ℕ) (topics : List ℕ) → HasMore before after topics → (topic : ℕ) → is_among topic topics ≡ true → contains nat_cmp after topic ≡ true
noted_known before after topics put topic among = put topic ∙ ap (λ b. contains nat_cmp before topic || b) among ∙ or_true (contains nat_cmp before topic)

pub kept_known : (before after : BTreeSet ℕ) (more topics : List ℕ) → HasMore before after more → ((topic : ℕ) → is_among topic topics ≡ true → contains nat_cmp before topic ≡ true) → (topic : ℕ) → is_among topic topics ≡ true → contains nat_cmp after topic ≡ true
kept_known before after more topics put known topic among = put topic ∙ ap (λ b. b || is_among topic more) (known topic among)

-- a body whose topics are all in a set mentions nothing with a topic that isn't
pub not_among : (m : Mentioned) (topic : ℕ) → m.has_all ≡ true → contains nat_cmp m.topics topic ≡ false → (body : Formula) → KnowsFormula m body → mentions_some (topic ∷ []) body ≡ false
not_among m topic whole out body knows = by_test (is_among topic (topics_in body)) refl
  where
    by_test : (b : Bool) → is_among topic (topics_in body) ≡ b → (is_among topic (topics_in body) || false) ≡ false
    by_test true e = absurd (clash (contains nat_cmp m.topics topic) (knows whole topic e) out)
    by_test false e = ap (λ b. b || false) e

-- ---- what is known

-- each body that was known still is
abbrev pub KeepsKnown : Mentioned → Mentioned → Type 0
KeepsKnown before after = (body : Formula) → KnowsFormula before body → KnowsFormula after body

pub knows_more : (before after : Mentioned) (ds : List Definition) → KeepsKnown before after → KnowsBodies before ds → KnowsBodies after ds
knows_more before after [] kept known = tt
knows_more before after (d ∷ ds) kept known = (kept d.body known.0, knows_more before after ds kept known.1)

-- one body more of those that are gone over
pub known_next : {X : Type 0} (body_of : X → Formula) (before after : Mentioned) (xs : List X) (i : ℕ) (x : X) → i < length xs → x ≡ get_or xs i x → KeepsKnown before after → KnowsFormula after (body_of x)
    → AllByRecursion (λ y. KnowsFormula before (body_of y)) (take i xs) → AllByRecursion (λ y. KnowsFormula after (body_of y)) (take (i + 1) xs)
known_next {X} body_of before after xs i x below read kept noted known =
    subst (AllByRecursion (λ y. KnowsFormula after (body_of y))) (sym (take_more xs i x below ∙ ap (λ y. take i xs ++ y ∷ []) (sym read)))
    (all_pushed (λ y. KnowsFormula after (body_of y)) (take i xs) x (still (take i xs) known) noted)
  where
    still : (ys : List X) → AllByRecursion (λ y. KnowsFormula before (body_of y)) ys → AllByRecursion (λ y. KnowsFormula after (body_of y)) ys
    still [] h = tt
    still (y ∷ ys) h = (kept (body_of y) h.0, still ys h.1)

-- the bodies that are put are known
pub knows_put : (m : Mentioned) (news : List NewBody) (ds : List Definition) → AllByRecursion (λ new. KnowsFormula m new.body) news → KnowsBodies m ds → KnowsBodies m (with_bodies news ds)
knows_put m [] ds noted known = known
knows_put m (new ∷ news) ds noted known =
    knows_put m news (updated_at (with_body new.body) new.at ds) noted.1 (all_updated (λ d. KnowsFormula m d.body) (with_body new.body) (λ d h. noted.0) new.at ds known)

pub knows_rewritten : (before after : Mentioned) (news : List NewBody) (ds : List Definition) → AllByRecursion (λ new. KnowsFormula after new.body) news → KeepsKnown before after → KnowsBodies before ds → KnowsBodies after (with_bodies news ds)
knows_rewritten before after news ds noted kept known = knows_put after news ds noted (knows_more before after ds kept known)

-- ---- what isn't mentioned

-- no body mentions what has no topic in the set
pub none_mentions : (m : Mentioned) (topic : ℕ) (ds : List Definition) → ((body : Formula) → KnowsFormula m body → mentions_some (topic ∷ []) body ≡ false) → KnowsBodies m ds → AllByRecursion (λ d. mentions_some (topic ∷ []) d.body ≡ false) ds
none_mentions m topic [] spared known = tt
none_mentions m topic (d ∷ ds) spared known = (spared d.body known.0, none_mentions m topic ds spared known.1)

either_of : (a b : Bool) → (a || false) ≡ false → (b || false) ≡ false → (a || (b || false)) ≡ false
either_of true b e f = e
either_of false b e f = f

pub neither_mentions : (m : Mentioned) (one other : ℕ) (ds : List Definition) → ((body : Formula) → KnowsFormula m body → mentions_some (one ∷ []) body ≡ false) → ((body : Formula) → KnowsFormula m body → mentions_some (other ∷ []) body ≡ false)
    → KnowsBodies m ds → AllByRecursion (λ d. mentions_some (one ∷ other ∷ []) d.body ≡ false) ds
neither_mentions m one other [] first second known = tt
neither_mentions m one other (d ∷ ds) first second known =
    (either_of (is_among one (topics_in d.body)) (is_among other (topics_in d.body)) (first d.body known.0) (second d.body known.0), neither_mentions m one other ds first second known.1)

-- a change that is about nothing that they mention leaves all bodies
pub spared_bodies : (change : Change) (topic : ℕ) (ds : List Definition) → SparesOthers change (topic ∷ []) → AllByRecursion (λ d. mentions_some (topic ∷ []) d.body ≡ false) ds → ds ≡ map (with_body_tree (changed_tree change)) ds
spared_bodies change topic [] spares none = refl
spared_bodies change topic (d ∷ ds) spares none =
    ap₂ ◌∷◌ (sym (ap (λ body. with_body body d) (untouched_stays change d.scope d.body (spares d.scope d.body none.0)))) (spared_bodies change topic ds spares none.1)

-- so does a rule, and touches none
pub untouched_bodies : (made : Remade) (topics : List ℕ) (ds : List Definition) → TouchesAbout made topics → AllByRecursion (λ d. LeavesUntouched made d.scope d.body) ds → AllByRecursion (λ d. mentions_some topics d.body ≡ false) ds → ds ≡ map (remade_body made) ds
untouched_bodies made topics [] about leaves none = refl
untouched_bodies made topics (d ∷ ds) about leaves none =
    ap₂ ◌∷◌ (sym (ap (λ body. with_body body d) (leaves.0 (about d.scope d.body none.0)))) (untouched_bodies made topics ds about leaves.1 none.1)

pub none_touched : (made : Remade) (topics : List ℕ) (at : ℕ) (ds : List Definition) → TouchesAbout made topics → AllByRecursion (λ d. mentions_some topics d.body ≡ false) ds → [] ≡ touched_bodies made at ds
none_touched made topics at [] about none = refl
none_touched made topics at (d ∷ ds) about none =
    none_touched made topics (suc at) ds about none.1
    ∙ sym (ap (λ (b : Bool). cond b (record { at = at; body = made.becomes d.scope d.body } ∷ touched_bodies made (suc at) ds) (touched_bodies made (suc at) ds)) (about d.scope d.body none.0))

pub none_passes : (test : Test) (topics : List ℕ) (ds : List Definition) → PassesAbout test topics → AllByRecursion (λ d. mentions_some topics d.body ≡ false) ds → false ≡ list_any (passes_body test) ds
none_passes test topics [] about none = refl
none_passes test topics (d ∷ ds) about none = none_passes test topics ds about none.1 ∙ sym (ap (λ b. b || list_any (passes_body test) ds) (about d.scope d.body none.0))

-- ---- bodies that come, go and change

pub knows_written : (before after : Mentioned) (news seen : List NewBody) (ds : List Definition) → seen ≡ news → AllByRecursion (λ new. KnowsFormula after new.body) seen → KeepsKnown before after → KnowsBodies before ds → KnowsBodies after (with_bodies news ds)
knows_written before after news seen ds same noted kept known =
    knows_rewritten before after news ds (subst (AllByRecursion (λ (new : NewBody). KnowsFormula after new.body)) same noted) kept known

pub knows_pushed : (m : Mentioned) (ds list : List Definition) (d : Definition) → KnowsBodies m ds → KnowsFormula m d.body → list ≡ ds ++ d ∷ [] → KnowsBodies m list
knows_pushed m ds list d known noted is = subst (KnowsBodies m) (sym is) (all_pushed (λ x. KnowsFormula m x.body) ds d known noted)

pub knows_replaced : (m : Mentioned) (ds list : List Definition) (index : ℕ) (d : Definition) → KnowsBodies m ds → KnowsFormula m d.body → list ≡ updated_at (λ x. d) index ds → KnowsBodies m list
knows_replaced m ds list index d known noted is = subst (KnowsBodies m) (sym is) (all_updated (λ x. KnowsFormula m x.body) (λ x. d) (λ x h. noted) index ds known)

pub knows_set : (m : Mentioned) (ds list : List Definition) (index : ℕ) (body : Formula) → KnowsBodies m ds → KnowsFormula m body → list ≡ updated_at (with_body body) index ds → KnowsBodies m list
knows_set m ds list index body known noted is = subst (KnowsBodies m) (sym is) (all_updated (λ x. KnowsFormula m x.body) (with_body body) (λ x h. noted) index ds known)

pub knows_removed : (m : Mentioned) (ds list : List Definition) (index : ℕ) → KnowsBodies m ds → list ≡ remove ds index → KnowsBodies m list
knows_removed m ds list index known is = subst (KnowsBodies m) (sym is) (all_removed (λ x. KnowsFormula m x.body) ds index known)

pub knows_taken : (m : Mentioned) (ds list : List Definition) (n : ℕ) → KnowsBodies m ds → list ≡ take n ds → KnowsBodies m list
knows_taken m ds list n known is = subst (KnowsBodies m) (sym is) (all_taken (λ x. KnowsFormula m x.body) n ds known)

-- what is made anew of definitions that are seen in a slice
pub knows_renewed : (between after : Mentioned) (list seen : List Definition) → seen ≡ list → (KnowsBodies between seen → KnowsBodies after seen) → KnowsBodies between list → KnowsBodies after list
knows_renewed between after list seen same renews known = subst (KnowsBodies after) same (renews (subst (KnowsBodies between) (sym same) known))

-- no body passes a test of what has a topic that none mentions
pub none_that : (test : Formula → Bool) (topic : ℕ) (ds : List Definition) → ((body : Formula) → mentions_some (topic ∷ []) body ≡ false → test body ≡ false) → AllByRecursion (λ d. mentions_some (topic ∷ []) d.body ≡ false) ds
    → AllByRecursion (λ d. test d.body ≡ false) ds
none_that test topic [] spared none = tt
none_that test topic (d ∷ ds) spared none = (spared d.body none.0, none_that test topic ds spared none.1)
