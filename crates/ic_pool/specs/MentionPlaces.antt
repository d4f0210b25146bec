-- Where formulas mention what: for each topic the places of those that mention it. An index may have more places than those.
use Rattle.std.specs.Prelude.{◌≡◌, ◌<◌, ◌≤◌, ◌+◌, ◌||◌, ℕ, suc, List, [], ◌∷◌, Bool, true, false, Option, Some, length, nat_eq}
use Rattle.std.specs.BTreeMap.{is_at}
use Rattle.std.specs.List.{list_any, slice_get}
use Rattle.std.specs.Map.{lookup}
use Rattle.std.specs.Option.{unwrap_or}
use Rattle.std.specs.Ordering.{nat_cmp}
use Rattle.ic_laws.specs.declared.tree.Formula.{Formula}
use Rattle.ic_pool.specs.Pool.{is_among}
use Rattle.ic_pool.specs.Topics.{mentions_some, topics_in}

-- an index: topics, each with its places
abbrev pub Noted : Type 0
Noted = List (ℕ × List ℕ)

-- the places that it has of a topic
abbrev pub places_with : Noted → ℕ → List ℕ
places_with index topic = unwrap_or (lookup (is_at (nat_cmp topic)) index) []

-- it has a place of a topic
abbrev pub has_place : Noted → ℕ → ℕ → Bool
has_place index topic at = is_among at (places_with index topic)

-- of one of these topics
abbrev pub has_place_of : Noted → List ℕ → ℕ → Bool
has_place_of index topics at = list_any (λ topic. has_place index topic at) topics

-- it still has each place that it had
abbrev pub KeepsAll : Noted → Noted → Type 0
KeepsAll before after = (topic at : ℕ) → has_place before topic at ≡ true → has_place after topic at ≡ true

-- it has this place of each of these topics
abbrev pub HasAt : Noted → ℕ → List ℕ → Type 0
HasAt index at topics = (topic : ℕ) → is_among topic topics ≡ true → has_place index topic at ≡ true

-- it has the place, where there is one, of each of these topics
abbrev pub KnowsLast : Noted → Option ℕ → List ℕ → Type 0
KnowsLast index place topics = (at : ℕ) → place ≡ Some at → HasAt index at topics

-- it has the place of each formula, of each topic that it mentions
abbrev pub KnowsAll : Noted → List Formula → Type 0
KnowsAll index formulas = (at : ℕ) (formula : Formula) → slice_get formulas at ≡ Some formula → HasAt index at (topics_in formula)

-- places from one on, each once, in ascending order
abbrev pub AscendFrom : ℕ → List ℕ → Type 0
AscendFrom from [] = Unit {0}
AscendFrom from (at ∷ places) = (from ≤ at) × AscendFrom (suc at) places

-- this is the first of the places of two lists, and these are left of the lists
pub record IsFirstOf (at : ℕ) (one other ones others : List ℕ) : Type 0 where
  pub among : (k : ℕ) → (is_among k one || is_among k other) ≡ (nat_eq k at || (is_among k ones || is_among k others))
  pub ascend : (from : ℕ) → AscendFrom from one → AscendFrom from other → (from ≤ at) × (AscendFrom (suc at) ones × AscendFrom (suc at) others)
  pub fewer : length ones + length others < length one + length other

-- these places have each that two lists have, and no other
abbrev pub AreMerged : List ℕ → List ℕ → List ℕ → Type 0
AreMerged one other places = (at : ℕ) → is_among at places ≡ (is_among at one || is_among at other)

-- places: of each formula that passes a test its place is one of them
abbrev pub HasPassing : (Formula → Bool) → List ℕ → List Formula → Type 0
HasPassing test places formulas = (at : ℕ) (formula : Formula) → slice_get formulas at ≡ Some formula → test formula ≡ true → is_among at places ≡ true

-- no formula mentions something with one of these topics
abbrev pub MentionsNone : List ℕ → List Formula → Type 0
MentionsNone topics formulas = (at : ℕ) (formula : Formula) → slice_get formulas at ≡ Some formula → mentions_some topics formula ≡ false
