-- What the bodies of definitions mention, each thing told by its topic.
use Rattle.std.specs.Prelude.{◌≡◌, ◌||◌, ℕ, List, true}
use Rattle.std.specs.BTreeSet.{BTreeSet, contains}
use Rattle.std.specs.List.{AllByRecursion}
use Rattle.std.specs.Ordering.{nat_cmp}
use Rattle.ic_laws.specs.CoreBook.{Definition}
use Rattle.ic_laws.specs.declared.tree.Formula.{Formula}
use Rattle.ic_pool.specs.Pool.{is_among}
use Rattle.ic_pool.specs.Topics.{topics_in}
use Rattle.ic_definitions.specs.declared.mentioned.Mentioned.{Mentioned}

-- a set has what it had, and these numbers, and no others
abbrev pub HasMore : BTreeSet ℕ → BTreeSet ℕ → List ℕ → Type 0
HasMore before after more = (topic : ℕ) → contains nat_cmp after topic ≡ (contains nat_cmp before topic || is_among topic more)

-- where it has all topics, it has each that a body mentions
abbrev pub KnowsFormula : Mentioned → Formula → Type 0
KnowsFormula mentioned body = mentioned.has_all ≡ true → (topic : ℕ) → is_among topic (topics_in body) ≡ true → contains nat_cmp mentioned.topics topic ≡ true

-- so of the body of each of these definitions
abbrev pub KnowsBodies : Mentioned → List Definition → Type 0
KnowsBodies mentioned definitions = AllByRecursion (λ d. KnowsFormula mentioned d.body) definitions
