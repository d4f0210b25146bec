use Rattle.ic_tables.specs.Order.{AreOrderedTo}
use Rattle.ic_tables.proofs.order.order_languages.Given as goal

-- the languages so far have their orders
abbrev pub invariant-loop-language : goal.invariant-loop-language
invariant-loop-language l = AreOrderedTo l.language-index l.languages l.orders.items
