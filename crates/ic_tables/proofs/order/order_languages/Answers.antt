use Rattle.ic_tables.proofs.OrderLemmas.{ordered_more}
use Rattle.ic_tables.proofs.order.order_languages.Goals as goal

pub loop-language-preserved : goal.loop-language-preserved
loop-language-preserved c =
    ordered_more c.loop-language.language-index _ _ _ c.language-item.result c.in_ok-new.field-0 c.loop-language-test.true c.language-item.is c.in_ok-push.ensures.items
    c.in_ok-new.ensures c.loop-language.invariant
