use Rattle.std.proofs.Common.{◌≡◌, ◌+◌, ◌-◌, ◌<◌, ◌∙◌, arith, length, map, chars}
use Rattle.std.proofs.lemmas.List.{length-map}
use Rattle.ic_tables.proofs.OrderLemmas.{order_more, order_done, read_word}
use Rattle.ic_tables.proofs.order.order_words.Goals as goal

pub loop-number-preserved : goal.loop-number-preserved
loop-number-preserved g c =
    let next : c.loop-number.number ≡ c.loop-number.number - 1 + 1 = omega arith in
    let within : c.loop-number.number - 1 < length (map g.T.HasId.id_of c.args.words.now) = omega (arith, length-map c.args.words.now g.T.HasId.id_of) in (
      omega arith,
      order_more _ _ _ (chars c.as_str.result.now) _ _ next within
          (read_word g.T.HasId.id_of c.args.words.now (c.loop-number.number - 1) c.index-words-number.result _ (c.as_str.ensures.characters ∙ c.id.ensures) c.index-words-number.is)
          c.loop-number.invariant.1 c.in_ok-put_first.ensures,
    )

pub returns : goal.returns
returns g c = order_done _ _ _ _ c.loop-number-test.false c.from.ensures c.loop-number.invariant.1
