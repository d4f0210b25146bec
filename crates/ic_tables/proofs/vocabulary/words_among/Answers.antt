use Rattle.ic_tables.proofs.vocabulary.words_among.Goals as goal

pub new-requires : goal.new-requires
new-requires c = c.requires.each c.loop-i.i _ _ c.loop-i-test.true c.index-languages-i.is c.index-orders-i.is
