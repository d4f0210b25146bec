use Rattle.ic_workbooks.proofs.NumberedLemmas.{NumberedTo}
use Rattle.ic_workbooks.proofs.numbered.number_texts.Given as goal

abbrev pub invariant-loop-text : goal.invariant-loop-text
invariant-loop-text l = NumberedTo l.texts l.text-index l.numbers.items l.strings
