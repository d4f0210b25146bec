use Rattle.ic_run.proofs.prepared.answer_all.Goals as goal

-- the lines that were read
pub returns-clause-lines : goal.returns-clause-lines
returns-clause-lines g c = (c.deref.result.now, c.in_ok-answer_lines.ensures)
