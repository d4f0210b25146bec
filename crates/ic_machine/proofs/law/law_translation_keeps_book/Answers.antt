use Rattle.ic_machine.proofs.same.TranslationSame.{errors_end_bodies, translation_keeps_book}
use Rattle.ic_machine.proofs.law.law_translation_keeps_book.Goals as goal

pub returns-clause-keeps : goal.returns-clause-keeps
returns-clause-keeps c = translation_keeps_book

pub returns-clause-plain : goal.returns-clause-plain
returns-clause-plain c = errors_end_bodies
