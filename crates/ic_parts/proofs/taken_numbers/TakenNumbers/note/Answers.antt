use Rattle.std.proofs.Common.{◌++◌, chars, subst}
use Rattle.std.specs.Fmt.{decimal}
use Rattle.ic_machine.specs.subjects.Sheets.{copy_name}
use Rattle.ic_parts.specs.SheetNames.{AreTaken, name_with}
use Rattle.ic_parts.proofs.taken_numbers.TakenNumbers.note.Goals as goal

pub returns-in-Word : goal.returns-in-Word
returns-in-Word c = λ names all here. record {
  words = c.note_at.ensures (λ word n. chars word ++ decimal n) names all.words
      (subst (λ name. AreTaken names (name_with name) c.args.number) c.in-Word.is here);
  copies = all.copies;
}

pub returns-in-Copy : goal.returns-in-Copy
returns-in-Copy c = λ names all here. record {
  words = all.words;
  copies = c.note_at-in-Copy.ensures (λ source. copy_name (chars source)) names all.copies
      (subst (λ name. AreTaken names (name_with name) c.args.number) c.in-Copy.is here);
}
