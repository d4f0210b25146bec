use Rattle.ic_input.proofs.TypedLaws.{typed_exactly}
use Rattle.ic_input.proofs.TypedSteps.{tells_texts}
use Rattle.ic_input.proofs.law.law_typed_by_rules.Goals as goal

pub returns : goal.returns
returns c =
    record {
      answered = λ t l language english text u h. (typed_exactly l (tells_texts t l h) language english text u).0;
      ruled = λ t l language english text u h. (typed_exactly l (tells_texts t l h) language english text u).1;
    }
