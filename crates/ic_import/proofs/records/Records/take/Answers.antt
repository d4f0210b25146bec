use Rattle.std.proofs.Common.{◌≡◌, Bor, List, ℕ, false, true, Some, Ok, subst, sym, ◌∙◌}
use Rattle.csv.specs.Reading.{has_failed}
use Rattle.csv.specs.Records.{fields_of}
use Rattle.ic_import.specs.Reader.{left_of}
use Rattle.ic_import.specs.Records.{TakesRecord}
use Rattle.ic_import.proofs.ReadLemmas.{takes}
use Rattle.ic_import.proofs.records.Records.take.Goals as goal

pub returns : goal.returns
returns c =
    let bytes = λ (b : Bor (List ℕ)). Some b.now in
    let fields = fields_of c.read_byte_record.new.row in
    let failed : has_failed c.self.inside.reader ≡ true → c.in-Ok.found ≡ false = λ is. let none : Ok c.in-Ok.found ≡ Ok false = sym c.in-Ok.is ∙ c.read_byte_record.ensures.failed is in cc in
    subst (λ (left : List (List (List ℕ))). TakesRecord c.in-Ok.found left (left_of bytes c.read_byte_record.new.self) fields) c.self.view_is
    (takes bytes c.self.inside.reader c.read_byte_record.new.self c.in-Ok.found fields c.self.invariant failed c.in-Ok.ensures.reads)
