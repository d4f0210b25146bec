use Rattle.std.proofs.Common.{Bor, List, ℕ, Some}
use Rattle.csv.specs.Reading.{reader_config, reader_state, source_of}
use Rattle.ic_import.proofs.ReadLemmas.{few_known}
use Rattle.ic_import.proofs.records.Records.new.Goals as goal

pub returns-clause-few : goal.returns-clause-few
returns-clause-few c =
    let reader = c.from_reader-reader.result in
    few_known (reader_config reader) (reader_state reader) (source_of (λ (b : Bor (List ℕ)). Some b.now) reader) c.args.bytes.now c.from_reader-reader.ensures.source
