-- The records that a reader has left of bytes in memory.
use Rattle.std.specs.Prelude.{◌≡◌, ℕ, ◌+◌, List, [], true, false, Option, Some, None, IsSome, length}
use Rattle.csv.specs.Reading.{Ready, has_failed, is_flexible, reader_config, reader_state, reader_trim, records_from, source_of}
use Rattle.csv.specs.declared.parser.Config.{Config}
use Rattle.csv.specs.declared.parser.State.{State}
use Rattle.csv.specs.declared.reader.Reader.{Reader}
use Rattle.csv.specs.declared.reader.Trim.TheVariants as trim

-- the records of these bytes from a state on, if they are known
abbrev pub records_known : Config → State → Option (List ℕ) → List (List (List ℕ))
records_known config state None = []
records_known config state (Some bytes) = records_from config (length bytes + 1) state bytes

-- where this tells the bytes of what is read: the records that are left; none, once a read failed
abbrev pub left_of : {R : Type 0} → (R → Option (List ℕ)) → Reader R → List (List (List ℕ))
left_of bytes reader = records_known (reader_config reader) (reader_state reader) (source_of bytes reader)

-- a reader that gives the next record as it stands, however many fields it has; or one that has failed
abbrev pub IsReadable : {R : Type 0} → (R → Option (List ℕ)) → Reader R → Type 0
IsReadable bytes reader = has_failed reader ≡ false → (reader_trim reader ≡ trim.None) × Ready reader × (is_flexible reader ≡ true) × IsSome (source_of bytes reader)
