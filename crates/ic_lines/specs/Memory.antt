-- What a source and a sink in memory do at each call.
use Rattle.std.specs.Prelude.{ℕ, ◌+◌, ◌-◌, min, List, length, take, drop, ◌++◌, Bool, ◌==◌, ◌&&◌, ◌||◌, nat_lt, Result, Ok, Err, if◌then◌else◌}
use Rattle.std.specs.List.{list_any}
use Rattle.ic_lines.specs.Bytes.{last_count}
use Rattle.ic_lines.specs.declared.error.Failed.{Failed}

-- one more, and no more at the counter's end
abbrev pub counted : ℕ → ℕ
counted n = min (n + 1) last_count

-- a source in memory: the bytes that are left, the most bytes of one read, how many reads there were, the numbers
-- of those that fail, how many failed, and whether one showed the end
pub record SourceState : Type 0 where
  pub left : List ℕ
  pub chunk : ℕ
  pub calls : ℕ
  pub failing : List ℕ
  pub faults : ℕ
  pub ended : Bool

-- a sink in memory: what was written, how many bytes there is room for, how many writes there were, the numbers of
-- those that fail, and how many failed
pub record SinkState : Type 0 where
  pub written : List ℕ
  pub size : ℕ
  pub calls : ℕ
  pub failing : List ℕ
  pub faults : ℕ

-- the next call is one that fails
abbrev pub fails_next : ℕ → List ℕ → Bool
fails_next calls failing = list_any (λ n. n == counted calls) failing

-- how many bytes a read into this much room gives
abbrev pub read_len : SourceState → ℕ → ℕ
read_len source room = min (min source.chunk room) (length source.left)

-- what a read into this much room answers and leaves
abbrev pub after_read : SourceState → ℕ → Result ℕ Failed × SourceState
after_read source room =
    if fails_next source.calls source.failing
    then (Err (record {}), record source { calls = counted source.calls; faults = counted source.faults })
    else (
      Ok (read_len source room),
      record source {
        calls = counted source.calls;
        left = drop (read_len source room) source.left;
        ended = source.ended || read_len source room == 0 && nat_lt 0 room;
      },
    )

-- how many bytes of a piece still fit
abbrev pub write_len : SinkState → List ℕ → ℕ
write_len sink piece = min (length piece) (sink.size - length sink.written)

-- what a write of a piece answers and leaves; to take nothing of a piece that isn't empty counts as a fault
abbrev pub after_write : SinkState → List ℕ → Result ℕ Failed × SinkState
after_write sink piece =
    if fails_next sink.calls sink.failing
    then (Err (record {}), record sink { calls = counted sink.calls; faults = counted sink.faults })
    else (
      Ok (write_len sink piece),
      record sink {
        calls = counted sink.calls;
        written = sink.written ++ take (write_len sink piece) piece;
        faults = if write_len sink piece == 0 && nat_lt 0 (length piece) then counted sink.faults else sink.faults;
      },
    )
