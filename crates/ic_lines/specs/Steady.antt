-- What a source and a sink that never fail do at each call.
use Rattle.std.specs.Prelude.{ℕ, ◌-◌, min, List, length, take, drop, ◌++◌, Bool, ◌==◌, ◌&&◌, ◌||◌, nat_lt, Result, Ok, if◌then◌else◌}
use Rattle.ic_lines.specs.Memory.{counted}
use Rattle.ic_lines.specs.declared.error.Failed.{Failed}

-- a steady source: the bytes that are left, and whether a read showed the end
pub record SteadySourceState : Type 0 where
  pub left : List ℕ
  pub ended : Bool

-- the faults that a steady source counts: none, whatever happened
abbrev pub no_faults : SteadySourceState → ℕ
no_faults source = 0

-- a steady sink: what was written, how many bytes there is room for, and how many writes of something it took none of
pub record SteadySinkState : Type 0 where
  pub written : List ℕ
  pub size : ℕ
  pub faults : ℕ

-- how many bytes a read into this much room gives
abbrev pub steady_read_len : SteadySourceState → ℕ → ℕ
steady_read_len source room = min room (length source.left)

-- what a read into this much room answers and leaves
abbrev pub after_steady_read : SteadySourceState → ℕ → Result ℕ Failed × SteadySourceState
after_steady_read source room = (
  Ok (steady_read_len source room),
  record {
    left = drop (steady_read_len source room) source.left;
    ended = source.ended || steady_read_len source room == 0 && nat_lt 0 room;
  },
)

-- how many bytes of a piece still fit
abbrev pub steady_write_len : SteadySinkState → List ℕ → ℕ
steady_write_len sink piece = min (length piece) (sink.size - length sink.written)

-- what a write of a piece answers and leaves; to take nothing of a piece that isn't empty counts as a fault
abbrev pub after_steady_write : SteadySinkState → List ℕ → Result ℕ Failed × SteadySinkState
after_steady_write sink piece = (
  Ok (steady_write_len sink piece),
  record sink {
    written = sink.written ++ take (steady_write_len sink piece) piece;
    faults = if steady_write_len sink piece == 0 && nat_lt 0 (length piece) then counted sink.faults else sink.faults;
  },
)
