-- What C holds between calls, and what stands in it.
use base.Fml.{Fml, ftrue, ffalse}
use denote.RattleType.{RattleType}
use denote.RawPtr.{Ptr, block_ptr, null_ptr}
use Rattle.std.specs.Prelude.{Option, None, Some, List, ℕ, ◌++◌, option_map, option_and_then, string_bytes}
use Rattle.std.specs.Box.Ownership.{box_owns}
use Rattle.std.specs.declared.alloc.Global.{Global}
use Rattle.std.specs.contracts.impls.GlobalAllocator.TheImpl.{ghosts}
use Rattle.ic_tables.specs.Tables.{TableSet}
use Rattle.ic_machine.specs.Book.{Book}
use Rattle.ic_parts.specs.Whole.{whole_of}
use Rattle.ic_c.specs.declared.session.Open.{Open}
use Rattle.ic_c.specs.declared.session.Session.{Session}

-- nothing at null, and else the box at the address, with the right to free it
abbrev pub room_owns : (R : RattleType) → Global → Ptr → Option R.Denot → Fml
room_owns R a p (Some x) = box_owns (ghosts.dealloc_token a) R p x
room_owns R a null_ptr None = ftrue
room_owns R a (block_ptr b o) None = ffalse

-- the open book of a room, with the reply that is kept
abbrev pub open_in : Option Session → Option Open
open_in held = option_and_then (λ s. s.opened) held

-- the tables of a room
abbrev pub tables_in : Option Session → Option TableSet
tables_in held = option_map (λ t. t.now) (option_and_then (λ s. s.tables) held)

-- the whole book that stands open
abbrev pub book_of : Open → Book
book_of opened = whole_of opened.book.book

-- the bytes of the reply that is kept: those of the lines before the last one, and of that
abbrev pub reply_of : Open → List ℕ
reply_of opened = opened.replies.items ++ string_bytes opened.last
