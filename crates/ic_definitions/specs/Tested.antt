-- Definitions whose bodies pass a test of the caller's.
use Rattle.std.specs.Prelude.{Bool}
use Rattle.ic_laws.specs.CoreBook.{Definition}
use Rattle.ic_pool.specs.Tested.{Test}

-- the body of a definition passes
abbrev pub passes_body : Test → Definition → Bool
passes_body test definition = test definition.scope definition.body
