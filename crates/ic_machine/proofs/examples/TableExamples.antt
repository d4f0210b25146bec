-- The table of commands: how many there are.
use Rattle.std.proofs.Common.{◌≡◌, length, refl}
use Rattle.ic_machine.specs.Command.{commands}

counted : length commands ≡ 73
unfolding commands
counted = refl
