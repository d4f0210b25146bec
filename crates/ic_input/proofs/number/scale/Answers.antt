use Rattle.std.proofs.Common.{◌^◌, ◌≤◌, arith}
use Rattle.std.proofs.Math.Nat.{one-le-pow, pow-le-pow_right}
use Rattle.ic_input.proofs.number.scale.Goals as goal

pub returns-clause-bounds : goal.returns-clause-bounds
returns-clause-bounds c =
    let low : 1 ≤ 10 ^ c.args.places = one-le-pow c.args.places 10 (omega arith) in
    let high : 10 ^ c.args.places ≤ 10 ^ 9 = pow-le-pow_right (omega arith) c.requires in
    (omega (arith, c.pow.ensures, low), omega (arith, c.pow.ensures, high))
