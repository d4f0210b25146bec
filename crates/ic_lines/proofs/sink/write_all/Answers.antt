use Rattle.std.proofs.Common.{arith, inl}
use Rattle.std.proofs.lemmas.List.{take_rest}
use Rattle.ic_lines.proofs.WriteLemmas.{more_within, more_rest, more_written}
use Rattle.ic_lines.proofs.sink.write_all.Goals as goal

pub loop-rest-preserved : goal.loop-rest-preserved
loop-rest-preserved g c =
    let i = c.loop-rest.invariant in
    let bytes = c.args.bytes.now in
    let rest = c.loop-rest.rest.now in
    let taken = c.in-Ok.taken in
    let fits = c.in-Ok.ensures.within in
    record {
      within = more_within bytes rest _ taken i.within i.rest fits (take_rest rest taken);
      rest = more_rest bytes rest _ taken i.within i.rest fits (take_rest rest taken);
      written = more_written bytes rest _ taken i.within i.rest fits (take_rest rest taken) _ _ _ i.written c.in-Ok.ensures.moved;
      quiet = omega (arith, i.quiet, c.in-Ok.ensures.quiet (inl (omega arith)));
    }
