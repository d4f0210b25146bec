use Rattle.std.proofs.Common.{refl, chars, sym}
use Rattle.ic_refs.proofs.A1CellLemmas.{lone_column}
use Rattle.ic_refs.proofs.a1.read_place.Goals as goal

pub returns-in_err-past_colon : goal.returns-in_err-past_colon
returns-in_err-past_colon c =
    record {
      exact = rw c.from_residual-in_err-past_colon.ensures
          (lone_column c.args.origin.row c.args.origin.column c.requires (chars c.args.text.now) (chars c.in-Some.rest.now) c.in-Some.column (sym c.in-Some.ensures) (sym c.in_default-read_row.ensures)
          (rw (sym c.in_err-past_colon.ensures) refl));
    }

pub returns-in_err-last : goal.returns-in_err-last
returns-in_err-last c =
    record {
      exact = rw c.from_residual-in_err-last.ensures
          (lone_column c.args.origin.row c.args.origin.column c.requires (chars c.args.text.now) (chars c.in-Some.rest.now) c.in-Some.column (sym c.in-Some.ensures) (sym c.in_default-read_row.ensures)
          (rw (sym c.in_ok-past_colon.ensures) (rw (sym c.in_err-last.ensures) refl)));
    }
