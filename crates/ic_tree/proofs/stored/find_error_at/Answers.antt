use Rattle.std.proofs.Common.{chars, refl}
use Rattle.ic_tree.specs.Stored.{stored_meaning}
use Rattle.ic_tree.proofs.ErrorLemmas.{found_here}
use Rattle.ic_tree.proofs.stored.find_error_at.Goals as goal

pub returns : goal.returns
returns c =
    found_here (stored_meaning c.args.words.now.language.now) c.args.text.now c.in-Some.front.now (chars c.in-Some-find_error.rest.now) c.args.at c.in-Some-find_error.number c.bytes_before.result c.in-Some-error_of.error
    (c.in-Some.ensures.variant.0 refl) c.in-Some.ensures.back c.in-Some-find_error.ensures c.in-Some-error_of.ensures
    (c.bytes_before.ensures c.in-Some-find_error.ensures.front c.in-Some-find_error.ensures.split)
