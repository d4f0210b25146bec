use Rattle.std.proofs.Common.{ℕ, List, Option, chars, encode_utf8_all}
use Rattle.std.specs.Fn.{FnReturnsAt}
use Rattle.ic_refs.specs.R1C1.{split_sheet}
use Rattle.ic_refs.proofs.R1C1FormLemmas.{tells}
use Rattle.ic_refs.proofs.R1C1InsideLemmas.{only_inside, only_order}
use Rattle.ic_refs.proofs.R1C1SheetLemmas.{lies_in_order}
use Rattle.ic_refs.proofs.reference.ParsedReference.parse_r1c1_reference.Goals as goal

pub returns-clause-spelled : goal.returns-clause-spelled
returns-clause-spelled g c =
    let Answers : List ℕ → Option ℕ → Type 0 = λ name answer. FnReturnsAt g.F.Fn c.args.find (encode_utf8_all name) answer in
    tells Answers c.args.cell (chars c.args.text.now) c.referred_from.result c.requires.row c.requires.column c.referred_from.ensures

pub returns-clause-inside : goal.returns-clause-inside
returns-clause-inside g c =
    let Answers : List ℕ → Option ℕ → Type 0 = λ name answer. FnReturnsAt g.F.Fn c.args.find (encode_utf8_all name) answer in
    only_inside c.referred_from.result (lies_in_order Answers c.args.cell (split_sheet (chars c.args.text.now)) c.referred_from.result c.requires.row c.requires.column c.referred_from.ensures)

pub returns-clause-order : goal.returns-clause-order
returns-clause-order g c =
    let Answers : List ℕ → Option ℕ → Type 0 = λ name answer. FnReturnsAt g.F.Fn c.args.find (encode_utf8_all name) answer in
    only_order c.referred_from.result (lies_in_order Answers c.args.cell (split_sheet (chars c.args.text.now)) c.referred_from.result c.requires.row c.requires.column c.referred_from.ensures)
