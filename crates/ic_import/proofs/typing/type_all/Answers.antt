use Rattle.std.proofs.Common.{◌≡◌, ◌+◌, ◌∷◌, ◌++◌, ℕ, List, ap, arith, length, length-append, subst, sym, ◌∙◌}
use Rattle.csv.specs.Records.{fields_of}
use Rattle.ic_laws.specs.CoreBook.{CellPlace}
use Rattle.ic_parts.specs.Whole.{whole_of}
use Rattle.ic_import.specs.Records.{Field, TakesRecord, all_fields, fields_from, fields_in, records_of}
use Rattle.ic_import.specs.Typed.{TellsBlocked, Typable, typed}
use Rattle.ic_import.specs.declared.error.ImportError.TheVariants as errors
use Rattle.ic_import.proofs.TypingLemmas.{IsFew, blocked_first, count_in, error_as, few_more, memory_told, typable_parts, typed_after}
use Rattle.ic_import.proofs.typing.type_all.Goals as goal

pub returns-in_err-take-clause-blocked : goal.returns-in_err-take-clause-blocked
returns-in_err-take-clause-blocked c =
    let place : CellPlace = (c.args.at.now.row, c.args.at.now.column) in
    let all = typed c.args.at.now.sheet place (all_fields (records_of c.args.separator c.args.bytes.now)) (whole_of c.args.model.now.book) in
    error_as c.from_residual.result errors.OutOfMemory (TellsBlocked all) c.from_residual.ensures (memory_told all)

pub type_record-requires-clause-record : goal.type_record-requires-clause-record
type_record-requires-clause-record c =
    let took : c.records.records ≡ fields_of c.take.new.fields ∷ c.take.new.self = subst (λ b. TakesRecord b c.records.records c.take.new.self (fields_of c.take.new.fields)) c.if-branch.true c.in_ok-take.ensures in
    (omega arith, omega (arith, ap length took, c.records.invariant.counted, c.new-records.ensures.few, ap length c.new-records.ensures.all))

pub type_record-requires-clause-typable : goal.type_record-requires-clause-typable
type_record-requires-clause-typable c =
    let place : CellPlace = (c.args.at.now.row, c.args.at.now.column) in
    let n = c.records.at_record in
    let xs = fields_of c.take.new.fields in
    let rest = c.take.new.self in
    let took : c.records.records ≡ xs ∷ rest = subst (λ b. TakesRecord b c.records.records rest xs) c.if-branch.true c.in_ok-take.ensures in
    let next : fields_from (n + 1) c.records.records ≡ fields_in (n + 1) 1 xs ++ fields_from (n + 1 + 1) rest = ap (fields_from (n + 1)) took in
    (typable_parts place (fields_in (n + 1) 1 xs) (fields_from (n + 1 + 1) rest) (subst (Typable place) next c.records.invariant.typable)).0

pub returns-in_err-type_record-clause-blocked : goal.returns-in_err-type_record-clause-blocked
returns-in_err-type_record-clause-blocked c =
    let place : CellPlace = (c.args.at.now.row, c.args.at.now.column) in
    let sheet = c.args.at.now.sheet in
    let n = c.records.at_record in
    let xs = fields_of c.take.new.fields in
    let rest = c.take.new.self in
    let took : c.records.records ≡ xs ∷ rest = subst (λ b. TakesRecord b c.records.records rest xs) c.if-branch.true c.in_ok-take.ensures in
    let front = fields_in (n + 1) 1 xs in
    let back = fields_from (n + 1 + 1) rest in
    let next : fields_from (n + 1) c.records.records ≡ front ++ back = ap (fields_from (n + 1)) took in
    let old = whole_of c.records.model.book in
    let all = typed sheet place (all_fields (records_of c.args.separator c.args.bytes.now)) (whole_of c.args.model.now.book) in
    let same : typed sheet place (front ++ back) old ≡ all = ap (λ (fs : List Field). typed sheet place fs old) (sym next) ∙ c.records.invariant.typed in
    let e = c.in_err-type_record.field-0.0 in
    error_as c.from_residual-in_err-type_record.result e (TellsBlocked all) c.from_residual-in_err-type_record.ensures
    (subst (λ r. TellsBlocked r e) same (blocked_first sheet place front back old e c.in_err-type_record.ensures.blocked))

pub records-preserved : goal.records-preserved
records-preserved c =
    let place : CellPlace = (c.args.at.now.row, c.args.at.now.column) in
    let sheet = c.args.at.now.sheet in
    let n = c.records.at_record in
    let xs = fields_of c.take.new.fields in
    let rest = c.take.new.self in
    let took : c.records.records ≡ xs ∷ rest = subst (λ b. TakesRecord b c.records.records rest xs) c.if-branch.true c.in_ok-take.ensures in
    let front = fields_in (n + 1) 1 xs in
    let back = fields_from (n + 1 + 1) rest in
    let next : fields_from (n + 1) c.records.records ≡ front ++ back = ap (fields_from (n + 1)) took in
    let old = whole_of c.records.model.book in
    let new = whole_of c.type_record.new.model.book in
    let i = c.records.invariant in
    let parts = typable_parts place front back (subst (Typable place) next i.typable) in
    let few = few_more place c.requires.row c.requires.column n c.records.count xs i.few parts.0 in
    record {
      typed = sym (typed_after sheet place front back old new c.in_ok-type_record.ensures.typed) ∙ ap (λ (fs : List Field). typed sheet place fs old) (sym next) ∙ i.typed;
      typable = parts.1;
      counted = omega (arith, ap length took, i.counted);
      fields = omega (arith, i.fields, ap length next, length-append front back, count_in (n + 1) 1 xs, c.len.ensures);
      few = subst (λ k. IsFew (n + 1) (c.records.count + k)) (sym c.len.ensures) few.0;
    }

pub overflow_add-count : goal.overflow_add-count
overflow_add-count c =
    let place : CellPlace = (c.args.at.now.row, c.args.at.now.column) in
    let n = c.records.at_record in
    let xs = fields_of c.take.new.fields in
    let rest = c.take.new.self in
    let took : c.records.records ≡ xs ∷ rest = subst (λ b. TakesRecord b c.records.records rest xs) c.if-branch.true c.in_ok-take.ensures in
    let next : fields_from (n + 1) c.records.records ≡ fields_in (n + 1) 1 xs ++ fields_from (n + 1 + 1) rest = ap (fields_from (n + 1)) took in
    let parts = typable_parts place (fields_in (n + 1) 1 xs) (fields_from (n + 1 + 1) rest) (subst (Typable place) next c.records.invariant.typable) in
    let few = few_more place c.requires.row c.requires.column n c.records.count xs c.records.invariant.few parts.0 in
    omega (arith, few.0.all, c.len.ensures)

pub returns-clause-typed : goal.returns-clause-typed
returns-clause-typed c =
    let place : CellPlace = (c.args.at.now.row, c.args.at.now.column) in
    let none = subst (λ b. TakesRecord b c.records.records c.take.new.self (fields_of c.take.new.fields)) c.if-branch.false c.in_ok-take.ensures in
    sym c.records.invariant.typed ∙ ap (λ (rs : List (List (List ℕ))). typed c.args.at.now.sheet place (fields_from (c.records.at_record + 1) rs) (whole_of c.records.model.book)) none
