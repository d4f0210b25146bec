use Rattle.std.proofs.Common.{◌≡◌, ◌≢◌, ◌+◌, ◌≤◌, ℕ, Err, ap, chars, length, ◌∙◌, true}
use Rattle.std.proofs.lemmas.Result.{IfErr-weaker}
use Rattle.ic_lines.proofs.ToldLemmas.{IfTold-weaker}
use Rattle.ic_lines.specs.Bytes.{HasFault, IfTold}
use Rattle.ic_lines.specs.Reading.{most_turns}
use Rattle.ic_parts.specs.Whole.{whole_of}
use Rattle.ic_import.specs.Import.{BlocksRightly, IsOfRequest, RefusesRequest, RestsOn, RestsOnBytes, request, request_refusal}
use Rattle.ic_import.specs.declared.error.ImportError.TheVariants as errors
use Rattle.ic_import.proofs.ImportLemmas.{bytes_kind, reading_kind, request_met}
use Rattle.ic_import.proofs.TypingLemmas.{error_as, result_as}
use Rattle.ic_import.proofs.import.import_csv.Goals as goal

pub import_bytes-requires-clause-met : goal.import_bytes-requires-clause-met
import_bytes-requires-clause-met g c =
    let asked = request c.args.at.now (chars c.args.locale_id.now) (chars c.args.language_id.now) in
    request_met asked (whole_of c.args.model.now.book) c.in-Ok.ensures.refused

pub returns-in_err-bytes-clause-told : goal.returns-in_err-bytes-clause-told
returns-in_err-bytes-clause-told g c =
    let left = g.S.Source.left in
    let b = whole_of c.args.model.now.book in
    let asked = request c.args.at.now (chars c.args.locale_id.now) (chars c.args.language_id.now) in
    let e = c.in_err-bytes.field-0.0 in
    let kind = reading_kind (ℕ × ℕ) e (request_refusal asked b) c.in_err-bytes.ensures.which c.in-Ok.ensures.refused in
    result_as c.from_residual.result e (λ r. RestsOnBytes r → RestsOn asked b b r (left c.args.source.now) (left c.all_bytes.new.source)) c.from_residual.ensures (λ h. absurd (kind.0 h))

pub returns-in_err-bytes-clause-refused : goal.returns-in_err-bytes-clause-refused
returns-in_err-bytes-clause-refused g c =
    let b = whole_of c.args.model.now.book in
    let asked = request c.args.at.now (chars c.args.locale_id.now) (chars c.args.language_id.now) in
    let e = c.in_err-bytes.field-0.0 in
    let kind = reading_kind (ℕ × ℕ) e (request_refusal asked b) c.in_err-bytes.ensures.which c.in-Ok.ensures.refused in
    result_as c.from_residual.result e (λ r. RefusesRequest (request_refusal asked b) r) c.from_residual.ensures kind.3

pub returns-in_err-bytes-clause-untouched : goal.returns-in_err-bytes-clause-untouched
returns-in_err-bytes-clause-untouched g c =
    let b = whole_of c.args.model.now.book in
    let asked = request c.args.at.now (chars c.args.locale_id.now) (chars c.args.language_id.now) in
    let e = c.in_err-bytes.field-0.0 in
    let kind = reading_kind (ℕ × ℕ) e (request_refusal asked b) c.in_err-bytes.ensures.which c.in-Ok.ensures.refused in
    error_as c.from_residual.result e (λ f. IsOfRequest f → c.all_bytes.new.source ≡ c.args.source.now) c.from_residual.ensures (λ h. absurd (kind.1 h))

pub returns-in_err-bytes-clause-end : goal.returns-in_err-bytes-clause-end
returns-in_err-bytes-clause-end g c =
    let b = whole_of c.args.model.now.book in
    let asked = request c.args.at.now (chars c.args.locale_id.now) (chars c.args.language_id.now) in
    let e = c.in_err-bytes.field-0.0 in
    let kind = reading_kind (ℕ × ℕ) e (request_refusal asked b) c.in_err-bytes.ensures.which c.in-Ok.ensures.refused in
    result_as c.from_residual.result e (λ r. RestsOnBytes r → g.S.Source.ended c.all_bytes.new.source ≡ true) c.from_residual.ensures (λ h. absurd (kind.0 h))

pub returns-in_err-bytes-clause-quiet : goal.returns-in_err-bytes-clause-quiet
returns-in_err-bytes-clause-quiet g c =
    let b = whole_of c.args.model.now.book in
    let asked = request c.args.at.now (chars c.args.locale_id.now) (chars c.args.language_id.now) in
    let e = c.in_err-bytes.field-0.0 in
    let kind = reading_kind (ℕ × ℕ) e (request_refusal asked b) c.in_err-bytes.ensures.which c.in-Ok.ensures.refused in
    result_as c.from_residual.result e (λ r. RestsOnBytes r → g.S.Source.faults c.all_bytes.new.source ≡ g.S.Source.faults c.args.source.now) c.from_residual.ensures (λ h. absurd (kind.0 h))

pub returns-in_err-bytes-clause-read_fault : goal.returns-in_err-bytes-clause-read_fault
returns-in_err-bytes-clause-read_fault g c =
    let faults = g.S.Source.faults in
    let e = c.in_err-bytes.field-0.0 in
    result_as c.from_residual.result e (λ r. r ≡ Err errors.ReadFault → HasFault (faults c.args.source.now) (faults c.all_bytes.new.source)) c.from_residual.ensures
    (λ is. c.in_err-bytes.ensures.read_fault (let same : e ≡ errors.ReadFault = cc in ap (λ x. Err x) same))

pub returns-in_err-bytes-clause-too_many : goal.returns-in_err-bytes-clause-too_many
returns-in_err-bytes-clause-too_many g c =
    let left = g.S.Source.left in
    let e = c.in_err-bytes.field-0.0 in
    result_as c.from_residual.result e (λ r. r ≡ Err errors.TooManyTurns → IfTold (left c.args.source.now) (left c.all_bytes.new.source) (λ before now. most_turns + length now ≤ length before)) c.from_residual.ensures
    (λ is. c.in_err-bytes.ensures.too_many (let same : e ≡ errors.TooManyTurns = cc in ap (λ x. Err x) same))

pub returns-in_err-bytes-clause-blocked : goal.returns-in_err-bytes-clause-blocked
returns-in_err-bytes-clause-blocked g c =
    let b = whole_of c.args.model.now.book in
    let asked = request c.args.at.now (chars c.args.locale_id.now) (chars c.args.language_id.now) in
    let e = c.in_err-bytes.field-0.0 in
    let kind = reading_kind (ℕ × ℕ) e (request_refusal asked b) c.in_err-bytes.ensures.which c.in-Ok.ensures.refused in
    error_as c.from_residual.result e BlocksRightly c.from_residual.ensures kind.2

pub returns-in_err-bytes-clause-completes : goal.returns-in_err-bytes-clause-completes
returns-in_err-bytes-clause-completes g c = λ some whole.
    let e = c.in_err-bytes.field-0.0 in
    let memory : e ≡ errors.OutOfMemory = c.in_err-bytes.ensures.completes some whole in
    result_as c.from_residual.result e (λ r. (r ≢ Err errors.ReadFault) × (r ≢ Err errors.TooManyTurns)) c.from_residual.ensures (λ is. cc, λ is. cc)

pub returns-clause-told : goal.returns-clause-told
returns-clause-told g c = λ rests.
    let left = g.S.Source.left in
    record {
      bytes = c.as_slice.result.now;
      tells = c.import_bytes.ensures.told;
      taken = IfTold-weaker (left c.args.source.now) (left c.all_bytes.new.source) _ _ (λ before now h. (c.as_slice.ensures.value ∙ h.0, h.1)) c.in_ok-bytes.ensures.all;
    }

pub returns-clause-refused : goal.returns-clause-refused
returns-clause-refused g c =
    let asked = request c.args.at.now (chars c.args.locale_id.now) (chars c.args.language_id.now) in
    (bytes_kind c.import_bytes.result (request_refusal asked (whole_of c.args.model.now.book)) c.import_bytes.ensures.which c.in-Ok.ensures.refused).3

pub returns-clause-untouched : goal.returns-clause-untouched
returns-clause-untouched g c =
    let asked = request c.args.at.now (chars c.args.locale_id.now) (chars c.args.language_id.now) in
    let kind = bytes_kind c.import_bytes.result (request_refusal asked (whole_of c.args.model.now.book)) c.import_bytes.ensures.which c.in-Ok.ensures.refused in
    IfErr-weaker c.import_bytes.result _ _ (λ e no h. absurd (no h)) kind.2

pub returns-clause-read_fault : goal.returns-clause-read_fault
returns-clause-read_fault g c =
    let asked = request c.args.at.now (chars c.args.locale_id.now) (chars c.args.language_id.now) in
    let kind = bytes_kind c.import_bytes.result (request_refusal asked (whole_of c.args.model.now.book)) c.import_bytes.ensures.which c.in-Ok.ensures.refused in
    λ is. absurd (kind.0 is)

pub returns-clause-too_many : goal.returns-clause-too_many
returns-clause-too_many g c =
    let asked = request c.args.at.now (chars c.args.locale_id.now) (chars c.args.language_id.now) in
    let kind = bytes_kind c.import_bytes.result (request_refusal asked (whole_of c.args.model.now.book)) c.import_bytes.ensures.which c.in-Ok.ensures.refused in
    λ is. absurd (kind.1 is)

pub returns-clause-unseen : goal.returns-clause-unseen
returns-clause-unseen g c =
    let asked = request c.args.at.now (chars c.args.locale_id.now) (chars c.args.language_id.now) in
    let kind = bytes_kind c.import_bytes.result (request_refusal asked (whole_of c.args.model.now.book)) c.import_bytes.ensures.which c.in-Ok.ensures.refused in
    λ is. absurd (kind.1 is)

pub returns-clause-completes : goal.returns-clause-completes
returns-clause-completes g c = λ some whole.
    let asked = request c.args.at.now (chars c.args.locale_id.now) (chars c.args.language_id.now) in
    let kind = bytes_kind c.import_bytes.result (request_refusal asked (whole_of c.args.model.now.book)) c.import_bytes.ensures.which c.in-Ok.ensures.refused in
    (kind.0, kind.1)
