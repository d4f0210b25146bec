-- What the errors of the audit tell.
use Rattle.std.specs.Prelude.{◌≡◌, false, true, Option, Result, Ok, Err, is_some}
use Rattle.ic_laws.specs.Refusal.{Refusal}
use Rattle.ic_audit.specs.declared.error.AuditError.{AuditError}
use Rattle.ic_audit.specs.declared.error.AuditError.TheVariants as errors

-- A call answers Ok, or that memory ran out, only where nothing refuses. Its other error is this one, where something does.
abbrev pub Tells : {T : Type 0} → AuditError → Result T AuditError → Option Refusal → Type 0
Tells told (Ok value) refusal = is_some refusal ≡ false
Tells told (Err errors.OutOfMemory) refusal = is_some refusal ≡ false
Tells told (Err e) refusal = (e ≡ told) × (is_some refusal ≡ true)
