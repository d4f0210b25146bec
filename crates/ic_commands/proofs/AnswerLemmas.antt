-- What is told of a call answers the command that it did.
use Rattle.std.proofs.Common.{◌≡◌, ◌≢◌, ◌≤◌, ℕ, List, ◌++◌, Bool, false, true, String, Global, Option, Some, None, Result, Ok, Err, IfOk, OnErr, arith, chars, length, refl, rules, string_bytes, ap, sym, subst, unwrap_or, ◌∙◌}
use Rattle.ic_machine.specs.Refusal.{BadLine, Refusal}
use Rattle.ic_laws.specs.Name.{is_sheet_name}
use Rattle.ic_laws.specs.declared.memory.OutOfMemory.{OutOfMemory}
use Rattle.ic_machine.specs.Book as machine
use Rattle.ic_machine.specs.Book.{Stepped}
use Rattle.ic_machine.specs.Command.{Command}
use Rattle.ic_machine.specs.Readers.{is_reader}
use Rattle.ic_machine.specs.Reply.{Field, Reply, reply_bytes, reply_text}
use Rattle.ic_machine.specs.Step.{command_step, outcome_of, step}
use Rattle.ic_words.specs.Reply.{IsLineText}
use Rattle.ic_words.proofs.ReplyLemmas.{refusal_line}
use Rattle.ic_parts.specs.Book.{ModelState}
use Rattle.ic_parts.specs.Refused.{refusal_of}
use Rattle.ic_parts.specs.declared.error.BookError.{BookError}
use Rattle.ic_parts.specs.declared.error.BookError.TheVariants as errors
use Rattle.ic_commands.specs.Answered.{Answers, IsAnswered, Keeps, Stays, Tells, is_on_notation}
use Rattle.ic_parts.specs.Does.{DoesStep, Memory, Never, Refused, Wanted, WantedIn, WantedOr, WantedOrWhole, WantedWhere}
use Rattle.ic_parts.specs.Whole.{whole_of}

-- every error but that memory ran out tells a refusal
pub tells : (e : BookError) → e ≢ errors.OutOfMemory → (refusal : Refusal) × (refusal_of e ≡ Some refusal)
tells errors.OutOfMemory h = absurd (h refl)
tells e h = (unwrap_or (refusal_of e) BadLine, refl)

-- after an error the book is as it was
refused_book : (wants : Memory) (made : Stepped machine.Book) (old new : ModelState) (refusal : Option Refusal) → Refused wants made old new refusal → new.book ≡ old.book
refused_book wants made old new (Some refusal) h = ap (λ (m : ModelState). m.book) h.1
refused_book Never made old new None h = absurd h
refused_book Wanted made old new None h = ap (λ (m : ModelState). m.book) h.1
refused_book (WantedOr late) made old new None h = ap (λ (m : ModelState). m.book) h.1
refused_book (WantedOrWhole late) made old new None h = ap (λ (m : ModelState). m.book) h.1
refused_book (WantedWhere late) made old new None h = ap (λ (m : ModelState). m.book) h.1
refused_book WantedIn made old new None h = h.1

module _ {T : Type 0} (wants : Memory) (fields : T → List Field) (command : Command) (old new : ModelState) (before after : List ℕ) where
  pub told_ok : (done : Result T BookError) (value : T) → done ≡ Ok value → DoesStep wants (step (whole_of old.book) command) fields done old new → Keeps command old new
      → IsLineText (reply_text (Ok (fields value))) → after ≡ before ++ reply_bytes (Ok (fields value)) → IsAnswered command old new before after
  told_ok done value is d keeps line told =
      let did = subst (λ r. DoesStep wants (step (whole_of old.book) command) fields r old new) is d in
      let made : command_step (whole_of old.book) (Some command) ≡ (whole_of new.book, Ok (fields value)) = ap (outcome_of (whole_of old.book)) did.done in
      record {
        book = sym (ap (λ (s : machine.Book × Reply). s.0) made);
        reply = told ∙ ap (λ (s : machine.Book × Reply). before ++ reply_bytes s.1) (sym made);
        line = subst (λ (s : machine.Book × Reply). IsLineText (reply_text s.1)) (sym made) line;
        stays = subst (λ (s : machine.Book × Reply). Stays s.1 command old new) (sym made) keeps;
        valid_before = did.before;
        valid_after = did.after;
      }

  pub told_refusal : (done : Result T BookError) (e : BookError) → done ≡ Err e → DoesStep wants (step (whole_of old.book) command) fields done old new → (refusal : Refusal) → refusal_of e ≡ Some refusal
      → after ≡ before ++ reply_bytes (Err refusal) → IsAnswered command old new before after
  told_refusal done e is d refusal tells told =
      let did = subst (λ r. DoesStep wants (step (whole_of old.book) command) fields r old new) is d in
      let refused = subst (Refused wants (step (whole_of old.book) command) old new) tells did.done in
      let made : command_step (whole_of old.book) (Some command) ≡ (whole_of old.book, Err refusal) = ap (outcome_of (whole_of old.book)) refused.0 in
      record {
        book = ap (λ (m : ModelState). whole_of m.book) refused.1 ∙ sym (ap (λ (s : machine.Book × Reply). s.0) made);
        reply = told ∙ ap (λ (s : machine.Book × Reply). before ++ reply_bytes s.1) (sym made);
        line = subst (λ (s : machine.Book × Reply). IsLineText (reply_text s.1)) (sym made) (refusal_line refusal);
        stays = subst (λ (s : machine.Book × Reply). Stays s.1 command old new) (sym made) refused.1;
        valid_before = did.before;
        valid_after = did.after;
      }

pub as_before : {T : Type 0} (wants : Memory) (made : Stepped machine.Book) (fields : T → List Field) (old new : ModelState) (done : Result T BookError) (e : BookError) → done ≡ Err e → DoesStep wants made fields done old new → new.book ≡ old.book
as_before wants made fields old new done e is d = refused_book wants made old new (refusal_of e) (subst (λ r. DoesStep wants made fields r old new) is d).done

pub always_err : {T E X : Type 0} (result : Result T E) → X → OnErr result X
always_err (Ok value) x = tt
always_err (Err e) x = x

-- what takes no memory doesn't fail
pub never_err : {T E : Type 0} (X : Type 0) (result : Result T E) (memory : Bool) → OnErr result (memory ≡ true) → memory ≡ false → OnErr result X
never_err X (Ok value) memory h none = tt
never_err X (Err e) memory h none = let no : false ≡ true = sym none ∙ h in absurd (cc)

pub both_ok : {T E : Type 0} {P Q R : T → Type 0} (result : Result T E) → IfOk result P → IfOk result Q → ((x : T) → P x → Q x → R x) → IfOk result R
both_ok (Ok value) p q both = both value p q
both_ok (Err e) p q both = tt

-- a sheet's name that a call answered has at most 31 characters
pub is_short : (done : Result (String Global × ℕ) BookError) (named : String Global × ℕ) → done ≡ Ok named → IfOk done (λ n. is_sheet_name (chars (string_bytes n.0)) ≡ true) → length (chars (string_bytes named.0)) ≤ 31
is_short done named is good = short (chars (string_bytes named.0)) (subst (λ (d : Result (String Global × ℕ) BookError). IfOk d (λ n. is_sheet_name (chars (string_bytes n.0)) ≡ true)) is good)
  where
    short : (name : List ℕ) → is_sheet_name name ≡ true → length name ≤ 31
    short name e = search (rules, arith)

-- A call that changes the book takes no memory for its reply.
module _ {T : Type 0} {fields : T → List Field} {memory : Bool} {wants : Memory} {made : Stepped machine.Book} {done : Result T BookError} {before : List ℕ} {result : Result (String Global) OutOfMemory} (command : Command) {old new : ModelState} (none : memory ≡ false) (told : Tells fields memory done before result) (did : DoesStep wants made fields done old new) (is : made ≡ step (whole_of old.book) command) where
  answered : Keeps command old new → Answers command old new before result
  answered keeps =
      let does = subst (λ made. DoesStep wants made fields done old new) is did in
      record {
        ok = told.ok wants command old new does keeps;
        err = told.err wants (step (whole_of old.book) command) old new none does;
      }

  pub changed : is_reader command ≡ false → is_on_notation command ≡ false → Answers command old new before result
  changed other beside = answered (record {
    reads = λ reads. let no : false ≡ true = sym other ∙ reads in absurd (cc);
    looks_up = λ notation. let no : false ≡ true = sym beside ∙ notation in absurd (cc);
  })

  -- so does one on the notation, which leaves the look-ups
  pub changed_notation : is_reader command ≡ false → new.has_all ≡ old.has_all → Answers command old new before result
  changed_notation other looks_up = answered (record {
    reads = λ reads. let no : false ≡ true = sym other ∙ reads in absurd (cc);
    looks_up = λ _. looks_up;
  })

-- One that only reads may.
pub only_read : {T : Type 0} {fields : T → List Field} {memory : Bool} {wants : Memory} {made : Stepped machine.Book} {done : Result T BookError} {before : List ℕ} {result : Result (String Global) OutOfMemory} {command : Command} {state : ModelState}
    → Tells fields memory done before result → DoesStep wants made fields done state state → made ≡ step (whole_of state.book) command → Answers command state state before result
only_read {fields = fields} {wants = wants} {done = done} {result = result} {command = command} {state = state} told does is =
    record {
      ok = told.ok wants command state state (subst (λ made. DoesStep wants made fields done state state) is does) (record { reads = λ _. refl; looks_up = λ _. refl });
      err = always_err result refl;
    }
