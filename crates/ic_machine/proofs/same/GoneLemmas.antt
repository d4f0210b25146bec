-- A line that isn't translated leaves a book that is the same: it is no command, is refused, reads, or chooses the notation.
use Rattle.std.proofs.Common.{◌≡◌, true, ◌||◌, cond, Option, Some, None, Ok, Err, inl, inr, option_and_then, option_map, sym, ap, subst, ◌∙◌}
use Rattle.std.proofs.lemmas.Bool.{cases_Bool, true≢false}
use Rattle.ic_machine.specs.Action.{Action, ChangesNotation, chooses_notation}
use Rattle.ic_machine.specs.Book.{Book, Stepped}
use Rattle.ic_machine.specs.Command.{Command, action, command_in, commands}
use Rattle.ic_machine.specs.Kinds.{IsLeftBy, LeavesSo}
use Rattle.ic_machine.specs.Readers.{Leaves, LeavesIf, is_reader}
use Rattle.ic_machine.specs.Same.{IsSameBook}
use Rattle.ic_machine.specs.Step.{command_step, english_errors, outcome_of, step}
use Rattle.ic_machine.specs.Translation.{is_dropped, is_switch, kept_command, left_by}
use Rattle.ic_machine.specs.TranslationLaws.{GoneIsSame}
use Rattle.ic_machine.proofs.kinds.KindLemmas.{left_by_kind}
use Rattle.ic_machine.proofs.kinds.ReaderLemmas.{readers_leave}
use Rattle.ic_machine.proofs.same.SameLemmas.{switched_same}

itself : (b : Book) → IsSameBook b b
itself b = switched_same b.locale b.language b

-- what a step leaves, or the book where it is refused, is the same as the book
abbrev StaysSame : Book → Stepped Book → Type 0
StaysSame b stepped = IsSameBook (outcome_of b stepped).0 b

reader_same : (b : Book) (stepped : Stepped Book) → Leaves b stepped → StaysSame b stepped
reader_same b (Ok done) h = subst (λ left. IsSameBook left b) (sym h) (itself b)
reader_same b (Err refusal) h = itself b

switch_same : (b : Book) (a : Action) (stepped : Stepped Book) → LeavesSo (IsLeftBy a) b stepped → chooses_notation a ≡ true → StaysSame b stepped
switch_same b (ChangesNotation f) (Ok done) h e = subst (λ left. IsSameBook left b) (sym h) (switched_same done.0.locale done.0.language b)
switch_same b (ChangesNotation f) (Err refusal) h e = itself b
switch_same b a stepped h e = absurd (true≢false (sym e))

dropped_same : (b : Book) (command : Command) → is_dropped command ≡ true → StaysSame b (step b command)
dropped_same b command h = elim (cases_Bool (is_reader command)) [
  | inl e ↦ reader_same b (step b command) (subst (λ reads. LeavesIf reads b (step b command)) e (readers_leave b command))
  | inr e ↦ switch_same b (action command) (step b command) (left_by_kind b command) (ap (λ reads. reads || is_switch command) (sym e) ∙ h)
]

refused_same : (b : Book) (command : Command) (stepped : Stepped Book) → option_map (λ left. let kept : Command × Book = (command, left) in kept) (left_by stepped) ≡ None → StaysSame b stepped
refused_same b command (Ok done) h = cc
refused_same b command (Err refusal) h = itself b

gone_command : (b : Book) (command : Command) → kept_command b command ≡ None → StaysSame b (step b command)
gone_command b command h = elim (cases_Bool (is_dropped command)) [
  | inl e ↦ dropped_same b command e
  | inr e ↦ refused_same b command (step b command) (ap (λ dropped. cond dropped None (option_map (λ left. let kept : Command × Book = (command, left) in kept) (left_by (step b command)))) (sym e) ∙ h)
]

pub gone_is_same : GoneIsSame
gone_is_same b line h = by (command_in (english_errors b) commands line) h
  where
    by : (o : Option Command) → option_and_then (kept_command b) o ≡ None → IsSameBook (command_step b o).0 b
    by None h = itself b
    by (Some command) h = gone_command b command h
