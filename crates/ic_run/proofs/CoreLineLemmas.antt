-- A core line does what the identity machine does.
use Rattle.std.proofs.Common.{◌≡◌, ℕ, List, [], ◌∷◌, ◌++◌, Option, Some, None, encode_utf8_all, option_map, refl, ap, sym, subst, ◌∙◌}
use Rattle.ic_laws.specs.Command as core
use Rattle.ic_laws.specs.CoreStep.{core_step}
use Rattle.ic_laws.specs.Lines as lines
use Rattle.ic_machine.specs.Book as machine
use Rattle.ic_machine.specs.Command.{Command, command_in, commands}
use Rattle.ic_machine.specs.Core.{whole_command}
use Rattle.ic_machine.specs.Reply.{reply_bytes, reply_text}
use Rattle.ic_machine.specs.Step.{command_step, english_errors, outcome_of, step}
use Rattle.ic_machine.proofs.as_core.CoreLines.{core_lines_are}
use Rattle.ic_parts.specs.Book.{Book, IsSameBeside, IsValidBook, ModelState, StepsTo, core_of, notations_in}
use Rattle.ic_parts.specs.Whole.{whole_of}
use Rattle.ic_parts.proofs.WholeLemmas.{whole_core}
use Rattle.ic_commands.specs.Answered.{AreValid, StaysAfter}
use Rattle.ic_run.specs.Core.{CoreLinesAreDone, HasNoSign, IsPlainBook, WritesNoSign}
use Rattle.ic_run.proofs.CoreLemmas.{StandsBeside, core_left, stands_beside, text_told}
use Rattle.ic_run.proofs.CoreSteps.{told_as_core}
use Rattle.ic_run.proofs.PlainLemmas.{stays_plain}

-- what both machines make of a line, by the command that it is to each
record DoesAsCore (o : Option Command) (k : Option core.Command) (old new : Book) : Type 0 where
  steps : StepsTo old new (lines.command_step (notations_in old) (core_of old) k).0
  tells : reply_bytes (command_step (whole_of old) o).1 ≡ lines.reply_bytes (lines.command_step (notations_in old) (core_of old) k).1
  plain : IsPlainBook (whole_of new)

same_beside : (old new : Book) (left : machine.Book) → whole_of new ≡ left → StandsBeside (whole_of old) left → IsSameBeside old new
same_beside old new left is beside = record {
  name = ap (λ (b : machine.Book). b.name) is ∙ beside.name;
  zone = ap (λ (b : machine.Book). b.zone) is ∙ beside.zone;
  theme = ap (λ (b : machine.Book). b.theme) is ∙ beside.theme;
  metadata = ap (λ (b : machine.Book). b.metadata) is ∙ beside.metadata;
  tables = ap (λ (b : machine.Book). b.tables) is ∙ beside.tables;
}

-- a command of the identity machine
command_done : (k : core.Command) (old new : Book) → whole_of new ≡ (command_step (whole_of old) (Some (whole_command k))).0 → IsValidBook old → IsPlainBook (whole_of old) → HasNoSign (whole_command k)
    → DoesAsCore (Some (whole_command k)) (Some k) old new
command_done k old new left valid plain unsigned =
    let w = whole_of old in
    let made = step w (whole_command k) in
    let o = core_step (notations_in old) (core_of old) k in
    let told = told_as_core old valid plain k unsigned in
    let is = whole_core old in
    let text : reply_text (outcome_of w made).1 ≡ lines.reply_text (lines.outcome_of (core_of old) o).1 = text_told w (core_of old) is made o told in
    record {
      steps = record {
        core = sym (whole_core new) ∙ ap machine.core_of left ∙ core_left w (core_of old) is made o told;
        beside = same_beside old new (outcome_of w made).0 left (stands_beside w k);
      };
      tells = ap (λ (t : List ℕ). encode_utf8_all t ++ 10 ∷ []) text;
      plain = subst IsPlainBook (sym left) (stays_plain w plain k);
    }

-- no command
none_done : (old new : Book) → new ≡ old → IsPlainBook (whole_of old) → DoesAsCore None None old new
none_done old new same plain =
    subst (DoesAsCore None None old) (sym same)
    (record {
      steps = record { core = refl; beside = record { name = refl; zone = refl; theme = refl; metadata = refl; tables = refl } };
      tells = refl;
      plain = plain;
    })

as_core_command : (o : Option core.Command) (command : Command) → Some command ≡ option_map whole_command o → (k : core.Command) × (command ≡ whole_command k) × (o ≡ Some k)
as_core_command None command e = cc
as_core_command (Some k) command e = (k, cc, refl)

no_core_command : (o : Option core.Command) → None ≡ option_map whole_command o → o ≡ None
no_core_command None e = refl
no_core_command (Some k) e = cc

-- a line, by the command that it is
by_command : (o : Option Command) (k : Option core.Command) → o ≡ option_map whole_command k → (old new : ModelState) → whole_of new.book ≡ (command_step (whole_of old.book) o).0 → StaysAfter o old new → AreValid o old.book new.book
    → IsPlainBook (whole_of old.book) → WritesNoSign o → DoesAsCore o k old.book new.book
by_command None k is old new left stays valid plain unsigned =
    subst (λ (k : Option core.Command). DoesAsCore None k old.book new.book) (sym (no_core_command k is)) (none_done old.book new.book (ap (λ (m : ModelState). m.book) stays) plain)
by_command (Some command) k is old new left stays valid plain unsigned =
    let its = as_core_command k command is in
    subst (λ (k : Option core.Command). DoesAsCore (Some command) k old.book new.book) (sym its.2)
    (subst (λ (c : Command). DoesAsCore (Some c) (Some its.0) old.book new.book) (sym its.1)
    (command_done its.0 old.book new.book (subst (λ (c : Command). whole_of new.book ≡ (command_step (whole_of old.book) (Some c)).0) its.1 left) valid.0 plain (subst HasNoSign its.1 unsigned)))

pub core_lines_done : CoreLinesAreDone
core_lines_done line old new did plain is_core =
    let command : Option Command = command_in (english_errors (whole_of old.book)) commands line in
    let done : DoesAsCore command (lines.command_of core.commands line) old.book new.book =
    by_command command (lines.command_of core.commands line) (core_lines_are (english_errors (whole_of old.book)) line is_core.0) old new did.book did.stays did.valid plain is_core.1 in
    record { steps = done.steps; tells = done.tells; plain = done.plain }
