-- Lines that are accepted one after another, and what they leave.
use Rattle.std.proofs.Common.{◌≡◌, ℕ, List, [], ◌∷◌, ◌++◌, Some, Ok, refl, sym, ap, subst, ◌∙◌}
use Rattle.ic_machine.specs.Book.{Book}
use Rattle.ic_machine.specs.Command.{Command, command_in, commands}
use Rattle.ic_machine.specs.Reply.{Field, Reply}
use Rattle.ic_machine.specs.Run.{after}
use Rattle.ic_machine.specs.Step.{command_step, english_errors, line_step, machine, outcome_of, step}
use Rattle.ic_machine.specs.Translation.{left_after}
use Rattle.ic_machine.specs.TranslationLaws.{AreAccepted}
use Rattle.ic_machine.specs.Valid.{IsValidBook}
use Rattle.ic_dump.specs.Stages.{Leads}

abbrev pub run : Book → List (List ℕ) → Book
run b lines = after (machine commands) b lines

pub run_both : (b : Book) (xs ys : List (List ℕ)) → run b (xs ++ ys) ≡ run (run b xs) ys
run_both b [] ys = refl
run_both b (x ∷ xs) ys = run_both (left_after b x) xs ys

pub accepted_both : (b : Book) (xs ys : List (List ℕ)) → AreAccepted b xs → AreAccepted (run b xs) ys → AreAccepted b (xs ++ ys)
accepted_both b [] ys h g = g
accepted_both b (x ∷ xs) ys h g = (h.0, accepted_both (left_after b x) xs ys h.1 g)

-- what a line leaves and answers that is a command which is accepted
pub line_stepped : (b left : Book) (line : List ℕ) (command : Command) (fields : List Field) → command_in (english_errors b) commands line ≡ Some command → step b command ≡ Ok (left, fields)
    → ◌≡◌ {A = Book × Reply} (line_step commands b line) (left, Ok fields)
line_stepped b left line command fields read stepped = ap (command_step b) read ∙ ap (outcome_of b) stepped

pub line_accepted : (b left : Book) (line : List ℕ) (command : Command) (fields : List Field) → command_in (english_errors b) commands line ≡ Some command → step b command ≡ Ok (left, fields)
    → AreAccepted b (line ∷ [])
line_accepted b left line command fields read stepped = ((fields, ap (λ (p : Book × Reply). p.1) (line_stepped b left line command fields read stepped)), tt)

pub line_leaves : (b left : Book) (line : List ℕ) (command : Command) (fields : List Field) → command_in (english_errors b) commands line ≡ Some command → step b command ≡ Ok (left, fields)
    → run b (line ∷ []) ≡ left
line_leaves b left line command fields read stepped = ap (λ (p : Book × Reply). p.0) (line_stepped b left line command fields read stepped)

-- Lines that lead from one book to another. ----

pub leads_nowhere : (b : Book) → IsValidBook b → Leads b [] b
leads_nowhere b valid = record { accepted = tt; left = refl; valid = valid }

pub leads_line : (b left : Book) (line : List ℕ) (command : Command) (fields : List Field) → command_in (english_errors b) commands line ≡ Some command → step b command ≡ Ok (left, fields)
    → IsValidBook left → Leads b (line ∷ []) left
leads_line b left line command fields read stepped valid =
    record { accepted = line_accepted b left line command fields read stepped; left = line_leaves b left line command fields read stepped; valid = valid }

pub leads_both : (a b c : Book) (xs ys : List (List ℕ)) → Leads a xs b → Leads b ys c → Leads a (xs ++ ys) c
leads_both a b c xs ys first then = record {
  accepted = accepted_both a xs ys first.accepted (subst (λ (x : Book). AreAccepted x ys) (sym first.left) then.accepted);
  left = run_both a xs ys ∙ ap (λ (x : Book). run x ys) first.left ∙ then.left;
  valid = then.valid;
}

-- the same from and to equal books
pub leads_there : (a b c d : Book) (lines : List (List ℕ)) → a ≡ b → c ≡ d → Leads a lines c → Leads b lines d
leads_there a b c d lines from to leads = subst (λ (x : Book). Leads x lines d) from (subst (Leads a lines) to leads)
