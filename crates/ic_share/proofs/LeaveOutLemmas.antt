-- A user whose lines only ask, choose a language or are no command: without their lines all else is the same.
use Rattle.std.proofs.Common.{◌≡◌, ◌≢◌, ℕ, List, [], ◌∷◌, Bool, true, false, cond, not, Option, Some, None, Ok, Err, refl, sym, ap, subst, ◌∙◌}
use Rattle.std.specs.FinMap as finite
use Rattle.std.specs.List.{AllByRecursion, filter}
use Rattle.std.specs.Prelude.{bytes_eq, unwrap_or}
use Rattle.std.specs.Cmp.Lexicographic.{nat_list_cmp_total, slice_cmp}
use Rattle.std.specs.Ordering.{eq_by_cmp, nat_cmp}
use Rattle.std.proofs.lemmas.Bool.{false_from_ne_true}
use Rattle.std.proofs.lemmas.Slice.Eq.{bytes_eq-Decides}
use Rattle.ic_laws.specs.CoreStep.{Outcome}
use Rattle.ic_machine.proofs.kinds.ReaderLemmas.{readers_leave}
use Rattle.ic_machine.specs.Book.{Book, Stepped, as_core}
use Rattle.ic_machine.specs.Command.{Command, OnNotation, command_in, commands}
use Rattle.ic_machine.specs.Readers.{Leaves, LeavesIf, is_reader}
use Rattle.ic_machine.specs.Reply.{Reply, reply_bytes}
use Rattle.ic_machine.specs.Run.{after}
use Rattle.ic_machine.specs.Step.{command_step, english_errors, line_step, outcome_of, step}
use Rattle.ic_machine.specs.subjects.Notation as notation
use Rattle.ic_machine.specs.subjects.Notation.{set_language_step}
use Rattle.ic_run.proofs.TablesStay.{tables_stay}
use Rattle.ic_share.specs.LeaveOut.{IsQuietIfBy, IsSameBut, LeavesNoTrace, is_by, is_line_of, is_quiet, told_each, without_user}
use Rattle.ic_share.specs.Shared.{Languages, SharedBook, done_for, in_language, language_of, languages_left, sent_step, share_machine, with_choice}
use Rattle.ic_share.specs.Users.{Sent, sent_in}
use Rattle.ic_cells.proofs.ColumnLemmas.{tie as equal_order}

-- a quiet command, in a book with another language, leaves the book but for that
module _ (b : Book) (language : List ℕ) where
  chosen : (id : List ℕ) (o : Outcome) → in_language b.language (outcome_of (in_language language b) (as_core o (in_language id b))).0 ≡ b
  chosen id (Ok done) = refl
  chosen id (Err refusal) = refl

  asked : (made : Stepped Book) → Leaves (in_language language b) made → in_language b.language (outcome_of (in_language language b) made).0 ≡ b
  asked (Ok done) h = ap (in_language b.language) h
  asked (Err refusal) h = refl

  by_reader : (command : Command) → is_reader command ≡ true → in_language b.language (command_step (in_language language b) (Some command)).0 ≡ b
  by_reader command e = asked _ (subst (λ t. LeavesIf t (in_language language b) (step (in_language language b) command)) e (readers_leave (in_language language b) command))

  quiet_stays : (o : Option Command) → is_quiet o ≡ true → in_language b.language (command_step (in_language language b) o).0 ≡ b
  unfolding set_language_step
  quiet_stays None e = refl
  quiet_stays (Some (OnNotation (notation.SetLanguage id))) e = chosen id _
  quiet_stays (Some command) e = by_reader command e

same_by_order : (one other : List ℕ) → one ≢ other → eq_by_cmp (slice_cmp nat_cmp) one other ≡ false
same_by_order one other differ = false_from_ne_true _ (λ e. differ (is_same e))
  where
    is_same : eq_by_cmp (slice_cmp nat_cmp) one other ≡ true → one ≡ other
    is_same e = finite.slice_cmp-IsAntisymmetric finite.nat_cmp-IsAntisymmetric one other (equal_order _ e)

-- no step changes the tables, and with them the English words
pub words_stay : (shared : SharedBook) (sent : Option Sent) → english_errors (sent_step shared sent).0.book ≡ english_errors shared.book
words_stay shared None = refl
words_stay shared (Some sent) =
    ap (λ tables. english_errors (let c : Book = record shared.book { tables = tables } in c)) (tables_stay (in_language (language_of shared sent.user) shared.book) sent.command)

module _ (user : List ℕ) where
  -- the user's choice is theirs alone
  choice_stays : (command : Option Command) (reply : Reply) (languages : Languages) (name : List ℕ) → name ≢ user → finite.get (languages_left user command reply languages) name ≡ finite.get languages name
  choice_stays command (Err refusal) languages name differ = refl
  choice_stays command (Ok fields) languages name differ = by_choice _
    where
      by_choice : (o : Option (List ℕ)) → finite.get (with_choice user o languages) name ≡ finite.get languages name
      by_choice None = refl
      by_choice (Some id) =
          finite.get-insert nat_list_cmp_total languages user id name ∙ ap (λ t. cond t (Some id) (finite.get languages name)) (same_by_order name user differ)

  -- another's choice is the same in both
  choice_agrees : (other : List ℕ) (command : Option Command) (reply : Reply) (one two : Languages) (name : List ℕ) → finite.get one name ≡ finite.get two name
      → finite.get (languages_left other command reply one) name ≡ finite.get (languages_left other command reply two) name
  choice_agrees other command (Err refusal) one two name e = e
  choice_agrees other command (Ok fields) one two name e = by_choice _
    where
      by_choice : (o : Option (List ℕ)) → finite.get (with_choice other o one) name ≡ finite.get (with_choice other o two) name
      by_choice None = e
      by_choice (Some id) =
          finite.get-insert nat_list_cmp_total one other id name ∙ ap (λ found. cond (eq_by_cmp (slice_cmp nat_cmp) name other) (Some id) found) e
          ∙ sym (finite.get-insert nat_list_cmp_total two other id name)

  -- the user's line is left out
  quiet_same : (one other : SharedBook) → IsSameBut user one other → (sent : Sent) → sent.user ≡ user → is_quiet (command_in (english_errors one.book) commands sent.command) ≡ true
      → IsSameBut user (sent_step one (Some sent)).0 other
  quiet_same one other same sent by quiet = record {
    book = quiet_stays one.book (language_of one sent.user) (command_in (english_errors one.book) commands sent.command) quiet ∙ same.book;
    languages = λ name differ.
        ap (λ (u : List ℕ). finite.get (languages_left u (command_in (english_errors one.book) commands sent.command) (done_for one sent).1 one.languages) name) by
        ∙ choice_stays (command_in (english_errors one.book) commands sent.command) (done_for one sent).1 one.languages name differ ∙ same.languages name differ;
  }

  -- and another's does the same in both
  done_same : (one other : SharedBook) → IsSameBut user one other → (sent : Sent) → sent.user ≢ user → done_for one sent ≡ done_for other sent
  done_same one other same sent differ =
      ap (λ (found : Option (List ℕ)). line_step commands (in_language (unwrap_or found one.book.language) one.book) sent.command) (same.languages sent.user differ)
      ∙ ap (λ (b : Book). line_step commands (in_language (unwrap_or (finite.get other.languages sent.user) b.language) b) sent.command) same.book

  other_same : (one other : SharedBook) → IsSameBut user one other → (sent : Sent) → sent.user ≢ user → IsSameBut user (sent_step one (Some sent)).0 (sent_step other (Some sent)).0
  other_same one other same sent differ =
      let done = done_same one other same sent differ in
      record {
        book = ap (λ (b : Book). in_language b.language (done_for one sent).0) same.book ∙ ap (λ (d : Book × Reply). in_language other.book.language d.0) done;
        languages = λ name not_user.
            choice_agrees sent.user (command_in (english_errors one.book) commands sent.command) (done_for one sent).1 one.languages other.languages name (same.languages name not_user)
            ∙ ap (λ (b : Book). finite.get (languages_left sent.user (command_in (english_errors b) commands sent.command) (done_for one sent).1 other.languages) name) same.book
            ∙ ap (λ (d : Book × Reply). finite.get (languages_left sent.user (command_in (english_errors other.book) commands sent.command) d.1 other.languages) name) done;
      }

  -- whether a line of another is one of a user: it is only where the texts are the same
  by_other : (sent : Sent) → bytes_eq user sent.user ≡ false → sent.user ≢ user
  by_other sent e same = absurd (let yes = (bytes_eq-Decides user sent.user).1 (sym same) in cc)

  -- a line that is left out, and one that isn't
  skipped : (one other : SharedBook) → IsSameBut user one other → (sent : Option Sent) → is_by user sent ≡ true → IsQuietIfBy (english_errors one.book) user sent → IsSameBut user (sent_step one sent).0 other
  skipped one other same None by quiet = absurd (cc)
  skipped one other same (Some sent) by quiet = quiet_same one other same sent (sym ((bytes_eq-Decides user sent.user).0 by)) (quiet sent refl by)

  both : (one other : SharedBook) → IsSameBut user one other → (sent : Option Sent) → is_by user sent ≡ false → IsSameBut user (sent_step one sent).0 (sent_step other sent).0
  both one other same None by = same
  both one other same (Some sent) by = other_same one other same sent (by_other sent by)

  replied : (one other : SharedBook) → IsSameBut user one other → (sent : Option Sent) → is_by user sent ≡ false → (sent_step one sent).1 ≡ (sent_step other sent).1
  replied one other same None by = refl
  replied one other same (Some sent) by = ap (λ (d : Book × Reply). d.1) (done_same one other same sent (by_other sent by))

  abbrev keeps : (List ℕ × List ℕ) → Bool
  keeps told = not (is_line_of user told.0)

  -- all lines of a run, from two books that are the same but for the user's language
  record Same (one other : SharedBook) (lines : List (List ℕ)) : Type 0 where
    replies : filter keeps (told_each share_machine one lines) ≡ told_each share_machine other (without_user user lines)
    left : IsSameBut user (after share_machine one lines) (after share_machine other (without_user user lines))

  quiet_words : (english words : List (List ℕ)) → english ≡ words → (lines : List (List ℕ)) → AllByRecursion (λ line. IsQuietIfBy english user (sent_in line)) lines → AllByRecursion (λ line. IsQuietIfBy words user (sent_in line)) lines
  quiet_words english words e lines h = subst (λ w. AllByRecursion (λ line. IsQuietIfBy w user (sent_in line)) lines) e h

  -- the same where the first line is left out or not, by whether it is
  abbrev SameAfter : Bool → SharedBook → SharedBook → List ℕ × List ℕ → List (List ℕ) → Type 0
  SameAfter b next other told lines =
      (cond (not b) (told ∷ filter keeps (told_each share_machine next lines)) (filter keeps (told_each share_machine next lines))
      ≡ told_each share_machine other (cond (not b) (told.0 ∷ without_user user lines) (without_user user lines)))
      × IsSameBut user (after share_machine next lines) (after share_machine other (cond (not b) (told.0 ∷ without_user user lines) (without_user user lines)))

  after_skipped : (next other : SharedBook) (told : List ℕ × List ℕ) (lines : List (List ℕ)) → Same next other lines → SameAfter true next other told lines
  after_skipped next other told lines rest = (rest.replies, rest.left)

  after_both : (one other : SharedBook) (line : List ℕ) (lines : List (List ℕ)) → (sent_step one (sent_in line)).1 ≡ (sent_step other (sent_in line)).1 → Same (share_machine one line).0 (share_machine other line).0 lines
      → SameAfter false (share_machine one line).0 other (line, (share_machine one line).1) lines
  after_both one other line lines e rest = (
    ap (λ (r : Reply). (line, reply_bytes r) ∷ filter keeps (told_each share_machine (share_machine one line).0 lines)) e ∙ ap (λ more. (line, (share_machine other line).1) ∷ more) rest.replies,
    rest.left,
  )

  by_line : (one other : SharedBook) (line : List ℕ) (lines : List (List ℕ)) → IsSameBut user one other → IsQuietIfBy (english_errors one.book) user (sent_in line)
      → ((rest : SharedBook) → IsSameBut user (share_machine one line).0 rest → Same (share_machine one line).0 rest lines)
      → (b : Bool) → is_line_of user line ≡ b → SameAfter b (share_machine one line).0 other (line, (share_machine one line).1) lines
  by_line one other line lines same quiet all true e =
      after_skipped (share_machine one line).0 other (line, (share_machine one line).1) lines (all other (skipped one other same (sent_in line) e quiet))
  by_line one other line lines same quiet all false e =
      after_both one other line lines (replied one other same (sent_in line) e) (all (share_machine other line).0 (both one other same (sent_in line) e))

  all_same : (lines : List (List ℕ)) (one other : SharedBook) → IsSameBut user one other → AllByRecursion (λ line. IsQuietIfBy (english_errors one.book) user (sent_in line)) lines → Same one other lines
  all_same [] one other same quiet = record { replies = refl; left = same }
  all_same (line ∷ lines) one other same quiet =
      let later = quiet_words _ _ (sym (words_stay one (sent_in line))) lines quiet.1 in
      let all = by_line one other line lines same quiet.0 (λ rest h. all_same lines (share_machine one line).0 rest h later) (is_line_of user line) refl in
      record { replies = all.0; left = all.1 }

pub leaves_no_trace : (user : List ℕ) (shared : SharedBook) (lines : List (List ℕ)) → AllByRecursion (λ line. IsQuietIfBy (english_errors shared.book) user (sent_in line)) lines → LeavesNoTrace user shared lines
leaves_no_trace user shared lines quiet =
    let all = all_same user lines shared shared (record { book = refl; languages = λ name differ. refl }) quiet in
    record { replies = all.replies; left = all.left }
