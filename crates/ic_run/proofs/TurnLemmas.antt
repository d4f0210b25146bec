-- What a line comes to in a translation, and how lines follow one another.
use Rattle.std.proofs.Common.{◌≡◌, ◌⊎◌, ◌<◌, ℕ, ◌+◌, ◌-◌, List, [], ◌∷◌, ◌++◌, Bool, true, false, ◌||◌, length, take, drop, Option, Some, None, IsSome, option_map, IsErr, IsErrAnd, Result, Ok, Err, inl, inr, refl, sym, ap, subst, ◌∙◌, append_assoc, append-nil, arith, if◌then◌else◌}
use Rattle.std.specs.Prelude.{option_and_then}
use Rattle.std.proofs.Math.Seq.{drop-length}
use Rattle.ic_machine.proofs.kinds.ReaderLemmas.{readers_leave}
use Rattle.ic_machine.specs.Book.{Book, Stepped}
use Rattle.ic_machine.specs.Command.{Command, command_in, commands}
use Rattle.ic_machine.specs.Readers.{LeavesIf, is_reader}
use Rattle.ic_machine.specs.Run.{after}
use Rattle.ic_machine.specs.Step.{command_step, english_errors, line_step, machine, outcome_of, step}
use Rattle.ic_machine.specs.Translation.{AreTranslated, AreTranslatedTexts, IsTranslation, StandsBefore, Why, first_hindered, first_of, in_notation, is_dropped, is_switch, kept_command, kept_in, left_after, left_by, line_of, own_formula, texts_of, why_line_not, why_not}
use Rattle.ic_parts.specs.Book.{NotationState}
use Rattle.ic_parts.specs.Translated.{IsIn, IsToldOf, IsToldWhere, formula_owned, why_meant}
use Rattle.ic_parts.specs.declared.own_text.OwnText.{OwnText}
use Rattle.ic_parts.specs.declared.own_text.Why as code
use Rattle.ic_run.specs.Make.{is_ok}
use Rattle.ic_run.specs.Translate.{HasRunSome, HasTranslated, IsTurn, StaysSo}
use Rattle.ic_run.specs.declared.translating.TranslateError.{TranslateError}
use Rattle.std.specs.Global.{Vec}
use Rattle.ic_run.specs.declared.translating.Turn.TheVariants as turns
use Rattle.ic_run.proofs.RunLemmas.{next_taken}
use Rattle.ic_run.proofs.TablesStay.{tables_stay}

-- Replies. ----

-- a step that is accepted, and one that isn't
left_accepted : (book : Book) (made : Stepped Book) → true ≡ is_ok (outcome_of book made).1 → left_by made ≡ Some (outcome_of book made).0
left_accepted book (Ok done) e = refl
left_accepted book (Err refusal) e = cc

stays_refused : (book : Book) (made : Stepped Book) → left_by made ≡ None → book ≡ (outcome_of book made).0
stays_refused book (Ok done) e = cc
stays_refused book (Err refusal) e = refl

-- A line with its command. ----

module _ (old : Book) (line : List ℕ) (command : Command) (is : command_in (english_errors old) commands line ≡ Some command) where
  kept_is : kept_in old line ≡ kept_command old command
  kept_is = ap (option_and_then (kept_command old)) is

  left_is : left_after old line ≡ (outcome_of old (step old command)).0
  left_is = ap (λ (o : Option Command). (command_step old o).0) is

  told_is : (line_step commands old line).1 ≡ (outcome_of old (step old command)).1
  told_is = ap (λ (o : Option Command). (command_step old o).1) is

  abbrev by_drop_of : Bool → Option (Command × Book)
  by_drop_of b = if b then None else option_map (λ (left : Book). let kept : Command × Book = (command, left) in kept) (left_by (step old command))

  dropped : is_dropped command ≡ true → kept_in old line ≡ None
  dropped e = kept_is ∙ ap by_drop_of e

  refused : left_by (step old command) ≡ None → kept_in old line ≡ None
  refused e = kept_is ∙ by_drop (is_dropped command)
    where
      by_drop : (b : Bool) → by_drop_of b ≡ None
      by_drop true = refl
      by_drop false = ap (option_map (λ (left : Book). let kept : Command × Book = (command, left) in kept)) e

  reads : is_reader command ≡ true → old ≡ (outcome_of old (step old command)).0
  reads e = leaves (step old command) (subst (λ (b : Bool). LeavesIf b old (step old command)) e (readers_leave old command))
    where
      leaves : (made : Stepped Book) → LeavesIf true old made → old ≡ (outcome_of old made).0
      leaves (Ok done) h = sym h
      leaves (Err refusal) h = refl

  -- a line that only asks, or is refused, without being run
  pub goes_unrun : (locale language : List ℕ) → (is_reader command ≡ true) ⊎ (left_by (step old command) ≡ None) → IsTurn locale language old line old turns.Goes
  goes_unrun locale language (inl read) = (dropped (ap (λ (b : Bool). b || is_switch command) read), reads read ∙ sym left_is)
  goes_unrun locale language (inr none) = (refused none, stays_refused old (step old command) none ∙ sym left_is)

  -- one that was run and accepted, and doesn't go
  module _ (stays : is_dropped command ≡ false) (new : Book) (e : true ≡ is_ok (line_step commands old line).1) (left : new ≡ left_after old line) where
    kept_there : kept_in old line ≡ Some (command, left_after old line)
    kept_there =
        kept_is ∙ ap by_drop_of stays
        ∙ ap (option_map (λ (left : Book). let kept : Command × Book = (command, left) in kept)) (left_accepted old (step old command) (e ∙ ap is_ok told_is))
        ∙ ap (λ (b : Book). let o : Option (Command × Book) = Some (command, b) in o) (sym left_is)

    why_is : (locale language : List ℕ) → why_line_not locale language old line ≡ option_and_then (why_not (in_notation locale language old)) (own_formula old command)
    why_is locale language = ap (option_and_then (λ (kept : Command × Book). option_and_then (why_not (in_notation locale language old)) (own_formula old kept.0))) kept_there

    pub becomes_so : (locale language : List ℕ) → option_and_then (why_not (in_notation locale language old)) (own_formula old command) ≡ None → (texts : List (List ℕ)) → AreTranslatedTexts old (in_notation locale language new) command (texts_of line) texts
        → (text : List ℕ) → text ≡ line_of texts → IsTurn locale language old line new (turns.Becomes text)
    becomes_so locale language can texts are text same = (
      record {
        kept = (command, left_after old line);
        is = kept_there;
        can = why_is locale language ∙ can;
        becomes = (texts, (subst (λ (b : Book). AreTranslatedTexts old (in_notation locale language b) command (texts_of line) texts) left are, same));
      },
      left,
    )

    -- it keeps its texts
    pub becomes_same : (locale language : List ℕ) → StaysSo old command → (text : List ℕ) → text ≡ line_of (texts_of line) → IsTurn locale language old line new (turns.Becomes text)
    becomes_same locale language so text same =
        becomes_so locale language (ap (option_and_then (why_not (in_notation locale language old))) so.plain) (texts_of line) (so.texts (in_notation locale language new) (texts_of line)) text same

  -- its own text can't be written: it would be accepted
  pub cannot_so : (target : NotationState) (own : OwnText) → is_dropped command ≡ false → IsToldWhere target old command (Some own) → IsIn target (in_notation target.locale target.language old)
      → (o : Option code.Why) (why : code.Why) → option_map why_meant o ≡ option_and_then (why_not (in_notation target.locale target.language old)) (formula_owned own) → o ≡ Some why
      → IsTurn target.locale target.language old line old (turns.Cannot why)
  cannot_so target own stays told here o why tells some = (accepted (step old command) refl, refl)
    where
      its : option_and_then (why_not (in_notation target.locale target.language old)) (formula_owned own) ≡ Some (why_meant why)
      its = sym tells ∙ ap (option_map why_meant) some

      it_is : IsSome (option_and_then (why_not (in_notation target.locale target.language old)) (formula_owned own))
      it_is = subst IsSome (sym its) refl

      it_does : IsSome (left_by (step old command))
      it_does = told.1 (in_notation target.locale target.language old) here it_is

      why_there : (left : Book) → left_by (step old command) ≡ Some left → why_line_not target.locale target.language old line ≡ Some (why_meant why)
      why_there left e =
          ap (option_and_then (λ (kept : Command × Book). option_and_then (why_not (in_notation target.locale target.language old)) (own_formula old kept.0)))
          (kept_is ∙ ap by_drop_of stays ∙ ap (option_map (λ (left : Book). let kept : Command × Book = (command, left) in kept)) e)
          ∙ ap (option_and_then (why_not (in_notation target.locale target.language old))) told.0.formula ∙ its

      accepted : (made : Stepped Book) → step old command ≡ made → why_line_not target.locale target.language old line ≡ Some (why_meant why)
      accepted (Ok done) e = why_there done.0 (ap left_by e)
      accepted (Err refusal) e = let none : IsSome {T = Book} None = subst IsSome (ap left_by e) it_does in cc

-- what is no command goes
pub goes_bad : (locale language : List ℕ) (old : Book) (line : List ℕ) → command_in (english_errors old) commands line ≡ None → IsTurn locale language old line old turns.Goes
goes_bad locale language old line e = (ap (option_and_then (kept_command old)) e, sym (ap (λ (o : Option Command). (command_step old o).0) e))

-- Lines one after another. ----

after_more : (start : Book) (lines : List (List ℕ)) (line : List ℕ) → after (machine commands) start (lines ++ line ∷ []) ≡ left_after (after (machine commands) start lines) line
after_more start [] line = refl
after_more start (first ∷ lines) line = after_more (machine commands start first).0 lines line

module _ (locale language : List ℕ) where
  -- So many of the first lines ran: the book that they left, and what they became.
  pub record IsSoFar (start : Book) (lines : List (List ℕ)) (count : ℕ) (book : Book) (made : List (List ℕ)) : Type 0 where
    pub hindered : first_hindered locale language 1 start lines ≡ first_hindered locale language (count + 1) book (drop count lines)
    pub left : book ≡ after (machine commands) start (take count lines)
    pub becomes : (rest : List (List ℕ)) → AreTranslated locale language book (drop count lines) rest → AreTranslated locale language start lines (made ++ rest)
    pub tables : book.tables ≡ start.tables

  module _ (start : Book) (lines : List (List ℕ)) (count : ℕ) (book : Book) (made : List (List ℕ)) (so_far : IsSoFar start lines count book made) (line : List ℕ) (next : drop count lines ≡ line ∷ drop (count + 1) lines) where
    abbrev more : List (List ℕ)
    more = drop (count + 1) lines

    taken : take (count + 1) lines ≡ take count lines ++ line ∷ []
    taken = next_taken lines count line more next

    pub left_so : left_after book line ≡ after (machine commands) start (take (count + 1) lines)
    left_so = ap (λ (b : Book). left_after b line) so_far.left ∙ sym (after_more start (take count lines) line) ∙ ap (after (machine commands) start) (sym taken)

    hindered_so : (new : Book) → why_line_not locale language book line ≡ None → new ≡ left_after book line → first_hindered locale language 1 start lines ≡ first_hindered locale language (count + 1 + 1) new more
    hindered_so new can left =
        so_far.hindered ∙ ap (first_hindered locale language (count + 1) book) next
        ∙ ap (λ (o : Option Why). first_of (count + 1) o (first_hindered locale language (count + 1 + 1) (left_after book line) more)) can
        ∙ ap (λ (b : Book). first_hindered locale language (count + 1 + 1) b more) (sym left)

    tables_so : (new : Book) → new ≡ left_after book line → new.tables ≡ start.tables
    tables_so new left = ap (λ (b : Book). b.tables) left ∙ tables_stay book line ∙ so_far.tables

    pub goes_next : (new : Book) → IsTurn locale language book line new turns.Goes → IsSoFar start lines (count + 1) new made
    goes_next new turn = record {
      hindered = hindered_so new (ap (option_and_then (λ (kept : Command × Book). option_and_then (why_not (in_notation locale language book)) (own_formula book kept.0))) turn.0) turn.1;
      left = turn.1 ∙ left_so;
      becomes = λ rest h.
          so_far.becomes rest
          (subst (λ (ls : List (List ℕ)). AreTranslated locale language book ls rest) (sym next)
          (subst (λ (o : Option (Command × Book)). StandsBefore locale language book line o (AreTranslated locale language (left_after book line) more) rest) (sym turn.0)
          (subst (λ (b : Book). AreTranslated locale language b more rest) turn.1 h)));
      tables = tables_so new turn.1;
    }

    pub becomes_next : (new : Book) (text : List ℕ) → IsTurn locale language book line new (turns.Becomes text) → IsSoFar start lines (count + 1) new (made ++ text ∷ [])
    becomes_next new text turn = record {
      hindered = hindered_so new turn.0.can turn.1;
      left = turn.1 ∙ left_so;
      becomes = λ rest h.
          subst (AreTranslated locale language start lines) (sym (append_assoc made (text ∷ []) rest))
          (so_far.becomes (text ∷ rest)
          (subst (λ (ls : List (List ℕ)). AreTranslated locale language book ls (text ∷ rest)) (sym next)
          (subst (λ (o : Option (Command × Book)). StandsBefore locale language book line o (AreTranslated locale language (left_after book line) more) (text ∷ rest)) (sym turn.0.is)
          (turn.0.becomes, subst (λ (b : Book). AreTranslated locale language b more rest) turn.1 h))));
      tables = tables_so new turn.1;
    }

    -- memory ran out in this line
    pub memory_here : count < length lines → (new : Book) → (new ≡ book) ⊎ (new ≡ left_after book line) → HasRunSome locale language start lines new
    memory_here h new (inl same) = record { count = count; within = omega (arith, h); left = same ∙ so_far.left }
    memory_here h new (inr left) = record { count = count + 1; within = omega (arith, h); left = left ∙ left_so }

  -- all lines ran
  pub all_done : (start : Book) (lines : List (List ℕ)) (count : ℕ) (book : Book) (made : List (List ℕ)) → IsSoFar start lines count book made → count ≡ length lines → IsTranslation locale language start lines (Ok made) book
  all_done start lines count book made so_far e =
      let none : drop count lines ≡ [] = ap (λ (n : ℕ). drop n lines) e ∙ drop-length lines in (
        so_far.hindered ∙ ap (first_hindered locale language (count + 1) book) none,
        subst (AreTranslated locale language start lines) (append-nil made) (so_far.becomes [] (subst (λ (ls : List (List ℕ)). AreTranslated locale language book ls []) (sym none) refl)),
        so_far.left ∙ ap (after (machine commands) start) (ap (λ (n : ℕ). take n lines) e ∙ whole lines),
      )
    where
      whole : (xs : List (List ℕ)) → take (length xs) xs ≡ xs
      whole [] = refl
      whole (x ∷ xs) = ap (λ (ys : List (List ℕ)). x ∷ ys) (whole xs)

-- An answer that is this error. ----

pub at_error : (locale language : List ℕ) (old : Book) (lines : List (List ℕ)) (r : Result (Vec (List ℕ)) TranslateError) (e : TranslateError) (new : Book) → IsErr r × IsErrAnd r (λ x. x ≡ e) → HasTranslated locale language old lines (Err e) new
    → HasTranslated locale language old lines r new
at_error locale language old lines (Ok made) e new h t = let none : false ≡ true = h.0 in cc
at_error locale language old lines (Err f) e new h t = subst (λ (x : TranslateError). HasTranslated locale language old lines (Err x) new) (sym h.1) t

-- what is told of a command, whatever the notation
pub told_where : (target : NotationState) (book : Book) (command : Command) (own : Option OwnText) → IsToldOf book command own → IsToldWhere target book command own
told_where target book command None h = h
told_where target book command (Some own) h = (h.0, λ b here why. h.1)
