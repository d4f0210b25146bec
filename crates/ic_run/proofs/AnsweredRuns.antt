-- What a run of command lines is, by the whole machine and by the identity machine.
use Rattle.std.proofs.Common.{◌≡◌, ℕ, ◌+◌, ◌⊎◌, List, [], ◌∷◌, ◌++◌, take, drop, Option, ap, sym, subst, refl, ◌∙◌, inl, inr}
use Rattle.std.proofs.Math.Seq.{take-add}
use Rattle.ic_laws.specs.Lines.{texts_of}
use Rattle.ic_tables.specs.Tables.{TableSet}
use Rattle.ic_machine.specs.Run.{after, replies}
use Rattle.ic_lines.specs.Bytes.{IfTold}
use Rattle.ic_lines.specs.declared.error.RunError.{RunError}
use Rattle.ic_parts.specs.Book.{Book, ModelState, StepsTo, core_of, notations_in}
use Rattle.ic_parts.specs.Whole.{whole_of}
use Rattle.ic_commands.specs.Answered.{DoesLine}
use Rattle.ic_run.specs.Answering.{AnswersAll, AnswersFirst, AnswersPartly, Appends, AreAnswered, LeavesAnswered}
use Rattle.ic_run.specs.Core.{AreCore, IsPlainBook, identity_machine, whole_machine}
use Rattle.ic_run.specs.Run.{AppendsReplies, IsAfterAll, LeavesRun, LinesDo, RunsAnswered, RunsPartly, TakesAll}
use Rattle.ic_run.proofs.LeftLemmas.{core_left, line_left, lines_leave, replies_same}
use Rattle.ic_run.proofs.RefinedRuns.{all_appended, has_answered, has_partly_answered, partly_replied, told_replies}
use Rattle.ic_run.proofs.RunLemmas.{leaves_weaker}

-- the first of core lines are core lines
first_core : (tables : TableSet) (lines others : List (List ℕ)) → AreCore tables (lines ++ others) → AreCore tables lines
first_core tables [] others are = tt
first_core tables (line ∷ lines) others are = (are.0, first_core tables lines others are.1)

module _ {A : Type 0} where
  -- what a command line does to a book, whatever answers it
  abbrev pub Does : List ℕ → A × ModelState → A × ModelState → List ℕ → Type 0
  Does line old new told = DoesLine line old.1 new.1 told

  abbrev pub Stays : A × ModelState → A × ModelState → Type 0
  Stays old new = new.1.book ≡ old.1.book

  left : (line : List ℕ) (old new : A × ModelState) (told : List ℕ) → Does line old new told → whole_of new.1.book ≡ (whole_machine (whole_of old.1.book) line).0
  left line old new told does = does.book

  reply : (line : List ℕ) (old new : A × ModelState) (told : List ℕ) → Does line old new told → told ≡ (whole_machine (whole_of old.1.book) line).1
  reply line old new told does = does.reply

  did_lines : (lines : List (List ℕ)) (old new : A × ModelState) (told : List ℕ) → AreAnswered Does lines old new told → LinesDo lines old.1 new.1
  did_lines [] old new told did = ap (λ (x : A × ModelState). x.1) did.0
  did_lines (line ∷ lines) old new told did = (did.0.1, line_left line old.1 did.0.1 did.1 did.4, did_lines lines did.0 new did.2 did.5)

  same_book : (mid new : A × ModelState) → (new ≡ mid) ⊎ Stays mid new → new.1.book ≡ mid.1.book
  same_book mid new (inl is) = ap (λ (x : A × ModelState). x.1.book) is
  same_book mid new (inr is) = is

  told_whole : (lines : List (List ℕ)) (old new : A × ModelState) (told : List ℕ) → AreAnswered Does lines old new told → told ≡ replies whole_machine (whole_of old.1.book) lines
  told_whole = told_replies Does whole_machine (λ x. whole_of x.1.book) left reply

  told_core : (lines : List (List ℕ)) (old new : A × ModelState) (told : List ℕ) → AreAnswered Does lines old new told → IsPlainBook (whole_of old.1.book) → AreCore old.1.book.tables lines
      → told ≡ replies (identity_machine (notations_in old.1.book)) (core_of old.1.book) lines
  told_core lines old new told did plain are = told_whole lines old new told did ∙ replies_same lines old.1 new.1 (did_lines lines old new told did) plain are

  -- at the end of a run
  module _ (old new : A × ModelState) (before now : Option (List ℕ)) (count : ℕ) (bytes rest : List ℕ) (h : AnswersAll Does old new before now count bytes rest) where
    pub all_do : LinesDo (texts_of bytes) old.1 new.1
    all_do = did_lines (texts_of bytes) old new h.told h.answered

    pub takes_all : TakesAll old.1.book new.1.book count bytes rest
    takes_all = record { all = h.all; count = h.count; book = core_left (texts_of bytes) old.1 new.1 all_do }

    pub is_after : IsAfterAll old.1.book new.1.book bytes rest
    is_after = lines_leave (texts_of bytes) old.1 new.1 all_do

    pub whole_appended : IfTold before now (AppendsReplies whole_machine (whole_of old.1.book) bytes)
    whole_appended = all_appended Does whole_machine (λ x. whole_of x.1.book) left reply old new before now count bytes rest h

    pub core_appended : IsPlainBook (whole_of old.1.book) → AreCore old.1.book.tables (texts_of bytes) → IfTold before now (AppendsReplies (identity_machine (notations_in old.1.book)) (core_of old.1.book) bytes)
    core_appended plain are = subst (λ told. IfTold before now (Appends told)) (told_core (texts_of bytes) old new h.told h.answered plain are) h.appended

  -- after an error
  module _ (old new : A × ModelState) (lines : List (List ℕ)) (before now : Option (List ℕ)) (count : ℕ) where
    runs_answered : AnswersFirst Does Stays old new lines before now count → RunsAnswered old.1.book new.1.book lines before now count
    runs_answered h = record {
      within = h.within;
      whole = has_answered Does whole_machine (λ x. whole_of x.1.book) left reply Stays (λ is. whole_of new.1.book ≡ is) old new lines before now count (λ mid stood. ap whole_of (same_book mid new stood)) h;
      core = λ plain are. record {
        left = subst (λ (b : Book). StepsTo old.1.book b (after (identity_machine (notations_in old.1.book)) (core_of old.1.book) (take count lines))) (sym (same_book h.mid new h.stood))
            (core_left (take count lines) old.1 h.mid.1 (did_lines (take count lines) old h.mid h.told h.answered) plain are);
        told = subst (λ told. IfTold before now (Appends told)) (told_core (take count lines) old h.mid h.told h.answered plain are) h.appended;
      };
    }

    runs_partly : AnswersPartly Does old new lines before now count → RunsPartly old.1.book new.1.book lines before now count
    runs_partly h = record {
      within = h.within;
      whole = has_partly_answered Does whole_machine (λ x. whole_of x.1.book) left reply (λ is. whole_of new.1.book ≡ is) old new lines before now count refl h;
      core = λ plain are.
          let first = first_core old.1.book.tables (take count lines) (take 1 (drop count lines)) (subst (AreCore old.1.book.tables) (take-add count 1 lines) are) in
          record {
            left = core_left (take (count + 1) lines) old.1 new.1 (did_lines (take (count + 1) lines) old new h.both h.one_more) plain are;
            told = partly_replied (identity_machine (notations_in old.1.book)) (core_of old.1.book) count lines h.first h.both before now (told_core (take count lines) old h.mid h.first h.answered plain first)
                (told_core (take (count + 1) lines) old new h.both h.one_more plain are) h.appended;
          };
    }

  pub leaves_run : (e : RunError) (old new : A × ModelState) (bytes rest : List ℕ) (before now : Option (List ℕ)) → LeavesAnswered Does Stays e old new bytes rest before now → LeavesRun e old.1.book new.1.book bytes rest before now
  leaves_run e old new bytes rest before now h =
      leaves_weaker (AnswersFirst Does Stays old new (texts_of bytes) before now) (AnswersPartly Does old new (texts_of bytes) before now) (RunsAnswered old.1.book new.1.book (texts_of bytes) before now)
      (RunsPartly old.1.book new.1.book (texts_of bytes) before now) e bytes rest (λ n p. runs_answered old new (texts_of bytes) before now n p) (λ n p. runs_partly old new (texts_of bytes) before now n p) h
