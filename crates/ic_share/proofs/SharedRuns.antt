-- What a run of the lines of users is, by the machine of shared books.
use Rattle.std.proofs.Common.{◌≡◌, ℕ, ◌⊎◌, List, [], ◌∷◌, Option, Result, Ok, Err, IfOk, OnOk, ap, sym, subst, refl, ◌∙◌, inl, inr}
use Rattle.std.specs.FinMap as finite
use Rattle.ic_laws.specs.Lines.{texts_of}
use Rattle.ic_lines.specs.Bytes.{IfTold}
use Rattle.ic_lines.specs.declared.error.RunError.{RunError}
use Rattle.ic_lines.proofs.ToldLemmas.{IfTold-weaker}
use Rattle.ic_machine.specs.Book as machine
use Rattle.ic_machine.specs.Run.{after}
use Rattle.ic_parts.specs.Book.{Book, ModelState}
use Rattle.ic_parts.specs.Whole.{whole_of}
use Rattle.ic_run.specs.Answering.{AnswersAll, AnswersFirst, AnswersPartly, AnswersSome, AreAnswered, LeavesAnswered}
use Rattle.ic_run.specs.Run.{AppendsReplies, HasAnswered, HasPartlyAnswered, HasPartlyReplied, HasReplied, LeavesReplies}
use Rattle.ic_run.proofs.RefinedRuns.{all_appended, has_answered, has_partly_answered, left_after}
use Rattle.ic_run.proofs.RunLemmas.{leaves_weaker}
use Rattle.ic_share.specs.Shared.{SharedBook, share_machine, shared_from}
use Rattle.ic_share.specs.Share.{AppendsShared, AppendsSharedFrom, DoesShared, IsBookOf, IsKnown, LeavesShared, LeavesSharedFrom, SharesAll, SharesAnswered, SharesPartly, UsersState, shared_by}
use Rattle.ic_share.proofs.KnownLemmas.{own_stays, shared_stays_known}

-- what a line does to the users and the book
abbrev pub Does : List ℕ → UsersState × ModelState → UsersState × ModelState → List ℕ → Type 0
Does line old new told = (new.0.own ≡ old.0.own) × DoesShared line (shared_by old.0 old.1.book) (shared_by new.0 new.1.book) told

abbrev pub Stays : UsersState × ModelState → UsersState × ModelState → Type 0
Stays old new = whole_of new.1.book ≡ whole_of old.1.book

abbrev shared : UsersState × ModelState → SharedBook
shared x = shared_by x.0 x.1.book

left : (line : List ℕ) (old new : UsersState × ModelState) (told : List ℕ) → Does line old new told → shared new ≡ (share_machine (shared old) line).0
left line old new told does = does.1.left

reply : (line : List ℕ) (old new : UsersState × ModelState) (told : List ℕ) → Does line old new told → told ≡ (share_machine (shared old) line).1
reply line old new told does = does.1.reply

same_whole : (mid new : UsersState × ModelState) → (new ≡ mid) ⊎ Stays mid new → whole_of new.1.book ≡ whole_of mid.1.book
same_whole mid new (inl is) = ap (λ (x : UsersState × ModelState). whole_of x.1.book) is
same_whole mid new (inr is) = is

-- The book's own language, whatever the source tells. ----

line_language : (line : List ℕ) (old new : UsersState × ModelState) (told : List ℕ) → Does line old new told → new.1.book.language ≡ old.1.book.language
line_language line old new told does = ap (λ (s : SharedBook). s.book.language) does.1.left ∙ own_stays (shared old) line

lines_language : (lines : List (List ℕ)) (old new : UsersState × ModelState) (told : List ℕ) → AreAnswered Does lines old new told → new.1.book.language ≡ old.1.book.language
lines_language [] old new told did = ap (λ (x : UsersState × ModelState). x.1.book.language) did.0
lines_language (line ∷ lines) old new told did = lines_language lines did.0 new did.2 did.5 ∙ line_language line old did.0 did.1 did.4

pub language_stays : (old new : UsersState × ModelState) → AnswersSome Does Stays old new → new.1.book.language ≡ old.1.book.language
language_stays old new some = ap (λ (b : machine.Book). b.language) (same_whole some.mid new some.stood) ∙ lines_language some.lines old some.mid some.told some.answered

-- A line that was answered can be followed by another one. ----

pub ready_after : {T E : Type 0} (r : Result T E) (bytes : T → List ℕ) (line : List ℕ) (users new : UsersState) (book left : Book) → users.own ≡ book.language → IsKnown (shared_by users book)
    → IfOk r (λ x. DoesShared line (shared_by users book) (shared_by new left) (bytes x)) → new.own ≡ users.own → OnOk r ((new.own ≡ left.language) × IsKnown (shared_by new left))
ready_after (Ok x) bytes line users new book left own known does same =
    let stays : left.language ≡ book.language = ap (λ (s : SharedBook). s.book.language) does.left ∙ own_stays (shared_by users book) line in
    (same ∙ own ∙ sym stays, subst IsKnown (sym does.left) (shared_stays_known (shared_by users book) line known))
ready_after (Err e) bytes line users new book left own known does same = tt

-- From users none of whom chose a language. ----

module _ (old : UsersState × ModelState) (none : old.0.languages ≡ finite.empty) where
  from_start : shared old ≡ shared_from (whole_of old.1.book)
  from_start = ap (λ languages. let s : SharedBook = record { book = whole_of old.1.book; languages = languages } in s) none

  -- at the end of a run
  module _ (new : UsersState × ModelState) (before now : Option (List ℕ)) (count : ℕ) (bytes rest : List ℕ) (h : AnswersAll Does old new before now count bytes rest) where
    pub shares_all : SharesAll old.1.book new.1.book count bytes rest
    shares_all = record {
      all = h.all;
      count = h.count;
      book = ap (λ (s : SharedBook). s.book) (left_after Does share_machine shared left reply (texts_of bytes) old new h.told h.answered ∙ ap (λ (s : SharedBook). after share_machine s (texts_of bytes)) from_start);
    }

    pub shared_appended : IfTold before now (AppendsShared old.1.book bytes)
    shared_appended = subst (λ (s : SharedBook). IfTold before now (AppendsReplies share_machine s bytes)) from_start (all_appended Does share_machine shared left reply old new before now count bytes rest h)

  -- after an error
  module _ (new : UsersState × ModelState) (lines : List (List ℕ)) (before now : Option (List ℕ)) (count : ℕ) where
    shares_answered : AnswersFirst Does Stays old new lines before now count → SharesAnswered old.1.book new.1.book lines before now count
    shares_answered h = record {
      within = h.within;
      answered = subst (λ (s : SharedBook). HasAnswered share_machine s (IsBookOf new.1.book) count lines before now) from_start
          (has_answered Does share_machine shared left reply Stays (IsBookOf new.1.book) old new lines before now count (λ mid stood. same_whole mid new stood) h);
    }

    shares_partly : AnswersPartly Does old new lines before now count → SharesPartly old.1.book new.1.book lines before now count
    shares_partly h = record {
      within = h.within;
      answered = subst (λ (s : SharedBook). HasPartlyAnswered share_machine s (IsBookOf new.1.book) count lines before now) from_start
          (has_partly_answered Does share_machine shared left reply (IsBookOf new.1.book) old new lines before now count refl h);
    }

  pub leaves_shared : (e : RunError) (new : UsersState × ModelState) (bytes rest : List ℕ) (before now : Option (List ℕ)) → LeavesAnswered Does Stays e old new bytes rest before now → LeavesShared e old.1.book new.1.book bytes rest before now
  leaves_shared e new bytes rest before now h =
      leaves_weaker (AnswersFirst Does Stays old new (texts_of bytes) before now) (AnswersPartly Does old new (texts_of bytes) before now) (SharesAnswered old.1.book new.1.book (texts_of bytes) before now)
      (SharesPartly old.1.book new.1.book (texts_of bytes) before now) e bytes rest (λ n p. shares_answered new (texts_of bytes) before now n p) (λ n p. shares_partly new (texts_of bytes) before now n p) h

-- Of a new book. ----

pub some_moment : (source left before now : Option (List ℕ)) (book : List ℕ → Book) (created : List ℕ) → IfTold source left (λ bytes _. IfTold before now (AppendsShared (book created) bytes))
    → IfTold source left (λ bytes _. IfTold before now (AppendsSharedFrom book bytes))
some_moment source left before now book created told =
    IfTold-weaker source left (λ bytes _. IfTold before now (AppendsShared (book created) bytes)) (λ bytes _. IfTold before now (AppendsSharedFrom book bytes))
    (λ bytes rest h. IfTold-weaker before now (AppendsShared (book created) bytes) (AppendsSharedFrom book bytes) (λ x y q. (created, q)) h) told

replies_left : (e : RunError) (old new : Book) (bytes rest : List ℕ) (before now : Option (List ℕ)) → LeavesShared e old new bytes rest before now → LeavesReplies share_machine (shared_from (whole_of old)) (λ lines. Unit {0}) e bytes rest before now
replies_left e old new bytes rest before now h =
    leaves_weaker (SharesAnswered old new (texts_of bytes) before now) (SharesPartly old new (texts_of bytes) before now) (λ count. Unit {0} → IfTold before now (HasReplied share_machine (shared_from (whole_of old)) count (texts_of bytes)))
    (λ count. Unit {0} → IfTold before now (HasPartlyReplied share_machine (shared_from (whole_of old)) count (texts_of bytes))) e bytes rest (λ n done any. done.answered.told) (λ n done any. done.answered.told) h

pub leaves_from : (e : RunError) (old new : Book) (start : List ℕ → Book) (created : List ℕ) (source left before now : Option (List ℕ)) → old ≡ start created → IfTold source left (λ bytes rest. LeavesShared e old new bytes rest before now)
    → IfTold source left (λ bytes rest. LeavesSharedFrom e start bytes rest before now)
leaves_from e old new start created source left before now is h =
    IfTold-weaker source left (λ bytes rest. LeavesShared e old new bytes rest before now) (λ bytes rest. LeavesSharedFrom e start bytes rest before now)
    (λ bytes rest p. (created, subst (λ (b : Book). LeavesReplies share_machine (shared_from (whole_of b)) (λ lines. Unit {0}) e bytes rest before now) is (replies_left e old new bytes rest before now p))) h
