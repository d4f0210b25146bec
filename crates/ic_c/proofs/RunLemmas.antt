-- Lines that are answered one after another.
use Rattle.std.proofs.Common.{◌≡◌, ℕ, List, [], ◌∷◌, ◌++◌, length, take, refl, sym, ◌∙◌, ap, ap₂, arith, append_assoc, append-nil, length-append, subst, Result, Ok, Err, OnErr}
use Rattle.std.proofs.Math.Seq.{take-append_seam}
use Rattle.ic_laws.specs.Lines.{texts_of}
use Rattle.ic_machine.specs.Run.{Machine, after, replies}
use Rattle.ic_c.specs.Answered.{Answered, AnsweredFirst, whole_machine}
use Rattle.ic_c.specs.Held.{book_of, reply_of}
use Rattle.ic_c.specs.Lines.{BeginsLine}
use Rattle.ic_c.specs.declared.session.Open.{Open}

module _ {S : Type 0} (machine : Machine S) where
  after_more : (state : S) (lines : List (List ℕ)) (line : List ℕ) → after machine state (lines ++ line ∷ []) ≡ (machine (after machine state lines) line).0
  after_more state [] line = refl
  after_more state (l ∷ lines) line = after_more (machine state l).0 lines line

  replies_more : (state : S) (lines : List (List ℕ)) (line : List ℕ) → replies machine state (lines ++ line ∷ []) ≡ replies machine state lines ++ (machine (after machine state lines) line).1
  replies_more state [] line = append-nil (machine state line).1
  replies_more state (l ∷ lines) line =
      ap (λ (v : List ℕ). (machine state l).1 ++ v) (replies_more (machine state l).0 lines line)
      ∙ sym (append_assoc (machine state l).1 (replies machine (machine state l).0 lines) (machine (after machine (machine state l).0 lines) line).1)

-- some lines of the bytes were answered, and these bytes are left
pub record Ran (bytes rest : List ℕ) (old new : Open) : Type 0 where
  pub done : List (List ℕ)
  pub split : texts_of bytes ≡ done ++ texts_of rest
  pub answered : Answered done old new

-- one more was
pub ran_on : (bytes rest line behind : List ℕ) (old mid new : Open) → Ran bytes rest old mid → BeginsLine rest line behind → book_of new ≡ (whole_machine (book_of mid) line).0
    → reply_of new ≡ reply_of mid ++ (whole_machine (book_of mid) line).1 → Ran bytes behind old new
ran_on bytes rest line behind old mid new ran first book reply = record {
  done = ran.done ++ line ∷ [];
  split = ran.split ∙ ap (λ (v : List (List ℕ)). ran.done ++ v) first.lines ∙ sym (append_assoc ran.done (line ∷ []) (texts_of behind));
  answered = record {
    book = book ∙ ap (λ b. (whole_machine b line).0) ran.answered.book ∙ sym (after_more whole_machine (book_of old) ran.done line);
    reply = reply ∙ ap₂ (λ (v w : List ℕ). v ++ w) ran.answered.reply (ap (λ b. (whole_machine b line).1) ran.answered.book)
        ∙ sym (replies_more whole_machine (book_of old) ran.done line);
  };
}

-- memory ran out behind those that were, at one that is left
pub ran_first : (bytes rest line behind : List ℕ) (old mid new : Open) → Ran bytes rest old mid → BeginsLine rest line behind → book_of new ≡ book_of mid → reply_of new ≡ reply_of mid → AnsweredFirst (texts_of bytes) old new
ran_first bytes rest line behind old mid new ran first book reply = record {
  count = length ran.done;
  fewer = omega (arith, ap length ran.split, length-append ran.done (texts_of rest), ap length first.lines);
  first = subst (λ (lines : List (List ℕ)). Answered lines old new)
      (sym (ap (take (length ran.done)) ran.split ∙ take-append_seam ran.done (texts_of rest))) (record { book = book ∙ ran.answered.book; reply = reply ∙ ran.answered.reply });
}

-- what is so anyway is so after an error
pub on_err : {T E : Type 0} (r : Result T E) (P : Type 0) → P → OnErr r P
on_err (Ok x) P p = tt
on_err (Err e) P p = p
