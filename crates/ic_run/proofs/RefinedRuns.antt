-- A run of answered lines, where a line does what a machine does: it is the machine's run.
use Rattle.std.proofs.Common.{◌≡◌, ℕ, ◌+◌, ◌<◌, ◌≤◌, ◌⊎◌, List, [], ◌∷◌, ◌++◌, length, take, Option, ap, ap₂, subst, ◌∙◌}
use Rattle.ic_laws.specs.Lines.{texts_of}
use Rattle.ic_lines.specs.Bytes.{IfTold}
use Rattle.ic_lines.proofs.ToldLemmas.{IfTold-weaker}
use Rattle.ic_machine.specs.Run.{Machine, after, replies}
use Rattle.ic_run.specs.Answering.{AnswersAll, AnswersFirst, AnswersPartly, Appends, AppendsPartly, AreAnswered}
use Rattle.ic_run.specs.Run.{AppendsReplies, HasAnswered, HasPartlyAnswered, HasPartlyReplied}

-- what was appended of the replies, where these are a machine's
pub partly_replied : {S : Type 0} (machine : Machine S) (state : S) (count : ℕ) (lines : List (List ℕ)) (first both : List ℕ) (before now : Option (List ℕ)) → first ≡ replies machine state (take count lines)
    → both ≡ replies machine state (take (count + 1) lines) → IfTold before now (AppendsPartly first both) → IfTold before now (HasPartlyReplied machine state count lines)
partly_replied machine state count lines first both before now less more told =
    IfTold-weaker before now (AppendsPartly first both) (HasPartlyReplied machine state count lines)
    (λ x y p. record {
      bytes = p.bytes;
      whole = subst (λ (v : List ℕ). length v ≤ p.bytes) less p.whole;
      part = subst (λ (v : List ℕ). p.bytes < length v) more p.part;
      written = p.written ∙ ap (λ v. x ++ take p.bytes v) more;
    }) told

module _ {X S : Type 0} (does : List ℕ → X → X → List ℕ → Type 0) (machine : Machine S) (state : X → S) (left : (line : List ℕ) (old new : X) (told : List ℕ) → does line old new told → state new ≡ (machine (state old) line).0)
    (reply : (line : List ℕ) (old new : X) (told : List ℕ) → does line old new told → told ≡ (machine (state old) line).1) where
  -- what is left, and the replies
  pub left_after : (lines : List (List ℕ)) (old new : X) (told : List ℕ) → AreAnswered does lines old new told → state new ≡ after machine (state old) lines
  left_after [] old new told did = ap state did.0
  left_after (line ∷ lines) old new told did = left_after lines did.0 new did.2 did.5 ∙ ap (λ (s : S). after machine s lines) (left line old did.0 did.1 did.4)

  pub told_replies : (lines : List (List ℕ)) (old new : X) (told : List ℕ) → AreAnswered does lines old new told → told ≡ replies machine (state old) lines
  told_replies [] old new told did = did.1
  told_replies (line ∷ lines) old new told did =
      did.3 ∙ ap₂ (λ (a b : List ℕ). a ++ b) (reply line old did.0 did.1 did.4) (told_replies lines did.0 new did.2 did.5 ∙ ap (λ (s : S). replies machine s lines) (left line old did.0 did.1 did.4))

  -- at the end of a run
  pub all_appended : (old new : X) (before now : Option (List ℕ)) (count : ℕ) (bytes rest : List ℕ) → AnswersAll does old new before now count bytes rest → IfTold before now (AppendsReplies machine (state old) bytes)
  all_appended old new before now count bytes rest h = subst (λ told. IfTold before now (Appends told)) (told_replies (texts_of bytes) old new h.told h.answered) h.appended

  -- after an error
  pub has_answered : (stays : X → X → Type 0) (reached : S → Type 0) (old new : X) (lines : List (List ℕ)) (before now : Option (List ℕ)) (count : ℕ) → ((mid : X) → (new ≡ mid) ⊎ stays mid new → reached (state mid))
      → AnswersFirst does stays old new lines before now count → HasAnswered machine (state old) reached count lines before now
  has_answered stays reached old new lines before now count reach h = record {
    left = subst reached (left_after (take count lines) old h.mid h.told h.answered) (reach h.mid h.stood);
    told = subst (λ told. IfTold before now (Appends told)) (told_replies (take count lines) old h.mid h.told h.answered) h.appended;
  }

  pub has_partly_answered : (reached : S → Type 0) (old new : X) (lines : List (List ℕ)) (before now : Option (List ℕ)) (count : ℕ) → reached (state new)
      → AnswersPartly does old new lines before now count → HasPartlyAnswered machine (state old) reached count lines before now
  has_partly_answered reached old new lines before now count reach h = record {
    left = subst reached (left_after (take (count + 1) lines) old new h.both h.one_more) reach;
    told = partly_replied machine (state old) count lines h.first h.both before now (told_replies (take count lines) old h.mid h.first h.answered) (told_replies (take (count + 1) lines) old new h.both h.one_more) h.appended;
  }
