-- How far a run over told bytes has come, line by line, and what its errors leave, by what one line does.
use Rattle.std.proofs.Common.{◌≡◌, ℕ, ◌+◌, ◌-◌, ◌*◌, ◌<◌, ◌≤◌, Bool, ◌⊎◌, List, [], ◌∷◌, ◌++◌, length, take, drop, true, false, Option, Some, None, ap, sym, subst, ◌∙◌, refl, inl, inr, arith, append_assoc, append-nil, length-append, length-drop, if◌then◌else◌}
use Rattle.std.proofs.Math.Seq.{take-append-add}
use Rattle.std.proofs.lemmas.Bool.{cases_Bool}
use Rattle.std.proofs.lemmas.Bool.Decides.{eqb_tells}
use Rattle.std.proofs.lemmas.List.{take-append-drop}
use Rattle.ic_laws.specs.Lines.{texts_of}
use Rattle.ic_lines.specs.Bytes.{AppendsFront, IfTold}
use Rattle.ic_lines.specs.Reading.{GivesHeld, GivesLine, HasToAsk, Reading, TakesLine, budget, has_line_feed, line_feeds, unread}
use Rattle.ic_lines.specs.declared.error.RunError.{RunError}
use Rattle.ic_lines.specs.declared.error.RunError.TheVariants as errors
use Rattle.ic_lines.proofs.FeedLemmas.{line_feeds-append, line_feeds-next}
use Rattle.ic_lines.proofs.ToldLemmas.{IfTold-join, IfTold-same, IfTold-weaker}
use Rattle.ic_run.specs.Answering.{AnswersAll, AnswersFirst, AnswersPartly, AnswersSome, Appends, AppendsPartly, AreAnswered, LeavesAnswered}
use Rattle.ic_run.specs.Run.{AreRead}
use Rattle.ic_run.proofs.RunLemmas.{IsSome-is, next_rest, next_taken, next_within}

-- what a call of the reader that gave a line tells of the bytes
pub record Next (line : List ℕ) (old new : Reading) (before now : List ℕ) : Type 0 where
  pub gives : texts_of (unread old before) ≡ line ∷ texts_of (unread new now)
  pub ends : (old.ended ≡ true → before ≡ []) → new.ended ≡ true → now ≡ []
  pub feeds : new.ended ≡ false → line_feeds (old.held ++ before) ≡ 1 + line_feeds (new.held ++ now)
  pub open_before : new.ended ≡ false → old.ended ≡ false

IfTold-and : (a b : Option (List ℕ)) (P Q : List ℕ → List ℕ → Type 0) (C : Type 0) → IfTold a b P → (C → IfTold a b Q) → IfTold a b (λ x y. P x y × (C → Q x y))
IfTold-and None b P Q C h k = tt
IfTold-and (Some x) None P Q C h k = absurd h
IfTold-and (Some x) (Some y) P Q C h k = (h, k)

nothing_after : (got left : List ℕ) → got ++ left ≡ [] → left ≡ []
nothing_after [] left e = e
nothing_after (b ∷ got) left e = cc

was_open : (old asked : Reading) (a b : Option (List ℕ)) → TakesLine old asked a b → asked.ended ≡ false → old.ended ≡ false
was_open old asked a b t still =
    elim (cases_Bool old.ended) [
      | inl ended ↦ let e = sym (ap (λ (r : Reading). r.ended) (t.unasked (inr ended)) ∙ ended) ∙ still in absurd (cc)
      | inr o ↦ o
    ]

pub next_told : (line : List ℕ) (old asked new : Reading) (a b : Option (List ℕ)) → TakesLine old asked a b → GivesHeld (Some line) asked new
    → IfTold a b (λ x y. GivesLine (Some line) (unread old x) (unread new y)) → (old.ended ≡ false → IfTold a b (λ x y. new.ended ≡ true → y ≡ [])) → IfTold a b (Next line old new)
next_told line old asked new a b t g gives ends =
    let got : List ℕ = t.front ++ t.last in
    let Given : List ℕ → List ℕ → Type 0 = λ x y. GivesLine (Some line) (unread old x) (unread new y) in
    let Ends : List ℕ → List ℕ → Type 0 = λ x y. new.ended ≡ true → y ≡ [] in
    let Feeds : List ℕ → List ℕ → Type 0 = λ x y. line_feeds (old.held ++ x) ≡ 1 + line_feeds (new.held ++ y) in
    let Took : List ℕ → List ℕ → Type 0 = λ x y. x ≡ got ++ y in
    let one = IfTold-and a b Given Ends (old.ended ≡ false) gives ends in
    let two = IfTold-and a b (λ x y. Given x y × (old.ended ≡ false → Ends x y)) Feeds (new.ended ≡ false) one (λ still. line_feeds-next line old asked new a b t g still) in
    let three = IfTold-and a b (λ x y. (Given x y × (old.ended ≡ false → Ends x y)) × (new.ended ≡ false → Feeds x y)) Took (Unit {0}) two (λ _. t.taken.told) in
    IfTold-weaker a b (λ x y. ((Given x y × (old.ended ≡ false → Ends x y)) × (new.ended ≡ false → Feeds x y)) × (Unit {0} → Took x y)) (Next line old new)
    (λ x y h. record {
      gives = h.0.0.0;
      ends = λ before. elim (cases_Bool old.ended) [
        | inl ended ↦ λ _. nothing_after got y (sym (h.1 tt) ∙ before ended)
        | inr o ↦ h.0.0.1 o
      ];
      feeds = h.0.1;
      open_before = λ still. was_open old asked a b t (sym g.ended ∙ still);
    }) three

-- what a reader that took bytes gives of what was to come: a line of those that it holds, or none at the end
pub gives_told : (line : List ℕ) (old asked new : Reading) (a b : Option (List ℕ)) → IfTold a b (λ x y. unread asked y ≡ unread old x) → GivesHeld (Some line) asked new
    → IfTold a b (λ x y. GivesLine (Some line) (unread old x) (unread new y))
gives_told line old asked new a b kept g =
    IfTold-weaker a b (λ x y. unread asked y ≡ unread old x) (λ x y. GivesLine (Some line) (unread old x) (unread new y)) (λ x y e. ap texts_of (sym e) ∙ g.gives y) kept

pub gives_none : (old asked : Reading) (a b : Option (List ℕ)) → IfTold a b (λ x y. unread asked y ≡ unread old x) → asked.held ≡ [] → asked.ended ≡ true
    → IfTold a b (λ x y. GivesLine None (unread old x) (unread asked y))
gives_none old asked a b kept nothing ended =
    IfTold-weaker a b (λ x y. unread asked y ≡ unread old x) (λ x y. GivesLine None (unread old x) (unread asked y))
    (λ x y e. let is : unread asked y ≡ [] = ap (λ (h : List ℕ). h ++ (if asked.ended then [] else y)) nothing ∙ ap (λ (b : Bool). if b then [] else y) ended in (sym e ∙ is, is)) kept

pub fewer_left : (line : List ℕ) (asked new : Reading) → GivesHeld (Some line) asked new → budget new < budget asked
fewer_left line asked new g = omega (arith, g.fewer (IsSome-is (Some line) line refl), ap (λ (t : ℕ). 4096 * (4294967296 - t)) g.turns)

no_feeds : (bytes : List ℕ) → has_line_feed bytes ≡ false → line_feeds bytes ≡ 0
no_feeds [] none = refl
no_feeds (b ∷ bytes) none =
    elim (eqb_tells b 10) [
      | inl p ↦ let e : has_line_feed (b ∷ bytes) ≡ true = rw p.0 refl in absurd (cc)
      | inr p ↦ rw p.0 (no_feeds bytes (rw p.0 at none))
    ]

-- so many of the lines were answered, and the others are still to be given
module _ {X : Type 0} (does : List ℕ → X → X → List ℕ → Type 0) where
  pub record Progress (old new : X) (count : ℕ) (reader : Reading) (before now : Option (List ℕ)) (bytes left : List ℕ) : Type 0 where
    pub within : count ≤ length (texts_of bytes)
    pub told : List ℕ
    pub did : AreAnswered does (take count (texts_of bytes)) old new told
    pub rest : texts_of (unread reader left) ≡ drop count (texts_of bytes)
    pub appended : IfTold before now (Appends told)
    pub ends : reader.ended ≡ true → left ≡ []
    pub feeds : reader.ended ≡ false → count + line_feeds (reader.held ++ left) ≡ line_feeds bytes

module _ {X : Type 0} (does : List ℕ → X → X → List ℕ → Type 0) where
  -- one line after others
  pub answered-append : (lines : List (List ℕ)) (line : List ℕ) (old mid new : X) (first reply : List ℕ) → AreAnswered does lines old mid first → does line mid new reply → AreAnswered does (lines ++ line ∷ []) old new (first ++ reply)
  answered-append [] line old mid new first reply did one =
      (new, reply, [], ap (λ v. v ++ reply) did.1 ∙ sym (append-nil reply), subst (λ (x : X). does line x new reply) did.0 one, (refl, refl))
  answered-append (other ∷ lines) line old mid new first reply did one =
      (did.0, did.1, did.2 ++ reply, ap (λ v. v ++ reply) did.3 ∙ append_assoc did.1 did.2 reply, did.4, answered-append lines line did.0 mid new did.2 reply did.5 one)

  -- before the first line
  pub first_progress : (start : X) (before source : Option (List ℕ)) → IfTold source source (Progress does start start 0 (record { held = []; ended = false; turns = 0 }) before before)
  first_progress start before source =
      IfTold-same source (Progress does start start 0 (record { held = []; ended = false; turns = 0 }) before before)
      (λ bytes. record {
        within = omega arith;
        told = [];
        did = (refl, refl);
        rest = refl;
        appended = IfTold-same before (Appends []) (λ x. sym (append-nil x));
        ends = λ ended. absurd cc;
        feeds = λ still. omega arith;
      })

  -- some lines were answered, whatever the source tells
  pub record Came (old new : X) : Type 0 where
    pub lines : List (List ℕ)
    pub told : List ℕ
    pub answered : AreAnswered does lines old new told

  pub came_nowhere : (start : X) → Came start start
  came_nowhere start = record { lines = []; told = []; answered = (refl, refl) }

  pub came_further : (old mid new : X) (line reply : List ℕ) → Came old mid → does line mid new reply → Came old new
  came_further old mid new line reply came one = record {
    lines = came.lines ++ line ∷ [];
    told = came.told ++ reply;
    answered = answered-append came.lines line old mid new came.told reply came.answered one;
  }

  -- one line more
  module _ (old mid : X) (count : ℕ) (reader new_reader : Reading) (before now : Option (List ℕ)) (bytes a b line : List ℕ) (p : Progress does old mid count reader before now bytes a) (n : Next line reader new_reader a b) where
    next : drop count (texts_of bytes) ≡ line ∷ texts_of (unread new_reader b)
    next = sym p.rest ∙ n.gives

    taken : take (count + 1) (texts_of bytes) ≡ take count (texts_of bytes) ++ line ∷ []
    taken = next_taken (texts_of bytes) count line (texts_of (unread new_reader b)) next

    ends_after : new_reader.ended ≡ true → b ≡ []
    ends_after = n.ends p.ends

    feeds_after : new_reader.ended ≡ false → count + 1 + line_feeds (new_reader.held ++ b) ≡ line_feeds bytes
    feeds_after still = omega (arith, n.feeds still, p.feeds (n.open_before still))

    read_after : AreRead (count + 1) bytes b
    read_after =
        elim (cases_Bool new_reader.ended) [
          | inl ended ↦ inl (ends_after ended)
          | inr still ↦ inr (omega (arith, feeds_after still, line_feeds-append new_reader.held b))
        ]

    read_before : AreRead count bytes b
    read_before = elim read_after [ inl all ↦ inl all | inr few ↦ inr (omega (arith, few)) ]

    within_after : count + 1 ≤ length (texts_of bytes)
    within_after = omega (arith, next_within (texts_of bytes) count line (texts_of (unread new_reader b)) next)

    did_after : (new : X) (reply : List ℕ) → does line mid new reply → AreAnswered does (take (count + 1) (texts_of bytes)) old new (p.told ++ reply)
    did_after new reply one = subst (λ ls. AreAnswered does ls old new (p.told ++ reply)) (sym taken) (answered-append (take count (texts_of bytes)) line old mid new p.told reply p.did one)

    pub Progress-step : (new : X) (reply : List ℕ) (written : Option (List ℕ)) → does line mid new reply → IfTold now written (Appends reply) → Progress does old new (count + 1) new_reader before written bytes b
    Progress-step new reply written one replied = record {
      within = within_after;
      told = p.told ++ reply;
      did = did_after new reply one;
      rest = next_rest (texts_of bytes) count line (texts_of (unread new_reader b)) next;
      appended = IfTold-join before now written (Appends p.told) (Appends reply) (Appends (p.told ++ reply))
          (λ w x y q r. r ∙ ap (λ v. v ++ reply) q ∙ append_assoc w p.told reply) p.appended replied;
      ends = ends_after;
      feeds = feeds_after;
    }

    -- a write of its reply failed
    leaves_write_fault : (new : X) (reply : List ℕ) (written : Option (List ℕ)) → does line mid new reply → IfTold now written (AppendsFront reply) → AnswersPartly does old new (texts_of bytes) before written count
    leaves_write_fault new reply written one part = record {
      within = within_after;
      mid = mid;
      first = p.told;
      both = p.told ++ reply;
      answered = p.did;
      one_more = did_after new reply one;
      appended = IfTold-join before now written (Appends p.told) (AppendsFront reply) (AppendsPartly p.told (p.told ++ reply))
          (λ w x y q r. record {
            bytes = length p.told + r.0;
            whole = omega arith;
            part = omega (arith, r.1, length-append p.told reply);
            written = r.2 ∙ ap (λ v. v ++ take r.0 reply) q ∙ append_assoc w p.told (take r.0 reply) ∙ ap (λ v. w ++ v) (sym (take-append-add p.told reply r.0));
          }) p.appended part;
    }

  module _ (stays : X → X → Type 0) where
    pub some_came : (old new : X) → Came old new → AnswersSome does stays old new
    some_came old new came = record { lines = came.lines; mid = new; told = came.told; answered = came.answered; stood = inl refl }

    -- at an error at a line
    pub some_at_line : (old mid new : X) (line : List ℕ) (e : RunError) → Came old mid → (e ≡ errors.OutOfMemory) ⊎ (e ≡ errors.WriteFault) → (e ≡ errors.OutOfMemory → stays mid new)
        → (e ≡ errors.WriteFault → (reply : List ℕ) × does line mid new reply) → AnswersSome does stays old new
    some_at_line old mid new line e came which no_memory write_fault =
        elim which [
          | inl is ↦ record { lines = came.lines; mid = mid; told = came.told; answered = came.answered; stood = inr (no_memory is) }
          | inr is ↦ let h = write_fault is in some_came old new (came_further old mid new line h.0 came h.1)
        ]

    -- an error at a line, over a source that tells its bytes: memory ran out before a reply, or a write failed
    pub leaves_at_line : (old mid new : X) (count : ℕ) (reader new_reader : Reading) (before now written : Option (List ℕ)) (first a b : Option (List ℕ)) (line : List ℕ) (e : RunError)
        → IfTold first a (Progress does old mid count reader before now) → IfTold a b (Next line reader new_reader) → (e ≡ errors.OutOfMemory) ⊎ (e ≡ errors.WriteFault)
        → (e ≡ errors.OutOfMemory → stays mid new × (written ≡ now))
        → (e ≡ errors.WriteFault → (reply : List ℕ) × does line mid new reply × IfTold now written (AppendsFront reply))
        → IfTold first b (λ bytes left. LeavesAnswered does stays e old new bytes left before written)
    leaves_at_line old mid new count reader new_reader before now written first a b line e p n which no_memory write_fault =
        IfTold-join first a b (Progress does old mid count reader before now) (Next line reader new_reader) (λ bytes left. LeavesAnswered does stays e old new bytes left before written)
        (λ bytes x y q k. elim which [
          | inl is ↦ let h = no_memory is in
              let answered : AnswersFirst does stays old new (texts_of bytes) before written count = record {
                within = q.within;
                mid = mid;
                told = q.told;
                answered = q.did;
                stood = inr h.0;
                appended = subst (λ w. IfTold before w (Appends q.told)) (sym h.1) q.appended;
              } in
              subst (λ e. LeavesAnswered does stays e old new bytes y before written) (sym is) (count, read_before old mid count reader new_reader before now bytes x y line q k, answered)
          | inr is ↦ let h = write_fault is in
              subst (λ e. LeavesAnswered does stays e old new bytes y before written) (sym is)
              (count, read_after old mid count reader new_reader before now bytes x y line q k, leaves_write_fault old mid count reader new_reader before now bytes x y line q k new h.0 written h.1 h.2)
        ]) p n

    -- what an error of the reader leaves
    module _ (old mid : X) (count : ℕ) (reader new_reader : Reading) (before now : Option (List ℕ)) (bytes a b : List ℕ) (p : Progress does old mid count reader before now bytes a) (got : List ℕ) (held : new_reader.held ≡ reader.held ++ got) (took : a ≡ got ++ b) where
      open_feeds : reader.ended ≡ false → count + (line_feeds new_reader.held + line_feeds b) ≡ line_feeds bytes
      open_feeds still =
          let all : line_feeds (reader.held ++ a) ≡ line_feeds (new_reader.held ++ b) =
          ap (λ v. line_feeds (reader.held ++ v)) took ∙ ap line_feeds (sym (append_assoc reader.held got b)) ∙ ap (λ v. line_feeds (v ++ b)) (sym held) in
          omega (arith, p.feeds still, all, line_feeds-append new_reader.held b)

      read : AreRead count bytes b
      read =
          elim (cases_Bool reader.ended) [
            | inl ended ↦ inl (nothing_after got b (sym took ∙ p.ends ended))
            | inr still ↦ inr (omega (arith, open_feeds still))
          ]

      answered : AnswersFirst does stays old mid (texts_of bytes) before now count
      answered = record { within = p.within; mid = mid; told = p.told; answered = p.did; stood = inl refl; appended = p.appended }

      all_lines : HasToAsk new_reader → reader.ended ≡ false → count + line_feeds b ≡ line_feeds bytes
      all_lines asks still = omega (arith, open_feeds still, no_feeds new_reader.held asks.no_line)

      leaves_by_reader : (e : RunError) → ((e ≡ errors.ReadFault) ⊎ (e ≡ errors.TooManyTurns) → HasToAsk new_reader × (reader.ended ≡ false)) → (e ≡ errors.WriteFault → ⊥) → LeavesAnswered does stays e old mid bytes b before now
      leaves_by_reader errors.ReadFault asks no_write = let h = asks (inl refl) in (count, all_lines h.0 h.1, answered)
      leaves_by_reader errors.TooManyTurns asks no_write = let h = asks (inr refl) in (count, all_lines h.0 h.1, answered)
      leaves_by_reader errors.OutOfMemory asks no_write = (count, read, answered)
      leaves_by_reader errors.WriteFault asks no_write = absurd (no_write refl)

    -- an error of the reader, over a source that tells its bytes
    pub leaves_at_reader : (old mid : X) (count : ℕ) (reader asked new_reader : Reading) (before now : Option (List ℕ)) (first a b : Option (List ℕ)) (e : RunError)
        → IfTold first a (Progress does old mid count reader before now) → TakesLine reader asked a b → new_reader ≡ asked
        → ((e ≡ errors.ReadFault) ⊎ (e ≡ errors.TooManyTurns) → HasToAsk new_reader) → (e ≡ errors.WriteFault → ⊥) → IfTold first b (λ bytes left. LeavesAnswered does stays e old mid bytes left before now)
    leaves_at_reader old mid count reader asked new_reader before now first a b e p t same asks no_write =
        let got : List ℕ = t.front ++ t.last in
        let held : new_reader.held ≡ reader.held ++ got = ap (λ (r : Reading). r.held) same ∙ t.taken.held in
        IfTold-join first a b (Progress does old mid count reader before now) (λ x y. x ≡ got ++ y) (λ bytes left. LeavesAnswered does stays e old mid bytes left before now)
        (λ bytes x y q took. leaves_by_reader old mid count reader new_reader before now bytes x y q got held took e
        (λ which. let h = asks which in (h, was_open reader asked a b t (ap (λ (r : Reading). r.ended) (sym same) ∙ h.still_open))) no_write)
        p t.taken.told

  -- the end
  module _ (old new : X) (count : ℕ) (reader : Reading) (before now : Option (List ℕ)) (bytes a b : List ℕ) (p : Progress does old new count reader before now bytes a) (got : List ℕ) (none : unread reader a ≡ []) (took : a ≡ got ++ b) where
    nothing_left : b ≡ []
    nothing_left =
        elim (cases_Bool reader.ended) [
          | inl ended ↦ nothing_after got b (sym took ∙ p.ends ended)
          | inr still ↦ nothing_after got b (sym took ∙ nothing_after reader.held a (sym (ap (λ e. reader.held ++ (if e then [] else a)) still) ∙ none))
        ]

    no_rest : drop count (texts_of bytes) ≡ []
    no_rest = sym p.rest ∙ ap texts_of none

    all_taken : take count (texts_of bytes) ≡ texts_of bytes
    all_taken = sym (append-nil (take count (texts_of bytes))) ∙ ap (λ v. take count (texts_of bytes) ++ v) (sym no_rest) ∙ take-append-drop count (texts_of bytes)

    answers_all : AnswersAll does old new before now count bytes b
    answers_all = record {
      all = nothing_left;
      count = omega (arith, ap length no_rest, length-drop count (texts_of bytes), p.within);
      told = p.told;
      answered = subst (λ ls. AreAnswered does ls old new p.told) all_taken p.did;
      appended = p.appended;
    }

  -- the end, over a source that tells its bytes
  pub answers_all_told : (old new : X) (count : ℕ) (reader asked new_reader : Reading) (before now : Option (List ℕ)) (first a b : Option (List ℕ)) → IfTold first a (Progress does old new count reader before now) → TakesLine reader asked a b
      → IfTold a b (λ x y. GivesLine None (unread reader x) (unread new_reader y)) → IfTold first b (AnswersAll does old new before now count)
  answers_all_told old new count reader asked new_reader before now first a b p t gives =
      let End : List ℕ → List ℕ → Type 0 = λ x y. GivesLine None (unread reader x) (unread new_reader y) × (Unit {0} → x ≡ (t.front ++ t.last) ++ y) in
      let told : IfTold a b End = IfTold-and a b (λ x y. GivesLine None (unread reader x) (unread new_reader y)) (λ x y. x ≡ (t.front ++ t.last) ++ y) (Unit {0}) gives (λ _. t.taken.told) in
      IfTold-join first a b (Progress does old new count reader before now) End (AnswersAll does old new before now count)
      (λ bytes x y q h. answers_all old new count reader before now bytes x y q (t.front ++ t.last) h.0.0 (h.1 tt)) p told
