-- What a run over lines leaves and writes, by what one line does.
use Rattle.std.specs.Prelude.{◌≡◌, ℕ, ◌+◌, ◌<◌, ◌≤◌, ◌⊎◌, List, [], ◌∷◌, ◌++◌, length, take, Option}
use Rattle.ic_laws.specs.Lines.{texts_of}
use Rattle.ic_lines.specs.Bytes.{IfTold}
use Rattle.ic_lines.specs.declared.error.RunError.{RunError}
use Rattle.ic_run.specs.Run.{Leaves}

-- Over any states, by a relation that says what a line leaves of one, and its reply, and by one that says what is left
-- where memory ran out before a reply. ----

-- these bytes were appended
abbrev pub Appends : List ℕ → List ℕ → List ℕ → Type 0
Appends told before now = now ≡ before ++ told

-- of replies and one more a front was appended that has all of them and not all of the last
pub record AppendsPartly (first both before now : List ℕ) : Type 0 where
  pub bytes : ℕ
  pub whole : length first ≤ bytes
  pub part : bytes < length both
  pub written : now ≡ before ++ take bytes both

module _ {X : Type 0} (does : List ℕ → X → X → List ℕ → Type 0) where
  -- lines were answered one after another, by these bytes
  abbrev pub AreAnswered : List (List ℕ) → X → X → List ℕ → Type 0
  AreAnswered [] old new told = (new ≡ old) × (told ≡ [])
  AreAnswered (line ∷ lines) old new told = (mid : X) × (reply : List ℕ) × (others : List ℕ) × (told ≡ reply ++ others) × does line old mid reply × AreAnswered lines mid new others

  -- all bytes were taken, their lines were counted and answered, and all replies were appended
  pub record AnswersAll (old new : X) (before now : Option (List ℕ)) (lines : ℕ) (bytes left : List ℕ) : Type 0 where
    pub all : left ≡ []
    pub count : lines ≡ length (texts_of bytes)
    pub told : List ℕ
    pub answered : AreAnswered (texts_of bytes) old new told
    pub appended : IfTold before now (Appends told)

  -- the first so many lines were answered, and one line more, whose reply was appended in part
  pub record AnswersPartly (old new : X) (lines : List (List ℕ)) (before now : Option (List ℕ)) (count : ℕ) : Type 0 where
    pub within : count + 1 ≤ length lines
    pub mid : X
    pub first : List ℕ
    pub both : List ℕ
    pub answered : AreAnswered (take count lines) old mid first
    pub one_more : AreAnswered (take (count + 1) lines) old new both
    pub appended : IfTold before now (AppendsPartly first both)

  module _ (stays : X → X → Type 0) where
    -- exactly the first so many lines were answered, and their replies appended; nothing came of another one
    pub record AnswersFirst (old new : X) (lines : List (List ℕ)) (before now : Option (List ℕ)) (count : ℕ) : Type 0 where
      pub within : count ≤ length lines
      pub mid : X
      pub told : List ℕ
      pub answered : AreAnswered (take count lines) old mid told
      pub stood : (new ≡ mid) ⊎ stays mid new
      pub appended : IfTold before now (Appends told)

    -- what an error leaves
    abbrev pub LeavesAnswered : RunError → X → X → List ℕ → List ℕ → Option (List ℕ) → Option (List ℕ) → Type 0
    LeavesAnswered e old new bytes left before now = Leaves (AnswersFirst old new (texts_of bytes) before now) (AnswersPartly old new (texts_of bytes) before now) e bytes left

    -- whatever the source tells, some lines were answered, and nothing came of another one
    pub record AnswersSome (old new : X) : Type 0 where
      pub lines : List (List ℕ)
      pub mid : X
      pub told : List ℕ
      pub answered : AreAnswered lines old mid told
      pub stood : (new ≡ mid) ⊎ stays mid new
