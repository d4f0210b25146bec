-- The longest front of a text that spells something, where what a front spells may depend on what stands after it:
-- found over all the ways to split the text, or as the longer of two candidates.
use Rattle.std.specs.Prelude.{◌≡◌, ℕ, ◌<◌, List, [], ◌∷◌, ◌++◌, ◌⊎◌, length, nat_le, Option, Some, None, option_map, if◌then◌else◌}

-- the first of two answers, where there is one
abbrev pub or_else : {T : Type 0} → Option T → Option T → Option T
or_else (Some x) y = Some x
or_else None y = y

-- what the longest front spells, with what stands after it; front is before the text already
unfoldable pub longest_split : {T : Type 0} → (List ℕ → List ℕ → Option T) → List ℕ → List ℕ → Option (T × List ℕ)
longest_split read front [] = option_map (λ v. (v, [])) (read front [])
longest_split read front (c ∷ cs) = or_else (longest_split read (front ++ c ∷ []) cs) (option_map (λ v. (v, c ∷ cs)) (read front (c ∷ cs)))

-- value stands at the front and rest after it; any other that stands there is shorter, or is the same, or comes after
-- it where both are of one length
pub record IsBest {T : Type 0} (Spells : T → List ℕ → List ℕ → Type 0) (After : T → T → Type 0) (text : List ℕ) (value : T) (rest : List ℕ) : Type 0 where
  pub front : List ℕ
  pub whole : text ≡ front ++ rest
  pub spelled : Spells value front rest
  pub wins : (other after : List ℕ) (v : T) → text ≡ other ++ after → Spells v other after → (length rest < length after) ⊎ ((after ≡ rest) × ((v ≡ value) ⊎ After v value))

-- what a reader answers: the best, and nothing only where there is none
abbrev pub FindsBest : {T : Type 0} → (T → List ℕ → List ℕ → Type 0) → (T → T → Type 0) → List ℕ → Option (T × List ℕ) → Type 0
FindsBest {T} Spells After text None = (front rest : List ℕ) (v : T) → text ≡ front ++ rest → Spells v front rest → ⊥
FindsBest Spells After text (Some found) = IsBest Spells After text found.0 found.1

-- the longer of two candidates, the first of two of one length
abbrev pub longer : {T : Type 0} → Option (T × List ℕ) → Option (T × List ℕ) → Option (T × List ℕ)
longer None b = b
longer (Some x) None = Some x
longer (Some x) (Some y) = if nat_le (length x.1) (length y.1) then Some x else Some y

-- what either of two kinds spells
abbrev pub Either : {T : Type 0} → (T → List ℕ → List ℕ → Type 0) → (T → List ℕ → List ℕ → Type 0) → T → List ℕ → List ℕ → Type 0
Either A B v front rest = A v front rest ⊎ B v front rest

-- where both kinds spell something at one split, that of the second comes after
abbrev pub Yields : {T : Type 0} → (T → T → Type 0) → (T → List ℕ → List ℕ → Type 0) → (T → List ℕ → List ℕ → Type 0) → Type 0
Yields {T} After A B = (front rest : List ℕ) (v w : T) → A v front rest → B w front rest → After w v

-- a kind of which a text begins with one at most, and the reader of that one
pub record ReadsExactly {T : Type 0} (Spells : T → List ℕ → List ℕ → Type 0) (read : List ℕ → Option (T × List ℕ)) : Type 0 where
  pub sound : (text rest : List ℕ) (v : T) → read text ≡ Some (v, rest) → (front : List ℕ) × (text ≡ front ++ rest) × Spells v front rest
  pub complete : (front rest : List ℕ) (v : T) → Spells v front rest → read (front ++ rest) ≡ Some (v, rest)

-- read answers what a split spells, and of several that of which the others come after it
pub record IsDecided {T : Type 0} (Spells : T → List ℕ → List ℕ → Type 0) (After : T → T → Type 0) (read : List ℕ → List ℕ → Option T) : Type 0 where
  pub sound : (front rest : List ℕ) (v : T) → read front rest ≡ Some v → Spells v front rest
  pub complete : (front rest : List ℕ) (v : T) → Spells v front rest → (w : T) × (read front rest ≡ Some w) × ((v ≡ w) ⊎ After v w)
