-- What is prepared before the formulas of a pool are rewritten.
use Rattle.std.specs.Prelude.{◌≡◌, ◌<◌, ℕ, suc, List, [], ◌∷◌, ◌++◌, Bool, true, false, Option, None, Some, MatchOption, bytes_eq, length, map, nat_eq, option_map, set, if◌then◌else◌}
use Rattle.std.specs.BTreeMap.{get}
use Rattle.std.specs.List.{AllByRecursion, list_any, slice_get}
use Rattle.std.specs.Ordering.{nat_cmp}
use Rattle.ic_laws.specs.Changes.{Change}
use Rattle.ic_laws.specs.declared.tree.Formula.{Formula}
use Rattle.ic_pool.specs.Code.{code}
use Rattle.ic_pool.specs.Hash.{hash_of, key_cmp}
use Rattle.ic_pool.specs.LookUp.{apart_from}
use Rattle.ic_pool.specs.Mentions.{is_changed_by}
use Rattle.ic_pool.specs.Pool.{is_among, places_where}
use Rattle.ic_pool.specs.declared.look_up.LookUp.{LookUp}
use Rattle.ic_pool.specs.declared.pool.rewrites.OldKey.{OldKey}
use Rattle.ic_pool.specs.declared.pool.rewrites.Replacement.{Replacement}

-- The formulas that become others; and, where keys are kept, their places once more and the keys that they had.
pub record RewritesState : Type 0 where
  pub changes : List Replacement
  pub keeps_keys : Bool
  pub places : List ℕ
  pub old_keys : List OldKey

-- each change puts its formula at its place
abbrev pub changed_by : List Replacement → List Formula → List Formula
changed_by [] formulas = formulas
changed_by (change ∷ changes) formulas = changed_by changes (set formulas change.at change.formula)

-- the formulas of a pool, rewritten
abbrev pub rewritten_by : RewritesState → List Formula → List Formula
rewritten_by rewrites formulas = changed_by rewrites.changes formulas

-- there is no change
abbrev pub is_nothing : List Replacement → Bool
is_nothing [] = true
is_nothing (change ∷ changes) = false

-- no formula becomes another
abbrev pub changes_nothing : RewritesState → Bool
changes_nothing rewrites = is_nothing rewrites.changes

-- the places of the formulas that become others
abbrev pub places_of : List Replacement → List ℕ
places_of changes = map (λ change. change.at) changes

-- the places of the formulas that had these keys
abbrev pub old_places : List OldKey → List ℕ
old_places olds = map (λ old. old.at) olds

-- the keys alone
abbrev pub keys_of : List OldKey → List (List ℕ)
keys_of olds = map (λ old. old.key) olds

-- a key is one of these
abbrev pub is_key_among : List ℕ → List (List ℕ) → Bool
is_key_among key keys = list_any (bytes_eq key) keys

-- what stood by a hash, without the places of formulas whose keys had it
abbrev pub left_by_hash : List OldKey → ℕ → Option ℕ → Option ℕ
left_by_hash [] hash place = place
left_by_hash (old ∷ olds) hash place = left_by_hash olds hash (if nat_eq (hash_of old.key) hash then apart_from old.at place else place)

-- what stood by a key that is none of these
abbrev pub left_by_key : List OldKey → List ℕ → Option ℕ → Option ℕ
left_by_key [] key place = place
left_by_key (old ∷ olds) key place = left_by_key olds key (if bytes_eq old.key key then None else place)

-- these keys are out of a look-up
pub record AreOut (olds : List OldKey) (before after : LookUp) : Type 0 where
  pub by_hash : (hash : ℕ) → get nat_cmp after.by_hash hash ≡ left_by_hash olds hash (get nat_cmp before.by_hash hash)
  pub by_key : (key : List ℕ) → get key_cmp after.by_key key ≡ left_by_key olds key (get key_cmp before.by_key key)

-- The places are those of the changes, and so are the keys, each that of the formula at its place: equal formulas become
-- others together.
pub record KnowsOldKeys (rewrites : RewritesState) (formulas : List Formula) : Type 0 where
  pub places : rewrites.places ≡ places_of rewrites.changes
  pub stand : old_places rewrites.old_keys ≡ places_of rewrites.changes
  pub own : AllByRecursion (λ old. option_map code (slice_get formulas old.at) ≡ Some old.key) rewrites.old_keys
  pub together : (at : ℕ) (formula : Formula) → slice_get formulas at ≡ Some formula
      → is_key_among (code formula) (keys_of rewrites.old_keys) ≡ is_among at (places_of rewrites.changes)

-- It was prepared for these formulas: the places are theirs, and so are the keys, where they are kept.
pub record FitsPool (rewrites : RewritesState) (formulas : List Formula) : Type 0 where
  pub within : AllByRecursion (λ change. change.at < length formulas) rewrites.changes
  pub known : rewrites.keeps_keys ≡ true → KnowsOldKeys rewrites formulas

-- the formulas that pass a test, with what they become, where the first stands at this place
abbrev pub replaced_from : (Formula → Bool) → (Formula → Formula) → ℕ → List Formula → List Replacement
replaced_from test becomes at [] = []
replaced_from test becomes at (x ∷ xs) =
    if test x then record { at = at; formula = becomes x } ∷ replaced_from test becomes (suc at) xs else replaced_from test becomes (suc at) xs

-- a formula becomes another exactly where one of its mentions changes
abbrev pub ListsChanged : Change → Option ℕ → List Formula → RewritesState → Type 0
ListsChanged change scope formulas rewrites = places_of rewrites.changes ≡ places_where (is_changed_by change scope) formulas

-- The formula at this place was looked at. It stays, or its change stands behind the others; where keys are kept, so do its
-- place and its key.
pub record IsNoted (at : ℕ) (formula becomes : Formula) (changes : Bool) (before after : RewritesState) : Type 0 where
  pub same : changes ≡ false → becomes ≡ formula
  pub change : after.changes ≡ before.changes ++ (if changes then record { at = at; formula = becomes } ∷ [] else [])
  pub keeps : after.keeps_keys ≡ before.keeps_keys
  pub listed : before.keeps_keys ≡ true → after.places ≡ before.places ++ (if changes then at ∷ [] else [])
  pub key : before.keeps_keys ≡ true → after.old_keys ≡ before.old_keys ++ (if changes then record { at = at; key = code formula } ∷ [] else [])

-- the same where no formula may stand at this place: then nothing has changed
abbrev pub IsNotedAt : (Formula → Formula) → (Formula → Bool) → List Formula → ℕ → RewritesState → RewritesState → Type 0
IsNotedAt becomes test formulas at before after = MatchOption (slice_get formulas at) (after ≡ before) (λ formula. IsNoted at formula (becomes formula) (test formula) before after)
