-- The first of what stands in a list, by what is left of it.
use Rattle.std.proofs.Common.{◌≡◌, ◌++◌, ◌∷◌, [], ◌∙◌, ℕ, ◌+◌, Bool, true, false, cond, List, Option, Some, None, ap, drop, find, refl, slice_get, sym}
use Rattle.std.specs.Prelude.{flat_map}
use Rattle.ic_laws.specs.CoreBook.{Sheet}
use Rattle.ic_laws.specs.Notations.{Notations}
use Rattle.ic_machine.specs.Refusal.{Site}
use Rattle.ic_dump.specs.Refused.{rereading_cell}
use Rattle.ic_dump.proofs.CellLemmas.{begins_at}

-- the cells of a sheet whose texts would read
abbrev pub rereading_of : Notations → Sheet → List Site
rereading_of n s = flat_map (rereading_cell n s.id) s.cells

-- ---- the first that passes

pub passes_not : {X : Type 0} (p : X → Bool) (xs : List X) (i : ℕ) (x : X) (all : Option X) → slice_get xs i ≡ Some x → p x ≡ false → find p (drop i xs) ≡ all → find p (drop (i + 1) xs) ≡ all
passes_not p xs i x all there fails so_far =
    sym (ap (find p) (begins_at xs i x there) ∙ ap (λ b. cond b (Some x) (find p (drop (i + 1) xs))) fails) ∙ so_far

pub passes_here : {X : Type 0} (p : X → Bool) (xs : List X) (i : ℕ) (x : X) (all : Option X) → slice_get xs i ≡ Some x → p x ≡ true → find p (drop i xs) ≡ all → all ≡ Some x
passes_here p xs i x all there passes so_far =
    sym so_far ∙ ap (find p) (begins_at xs i x there) ∙ ap (λ b. cond b (Some x) (find p (drop (i + 1) xs))) passes

-- ---- the first of what is made of each

first_behind : {Y : Type 0} (xs ys : List Y) → slice_get xs 0 ≡ None → slice_get (xs ++ ys) 0 ≡ slice_get ys 0
first_behind [] ys e = refl
first_behind (x ∷ xs) ys e = cc

first_here : {Y : Type 0} (xs ys : List Y) (y : Y) → slice_get xs 0 ≡ Some y → slice_get (xs ++ ys) 0 ≡ Some y
first_here [] ys y e = cc
first_here (x ∷ xs) ys y e = e

pub none_here : {X Y : Type 0} (f : X → List Y) (xs : List X) (i : ℕ) (x : X) (all : Option Y) → slice_get xs i ≡ Some x → slice_get (f x) 0 ≡ None → slice_get (flat_map f (drop i xs)) 0 ≡ all → slice_get (flat_map f (drop (i + 1) xs)) 0 ≡ all
none_here f xs i x all there none so_far =
    sym (ap (λ ys. slice_get (flat_map f ys) 0) (begins_at xs i x there) ∙ first_behind (f x) (flat_map f (drop (i + 1) xs)) none) ∙ so_far

pub found_here : {X Y : Type 0} (f : X → List Y) (xs : List X) (i : ℕ) (x : X) (y : Y) (all : Option Y) → slice_get xs i ≡ Some x → slice_get (f x) 0 ≡ Some y → slice_get (flat_map f (drop i xs)) 0 ≡ all → Some y ≡ all
found_here f xs i x y all there first so_far =
    sym (ap (λ ys. slice_get (flat_map f ys) 0) (begins_at xs i x there) ∙ first_here (f x) (flat_map f (drop (i + 1) xs)) y first) ∙ so_far
