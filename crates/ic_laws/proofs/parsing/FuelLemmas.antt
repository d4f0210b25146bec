-- Fuel that is enough is as good as any other: each loop of a reading by an equation without fuel.
use Rattle.std.proofs.Common.{◌≡◌, ◌⊎◌, inl, inr, ℕ, zero, suc, ◌+◌, ◌<◌, ◌≤◌, List, Option, Some, None, refl, sym, ◌∙◌, arith}
use Rattle.ic_laws.specs.Parse.{Read, turns}
use Rattle.ic_laws.specs.Token.{Token}
use Rattle.ic_laws.specs.Tree.{Spelled, height}
use Rattle.ic_laws.proofs.parsing.ReadLemmas.{turns_stop, turns_go}

-- what a turn gives is higher than what it takes, and not too high
pub record Rises (most : ℕ) (turn : Spelled → List Token → Option (Read Spelled)) : Type 0 where
  pub higher : (left : Spelled) (ts : List Token) (read : Spelled × List Token) → turn left ts ≡ Some (Some read) → height left < height read.0
  pub low : (left : Spelled) (ts : List Token) (read : Spelled × List Token) → turn left ts ≡ Some (Some read) → height read.0 ≤ most

pub turns_fail : (turn : Spelled → List Token → Option (Read Spelled)) (fuel : ℕ) (left : Spelled) (ts : List Token) → turn left ts ≡ Some None → turns turn fuel left ts ≡ None
unfolding turns
turns_fail turn zero left ts e = refl
turns_fail turn (suc fuel) left ts e = rw (e, turns) refl

turn_cases : (o : Option (Read Spelled)) → (o ≡ None) ⊎ ((o ≡ Some None) ⊎ ((read : Spelled × List Token) × (o ≡ Some (Some read))))
turn_cases None = inl refl
turn_cases (Some None) = inr (inl refl)
turn_cases (Some (Some read)) = inr (inr (read, refl))

module _ (most : ℕ) (turn : Spelled → List Token → Option (Read Spelled)) (rises : Rises most turn) where
  turns_fuel : (f g : ℕ) (left : Spelled) (ts : List Token) → height left ≤ most → most < f + height left → most < g + height left → turns turn f left ts ≡ turns turn g left ts
  turns_fuel zero g left ts low enough too = absurd (omega arith)
  turns_fuel (suc f) zero left ts low enough too = absurd (omega arith)
  turns_fuel (suc f) (suc g) left ts low enough too = elim (turn_cases (turn left ts)) [
    | inl none ↦ turns_stop turn f left ts none ∙ sym (turns_stop turn g left ts none)
    | inr (inl fails) ↦ turns_fail turn (suc f) left ts fails ∙ sym (turns_fail turn (suc g) left ts fails)
    | inr (inr taken) ↦
        let read : Spelled × List Token = taken.0 in
        let up : height left < height read.0 = rises.higher left ts read taken.1 in
        turns_go turn f left ts read.0 read.1 taken.1
        ∙ turns_fuel f g read.0 read.1 (rises.low left ts read taken.1) (omega arith) (omega arith)
        ∙ sym (turns_go turn g left ts read.0 read.1 taken.1)
  ]
