-- An array gets its values: what stands where then, and that all that holds of a sheet still does.
use Rattle.std.proofs.Common.{◌≡◌, ◌∙◌, sym, ap, ℕ, zero, suc, ◌+◌, ◌<◌, ◌≤◌, Bool, true, false, cond, List, Option, Some, None, arith}
use Rattle.ic_cells.specs.declared.cell.Cell.{Cell}
use Rattle.ic_cells.specs.declared.layout.Merge.{Merge}
use Rattle.ic_grid.specs.Block.{Place, first_place, next_place}
use Rattle.ic_grid.specs.Contents.{Contents}
use Rattle.ic_grid.specs.Shape.{celled}
use Rattle.ic_grid.specs.Spill.{blocks, first_of_blocking}
use Rattle.ic_grid.specs.declared.block.Block.{Block}

module _ (merges : List Merge) (m : Contents Cell) (b : Block) (k : ℕ) where
  abbrev seek : ℕ → Place → Option Place
  seek n q = first_of_blocking celled merges m (first_place b) b n q

  -- no place before this one blocks
  pub record IsSeeking (turn : ℕ) (a at : Place) : Type 0 where
    pub n : ℕ
    pub anchor : a ≡ first_place b
    pub sum : turn + n ≡ k
    pub same : seek n at ≡ seek k (first_place b)

  pub seek_begun : (a at : Place) → a ≡ first_place b → at ≡ first_place b → IsSeeking 0 a at
  seek_begun a at e f = record { n = k; anchor = e; sum = omega arith; same = ap (λ (p : Place). seek k p) f }

  module _ (turn : ℕ) (a at : Place) (so : IsSeeking turn a at) where
    blocked_first : (v : Bool) → blocks celled merges m a at ≡ v → blocks celled merges m (first_place b) at ≡ v
    blocked_first v e = ap (λ (p : Place). blocks celled merges m p at) (sym so.anchor) ∙ e

    pub seek_found : turn < k → blocks celled merges m a at ≡ true → Some at ≡ seek k (first_place b)
    seek_found less e = by_left so.n so.sum so.same
      where
        by_left : (n : ℕ) → turn + n ≡ k → seek n at ≡ seek k (first_place b) → Some at ≡ seek k (first_place b)
        by_left zero sum same = absurd (omega (arith, less, sum))
        by_left (suc n) sum same = sym (ap (λ t. let o : Option Place = cond t (Some at) (seek n (next_place b at)) in o) (blocked_first true e)) ∙ same

    pub seek_more : turn < k → blocks celled merges m a at ≡ false → (next : Place) → next ≡ next_place b at → IsSeeking (turn + 1) a next
    seek_more less e next is = by_left so.n so.sum so.same
      where
        by_left : (n : ℕ) → turn + n ≡ k → seek n at ≡ seek k (first_place b) → IsSeeking (turn + 1) a next
        by_left zero sum same = absurd (omega (arith, less, sum))
        by_left (suc n) sum same = record {
          n = n;
          anchor = so.anchor;
          sum = omega (arith, sum);
          same =
              ap (λ (p : Place). seek n p) is
              ∙ sym (ap (λ t. let o : Option Place = cond t (Some at) (seek n (next_place b at)) in o) (blocked_first false e)) ∙ same;
        }

    pub seek_none : k ≤ turn → None ≡ seek k (first_place b)
    seek_none less = by_left so.n so.sum so.same
      where
        by_left : (n : ℕ) → turn + n ≡ k → seek n at ≡ seek k (first_place b) → None ≡ seek k (first_place b)
        by_left zero sum same = same
        by_left (suc n) sum same = absurd (omega (arith, less, sum))
