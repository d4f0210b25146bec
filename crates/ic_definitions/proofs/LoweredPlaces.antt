-- The places of keys when a definition went: those behind it are lowered one after another, or all at once.
use Rattle.std.proofs.Common.{◌≡◌, ℕ, zero, suc, ◌<◌, List, [], ◌∷◌, Bool, true, false, cond, Option, Some, None, IfSome, option_map, length, get_or, refl, sym, ap, ◌∙◌, arith}
use Rattle.std.specs.List.{IsDistinct}
use Rattle.std.proofs.lemmas.Map.Keys.{IsDistinct-head, IsDistinct-tail}
use Rattle.ic_laws.proofs.keeping.NameChanges.{same_key_from}
use Rattle.ic_laws.specs.CoreBook.{Definition}
use Rattle.ic_laws.specs.Scene.{same_key}
use Rattle.ic_laws.specs.declared.tree.NameKey.{NameKey}
use Rattle.ic_pool.proofs.KeyLemmas.{clash}
use Rattle.ic_definitions.specs.Named.{index_with_key, key_in, raised}
use Rattle.ic_definitions.proofs.NamedLemmas.{first_stays, keys, one_of, raised_later}

-- what is had at a key where the definition at an index gets its place, by whether the key is that one's
abbrev pub placed : Bool → ℕ → Option ℕ → Option ℕ
placed its index had = cond its (option_map (λ old. index) had) had

later_placed : (c : Bool) (index : ℕ) (had : Option ℕ) → placed c (suc index) (option_map suc had) ≡ option_map suc (placed c index had)
later_placed true index None = refl
later_placed true index (Some n) = refl
later_placed false index had = refl

-- one more has its place
pub next_placed : (ds : List Definition) (index : ℕ) (d : Definition) → index < length ds → d ≡ get_or ds index d → IsDistinct same_key (keys ds)
    → (q : NameKey)
    → placed (same_key (key_in d) q) index (option_map (raised index) (index_with_key q ds)) ≡ option_map (raised (suc index)) (index_with_key q ds)
next_placed [] index d lt read differ q = absurd (omega arith)
next_placed (x ∷ ds) zero d lt read differ q =
    ap (λ y. placed (same_key (key_in y) q) 0 (option_map (raised 0) (index_with_key q (x ∷ ds)))) read
    ∙ step (same_key (key_in x) q) (index_with_key q ds)
  where
    here : 0 ≡ raised 1 0
    here = grind arith

    behind : (n : ℕ) → raised 0 (suc n) ≡ raised 1 (suc n)
    behind n = grind arith

    step : (b : Bool) (o : Option ℕ)
        → placed b 0 (option_map (raised 0) (cond b (Some 0) (option_map suc o))) ≡ option_map (raised 1) (cond b (Some 0) (option_map suc o))
    step true o = ap (λ n. Some n) here
    step false None = refl
    step false (Some n) = ap (λ k. Some k) (behind n)
next_placed (x ∷ ds) (suc index) d lt read differ q =
    let first = IsDistinct-head same_key (key_in x) (keys ds) differ in
    let apart : same_key (key_in x) (key_in d) ≡ false = one_of (λ k. same_key (key_in x) k ≡ false) ds index d (omega arith) read first in
    step (same_key (key_in x) q) (same_key (key_in d) q) (index_with_key q ds)
    (λ t u. clash (same_key (key_in x) (key_in d)) (ap (same_key (key_in x)) (same_key_from (key_in d) q u) ∙ t) apart)
    (next_placed ds index d (omega arith) read (IsDistinct-tail same_key (key_in x) (keys ds) differ) q)
  where
    step : (b c : Bool) (o : Option ℕ) → (b ≡ true → c ≡ true → ⊥) → placed c index (option_map (raised index) o) ≡ option_map (raised (suc index)) o
        → placed c (suc index) (option_map (raised (suc index)) (cond b (Some 0) (option_map suc o)))
        ≡ option_map (raised (suc (suc index))) (cond b (Some 0) (option_map suc o))
    step true true o h e = absurd (h refl refl)
    step true false o h e = ap (λ n. Some n) (sym (first_stays index) ∙ first_stays (suc index))
    step false c o h e =
        ap (placed c (suc index)) (sym (raised_later index o))
        ∙ later_placed c index (option_map (raised index) o)
        ∙ ap (option_map suc) e
        ∙ raised_later (suc index) o

index_below : (key : NameKey) (ds : List Definition) → IfSome (index_with_key key ds) (λ place. place < length ds)
index_below key [] = tt
index_below key (x ∷ ds) = step (same_key (key_in x) key) (index_with_key key ds) (index_below key ds)
  where
    step : (b : Bool) (place : Option ℕ) → IfSome place (λ p. p < length ds) → IfSome (cond b (Some 0) (option_map suc place)) (λ p. p < suc (length ds))
    step true place h = omega arith
    step false None h = tt
    step false (Some p) h = omega (arith, h)

-- all have theirs
pub none_raised : (ds : List Definition) (end : ℕ) (q : NameKey) → end ≡ length ds → option_map (raised end) (index_with_key q ds) ≡ index_with_key q ds
none_raised ds end q is = step (index_with_key q ds) (index_below q ds)
  where
    stays : (n : ℕ) → n < length ds → raised end n ≡ n
    stays n lt = grind (arith, lt, is)

    step : (o : Option ℕ) → IfSome o (λ p. p < length ds) → option_map (raised end) o ≡ o
    step None h = refl
    step (Some n) h = ap (λ k. Some k) (stays n h)
