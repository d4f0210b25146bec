-- An item that is put to another index by turning those between.
use Rattle.std.proofs.Common.{◌≡◌, ℕ, zero, suc, ◌+◌, ◌-◌, ◌<◌, ◌≤◌, List, [], ◌∷◌, ◌++◌, refl, sym, ap, ap₂, subst, ◌∙◌, append_assoc, take, drop, length, length-drop, get_or, arith}
use Rattle.std.specs.List.{insert, remove}
use Rattle.std.proofs.lemmas.List.{length-take, take_at}

module _ {X : Type 0} where
  -- to a later one: the first of them goes behind the others
  turned_up : (xs ys : List X) (from to n : ℕ) (x : X) → to ≡ from + n → to < length xs → x ≡ get_or xs from x → ys ≡ drop 1 (take (suc n) (drop from xs)) ++ take 1 (take (suc n) (drop from xs))
      → take from xs ++ (ys ++ drop (suc n) (drop from xs)) ≡ insert (remove xs from) to x
  turned_up [] ys from to n x far lt e turned = absurd (omega (arith, lt))
  turned_up (z ∷ xs) ys zero to n x far lt e turned =
      let same : n ≡ to = omega (arith, far) in
      ap (λ zs. zs ++ drop n xs) turned ∙ append_assoc (take n xs) (z ∷ []) (drop n xs) ∙ ap (λ y. take n xs ++ y ∷ drop n xs) (sym e) ∙ ap (λ k. take k xs ++ x ∷ drop k xs) same
  turned_up (z ∷ xs) ys (suc from) zero n x far lt e turned = absurd (omega (arith, far))
  turned_up (z ∷ xs) ys (suc from) (suc to) n x far lt e turned = ap (λ (rest : List X). z ∷ rest) (turned_up xs ys from to n x (omega (arith, far)) (omega (arith, lt)) e turned)

  last_of : (xs : List X) (n : ℕ) (x : X) → n < length xs → x ≡ get_or xs n x → drop n (take (suc n) xs) ≡ x ∷ []
  last_of [] n x lt e = absurd (omega (arith, lt))
  last_of (z ∷ xs) zero x lt e = ap (λ y. y ∷ []) (sym e)
  last_of (z ∷ xs) (suc n) x lt e = last_of xs n x (omega (arith, lt)) e

  front_of : (xs : List X) (n : ℕ) → take n (take (suc n) xs) ≡ take n xs
  front_of [] zero = refl
  front_of [] (suc n) = refl
  front_of (z ∷ xs) zero = refl
  front_of (z ∷ xs) (suc n) = ap (λ (rest : List X). z ∷ rest) (front_of xs n)

  -- to one before: the last of them goes before the others
  turned_down : (xs ys : List X) (from to n : ℕ) (x : X) → from ≡ to + n → from < length xs → x ≡ get_or xs from x → ys ≡ drop n (take (suc n) (drop to xs)) ++ take n (take (suc n) (drop to xs))
      → take to xs ++ (ys ++ drop (suc n) (drop to xs)) ≡ insert (remove xs from) to x
  turned_down [] ys from to n x far lt e turned = absurd (omega (arith, lt))
  turned_down (z ∷ xs) ys from zero n x far lt e turned =
      let same : from ≡ n = omega (arith, far) in
      let here : x ≡ get_or (z ∷ xs) n x = subst (λ k. x ≡ get_or (z ∷ xs) k x) same e in
      let within : n < length (z ∷ xs) = subst (λ k. k < length (z ∷ xs)) same lt in
      ap (λ zs. zs ++ drop (suc n) (z ∷ xs)) (turned ∙ ap₂ (λ (a b : List X). a ++ b) (last_of (z ∷ xs) n x within here) (front_of (z ∷ xs) n)) ∙ ap (λ k. x ∷ (take k (z ∷ xs) ++ drop (suc k) (z ∷ xs))) (sym same)
  turned_down (z ∷ xs) ys zero (suc to) n x far lt e turned = absurd (omega (arith, far))
  turned_down (z ∷ xs) ys (suc from) (suc to) n x far lt e turned = ap (λ (rest : List X). z ∷ rest) (turned_down xs ys from to n x (omega (arith, far)) (omega (arith, lt)) e turned)

  -- the same by the length of the part
  pub shifted_up : (xs ys : List X) (from to k : ℕ) (x : X) → k ≡ to + 1 - from → from < to → to < length xs → x ≡ get_or xs from x → ys ≡ drop 1 (take k (drop from xs)) ++ take 1 (take k (drop from xs))
      → take from xs ++ (ys ++ drop k (drop from xs)) ≡ insert (remove xs from) to x
  shifted_up xs ys from to k x size up within e turned =
      let is : k ≡ suc (to - from) = omega (arith, size, up) in
      subst (λ m. take from xs ++ (ys ++ drop m (drop from xs)) ≡ insert (remove xs from) to x) (sym is)
      (turned_up xs ys from to (to - from) x (omega (arith, up)) within e (subst (λ m. ys ≡ drop 1 (take m (drop from xs)) ++ take 1 (take m (drop from xs))) is turned))

  pub shifted_down : (xs ys : List X) (from to k : ℕ) (x : X) → k ≡ from + 1 - to → to ≤ from → from < length xs → x ≡ get_or xs from x
      → ys ≡ drop (length (take k (drop to xs)) - 1) (take k (drop to xs)) ++ take (length (take k (drop to xs)) - 1) (take k (drop to xs)) → take to xs ++ (ys ++ drop k (drop to xs)) ≡ insert (remove xs from) to x
  shifted_down xs ys from to k x size down within e turned =
      let is : k ≡ suc (from - to) = omega (arith, size, down) in
      let less : length (take k (drop to xs)) - 1 ≡ from - to = omega (arith, is, down, within, length-take k (drop to xs), length-drop to xs) in
      let all = subst (λ m. ys ≡ drop m (take k (drop to xs)) ++ take m (take k (drop to xs))) less turned in
      subst (λ m. take to xs ++ (ys ++ drop m (drop to xs)) ≡ insert (remove xs from) to x) (sym is)
      (turned_down xs ys from to (from - to) x (omega (arith, down)) within e (subst (λ m. ys ≡ drop (from - to) (take m (drop to xs)) ++ take (from - to) (take m (drop to xs))) is all))

  -- all of a list written back
  pub whole_back : (n : ℕ) (old new : List X) → length new ≡ length old → n ≡ length old → take n (new ++ drop (length new) old) ≡ new
  whole_back n old new same counted = ap (λ k. take k (new ++ drop (length new) old)) (counted ∙ sym same) ∙ take_at new (drop (length new) old) (length new) refl
