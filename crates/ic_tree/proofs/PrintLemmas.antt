-- A formula's text is written in steps: part by part of a list, and level by level.
use Rattle.std.proofs.Common.{◌≡◌, ℕ, suc, ◌+◌, ◌<◌, List, ◌∷◌, ◌++◌, Option, append_assoc, sym, ap, ap₂, subst, ◌∙◌, arith, length, get_or, drop, Result, OnOk}
use Rattle.std.proofs.Math.Seq.{drop-cons}
use Rattle.ic_laws.specs.Dialect.{DialectMeaning}
use Rattle.ic_laws.specs.Tree.{Kind}
use Rattle.ic_laws.specs.declared.tree.Tree.{Tree, roll-Tree}
use Rattle.ic_tree.specs.Printed.{IsByLevels, each_from, separator_before, written_kind}

-- one step of a loop over parts
pub step_of : {A : Type 0} (separator n : ℕ) (text : A → List ℕ) (xs : List A) (x : A) (old a b whole : List ℕ) → n < length xs → x ≡ get_or xs n x → a ≡ old ++ separator_before separator n → b ≡ a ++ text x
    → old ++ each_from separator n text (drop n xs) ≡ whole → b ++ each_from separator (n + 1) text (drop (n + 1) xs) ≡ whole
step_of separator n text xs x old a b whole lt item p q h =
    let next : suc n ≡ n + 1 = omega arith in
    let here : drop n xs ≡ x ∷ drop (n + 1) xs = drop-cons xs n x lt ∙ ap₂ (λ y k. y ∷ drop k xs) (sym item) next in
    let before = separator_before separator n in
    let rest = each_from separator (n + 1) text (drop (n + 1) xs) in
    ap (λ t. t ++ rest) (q ∙ ap (λ t. t ++ text x) p ∙ append_assoc old before (text x))
    ∙ append_assoc old (before ++ text x) rest
    ∙ ap (λ t. old ++ each_from separator n text t) (sym here) ∙ h

module _ {S W : Type 0} {sheet : S → Option (List ℕ)} {word : W → List ℕ} {text : DialectMeaning → Tree S W → List ℕ} (levels : IsByLevels sheet word text) (d : DialectMeaning) where
  pub level_at : (t : Tree S W) (kind : Kind S W) → t ≡ roll-Tree S W kind → text d t ≡ written_kind d (text d) sheet word kind
  level_at t kind e = ap (text d) e ∙ levels.level d kind

  -- a level that is written in one, two or three steps
  pub one_step : {T E : Type 0} (r : Result T E) (new old a : List ℕ) (t : Tree S W) (kind : Kind S W) → t ≡ roll-Tree S W kind → a ≡ written_kind d (text d) sheet word kind → OnOk r (new ≡ old ++ a) → OnOk r (new ≡ old ++ text d t)
  one_step r new old a t kind e q h = subst (λ k. OnOk r (new ≡ old ++ k)) (q ∙ sym (level_at t kind e)) h

  pub two_steps : {T E : Type 0} (r : Result T E) (new mid old a b : List ℕ) (t : Tree S W) (kind : Kind S W) → t ≡ roll-Tree S W kind → mid ≡ old ++ a → a ++ b ≡ written_kind d (text d) sheet word kind → OnOk r (new ≡ mid ++ b) → OnOk r (new ≡ old ++ text d t)
  two_steps r new mid old a b t kind e p q h =
      one_step r new old (a ++ b) t kind e q (subst (λ k. OnOk r (new ≡ k)) (ap (λ m. m ++ b) p ∙ append_assoc old a b) h)

  pub three_steps : {T E : Type 0} (r : Result T E) (new later mid old a b c : List ℕ) (t : Tree S W) (kind : Kind S W) → t ≡ roll-Tree S W kind → mid ≡ old ++ a → later ≡ mid ++ b → (a ++ b) ++ c ≡ written_kind d (text d) sheet word kind → OnOk r (new ≡ later ++ c) → OnOk r (new ≡ old ++ text d t)
  three_steps r new later mid old a b c t kind e p m q h =
      two_steps r new later old (a ++ b) c t kind e (m ∙ ap (λ x. x ++ b) p ∙ append_assoc old a b) q h
