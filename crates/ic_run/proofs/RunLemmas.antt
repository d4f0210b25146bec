-- The next of some lines, and what the result of a run tells.
use Rattle.std.proofs.Common.{◌≡◌, ℕ, ◌+◌, ◌<◌, List, [], ◌∷◌, ◌++◌, length, take, drop, ap, sym, ◌∙◌, arith, length-drop, Result, Ok, Err, Option, Some, IsSome, IfOk, IfErr, IsErrAnd, OnOk, subst, rules}
use Rattle.std.proofs.Math.Seq.{take-add}
use Rattle.std.proofs.lemmas.List.{drop-drop}
use Rattle.ic_lines.specs.Bytes.{IfTold}
use Rattle.ic_lines.specs.declared.error.RunError.{RunError}
use Rattle.ic_lines.specs.declared.error.RunError.TheVariants as errors
use Rattle.ic_lines.proofs.ToldLemmas.{IfTold-weaker}
use Rattle.ic_run.specs.Run.{Leaves}

-- the next of some lines
module _ {X : Type 0} (lines : List X) (count : ℕ) (line : X) (rest : List X) (next : drop count lines ≡ line ∷ rest) where
  pub next_within : count < length lines
  next_within = omega (arith, ap length next, length-drop count lines)

  pub next_taken : take (count + 1) lines ≡ take count lines ++ line ∷ []
  next_taken = take-add count 1 lines ∙ ap (λ v. take count lines ++ take 1 v) next

  pub next_rest : rest ≡ drop (count + 1) lines
  next_rest = sym (ap (drop 1) next) ∙ drop-drop 1 count lines

pub IfErr-given : (r : Result ℕ RunError) (e : RunError) (P : RunError → Type 0) → IsErrAnd r (λ x. x ≡ e) → P e → IfErr r P
IfErr-given (Ok x) e P is p = tt
IfErr-given (Err x) e P is p = subst P (sym is) p

pub IsSome-is : {T : Type 0} (o : Option T) (x : T) → o ≡ Some x → IsSome o
IsSome-is o x e = subst IsSome (sym e) (search rules)

-- what is so of what an error leaves
pub leaves_weaker : (P Q R S : ℕ → Type 0) (e : RunError) (bytes left : List ℕ) → ((n : ℕ) → P n → R n) → ((n : ℕ) → Q n → S n) → Leaves P Q e bytes left → Leaves R S e bytes left
leaves_weaker P Q R S errors.ReadFault bytes left p q h = (h.0, h.1, p h.0 h.2)
leaves_weaker P Q R S errors.TooManyTurns bytes left p q h = (h.0, h.1, p h.0 h.2)
leaves_weaker P Q R S errors.OutOfMemory bytes left p q h = (h.0, h.1, p h.0 h.2)
leaves_weaker P Q R S errors.WriteFault bytes left p q h = (h.0, h.1, q h.0 h.2)

-- what an Ok tells of the bytes, and what an error does
pub told_of_ok : (source left : Option (List ℕ)) (r : Result ℕ RunError) (P : ℕ → List ℕ → List ℕ → Type 0) (Q : List ℕ → List ℕ → Type 0) → ((n : ℕ) (x y : List ℕ) → P n x y → Q x y) → IfOk r (λ n. IfTold source left (P n)) → OnOk r (IfTold source left Q)
told_of_ok source left (Ok n) P Q f h = IfTold-weaker source left (P n) Q (f n) h
told_of_ok source left (Err e) P Q f h = tt

pub told_of_count : (source left : Option (List ℕ)) (r : Result ℕ RunError) (P Q : ℕ → List ℕ → List ℕ → Type 0) → ((n : ℕ) (x y : List ℕ) → P n x y → Q n x y) → IfOk r (λ n. IfTold source left (P n)) → IfOk r (λ n. IfTold source left (Q n))
told_of_count source left (Ok n) P Q f h = IfTold-weaker source left (P n) (Q n) (f n) h
told_of_count source left (Err e) P Q f h = tt

pub told_of_error : (source left : Option (List ℕ)) (r : Result ℕ RunError) (P Q : RunError → List ℕ → List ℕ → Type 0) → ((e : RunError) (x y : List ℕ) → P e x y → Q e x y) → IfErr r (λ e. IfTold source left (P e)) → IfErr r (λ e. IfTold source left (Q e))
told_of_error source left (Ok n) P Q f h = tt
told_of_error source left (Err e) P Q f h = IfTold-weaker source left (P e) (Q e) (f e) h
