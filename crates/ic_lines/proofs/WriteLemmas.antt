-- A loop that writes what is left of its bytes, a front at a time.
use Rattle.std.proofs.Common.{◌≡◌, ℕ, ◌+◌, ◌-◌, ◌≤◌, List, ◌++◌, length, take, drop, Option, sym, ◌∙◌, ap, arith, append_assoc, length-drop}
use Rattle.std.proofs.Math.Seq.{take-add}
use Rattle.std.proofs.lemmas.List.{drop-drop}
use Rattle.ic_lines.specs.Bytes.{IfTold}
use Rattle.ic_lines.proofs.ToldLemmas.{IfTold-join}

-- More is what is left after a front of the rest, which is what is left of the bytes.
module _ (bytes rest more : List ℕ) (taken : ℕ) (within : length rest ≤ length bytes) (is_rest : rest ≡ drop (length bytes - length rest) bytes) (fits : taken ≤ length rest) (is_more : more ≡ drop taken rest) where
  more_length : length more ≡ length rest - taken
  more_length = ap length is_more ∙ length-drop taken rest

  more_place : length bytes - length more ≡ length bytes - length rest + taken
  more_place = omega (arith, more_length)

  pub more_within : length more ≤ length bytes
  more_within = omega (arith, more_length)

  pub more_rest : more ≡ drop (length bytes - length more) bytes
  more_rest = is_more ∙ ap (drop taken) is_rest ∙ drop-drop taken (length bytes - length rest) bytes ∙ ap (λ n. drop n bytes) (sym more_place)

  more_front : take (length bytes - length rest) bytes ++ take taken rest ≡ take (length bytes - length more) bytes
  more_front =
      ap (λ r. take (length bytes - length rest) bytes ++ take taken r) is_rest
      ∙ sym (take-add (length bytes - length rest) taken bytes) ∙ ap (λ n. take n bytes) (sym more_place)

  pub more_written : (a b c : Option (List ℕ)) → IfTold a b (λ old new. new ≡ old ++ take (length bytes - length rest) bytes) → IfTold b c (λ old new. new ≡ old ++ take taken rest)
      → IfTold a c (λ old new. new ≡ old ++ take (length bytes - length more) bytes)
  more_written a b c h k =
      IfTold-join a b c (λ old new. new ≡ old ++ take (length bytes - length rest) bytes) (λ old new. new ≡ old ++ take taken rest) (λ old new. new ≡ old ++ take (length bytes - length more) bytes)
      (λ x y z p q. q ∙ ap (λ v. v ++ take taken rest) p ∙ append_assoc x (take (length bytes - length rest) bytes) (take taken rest) ∙ ap (λ v. x ++ v) more_front) h k
