-- Reads after the bytes that are there.
use Rattle.std.proofs.Common.{◌≡◌, ℕ, ◌+◌, ◌≤◌, List, ◌++◌, length, take, drop, Option, sym, ◌∙◌, ap, append_assoc}
use Rattle.std.proofs.Math.Seq.{take-add}
use Rattle.std.proofs.lemmas.List.{drop_at, take-append-drop, take-append-le, take-take, take_at}
use Rattle.ic_lines.specs.Bytes.{IfTold, TakesFront}
use Rattle.ic_lines.specs.Reading.{TakesAfter}
use Rattle.ic_lines.proofs.ToldLemmas.{IfTold-weaker}

-- what was there, and a front of what was put after it
pub take_after : (front buffer post rest : List ℕ) (held taken len : ℕ) → length front ≡ held → taken ≤ length buffer → held + taken ≤ len
    → take (held + taken) (take len ((front ++ (buffer ++ post)) ++ rest)) ≡ front ++ take taken buffer
take_after front buffer post rest held taken len is_held within fits =
    let all : List ℕ = buffer ++ (post ++ rest) in
    let e : (front ++ (buffer ++ post)) ++ rest ≡ front ++ all = append_assoc front (buffer ++ post) rest ∙ ap (λ v. front ++ v) (append_assoc buffer post rest) in
    take-take (held + taken) len ((front ++ (buffer ++ post)) ++ rest) fits ∙ ap (take (held + taken)) e ∙ take-add held taken (front ++ all)
    ∙ ap (λ v. v ++ take taken (drop held (front ++ all))) (take_at front all held is_held)
    ∙ ap (λ v. front ++ take taken v) (drop_at front all held is_held)
    ∙ ap (λ v. front ++ v) (take-append-le taken buffer (post ++ rest) within)

-- a read put a front of the buffer after what was there
pub TakesAfter-from_buffer : (old new buffer : List ℕ) (taken held : ℕ) (before now : Option (List ℕ)) → length old ≡ held → new ≡ old ++ take taken buffer → IfTold before now (TakesFront taken buffer) → TakesAfter (drop held new) old new before now
TakesAfter-from_buffer old new buffer taken held before now is_held e moved =
    let got : drop held new ≡ take taken buffer = ap (drop held) e ∙ drop_at old (take taken buffer) held is_held in
    record {
      held = e ∙ ap (λ v. old ++ v) (sym got);
      told = IfTold-weaker before now (TakesFront taken buffer) (λ x y. x ≡ drop held new ++ y)
          (λ x y t. sym (take-append-drop taken x) ∙ ap (λ v. v ++ drop taken x) (sym (got ∙ t.moved)) ∙ ap (λ v. drop held new ++ v) (sym t.rest)) moved;
    }
