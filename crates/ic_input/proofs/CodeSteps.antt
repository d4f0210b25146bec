-- A format code is taken apart from left to right.
use Rattle.std.proofs.Common.{◌≡◌, ℕ, List, true, false, Option, Some, None, chars, codes, ◌∙◌, ap}
use Rattle.ic_laws.specs.Scan.{past_run, run_of}
use Rattle.ic_laws.specs.Scene.{past_front}
use Rattle.ic_input.specs.Code.{is_no_hash, number_code, past_decimals, past_digits_code, supported}
use Rattle.ic_input.proofs.LiteralLemmas.{two_decimals, whole_digits}

-- from what stands before the first # on
from_hash : (text before rest : List ℕ) (digits : Option (List ℕ)) → rest ≡ past_run is_no_hash text → before ≡ run_of is_no_hash text → digits ≡ past_front (chars (codes "#,##0")) rest → past_digits_code before digits ≡ number_code text
unfolding number_code
from_hash text before rest digits r b d =
    ap (past_digits_code before) (d ∙ ap (λ f. past_front f rest) whole_digits ∙ ap (past_front (codes "#,##0")) r)
    ∙ ap (λ x. past_digits_code x (past_front (codes "#,##0") (past_run is_no_hash text))) b

pub no_digits : (text before rest : List ℕ) → rest ≡ past_run is_no_hash text → before ≡ run_of is_no_hash text → None ≡ past_front (chars (codes "#,##0")) rest → None ≡ number_code text
no_digits text before rest r b d = from_hash text before rest None r b d

pub with_decimals : (text before rest after end : List ℕ) → rest ≡ past_run is_no_hash text → before ≡ run_of is_no_hash text → Some after ≡ past_front (chars (codes "#,##0")) rest → Some end ≡ past_front (chars (codes ".00")) after → supported before true end ≡ number_code text
with_decimals text before rest after end r b d e =
    ap (past_decimals before after) (e ∙ ap (λ f. past_front f after) two_decimals) ∙ from_hash text before rest (Some after) r b d

pub without_decimals : (text before rest after : List ℕ) → rest ≡ past_run is_no_hash text → before ≡ run_of is_no_hash text → Some after ≡ past_front (chars (codes "#,##0")) rest → None ≡ past_front (chars (codes ".00")) after → supported before false after ≡ number_code text
without_decimals text before rest after r b d e =
    ap (past_decimals before after) (e ∙ ap (λ f. past_front f after) two_decimals) ∙ from_hash text before rest (Some after) r b d
