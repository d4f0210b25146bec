-- Names between quotes, and where they end.
use Rattle.std.proofs.Common.{◌≡◌, ◌≢◌, ℕ, List, [], ◌∷◌, ◌++◌, false, ◌==◌, Some, None, refl, sym, ◌∙◌, ap}
use Rattle.std.proofs.lemmas.Bool.{ne_eqb}
use Rattle.std.proofs.lemmas.List.{append_cancel_right}
use Rattle.ic_laws.specs.Scan.{first_is}
use Rattle.ic_laws.specs.SheetText.{name_in_quotes, onto_text}
use Rattle.ic_refs.specs.Written.{ClosesAt, undoubled}
use Rattle.ic_laws.proofs.tokens.SheetTexts.{closed_here, quoted_step}

pub undoubled_step : (c : ℕ) (cs : List ℕ) → (c == 39) ≡ false → undoubled (c ∷ cs) ≡ c ∷ undoubled cs
undoubled_step c [] h = refl
undoubled_step c (d ∷ cs) h = rw h refl

-- what closes a name closes it after a character too
pub closes_plain : (left more closing : List ℕ) (c : ℕ) → left ≡ c ∷ more → c ≢ 39 → ClosesAt more closing → ClosesAt left closing
closes_plain left more closing c e n h =
    let f : (c == 39) ≡ false = ne_eqb c 39 n in
    record {
      inside = c ∷ h.inside;
      rest = h.rest;
      whole = e ∙ ap (λ t. c ∷ t) h.whole;
      quote = h.quote;
      read = ap name_in_quotes e ∙ quoted_step c more f ∙ ap (onto_text c) h.read ∙ ap (λ i. Some (i, h.rest)) (sym (undoubled_step c h.inside f));
    }

pub none_plain : (left more : List ℕ) (c : ℕ) → left ≡ c ∷ more → c ≢ 39 → name_in_quotes more ≡ None → name_in_quotes left ≡ None
none_plain left more c e n h = ap name_in_quotes e ∙ quoted_step c more (ne_eqb c 39 n) ∙ ap (onto_text c) h

-- and after a quote that is doubled
two_quotes : (left more beyond : List ℕ) → left ≡ 39 ∷ more → more ≡ 39 ∷ beyond → left ≡ 39 ∷ 39 ∷ beyond
two_quotes left more beyond e f = e ∙ ap (λ t. 39 ∷ t) f

pub closes_doubled : (left more beyond closing : List ℕ) → left ≡ 39 ∷ more → more ≡ 39 ∷ beyond → ClosesAt beyond closing → ClosesAt left closing
closes_doubled left more beyond closing e f h = record {
  inside = 39 ∷ 39 ∷ h.inside;
  rest = h.rest;
  whole = two_quotes left more beyond e f ∙ ap (λ t. 39 ∷ 39 ∷ t) h.whole;
  quote = h.quote;
  read = ap name_in_quotes (two_quotes left more beyond e f) ∙ ap (onto_text 39) h.read;
}

pub none_doubled : (left more beyond : List ℕ) → left ≡ 39 ∷ more → more ≡ 39 ∷ beyond → name_in_quotes beyond ≡ None → name_in_quotes left ≡ None
none_doubled left more beyond e f h = ap name_in_quotes (two_quotes left more beyond e f) ∙ ap (onto_text 39) h

-- a quote with no other after it closes the name
pub closes_here : (left more : List ℕ) → left ≡ 39 ∷ more → first_is (λ c. c == 39) more ≡ false → ClosesAt left left
closes_here left more e h = record { inside = []; rest = more; whole = refl; quote = e; read = ap name_in_quotes e ∙ closed_here more h }

-- what stands before the quote that closes a name is the name, each quote doubled
pub read_closed : (text inside closing rest : List ℕ) (q : ℕ) → ClosesAt text closing → closing ≡ q ∷ rest → text ≡ inside ++ closing → Some (undoubled inside, rest) ≡ name_in_quotes text
read_closed text inside closing rest q h e w =
    let i : inside ≡ h.inside = append_cancel_right inside h.inside closing (sym w ∙ h.whole) in
    let p : q ∷ rest ≡ 39 ∷ h.rest = sym e ∙ h.quote in
    let r : rest ≡ h.rest = cc in
    ap (λ i. Some (undoubled i, rest)) i ∙ ap (λ r. Some (undoubled h.inside, r)) r ∙ sym h.read
