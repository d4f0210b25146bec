-- A text between quotes is read piece by piece: what stands before a quote, and what after it.
use Rattle.std.proofs.Common.{◌≡◌, ℕ, List, [], ◌∷◌, ◌++◌, true, false, ◌==◌, Option, Some, None, option_map, refl, sym, ◌∙◌, ap, arith, append_assoc, append-nil}
use Rattle.std.specs.List.{list_all}
use Rattle.std.proofs.lemmas.Bool.{and_parts}
use Rattle.ic_laws.specs.Character.{double_quote}
use Rattle.ic_laws.specs.Scan.{first_is, past_run, run_of}
use Rattle.ic_laws.specs.TokenKinds.{closed, onto}
use Rattle.ic_tree.specs.Lexing.{is_inside}
use Rattle.ic_laws.proofs.RunLemmas.{run_and_rest}
use Rattle.ic_laws.proofs.tokens.Characters.{all_of_run}
use Rattle.ic_laws.proofs.tokens.NameReaders.{past_stops}

not_inside : (c : ℕ) → is_inside c ≡ false → c ≡ double_quote
not_inside c h = grind arith

-- what stands after the characters before a quote begins with it
pub quote_first : (text after : List ℕ) (c : ℕ) → c ∷ after ≡ past_run is_inside text → c ≡ double_quote
quote_first text after c e = not_inside c (ap (first_is is_inside) e ∙ past_stops is_inside text)

-- the pieces
abbrev pub onto_all : List ℕ → Option (List ℕ × List ℕ) → Option (List ℕ × List ℕ)
onto_all piece found = option_map (λ f. (piece ++ f.0, f.1)) found

pub onto_nothing : (found : Option (List ℕ × List ℕ)) → onto_all [] found ≡ found
onto_nothing None = refl
onto_nothing (Some f) = refl

onto_first : (c : ℕ) (piece : List ℕ) (found : Option (List ℕ × List ℕ)) → onto c (onto_all piece found) ≡ onto_all (c ∷ piece) found
onto_first c piece None = refl
onto_first c piece (Some f) = refl

pub onto_both : (a b : List ℕ) (found : Option (List ℕ × List ℕ)) → onto_all a (onto_all b found) ≡ onto_all (a ++ b) found
onto_both a b None = refl
onto_both a b (Some f) = ap (λ x. Some (x, f.1)) (sym (append_assoc a b f.0))

inside_goes_on : (c : ℕ) (cs : List ℕ) → is_inside c ≡ true → closed false (c ∷ cs) ≡ onto c (closed false cs)
inside_goes_on c cs h = let no : (c == 34) ≡ false = grind arith in rw no refl

pub piece_closed : (piece after : List ℕ) → list_all is_inside piece ≡ true → closed false (piece ++ double_quote ∷ after) ≡ onto_all piece (closed true after)
piece_closed [] after h = sym (onto_nothing (closed true after))
piece_closed (c ∷ cs) after h =
    let parts = and_parts (is_inside c) (list_all is_inside cs) h in
    inside_goes_on c (cs ++ double_quote ∷ after) parts.0 ∙ ap (onto c) (piece_closed cs after parts.1) ∙ onto_first c cs (closed true after)

pub never_closed : (text : List ℕ) → list_all is_inside text ≡ true → closed false text ≡ None
never_closed [] h = refl
never_closed (c ∷ cs) h =
    let parts = and_parts (is_inside c) (list_all is_inside cs) h in
    inside_goes_on c cs parts.0 ∙ ap (onto c) (never_closed cs parts.1)

-- a doubled quote goes on, and another character ends the text
pub doubled_on : (more : List ℕ) → closed true (double_quote ∷ more) ≡ onto_all (double_quote ∷ []) (closed false more)
doubled_on more = by (closed false more)
  where
    by : (o : Option (List ℕ × List ℕ)) → onto double_quote o ≡ onto_all (double_quote ∷ []) o
    by None = refl
    by (Some f) = refl

pub all_inside : (text : List ℕ) → past_run is_inside text ≡ [] → list_all is_inside text ≡ true
all_inside text e =
    let whole : text ≡ run_of is_inside text = run_and_rest is_inside text ∙ ap (λ r. run_of is_inside text ++ r) e ∙ append-nil (run_of is_inside text) in
    ap (list_all is_inside) whole ∙ all_of_run is_inside text

-- A piece before a quote that is doubled goes on; before the last quote it ends the text.
pub goes_on_kept : (kept piece with_piece with_quote rest after more : List ℕ) → rest ≡ piece ++ double_quote ∷ after → list_all is_inside piece ≡ true → after ≡ double_quote ∷ more
    → with_piece ≡ kept ++ piece → with_quote ≡ with_piece ++ double_quote ∷ [] → onto_all with_quote (closed false more) ≡ onto_all kept (closed false rest)
goes_on_kept kept piece with_piece with_quote rest after more is_rest inside is_after p q =
    ap (λ k. onto_all k (closed false more)) (q ∙ ap (λ k. k ++ double_quote ∷ []) p ∙ append_assoc kept piece (double_quote ∷ []))
    ∙ sym (onto_both kept (piece ++ double_quote ∷ []) (closed false more)) ∙ ap (onto_all kept) (sym (onto_both piece (double_quote ∷ []) (closed false more)))
    ∙ ap (λ o. onto_all kept (onto_all piece o)) (sym (doubled_on more)) ∙ ap (λ a. onto_all kept (onto_all piece (closed true a))) (sym is_after)
    ∙ ap (onto_all kept) (sym (ap (closed false) is_rest ∙ piece_closed piece after inside))

pub ends_kept : (kept piece with_piece rest after : List ℕ) → rest ≡ piece ++ double_quote ∷ after → list_all is_inside piece ≡ true → closed true after ≡ Some ([], after) → with_piece ≡ kept ++ piece
    → Some (with_piece, after) ≡ onto_all kept (closed false rest)
ends_kept kept piece with_piece rest after is_rest inside ends p =
    ap (λ k. Some (k, after)) (p ∙ ap (λ k. kept ++ k) (sym (append-nil piece))) ∙ ap (λ o. onto_all kept (onto_all piece o)) (sym ends)
    ∙ ap (onto_all kept) (sym (ap (closed false) is_rest ∙ piece_closed piece after inside))
