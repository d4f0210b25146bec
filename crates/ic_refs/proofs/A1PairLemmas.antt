-- Two of a kind with a colon between them.
use Rattle.std.proofs.Common.{◌≡◌, ℕ, ◌≤◌, List, [], ◌∷◌, ◌++◌, Bool, false, ◌==◌, length, Option, Some, None, option_map, option_and_then, refl, sym, ◌∙◌, ap, subst, arith, inl, inr, append_assoc, length-append}
use Rattle.std.proofs.lemmas.Bool.Decides.{eqb_tells}
use Rattle.ic_laws.specs.Scan.{first_is}
use Rattle.ic_refs.specs.A1.{past_colon, pair_at}
use Rattle.ic_refs.proofs.LongestLemmas.{IsTaken, Reads}
use Rattle.ic_laws.proofs.tokens.Splits.{mapped}
use Rattle.ic_laws.proofs.General.{chained}

pub same_found : {T : Type 0} (o : Option T) (x y : T) → o ≡ Some x → o ≡ Some y → x ≡ y
same_found o x y p q = cc

-- two with a colon between them
abbrev pub SpellsPair : {T : Type 0} → (List ℕ → T → Type 0) → List ℕ → T × T → Type 0
SpellsPair Spells text pair = (a : List ℕ) × (b : List ℕ) × (text ≡ a ++ 58 ∷ b) × Spells a pair.0 × Spells b pair.1

colon_past : (text rest : List ℕ) → past_colon text ≡ Some rest → text ≡ 58 ∷ rest
colon_past [] rest e = absurd (cc)
colon_past (c ∷ cs) rest e =
    elim (eqb_tells c 58) [
      | inl p ↦ let same = rw p.0 at e in ap (λ x. x ∷ cs) p.1 ∙ ap (λ v. 58 ∷ v) (cc)
      | inr p ↦ let none = rw p.0 at e in absurd (cc)
    ]

no_colon : (text : List ℕ) → first_is (λ c. c == 58) text ≡ false → past_colon text ≡ None
no_colon [] h = refl
no_colon (c ∷ cs) h = rw h refl

-- what was read of each
pub record PairParts {T : Type 0} (read : List ℕ → Option (T × List ℕ)) (text : List ℕ) (found : (T × T) × List ℕ) : Type 0 where
  pub first : T
  pub beyond : List ℕ
  pub last : T × List ℕ
  pub read_first : read text ≡ Some (first, 58 ∷ beyond)
  pub read_last : read beyond ≡ Some last
  pub pair : ((first, last.0), last.1) ≡ found

pub pair_parts : {T : Type 0} (read : List ℕ → Option (T × List ℕ)) (text : List ℕ) (found : (T × T) × List ℕ) → pair_at read text ≡ Some found → PairParts read text found
pair_parts {T} read text found e =
    let one = chained (λ (a : T × List ℕ). option_and_then (λ rest. option_map (λ (b : T × List ℕ). ((a.0, b.0), b.1)) (read rest)) (past_colon a.1)) (read text) found e in
    let two = chained (λ (rest : List ℕ). option_map (λ (b : T × List ℕ). ((one.0.0, b.0), b.1)) (read rest)) (past_colon one.0.1) found one.2 in
    let three = mapped (λ (b : T × List ℕ). ((one.0.0, b.0), b.1)) (read two.0) found two.2 in
    record {
      first = one.0.0;
      beyond = two.0;
      last = three.0;
      read_first = one.1 ∙ ap (λ (r : List ℕ). Some (one.0.0, r)) (colon_past one.0.1 two.0 two.1);
      read_last = three.1;
      pair = three.2;
    }

pair_read : {T : Type 0} (read : List ℕ → Option (T × List ℕ)) (text beyond : List ℕ) (v : T) (last : T × List ℕ) → read text ≡ Some (v, 58 ∷ beyond) → read beyond ≡ Some last
    → pair_at read text ≡ Some ((v, last.0), last.1)
pair_read {T} read text beyond v last p q =
    ap (λ o. option_and_then (λ (a : T × List ℕ). option_and_then (λ rest. option_map (λ (b : T × List ℕ). ((a.0, b.0), b.1)) (read rest)) (past_colon a.1)) o) p
    ∙ ap (option_map (λ (b : T × List ℕ). ((v, b.0), b.1))) q

-- there is no pair where there is none of its kind, and where no colon stands after the one
pub pair_none : {T : Type 0} (read : List ℕ → Option (T × List ℕ)) (text : List ℕ) → read text ≡ None → pair_at read text ≡ None
pair_none {T} read text p =
    ap (λ o. option_and_then (λ (a : T × List ℕ). option_and_then (λ rest. option_map (λ (b : T × List ℕ). ((a.0, b.0), b.1)) (read rest)) (past_colon a.1)) o) p

pub pair_alone : {T : Type 0} (read : List ℕ → Option (T × List ℕ)) (text : List ℕ) (found : T × List ℕ) → read text ≡ Some found → first_is (λ c. c == 58) found.1 ≡ false
    → pair_at read text ≡ None
pair_alone {T} read text found p n =
    ap (λ o. option_and_then (λ (a : T × List ℕ). option_and_then (λ rest. option_map (λ (b : T × List ℕ). ((a.0, b.0), b.1)) (read rest)) (past_colon a.1)) o) p
    ∙ ap (λ o. option_and_then (λ rest. option_map (λ (b : T × List ℕ). ((found.0, b.0), b.1)) (read rest)) o) (no_colon found.1 n)

-- what is left after a pair is less than what is left after its first
pub pair_longer : {T : Type 0} (Spells : List ℕ → T → Type 0) (read : List ℕ → Option (T × List ℕ)) (goes_on : ℕ → Bool) (r : Reads Spells read goes_on) (text : List ℕ) (found : (T × T) × List ℕ) (one : T × List ℕ)
    → pair_at read text ≡ Some found → read text ≡ Some one → length found.1 ≤ length one.1
pair_longer {T} Spells read goes_on r text found one e p =
    let parts = pair_parts read text found e in
    let t = r.spelled parts.beyond parts.last parts.read_last in
    let same : (parts.first, 58 ∷ parts.beyond) ≡ one = same_found (read text) (parts.first, 58 ∷ parts.beyond) one parts.read_first p in
    let left : length (58 ∷ parts.beyond) ≡ length one.1 = ap (λ (f : T × List ℕ). length f.1) same in
    let end : length parts.last.1 ≡ length found.1 = ap (λ (f : (T × T) × List ℕ). length f.1) parts.pair in
    omega (arith, left, end, ap length t.whole, length-append t.front parts.last.1)

pair_spelled : {T : Type 0} (Spells : List ℕ → T → Type 0) (read : List ℕ → Option (T × List ℕ)) (goes_on : ℕ → Bool) (r : Reads Spells read goes_on) (text : List ℕ) (found : (T × T) × List ℕ)
    → PairParts read text found → IsTaken (SpellsPair Spells) text found
pair_spelled {T} Spells read goes_on r text found parts =
    let a = r.spelled text (parts.first, 58 ∷ parts.beyond) parts.read_first in
    let b = r.spelled parts.beyond parts.last parts.read_last in
    let Wanted : (T × T) × List ℕ → Type 0 = λ f. IsTaken (SpellsPair Spells) text f in
    subst Wanted parts.pair (record {
      front = a.front ++ 58 ∷ b.front;
      whole = a.whole ∙ ap (λ v. a.front ++ 58 ∷ v) b.whole ∙ sym (append_assoc a.front (58 ∷ b.front) parts.last.1);
      spelled = (a.front, b.front, refl, a.spelled, b.spelled);
    })

pub pair_reads : {T : Type 0} (Spells : List ℕ → T → Type 0) (read : List ℕ → Option (T × List ℕ)) (goes_on : ℕ → Bool) → Reads Spells read goes_on → goes_on 58 ≡ false
    → Reads (SpellsPair Spells) (pair_at read) goes_on
pair_reads {T} Spells read goes_on r stops = record {
  spelled = λ text found e. pair_spelled Spells read goes_on r text found (pair_parts read text found e);
  longest = λ front rest v s.
      let more = r.longest s.1 rest v.1 s.4 in (
        ((v.0, more.0.0), more.0.1),
        ap (λ t. pair_at read (t ++ rest)) s.2 ∙ ap (pair_at read) (append_assoc s.0 (58 ∷ s.1) rest)
            ∙ pair_read read (s.0 ++ 58 ∷ (s.1 ++ rest)) (s.1 ++ rest) v.0 more.0 (r.exact s.0 (58 ∷ (s.1 ++ rest)) v.0 s.3 stops) more.1,
        more.2,
      );
  exact = λ front rest v s ends.
      ap (λ t. pair_at read (t ++ rest)) s.2 ∙ ap (pair_at read) (append_assoc s.0 (58 ∷ s.1) rest)
      ∙ pair_read read (s.0 ++ 58 ∷ (s.1 ++ rest)) (s.1 ++ rest) v.0 (v.1, rest) (r.exact s.0 (58 ∷ (s.1 ++ rest)) v.0 s.3 stops) (r.exact s.1 rest v.1 s.4 ends);
}
