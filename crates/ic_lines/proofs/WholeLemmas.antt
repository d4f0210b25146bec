-- What is read of a whole source: its bytes, its lines, and what an error leaves.
use Rattle.std.proofs.Common.{◌≡◌, ℕ, ◌+◌, ◌≤◌, List, [], ◌∷◌, ◌++◌, length, true, false, Option, Some, None, Result, Ok, Err, OnErr, sym, subst, ◌∙◌, ap, inl, inr, arith, append_assoc, append-nil, if◌then◌else◌}
use Rattle.std.proofs.lemmas.Bool.{cases_Bool}
use Rattle.ic_laws.specs.Lines.{texts_of}
use Rattle.ic_lines.specs.Bytes.{IfTold, TakesFirst}
use Rattle.ic_lines.specs.Reading.{GivesLine, Reading, TakesLine, unread}
use Rattle.ic_lines.proofs.ToldLemmas.{IfTold-both, IfTold-join, IfTold-weaker}

-- a reader that holds no byte and saw nothing yet
abbrev pub fresh : Reading
fresh = record { held = []; ended = false; turns = 0 }

-- what is still to come after the end is what is held
unread_at_end : (r : Reading) (left : List ℕ) → r.ended ≡ true → unread r left ≡ r.held
unread_at_end r left ended = ap (λ e. r.held ++ (if e then [] else left)) ended ∙ append-nil r.held

-- what holds anyway
pub given_if_err : {T E : Type 0} (r : Result T E) (P : Type 0) → P → OnErr r P
given_if_err (Ok x) P p = tt
given_if_err (Err e) P p = p

-- What a new reader took ----

module _ (old new : Reading) (a b : Option (List ℕ)) (is_fresh : old ≡ fresh) (kept : IfTold a b (λ before now. unread new now ≡ unread old before)) where
  pub held_all : (bytes : List ℕ) → bytes ≡ new.held → new.ended ≡ true → IfTold a b (λ before now. new.ended ≡ true → now ≡ []) → IfTold a b (λ before now. (bytes ≡ before) × (now ≡ []))
  held_all bytes is ended ends =
      IfTold-both a b (λ x y. unread new y ≡ unread old x) (λ x y. new.ended ≡ true → y ≡ []) (λ x y. (bytes ≡ x) × (y ≡ []))
      (λ x y p q. (is ∙ sym (unread_at_end new y ended) ∙ p ∙ ap (λ r. unread r x) is_fresh, q ended)) kept ends

-- Lines so far ----

-- the bytes taken in a call come after those that were taken before
pub front_more : (old new : Reading) (a b c : Option (List ℕ)) → IfTold a b TakesFirst → TakesLine old new b c → IfTold a c TakesFirst
front_more old new a b c h t =
    let got : List ℕ = t.front ++ t.last in
    IfTold-join a b c TakesFirst (λ y z. y ≡ got ++ z) TakesFirst
    (λ x y z p q. (p.0 ++ got, p.1 ∙ ap (λ v. p.0 ++ v) q ∙ sym (append_assoc p.0 got z))) h t.taken.told

-- a line more
pub given_more : (lines more : List (List ℕ)) (line : List ℕ) (old new : Reading) (a b c : Option (List ℕ)) → more ≡ lines ++ line ∷ []
    → IfTold a b (λ x y. texts_of x ≡ lines ++ texts_of (unread old y)) → IfTold b c (λ y z. GivesLine (Some line) (unread old y) (unread new z))
    → IfTold a c (λ x z. texts_of x ≡ more ++ texts_of (unread new z))
given_more lines more line old new a b c is h k =
    IfTold-join a b c (λ x y. texts_of x ≡ lines ++ texts_of (unread old y)) (λ y z. texts_of (unread old y) ≡ line ∷ texts_of (unread new z)) (λ x z. texts_of x ≡ more ++ texts_of (unread new z))
    (λ x y z p q.
    p ∙ ap (λ v. lines ++ v) q ∙ sym (append_assoc lines (line ∷ []) (texts_of (unread new z)))
    ∙ ap (λ v. v ++ texts_of (unread new z)) (sym is)) h k

-- no line more
pub given_all : (lines : List (List ℕ)) (old new : Reading) (a b c : Option (List ℕ)) → new.ended ≡ true
    → IfTold a b (λ x y. texts_of x ≡ lines ++ texts_of (unread old y)) → IfTold b c (λ y z. GivesLine None (unread old y) (unread new z)) → IfTold a c (λ x z. new.ended ≡ true → z ≡ [])
    → IfTold a c (λ x z. (lines ≡ texts_of x) × (z ≡ []))
given_all lines old new a b c ended h k ends =
    let given : IfTold a c (λ x z. lines ≡ texts_of x) =
    IfTold-join a b c (λ x y. texts_of x ≡ lines ++ texts_of (unread old y)) (λ y z. (unread old y ≡ []) × (unread new z ≡ [])) (λ x z. lines ≡ texts_of x)
    (λ x y z p q. sym (p ∙ ap (λ v. lines ++ texts_of v) q.0 ∙ append-nil lines)) h k in
    IfTold-both a c (λ x z. lines ≡ texts_of x) (λ x z. new.ended ≡ true → z ≡ []) (λ x z. (lines ≡ texts_of x) × (z ≡ [])) (λ x z p q. (p, q ended)) given ends

-- The end was seen with nothing left, before a call or in it. A source that wasn't asked is as it was.
pub ends_more : {S : Type 0} (left : S → Option (List ℕ)) (first mid last : S) (old new : Reading) → IfTold (left first) (left mid) (λ x y. old.ended ≡ true → y ≡ [])
    → (old.ended ≡ false → IfTold (left mid) (left last) (λ y z. new.ended ≡ true → z ≡ [])) → (old.ended ≡ true → last ≡ mid) → IfTold (left first) (left last) (λ x z. new.ended ≡ true → z ≡ [])
ends_more left first mid last old new h ends same =
    elim (cases_Bool old.ended) [
      | inl is ↦ subst (λ s. IfTold (left first) (left s) (λ x z. new.ended ≡ true → z ≡ [])) (sym (same is))
          (IfTold-weaker (left first) (left mid) (λ x y. old.ended ≡ true → y ≡ []) (λ x y. new.ended ≡ true → y ≡ []) (λ x y p ended. p is) h)
      | inr still ↦ IfTold-join (left first) (left mid) (left last) (λ x y. old.ended ≡ true → y ≡ []) (λ y z. new.ended ≡ true → z ≡ []) (λ x z. new.ended ≡ true → z ≡ [])
          (λ x y z p q. q) h (ends still)
    ]

pub turns_more : (old new : ℕ) (a b c : Option (List ℕ)) → IfTold a b (λ x y. old + length y ≤ length x) → IfTold b c (λ y z. new + length z ≤ old + length y) → IfTold a c (λ x z. new + length z ≤ length x)
turns_more old new a b c h k =
    IfTold-join a b c (λ x y. old + length y ≤ length x) (λ y z. new + length z ≤ old + length y) (λ x z. new + length z ≤ length x) (λ x y z p q. omega (arith, p, q)) h k
