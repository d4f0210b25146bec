-- Reads of one record after another, and the records of all bytes.
use Rattle.std.proofs.Common.{◌≡◌, ◌⊎◌, inl, inr, ◌<◌, ◌≤◌, ◌+◌, ◌++◌, ℕ, suc, zero, List, [], ◌∷◌, Bool, true, false, Option, Some, None, cond, length, refl, sym, ap, ◌∙◌, arith, add-one}
use Rattle.std.specs.Prelude.{IsSome}
use Rattle.std.proofs.lemmas.Bool.{cases_Bool as either}
use Rattle.csv.specs.Machine.{Read, ends_at_end, field_after, fields_after, is_end, next_record, step}
use Rattle.csv.specs.Reading.{NextIs, ReadRecord, ReadsNext, Ready, has_failed, is_bom, pending_of, reader_trim, records_from, records_next, source_of, strip_bom}
use Rattle.csv.specs.declared.parser.Config.{Config}
use Rattle.csv.specs.declared.parser.State.{State}
use Rattle.csv.specs.declared.parser.State.TheVariants as st
use Rattle.csv.specs.declared.reader.Reader.{Reader}
use Rattle.csv.specs.declared.reader.Trim.TheVariants as trim
use Rattle.ic_import.specs.Reader.{IsReadable, left_of, records_known}
use Rattle.ic_import.specs.Records.{TakesRecord}

-- there are no more records than were asked for
few_records : (config : Config) (n : ℕ) (s : State) (xs : List ℕ) → length (records_from config n s xs) ≤ n
unfolding records_from
few_records config zero s xs = omega arith
few_records config (suc n) s xs = few (few_records config n) (next_record config s [] [] xs)
  where
    few : ((s : State) (xs : List ℕ) → length (records_from config n s xs) ≤ n) → (o : Option Read) → length (records_next (records_from config n) o) ≤ suc n
    few more None = omega arith
    few more (Some p) = omega (arith, more p.1 p.2)

-- a read takes a byte, or there was none left and none is left
abbrev Shorter : List ℕ → Read → Type 0
Shorter xs p = (length p.2 < length xs) ⊎ ((xs ≡ []) × (p.1 ≡ st.StartRecord) × (p.2 ≡ []))

longer : (c : ℕ) (rest : List ℕ) (p : Read) → Shorter rest p → Shorter (c ∷ rest) p
longer c rest p (inl h) = inl (omega arith)
longer c rest p (inr h) = let none : length p.2 ≡ 0 = ap length h.2 in inl (omega arith)

shorter : (config : Config) (s : State) (fields : List (List ℕ)) (field xs : List ℕ) (p : Read) → next_record config s fields field xs ≡ Some p → Shorter xs p
unfolding next_record
shorter config s fields field [] p e = at_end (ends_at_end s) e
  where
    at_end : (b : Bool) → (let o : Option Read = cond b (Some (fields ++ (field ∷ []), st.StartRecord, [])) None in o ≡ Some p) → Shorter [] p
    at_end true e =
        let q : Read = (fields ++ (field ∷ []), st.StartRecord, []) in
        let same : q ≡ p = cc in
        inr (refl, sym (ap (λ (r : Read). r.1) same), sym (ap (λ (r : Read). r.2) same))
    at_end false e = cc
shorter config s fields field (c ∷ rest) p e =
    at_byte (is_end (step config s c).1) e (shorter config (step config s c).0 (fields_after (step config s c).1 fields field) (field_after (step config s c).1 c field) rest p)
  where
    at_byte : (b : Bool)
        → (let o : Option Read = cond b (Some (fields_after (step config s c).1 fields field, (step config s c).0, rest)) (next_record config (step config s c).0 (fields_after (step config s c).1 fields field) (field_after (step config s c).1 c field) rest) in o ≡ Some p)
        → (next_record config (step config s c).0 (fields_after (step config s c).1 fields field) (field_after (step config s c).1 c field) rest ≡ Some p → Shorter rest p)
        → Shorter (c ∷ rest) p
    at_byte true e more =
        let q : Read = (fields_after (step config s c).1 fields field, (step config s c).0, rest) in
        let same : q ≡ p = cc in
        let left : length rest ≡ length p.2 = ap (λ (r : Read). length r.2) same in
        inl (omega arith)
    at_byte false e more = longer c rest p (more e)

-- at the end there is no record, however many are asked for
none_left : (config : Config) (n : ℕ) → records_from config n st.StartRecord [] ≡ []
unfolding records_from next_record
none_left config zero = refl
none_left config (suc n) = refl

abbrev Same : Config → ℕ → ℕ → Type 0
Same config n m = (s : State) (xs : List ℕ) → length xs < n → length xs < m → records_from config n s xs ≡ records_from config m s xs

-- asked for more than there are bytes, there are the same records
enough : (config : Config) (n m : ℕ) (s : State) (xs : List ℕ) → length xs < n → length xs < m → records_from config n s xs ≡ records_from config m s xs
unfolding records_from
enough config zero m s xs h k = absurd (omega arith)
enough config (suc n) zero s xs h k = absurd (omega arith)
enough config (suc n) (suc m) s xs h k = next (enough config n m) (next_record config s [] [] xs) refl
  where
    after : Same config n m → (p : Read) → Shorter xs p → records_from config n p.1 p.2 ≡ records_from config m p.1 p.2
    after more p (inl l) = more p.1 p.2 (omega arith) (omega arith)
    after more p (inr e) = rw (e.1, e.2) (none_left config n ∙ sym (none_left config m))

    next : Same config n m → (o : Option Read) → next_record config s [] [] xs ≡ o → records_next (records_from config n) o ≡ records_next (records_from config m) o
    next more None e = refl
    next more (Some p) e = ap (λ (r : List (List (List ℕ))). p.0 ∷ r) (after more p (shorter config s [] [] xs p e))

-- what a read shows is the next of the records that are left
takes_next : (config : Config) (s : State) (xs : List ℕ) (o : Option Read) → next_record config s [] [] xs ≡ o → (found : Bool) (fields : List (List ℕ)) (s2 : State) (ys : List ℕ) → NextIs o found fields s2 ys
    → TakesRecord found (records_next (records_from config (length xs)) o) (records_from config (length ys + 1) s2 ys) fields
takes_next config s xs None is true fields s2 ys h = cc h
takes_next config s xs None is false fields s2 ys h = refl
takes_next config s xs (Some p) is false fields s2 ys h = cc h.0
takes_next config s xs (Some p) is true fields s2 ys h =
    rw (h.1, h.2, h.3) (ap (λ (r : List (List (List ℕ))). p.0 ∷ r) (left (shorter config s [] [] xs p is)))
  where
    left : Shorter xs p → records_from config (length xs) p.1 p.2 ≡ records_from config (length p.2 + 1) p.1 p.2
    left (inl l) = enough config (length xs) (length p.2 + 1) p.1 p.2 (omega arith) (omega arith)
    left (inr e) = rw (e.1, e.2) (none_left config (length xs) ∙ sym (none_left config 1))

takes_known : (config : Config) (s : State) (o after : Option (List ℕ)) (found : Bool) (fields : List (List ℕ)) (s2 : State) → IsSome o → ReadsNext config s o after found fields s2
    → TakesRecord found (records_known config s o) (records_known config s2 after) fields
unfolding records_from
takes_known config s None after found fields s2 some h = cc some
takes_known config s (Some xs) None found fields s2 some h = absurd h
takes_known config s (Some xs) (Some ys) found fields s2 some h = rw add-one (takes_next config s xs (next_record config s [] [] xs) refl found fields s2 ys h)

-- what is left of a reader that has read is what is pending
source_pending : {R : Type 0} (bytes : R → Option (List ℕ)) (b : Reader R) → b.bom_checked ≡ true → source_of bytes b ≡ pending_of (bytes b.rdr) b
source_pending bytes b checked = rw checked refl

-- a read takes the next record of a readable reader
pub takes : {R : Type 0} (bytes : R → Option (List ℕ)) (a b : Reader R) (found : Bool) (fields : List (List ℕ)) → IsReadable bytes a
    → (has_failed a ≡ true → found ≡ false) → (reader_trim a ≡ trim.None → Ready a → ReadRecord bytes a b found fields)
    → TakesRecord found (left_of bytes a) (left_of bytes b) fields
takes bytes a b found fields readable failed reads = elim (either (has_failed a)) [
  | inl is ↦ rw (failed is, is) refl
  | inr is ↦
      let can = readable is in
      let read = reads can.0 can.1 in
      let next : TakesRecord found (left_of bytes a) (records_known a.config b.state (pending_of (bytes b.rdr) b)) fields = takes_known a.config a.state (source_of bytes a) (pending_of (bytes b.rdr) b) found fields b.state can.3 read.0 in
      rw (read.2, source_pending bytes b read.1) next
]

-- there are no more records of bytes than bytes and one
unmarked : (a b c : ℕ) (rest : List ℕ) → length (cond (is_bom a b c) rest (a ∷ b ∷ c ∷ rest)) ≤ length (a ∷ b ∷ c ∷ rest)
unmarked a b c rest = at (is_bom a b c)
  where
    at : (t : Bool) → length (cond t rest (a ∷ b ∷ c ∷ rest)) ≤ length (a ∷ b ∷ c ∷ rest)
    at true = omega arith
    at false = omega arith

bytes_only : (bytes : List ℕ) → length (strip_bom bytes) ≤ length bytes
unfolding strip_bom
bytes_only [] = omega arith
bytes_only (a ∷ []) = omega arith
bytes_only (a ∷ b ∷ []) = omega arith
bytes_only (a ∷ b ∷ c ∷ rest) = unmarked a b c rest

pub few_known : (config : Config) (s : State) (o : Option (List ℕ)) (bytes : List ℕ) → o ≡ Some (strip_bom bytes) → length (records_known config s o) ≤ length bytes + 1
few_known config s o bytes e = rw e (omega (arith, few_records config (length (strip_bom bytes) + 1) s (strip_bom bytes), bytes_only bytes))
