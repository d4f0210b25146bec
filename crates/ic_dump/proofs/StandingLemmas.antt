-- Sheets that are found by their ids as they are put at the end, and the ids that are listed once.
use Rattle.std.proofs.Common.{zero, not, Result, Ok, Err, OnOk, ◌≡◌, ℕ, suc, ◌+◌, ◌≤◌, ◌<◌, ◌||◌, List, [], ◌∷◌, ◌++◌, Bool, true, false, cond, eqb, nat_lt, Option, Some, None, drop, get_or, length, map, refl, sym, ap, ap₂, ◌∙◌, append_assoc, append-nil, length-append, inl, inr, arith}
use Rattle.std.proofs.lemmas.Bool.{cases_Bool}
use Rattle.std.proofs.lemmas.Bool.Decides.{nat_tests}
use Rattle.std.proofs.Math.Numerals.{add-one}
use Rattle.std.proofs.lemmas.List.Folds.{list_any-append, position_or_len_push}
use Rattle.std.proofs.lemmas.List.Sums.{prefix_len-le-length}
use Rattle.std.specs.BTreeMap.{BTreeMap, get}
use Rattle.std.specs.BTreeSet.{BTreeSet, contains}
use Rattle.std.specs.List.{list_any, position, position_or_len, slice_get}
use Rattle.std.specs.Option.{option_or, option_to_list}
use Rattle.std.specs.Ordering.{nat_cmp}
use Rattle.std.specs.Prelude.{nat_eq, option_map, zip}
use Rattle.ic_laws.specs.declared.scene.SheetName.{SheetName}
use Rattle.ic_dump.proofs.StageLemmas.{left_of}
use Rattle.ic_dump.specs.Passing.{other_ids, sheet_named}
use Rattle.ic_dump.specs.Records.{AreFound, AreOthers}
use Rattle.ic_dump.proofs.CellLemmas.{begins}
use Rattle.ic_sheets.proofs.DanglingLemmas.{or_exchange as swapped}

-- ---- a sheet more is found by its id

first_place : (k n : ℕ) (b : Bool) → k ≤ n → cond (nat_lt (cond (eqb k n) (n + cond b 0 1) k) (n + 1)) (Some (cond (eqb k n) (n + cond b 0 1) k)) None ≡ option_or (cond (nat_lt k n) (Some k) None) (cond b (Some n) None)
first_place k n true h = grind (arith, nat_tests)
first_place k n false h = grind (arith, nat_tests)

position-more : {X : Type 0} (p : X → Bool) (xs : List X) (x : X) → position p (xs ++ x ∷ []) ≡ option_or (position p xs) (cond (p x) (Some (length xs)) None)
position-more p xs x =
    ap₂ (λ (k n : ℕ). let o : Option ℕ = cond (nat_lt k n) (Some k) None in o) (position_or_len_push p xs x) (length-append xs (x ∷ []))
    ∙ first_place (position_or_len p xs) (length xs) (p x) (prefix_len-le-length (λ y. not (p y)) xs)

pub found_more : (before after : BTreeMap ℕ ℕ) (sheets : List SheetName) (s : SheetName) → AreFound before sheets → ((other : ℕ) → get nat_cmp after other ≡ option_or (get nat_cmp before other) (cond (nat_eq s.id other) (Some (length sheets)) None)) → AreFound after (sheets ++ s ∷ [])
found_more before after sheets s found put = λ id.
    put id ∙ ap (λ o. option_or o (cond (nat_eq s.id id) (Some (length sheets)) None)) (found id) ∙ sym (position-more (λ (t : SheetName). nat_eq t.id id) sheets s)

-- ---- an id more is listed if it wasn't seen

abbrev among : ℕ → List ℕ → Bool
among id ids = list_any (nat_eq id) ids

same_id : (a b : ℕ) → nat_eq a b ≡ nat_eq b a
same_id a b = grind (arith, nat_tests)

-- an id that is there already changes nothing
there_already : (id x : ℕ) (a b : Bool) → (nat_eq id x ≡ true → a ≡ true) → (a || b) ≡ (a || (nat_eq id x || b))
there_already id x true b h = refl
there_already id x false b h = elim (cases_Bool (nat_eq id x)) [ inl e ↦ let no = h e in cc | inr e ↦ rw e refl ]

same_seen : (id x : ℕ) (seen : List ℕ) → among x seen ≡ true → nat_eq id x ≡ true → among id seen ≡ true
same_seen id x seen there same = let is : id ≡ x = grind (arith, nat_tests) in ap (λ i. among i seen) is ∙ there

chosen : (b c : Bool) (id : ℕ) → b ≡ c → cond b [] (id ∷ []) ≡ cond c [] (id ∷ [])
chosen b c id e = ap (λ t. cond t [] (id ∷ [])) e

abbrev IsMore : ℕ → List ℕ → List ℕ → Type 0
IsMore id past seen = other_ids seen (past ++ id ∷ []) ≡ other_ids seen past ++ cond (among id (seen ++ past)) [] (id ∷ [])

others_more : (seen past : List ℕ) (id : ℕ) → other_ids seen (past ++ id ∷ []) ≡ other_ids seen past ++ cond (among id (seen ++ past)) [] (id ∷ [])
others_more seen [] id = by_test (among id seen) refl ∙ chosen (among id seen) (among id (seen ++ [])) id (ap (among id) (sym (append-nil seen)))
  where
    by_test : (b : Bool) → among id seen ≡ b → other_ids seen (id ∷ []) ≡ cond (among id seen) [] (id ∷ [])
    by_test true e = rw e refl
    by_test false e = rw e refl
others_more seen (x ∷ past) id = by_test (among x seen) refl (others_more seen past id) (others_more (x ∷ seen) past id)
  where
    by_test : (b : Bool) → among x seen ≡ b → IsMore id past seen → IsMore id past (x ∷ seen) → other_ids seen (x ∷ (past ++ id ∷ [])) ≡ other_ids seen (x ∷ past) ++ cond (among id (seen ++ x ∷ past)) [] (id ∷ [])
    by_test true e same more =
        let among_same : among id (seen ++ past) ≡ among id (seen ++ x ∷ past) =
        list_any-append (nat_eq id) seen past ∙ there_already id x (among id seen) (among id past) (same_seen id x seen e) ∙ sym (list_any-append (nat_eq id) seen (x ∷ past)) in
        rw e (same ∙ ap (λ rest. other_ids seen past ++ rest) (chosen _ _ id among_same))
    by_test false e same more =
        let among_same : among id ((x ∷ seen) ++ past) ≡ among id (seen ++ x ∷ past) =
        ap (λ b. nat_eq id x || b) (list_any-append (nat_eq id) seen past) ∙ swapped (nat_eq id x) (among id seen) (among id past) ∙ sym (list_any-append (nat_eq id) seen (x ∷ past)) in
        rw e (ap (λ rest. x ∷ rest) (more ∙ ap (λ rest. other_ids (x ∷ seen) past ++ rest) (chosen _ _ id among_same)))

one_seen : (a b c : Bool) → (a || (b || c)) ≡ (b || (c || (a || false)))
one_seen true true true = refl
one_seen true true false = refl
one_seen true false true = refl
one_seen true false false = refl
one_seen false true c = refl
one_seen false false true = refl
one_seen false false false = refl

pub one_more : (before after : BTreeSet ℕ) (ids new own past : List ℕ) (id : ℕ) → AreOthers before ids own past → new ≡ ids ++ cond (contains nat_cmp before id) [] (id ∷ []) → ((other : ℕ) → contains nat_cmp after other ≡ (nat_eq id other || contains nat_cmp before other)) → AreOthers after new own (past ++ id ∷ [])
one_more before after ids new own past id h put seen = record {
  finds = λ other.
      seen other
      ∙ ap₂ (λ (a b : Bool). a || b) (same_id id other) (h.finds other ∙ list_any-append (nat_eq other) own past)
      ∙ one_seen (nat_eq other id) (among other own) (among other past)
      ∙ sym (list_any-append (nat_eq other) own (past ++ id ∷ []) ∙ ap (λ b. among other own || b) (list_any-append (nat_eq other) past (id ∷ [])));
  listed =
      put ∙ ap₂ (λ (a b : List ℕ). a ++ b) h.listed (chosen _ _ id (h.finds id)) ∙ sym (others_more own past id);
}

-- ---- sheets are named one after another

none_left : {X Y : Type 0} (xs : List X) → zip {K = X} {X = Y} xs [] ≡ []
none_left [] = refl
none_left (x ∷ xs) = refl

past_end : {X : Type 0} (xs : List X) (i : ℕ) → slice_get xs i ≡ None → (drop i xs ≡ []) × (drop (suc i) xs ≡ [])
past_end [] zero e = (refl, refl)
past_end [] (suc i) e = (refl, refl)
past_end (x ∷ xs) zero e = cc
past_end (x ∷ xs) (suc i) e = past_end xs i e

zip_next : (names : List (List ℕ)) (i id : ℕ) (ids : List ℕ) (name : Option (List ℕ)) → slice_get names i ≡ name → map sheet_named (zip (id ∷ ids) (drop i names)) ≡ option_to_list (option_map (λ n. sheet_named (id, n)) name) ++ map sheet_named (zip ids (drop (suc i) names))
zip_next names i id ids None e =
    let past = past_end names i e in
    ap (λ (rest : List (List ℕ)). map sheet_named (zip (id ∷ ids) rest)) past.0 ∙ sym (ap (λ (rest : List (List ℕ)). map sheet_named (zip ids rest)) past.1 ∙ ap (map sheet_named) (none_left ids))
zip_next names i id ids (Some n) e = ap (λ (rest : List (List ℕ)). map sheet_named (zip (id ∷ ids) rest)) (begins names i n e)

pub named_next : (ids : List ℕ) (names : List (List ℕ)) (i id : ℕ) (name : Option (List ℕ)) (sheets new all : List SheetName) → i < length ids → id ≡ get_or ids i id → slice_get names i ≡ name
    → sheets ++ map sheet_named (zip (drop i ids) (drop i names)) ≡ all → new ≡ sheets ++ option_to_list (option_map (λ n. sheet_named (id, n)) name) → new ++ map sheet_named (zip (drop (i + 1) ids) (drop (i + 1) names)) ≡ all
named_next ids names i id name sheets new all below item there so_far put =
    let its = option_to_list (option_map (λ n. sheet_named (id, n)) name) in
    ap (λ v. v ++ map sheet_named (zip (drop (i + 1) ids) (drop (i + 1) names))) put
    ∙ append_assoc sheets its (map sheet_named (zip (drop (i + 1) ids) (drop (i + 1) names)))
    ∙ ap (λ k. sheets ++ (its ++ map sheet_named (zip (drop (i + 1) ids) (drop k names)))) (add-one i)
    ∙ ap (λ rest. sheets ++ rest) (sym (zip_next names i id (drop (i + 1) ids) name there))
    ∙ ap (λ rest. sheets ++ map sheet_named (zip rest (drop i names))) (sym (left_of ids i id below item)) ∙ so_far

-- ---- two things that hold where there is an answer

pub on_ok_both : {T E P Q R : Type 0} (r : Result T E) → (P → Q → R) → OnOk r P → OnOk r Q → OnOk r R
on_ok_both (Ok x) f p q = f p q
on_ok_both (Err e) f p q = tt
