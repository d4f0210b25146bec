-- The turns of a loop that reads a list of items.
use Rattle.std.proofs.Common.{◌≡◌, ◌<◌, ◌≤◌, List, [], ◌∷◌, ◌++◌, append_assoc, length, Bool, true, false, Option, Some, None, option_map, refl, sym, ap, subst, ◌∙◌, arith}
use Rattle.ic_laws.specs.Parse.{Read}
use Rattle.ic_laws.specs.Token.{Token}
use Rattle.ic_laws.proofs.parsing.ListFuelLemmas.{Shrinks, listed_none, listed_last, listed_next, listed_fuel}
use Rattle.ic_tree.specs.Listing.{all_listed, joined_to}
use Rattle.ic_tree.specs.Turned.{Passes}

pub joined_begins : {A : Type 0} (read : Read (List A)) → joined_to [] read ≡ read
joined_begins None = refl
joined_begins (Some read) = refl

pub joined_start : {A : Type 0} (xs : List A) (read : Read (List A)) → xs ≡ [] → joined_to xs read ≡ read
joined_start xs read none = ap (λ ys. joined_to ys read) none ∙ joined_begins read

pub joined_more : {A : Type 0} (xs : List A) (x : A) (read : Read (List A)) → joined_to (xs ++ x ∷ []) read ≡ joined_to xs (option_map (λ others. (x ∷ others.0, others.1)) read)
joined_more xs x None = refl
joined_more xs x (Some read) = ap (λ ys. Some (ys, read.1)) (append_assoc xs (x ∷ []) read.0)

-- what was read by the code, as the definition has it
pub read_is : {A : Type 0} (o : Option A) (rest : List Token) (read : Read A) (x : A) → option_map (λ t. (t, rest)) o ≡ read → o ≡ Some x → read ≡ Some (x, rest)
read_is o rest read x got is = sym got ∙ ap (option_map (λ t. (t, rest))) is

pub read_fails : {A : Type 0} (o : Option A) (rest : List Token) (read : Read A) → option_map (λ t. (t, rest)) o ≡ read → o ≡ None → read ≡ None
read_fails o rest read got is = sym got ∙ ap (option_map (λ t. (t, rest))) is

pub passes_some : (past : Option (List Token)) (taken : Bool) (ts rest : List Token) → Passes past taken ts rest → taken ≡ true → past ≡ Some rest
passes_some past taken ts rest h is = subst (λ (b : Bool). Passes past b ts rest) is h

pub passes_none : (past : Option (List Token)) (taken : Bool) (ts rest : List Token) → Passes past taken ts rest → taken ≡ false → (past ≡ None) × (rest ≡ ts)
passes_none past taken ts rest h is = subst (λ (b : Bool). Passes past b ts rest) is h

module _ {A : Type 0} (item : List Token → Read A) (past : List Token → Option (List Token)) (shrinks : Shrinks item past) where
  pub all_last : (ts : List Token) (x : A) (rest : List Token) → item ts ≡ Some (x, rest) → past rest ≡ None → all_listed item past ts ≡ Some (x ∷ [], rest)
  all_last [] x rest got stops = let none : item [] ≡ None = shrinks.nothing in cc
  all_last (t ∷ ts) x rest got stops = listed_last item past (length ts) (t ∷ ts) (x, rest) got stops

  pub all_next : (ts : List Token) (x : A) (rest after : List Token) → item ts ≡ Some (x, rest) → past rest ≡ Some after → all_listed item past ts ≡ option_map (λ others. (x ∷ others.0, others.1)) (all_listed item past after)
  all_next [] x rest after got goes = let none : item [] ≡ None = shrinks.nothing in cc
  all_next (t ∷ ts) x rest after got goes =
      let less : length after < length rest = shrinks.sign rest after goes in
      let no_longer : length rest ≤ length (t ∷ ts) = shrinks.shorter (t ∷ ts) (x, rest) got in
      listed_next item past (length ts) (t ∷ ts) (x, rest) after got goes
      ∙ ap (option_map (λ others. (x ∷ others.0, others.1))) (listed_fuel item past shrinks (length ts) (length after) after (omega arith) (omega arith))

  -- the turns: an item that cannot be read, the last item, and one that a sign follows
  pub list_fails : (xs : List A) (ts rest : List Token) (o : Option A) → option_map (λ t. (t, rest)) o ≡ item ts → o ≡ None → None ≡ joined_to xs (all_listed item past ts)
  list_fails xs ts rest o got is = sym (ap (joined_to xs) (listed_none item past (length ts) ts (read_fails o rest (item ts) got is)))

  pub list_last : (xs new : List A) (ts rest left : List Token) (o : Option A) (x : A) (taken : Bool) → option_map (λ t. (t, rest)) o ≡ item ts → o ≡ Some x → new ≡ xs ++ x ∷ [] → Passes (past rest) taken rest left → taken ≡ false → Some (new, left) ≡ joined_to xs (all_listed item past ts)
  list_last xs new ts rest left o x taken got is pushed passes stood =
      let stops = passes_none (past rest) taken rest left passes stood in
      sym (ap (joined_to xs) (all_last ts x rest (read_is o rest (item ts) x got is) stops.0) ∙ rw (pushed, stops.1) refl)

  pub list_more : (xs new : List A) (ts rest left : List Token) (o : Option A) (x : A) (taken : Bool) → option_map (λ t. (t, rest)) o ≡ item ts → o ≡ Some x → new ≡ xs ++ x ∷ [] → Passes (past rest) taken rest left → taken ≡ true → joined_to new (all_listed item past left) ≡ joined_to xs (all_listed item past ts)
  list_more xs new ts rest left o x taken got is pushed passes stood =
      let goes : past rest ≡ Some left = passes_some (past rest) taken rest left passes stood in
      ap (λ (ys : List A). joined_to ys (all_listed item past left)) pushed
      ∙ (joined_more xs x (all_listed item past left) ∙ sym (ap (joined_to xs) (all_next ts x rest left (read_is o rest (item ts) x got is) goes)))

  pub list_smaller : (ts rest left : List Token) (o : Option A) (x : A) (taken : Bool) → option_map (λ t. (t, rest)) o ≡ item ts → o ≡ Some x → Passes (past rest) taken rest left → taken ≡ true → length left < length ts
  list_smaller ts rest left o x taken got is passes stood =
      let less : length left < length rest = shrinks.sign rest left (passes_some (past rest) taken rest left passes stood) in
      let no_longer : length rest ≤ length ts = shrinks.shorter ts (x, rest) (read_is o rest (item ts) x got is) in
      omega arith
