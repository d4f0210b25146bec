-- The longest front that spells something, and the longer of two.
use Rattle.std.proofs.Common.{◌≡◌, ℕ, ◌<◌, ◌≤◌, List, [], ◌∷◌, ◌++◌, ◌⊎◌, length, nat_le, Option, Some, None, option_map, refl, sym, ◌∙◌, ap, subst, inl, inr, arith, append_assoc, length-append}
use Rattle.std.proofs.lemmas.Bool.{cases_Bool, leb-true, leb-false}
use Rattle.ic_laws.specs.Split.{or_else, longest_split, IsBest, IsDecided, FindsBest, longer, Either, Yields, ReadsExactly}
use Rattle.ic_laws.proofs.parsing.ListFuelLemmas.{option_cases as none_or_some}

-- two splits of one text with as much after them are one
pub same_split : (a b c d : List ℕ) → a ++ b ≡ c ++ d → length b ≡ length d → (a ≡ c) × (b ≡ d)
same_split [] b [] d e h = (refl, e)
same_split [] b (x ∷ c) d e h = absurd (omega (arith, ap length e, length-append (x ∷ c) d, h))
same_split (x ∷ a) b [] d e h = absurd (omega (arith, ap length e, length-append (x ∷ a) b, h))
same_split (x ∷ a) b (y ∷ c) d e h =
    let first : x ≡ y = cc in
    let others : a ++ b ≡ c ++ d = cc in
    let more = same_split a b c d others h in
    (ap (λ z. z ∷ a) first ∙ ap (λ l. y ∷ l) more.0, more.1)

-- of two fronts of one text one goes on from the other
pub front_in_front : (a b c d : List ℕ) → a ++ b ≡ c ++ d → (more : List ℕ) × (other : List ℕ) × ((c ≡ a ++ more) ⊎ (a ≡ c ++ other))
front_in_front [] b c d e = (c, [], inl refl)
front_in_front (x ∷ a) b [] d e = ([], x ∷ a, inr refl)
front_in_front (x ∷ a) b (y ∷ c) d e =
    let first : x ≡ y = cc in
    let others : a ++ b ≡ c ++ d = cc in
    let f = front_in_front a b c d others in
    (f.0, f.1, elim f.2 [ inl p ↦ inl (ap (λ z. z ∷ c) (sym first) ∙ ap (λ l. x ∷ l) p) | inr p ↦ inr (ap (λ z. z ∷ a) first ∙ ap (λ l. y ∷ l) p) ])

pub none_some : {T : Type 0} (x : T) → ◌≡◌ {A = Option T} None (Some x) → ⊥
none_some x e = absurd (cc)

module _ {T : Type 0} (Spells : T → List ℕ → List ℕ → Type 0) (After : T → T → Type 0) where
  -- there is one best at most, where no two of one length come after each other
  pub best_unique : ((v w : T) → After v w → After w v → ⊥) → (text rest after : List ℕ) (v w : T) → IsBest Spells After text v rest → IsBest Spells After text w after → (v ≡ w) × (rest ≡ after)
  best_unique order text rest after v w a b =
      elim (a.wins b.front after w b.whole b.spelled) [
        | inl short ↦ elim (b.wins a.front rest v a.whole a.spelled) [
          | inl shorter ↦ absurd (omega (arith, short, shorter))
          | inr one ↦ absurd (omega (arith, short, ap length one.0))
        ]
        | inr one ↦ (
          elim one.1 [
            | inl same ↦ sym same
            | inr late ↦ elim (b.wins a.front rest v a.whole a.spelled) [
              | inl shorter ↦ absurd (omega (arith, shorter, ap length one.0))
              | inr two ↦ elim two.1 [ inl same ↦ same | inr early ↦ absurd (order v w early late) ]
            ]
          ],
          sym one.0,
        )
      ]

  -- a reader of the only one of its kind at the front finds the best
  exactly_best : (read : List ℕ → Option (T × List ℕ)) (text : List ℕ) (found : Option (T × List ℕ)) → ReadsExactly Spells read → read text ≡ found → FindsBest Spells After text found
  exactly_best read text None r e = λ front rest v whole s. none_some (v, rest) (sym e ∙ ap read whole ∙ r.complete front rest v s)
  exactly_best read text (Some found) r e =
      let p = r.sound text found.1 found.0 e in
      record {
        front = p.0;
        whole = p.1;
        spelled = p.2;
        wins = λ other after v whole s.
            let same : ◌≡◌ {A = Option (T × List ℕ)} (Some found) (Some (v, after)) = sym e ∙ ap read whole ∙ r.complete other after v s in
            let parts : found ≡ (v, after) = cc in
            inr (ap (λ (f : T × List ℕ). f.1) (sym parts), inl (ap (λ (f : T × List ℕ). f.0) (sym parts)));
      }

  pub exact_finds_best : (read : List ℕ → Option (T × List ℕ)) → ReadsExactly Spells read → (text : List ℕ) → FindsBest Spells After text (read text)
  exact_finds_best read r text = exactly_best read text (read text) r refl

  -- what is the best of one relation is that of another that says the same
  pub finds_best_like : (Same : T → List ℕ → List ℕ → Type 0) → ((v : T) (front rest : List ℕ) → Spells v front rest → Same v front rest) → ((v : T) (front rest : List ℕ) → Same v front rest → Spells v front rest)
      → (text : List ℕ) (found : Option (T × List ℕ)) → FindsBest Spells After text found → FindsBest Same After text found
  finds_best_like Same to from text None h = λ front rest v whole s. h front rest v whole (from v front rest s)
  finds_best_like Same to from text (Some found) h = record {
    front = h.front;
    whole = h.whole;
    spelled = to found.0 h.front found.1 h.spelled;
    wins = λ other after v whole s. h.wins other after v whole (from v other after s);
  }

-- The longer of the best of two kinds is the best of both, where the second yields to the first.
module _ {T : Type 0} (A B : T → List ℕ → List ℕ → Type 0) (After : T → T → Type 0) where
  -- another that the one kind's best beats is beaten by a longer best of the other kind
  beats_more : (x y v : T) (rest after unread : List ℕ) → length rest < length after → (length after < length unread) ⊎ ((unread ≡ after) × ((v ≡ y) ⊎ After v y)) → (length rest < length unread) ⊎ ((unread ≡ rest) × ((v ≡ x) ⊎ After v x))
  beats_more x y v rest after unread lt (inl short) = inl (omega (arith, lt, short))
  beats_more x y v rest after unread lt (inr one) = inl (omega (arith, lt, ap length one.0))

  -- one of the second kind comes after the best of the first, where this is as long
  ties : (text : List ℕ) (x : T) (rest : List ℕ) → Yields After A B → IsBest A After text x rest → (other after : List ℕ) (v : T) → text ≡ other ++ after → B v other after → length rest ≤ length after
      → (length rest < length after) ⊎ ((after ≡ rest) × ((v ≡ x) ⊎ After v x))
  ties text x rest yields a other after v whole s le =
      elim (cases_Bool (nat_le (length after) (length rest))) [
        | inl p ↦ let one = same_split other after a.front rest (sym whole ∙ a.whole) (omega (arith, le, leb-true (length after) (length rest) p)) in
            let b : B v a.front rest = subst (λ f. B v f rest) one.0 (subst (λ r. B v other r) one.1 s) in
            inr (one.1, inr (yields a.front rest x v a.spelled b))
        | inr n ↦ inl (omega (arith, leb-false (length after) (length rest) n))
      ]

  kept_below : (y v : T) (after unread : List ℕ) → (length after < length unread) ⊎ ((unread ≡ after) × ((v ≡ y) ⊎ After v y)) → length after ≤ length unread
  kept_below y v after unread (inl short) = omega (arith, short)
  kept_below y v after unread (inr one) = omega (arith, ap length one.0)

  longer_first : (text : List ℕ) (x y : T × List ℕ) → Yields After A B → IsBest A After text x.0 x.1 → IsBest B After text y.0 y.1 → length x.1 ≤ length y.1 → IsBest (Either A B) After text x.0 x.1
  longer_first text x y yields a b le = record {
    front = a.front;
    whole = a.whole;
    spelled = inl a.spelled;
    wins = λ other after v whole s. elim s [
      | inl s ↦ a.wins other after v whole s
      | inr s ↦ ties text x.0 x.1 yields a other after v whole s (omega (arith, le, kept_below y.0 v y.1 after (b.wins other after v whole s)))
    ];
  }

  longer_second : (text : List ℕ) (x y : T × List ℕ) → IsBest A After text x.0 x.1 → IsBest B After text y.0 y.1 → length y.1 < length x.1 → IsBest (Either A B) After text y.0 y.1
  longer_second text x y a b lt = record {
    front = b.front;
    whole = b.whole;
    spelled = inr b.spelled;
    wins = λ other after v whole s. elim s [
      | inl s ↦ beats_more y.0 x.0 v y.1 x.1 after lt (a.wins other after v whole s)
      | inr s ↦ b.wins other after v whole s
    ];
  }

  only_second : (text : List ℕ) (b : Option (T × List ℕ)) → FindsBest A After text None → FindsBest B After text b → FindsBest (Either A B) After text b
  only_second text None h k = λ front rest v whole s. elim s [ inl s ↦ h front rest v whole s | inr s ↦ k front rest v whole s ]
  only_second text (Some y) h k = record {
    front = k.front;
    whole = k.whole;
    spelled = inr k.spelled;
    wins = λ other after v whole s. elim s [ inl s ↦ absurd (h other after v whole s) | inr s ↦ k.wins other after v whole s ];
  }

  pub longer_best : (text : List ℕ) (a b : Option (T × List ℕ)) → Yields After A B → FindsBest A After text a → FindsBest B After text b → FindsBest (Either A B) After text (longer a b)
  longer_best text None b yields h k = only_second text b h k
  longer_best text (Some x) None yields h k = record {
    front = h.front;
    whole = h.whole;
    spelled = inl h.spelled;
    wins = λ other after v whole s. elim s [ inl s ↦ h.wins other after v whole s | inr s ↦ absurd (k other after v whole s) ];
  }
  longer_best text (Some x) (Some y) yields h k =
      elim (cases_Bool (nat_le (length x.1) (length y.1))) [
        | inl p ↦ rw p (longer_first text x y yields h k (leb-true (length x.1) (length y.1) p))
        | inr n ↦ rw n (longer_second text x y h k (omega (arith, leb-false (length x.1) (length y.1) n)))
      ]

pub or_else_parts : {T : Type 0} (x y : Option T) (v : T) → or_else x y ≡ Some v → (x ≡ Some v) ⊎ ((x ≡ None) × (y ≡ Some v))
or_else_parts None y v e = inr (refl, e)
or_else_parts (Some w) y v e = inl e

pub mapped : {A B : Type 0} (f : A → B) (o : Option A) (y : B) → option_map f o ≡ Some y → (x : A) × (o ≡ Some x) × (f x ≡ y)
mapped f None y e = absurd (cc)
mapped f (Some x) y e = (x, refl, cc)

-- The longest split.
module _ {T : Type 0} (read : List ℕ → List ℕ → Option T) where
  -- what is found was read at a split
  pub record IsReadAt (front text : List ℕ) (found : T × List ℕ) : Type 0 where
    pub front_is : List ℕ
    pub whole : front_is ++ found.1 ≡ front ++ text
    pub read_there : read front_is found.1 ≡ Some found.0
    pub bound : length found.1 ≤ length text

  read_here : (front text : List ℕ) (found : T × List ℕ) → option_map (λ v. (v, text)) (read front text) ≡ Some found → IsReadAt front text found
  read_here front text found e =
      let p = mapped (λ (v : T). (v, text)) (read front text) found e in
      let rest : text ≡ found.1 = ap (λ (f : T × List ℕ). f.1) p.2 in
      let value : p.0 ≡ found.0 = ap (λ (f : T × List ℕ). f.0) p.2 in
      record {
        front_is = front;
        whole = ap (λ r. front ++ r) (sym rest);
        read_there = ap (read front) (sym rest) ∙ p.1 ∙ ap (λ v. Some v) value;
        bound = omega (arith, ap length rest);
      }

  pub split_sound : (front text : List ℕ) (found : T × List ℕ) → longest_split read front text ≡ Some found → IsReadAt front text found
  unfolding longest_split
  split_sound front [] found e = read_here front [] found e
  split_sound front (c ∷ cs) found e =
      elim (or_else_parts (longest_split read (front ++ c ∷ []) cs) (option_map (λ v. (v, c ∷ cs)) (read front (c ∷ cs))) found e) [
        | inl p ↦ let more = split_sound (front ++ c ∷ []) cs found p in
            record { front_is = more.front_is; whole = more.whole ∙ append_assoc front (c ∷ []) cs; read_there = more.read_there; bound = omega (arith, more.bound) }
        | inr p ↦ read_here front (c ∷ cs) found p.1
      ]

  -- what is read at a split is found, or a longer one is
  abbrev Reaches : List ℕ → List ℕ → List ℕ → Type 0
  Reaches front text after = (found : T × List ℕ) × (longest_split read front text ≡ Some found) × (length found.1 ≤ length after)

  read_last : (front other after : List ℕ) (v : T) → read other after ≡ Some v → (other ≡ front) × (after ≡ []) → Reaches front [] after
  unfolding longest_split
  read_last front other after v e one =
      let here : read front [] ≡ Some v = ap (λ f. read f []) (sym one.0) ∙ ap (read other) (sym one.1) ∙ e in
      ((v, []), rw here refl, omega arith)

  reaches_more : (front : List ℕ) (c : ℕ) (cs after : List ℕ) → Reaches (front ++ c ∷ []) cs after → Reaches front (c ∷ cs) after
  unfolding longest_split
  reaches_more front c cs after more = (more.0, rw (more.1) refl, more.2)

  read_first : (front : List ℕ) (c : ℕ) (cs other after : List ℕ) (v : T) → read other after ≡ Some v → (other ≡ front) × (after ≡ c ∷ cs) → Reaches front (c ∷ cs) after
  unfolding longest_split
  read_first front c cs other after v e one =
      let here : read front (c ∷ cs) ≡ Some v = ap (λ f. read f (c ∷ cs)) (sym one.0) ∙ ap (read other) (sym one.1) ∙ e in
      elim (none_or_some (longest_split read (front ++ c ∷ []) cs)) [
        | inl p ↦ ((v, c ∷ cs), rw (p, here) refl, omega (arith, ap length one.1))
        | inr p ↦ let more = split_sound (front ++ c ∷ []) cs p.0 p.1 in (p.0, rw (p.1) refl, omega (arith, more.bound, ap length one.1))
      ]

  pub split_longest : (front text other after : List ℕ) (v : T) → read other after ≡ Some v → other ++ after ≡ front ++ text → length after ≤ length text → Reaches front text after
  split_longest front [] other after v e whole le = read_last front other after v e (same_split other after front [] whole (omega (arith, le)))
  split_longest front (c ∷ cs) other after v e whole le =
      elim (cases_Bool (nat_le (length after) (length cs))) [
        | inl p ↦ reaches_more front c cs after (split_longest (front ++ c ∷ []) cs other after v e (whole ∙ sym (append_assoc front (c ∷ []) cs)) (leb-true (length after) (length cs) p))
        | inr n ↦ read_first front c cs other after v e (same_split other after front (c ∷ cs) whole (omega (arith, le, leb-false (length after) (length cs) n)))
      ]

-- The longest split that a decision answers is the best.
module _ {T : Type 0} (Spells : T → List ℕ → List ℕ → Type 0) (After : T → T → Type 0) (read : List ℕ → List ℕ → Option T) where
  some_best : (text : List ℕ) (found : T × List ℕ) → IsDecided Spells After read → longest_split read [] text ≡ Some found → IsBest Spells After text found.0 found.1
  some_best text found d e =
      let there = split_sound read [] text found e in
      record {
        front = there.front_is;
        whole = sym there.whole;
        spelled = d.sound there.front_is found.1 found.0 there.read_there;
        wins = λ other after v whole s.
            let w = d.complete other after v s in
            let far = split_longest read [] text other after w.0 w.1 (sym whole) (omega (arith, ap length whole, length-append other after)) in
            let same : far.0 ≡ found = cc in
            let le : length found.1 ≤ length after = omega (arith, far.2, ap (λ (f : T × List ℕ). length f.1) same) in
            elim (cases_Bool (nat_le (length after) (length found.1))) [
              | inl p ↦ let one = same_split other after there.front_is found.1 (sym whole ∙ sym there.whole) (omega (arith, le, leb-true (length after) (length found.1) p)) in
                  let here : read other after ≡ Some found.0 = ap (λ f. read f after) one.0 ∙ ap (read there.front_is) one.1 ∙ there.read_there in
                  let won : w.0 ≡ found.0 = cc in
                  inr (one.1, subst (λ x. (v ≡ x) ⊎ After v x) won w.2)
              | inr n ↦ inl (omega (arith, leb-false (length after) (length found.1) n))
            ];
      }

  found_best : (text : List ℕ) (found : Option (T × List ℕ)) → IsDecided Spells After read → longest_split read [] text ≡ found → FindsBest Spells After text found
  found_best text None d e = λ front rest v whole s.
      let w = d.complete front rest v s in
      let far = split_longest read [] text front rest w.0 w.1 (sym whole) (omega (arith, ap length whole, length-append front rest)) in
      none_some far.0 (sym e ∙ far.1)
  found_best text (Some found) d e = some_best text found d e

  pub split_best : (text : List ℕ) → IsDecided Spells After read → FindsBest Spells After text (longest_split read [] text)
  split_best text d = found_best text (longest_split read [] text) d refl
