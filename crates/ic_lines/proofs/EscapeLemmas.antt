-- Words and the texts that they spell.
use Rattle.std.proofs.Common.{◌≡◌, ◌≢◌, ◌↔◌, ℕ, ◌+◌, ◌≤◌, ◌||◌, arith, encode_utf8, encode_utf8_all, List, [], ◌∷◌, ◌++◌, drop, get_or, length, take, true, false, ◌==◌, Option, Some, None, IsSome, IsNone, is_some, option_map, option_and_then, refl, sym, subst, ◌∙◌, ap, inl, inr, append_assoc}
use lib.Utf8.{encode, scalar, scalars}
use Rattle.std.specs.List.{flat_map, join_by, list_any}
use Rattle.std.specs.Str.{IsCharBoundary, IsUtf8, chars}
use Rattle.std.proofs.Math.Bool.{or-false}
use Rattle.std.proofs.Math.Seq.{get_or-append_seam}
use Rattle.std.proofs.lemmas.Bool.{and_parts, or_parts}
use Rattle.std.proofs.lemmas.Bool.Decides.{eqb_tells, leb_tells, nat_tests}
use Rattle.std.proofs.lemmas.Grind.{flat_map-append}
use Rattle.std.proofs.lemmas.List.{length-take}
use Rattle.std.proofs.lemmas.List.Folds.{list_any-append}
use Rattle.std.proofs.lemmas.Str.{IsCharBoundary-after_ascii, IsCharBoundary-before_ascii, IsUtf8-take, chars-append, encode_ascii, encodes-chars}
use Rattle.memchr.specs.Find.{is_byte3}
use Rattle.ic_laws.specs.Lines.{escape_of, escape_meaning, escaped, unescaped}
use Rattle.ic_lines.specs.Escapes.{GoesOnWrong, HasWrongEscape, is_escaped}
use Rattle.ic_lines.specs.Reading.{IsFirstLineFeed, has_line_feed}
use Rattle.ic_laws.proofs.parsing.ListFuelLemmas.{option_cases as none_or_some}

-- a character that is no backslash stands for itself
unescaped-plain : (c : ℕ) (cs : List ℕ) → (c == 92) ≡ false → unescaped (c ∷ cs) ≡ option_map (λ t. c ∷ t) (unescaped cs)
unescaped-plain c [] h = rw h refl
unescaped-plain c (d ∷ cs) h = rw h refl

-- what a character is written as spells it
unescaped-escape_of : (c : ℕ) (w t : List ℕ) → unescaped w ≡ Some t → unescaped (escape_of c ++ w) ≡ Some (c ∷ t)
unescaped-escape_of c w t h =
    elim (eqb_tells c 92) [
      | inl p ↦ rw p.1 (ap (option_map (λ t. 92 ∷ t)) h)
      | inr p ↦ elim (eqb_tells c 9) [
        | inl q ↦ rw q.1 (ap (option_map (λ t. 9 ∷ t)) h)
        | inr q ↦ elim (eqb_tells c 10) [
          | inl r ↦ rw r.1 (ap (option_map (λ t. 10 ∷ t)) h)
          | inr r ↦ elim (eqb_tells c 13) [
            | inl s ↦ rw s.1 (ap (option_map (λ t. 13 ∷ t)) h)
            | inr s ↦ let e : escape_of c ≡ c ∷ [] = rw (p.0, q.0, r.0, s.0) refl in
                ap (λ v. unescaped (v ++ w)) e ∙ unescaped-plain c w p.0 ∙ ap (option_map (λ t. c ∷ t)) h
          ]
        ]
      ]
    ]

-- what a text is written as spells it
pub unescaped-escaped : (t : List ℕ) → unescaped (escaped t) ≡ Some t
unescaped-escaped [] = refl
unescaped-escaped (c ∷ t) = unescaped-escape_of c (escaped t) t (unescaped-escaped t)

-- what is in front goes on in front
front_more : (so : List ℕ) (c : ℕ) (o : Option (List ℕ)) → option_map (λ t. (so ++ c ∷ []) ++ t) o ≡ option_map (λ t. so ++ t) (option_map (λ t. c ∷ t) o)
front_more so c None = refl
front_more so c (Some t) = ap Some (append_assoc so (c ∷ []) t)

-- with nothing in front
front_none : (so : List ℕ) (o : Option (List ℕ)) → so ≡ [] → option_map (λ t. so ++ t) o ≡ o
front_none so None h = refl
front_none so (Some t) h = rw h refl

-- So far a text came out, and what is left spells the rest of it. The word begins.
pub spells_first : (so w : List ℕ) → so ≡ [] → option_map (λ t. so ++ t) (unescaped w) ≡ unescaped w
spells_first so w h = front_none so (unescaped w) h

-- a character that is no backslash
pub spells_plain : (so left more : List ℕ) (w : Option (List ℕ)) (c : ℕ) → left ≡ c ∷ more → c ≢ 92 → option_map (λ t. so ++ t) (unescaped left) ≡ w → option_map (λ t. (so ++ c ∷ []) ++ t) (unescaped more) ≡ w
spells_plain so left more w c e n h =
    elim (eqb_tells c 92) [
      | inl p ↦ absurd (n p.1)
      | inr p ↦ front_more so c (unescaped more) ∙ ap (option_map (λ t. so ++ t)) (sym (unescaped-plain c more p.0)) ∙ ap (λ l. option_map (λ t. so ++ t) (unescaped l)) (sym e) ∙ h
    ]

-- an escape
pub spells_escape : (so left more : List ℕ) (w : Option (List ℕ)) (d m : ℕ) → left ≡ 92 ∷ d ∷ more → Some m ≡ escape_meaning d → option_map (λ t. so ++ t) (unescaped left) ≡ w → option_map (λ t. (so ++ m ∷ []) ++ t) (unescaped more) ≡ w
spells_escape so left more w d m e k h =
    front_more so m (unescaped more)
    ∙ ap (λ o. option_map (λ t. so ++ t) (option_and_then (λ m. option_map (λ t. m ∷ t) (unescaped more)) o)) k
    ∙ ap (λ l. option_map (λ t. so ++ t) (unescaped l)) (sym e) ∙ h

-- a text with one more character in front
some_front : (c : ℕ) (o : Option (List ℕ)) → IsSome o → IsSome (option_map (λ t. c ∷ t) o)
some_front c None s = s
some_front c (Some t) s = refl

some_after : (c : ℕ) (o : Option (List ℕ)) → IsSome (option_map (λ t. c ∷ t) o) → IsSome o
some_after c None s = s
some_after c (Some t) s = refl

none_after : (c : ℕ) (o : Option (List ℕ)) → option_map (λ t. c ∷ t) o ≡ None → o ≡ None
none_after c None e = refl
none_after c (Some t) e = cc

-- an escape, and what stands after it
unescaped-escape : (c d : ℕ) (cs : List ℕ) (o : Option ℕ) → c ≡ 92 → escape_meaning d ≡ o → unescaped (c ∷ d ∷ cs) ≡ option_and_then (λ m. option_map (λ t. m ∷ t) (unescaped cs)) o
unescaped-escape c d cs o e k = ap (λ c. unescaped (c ∷ d ∷ cs)) e ∙ ap (λ o. option_and_then (λ m. option_map (λ t. m ∷ t) (unescaped cs)) o) k

-- a wrong escape is still one after a character
wrong_after_plain : (c : ℕ) (w : List ℕ) → (c == 92) ≡ false → HasWrongEscape w → HasWrongEscape (c ∷ w)
wrong_after_plain c w n h = record {
  front = c ∷ h.front;
  rest = h.rest;
  whole = ap (λ v. c ∷ v) h.whole;
  spelled = ap is_some (unescaped-plain c h.front n) ∙ some_front c (unescaped h.front) h.spelled;
  wrong = h.wrong;
}

-- and after an escape
wrong_after_escape : (c d m : ℕ) (w : List ℕ) → c ≡ 92 → escape_meaning d ≡ Some m → HasWrongEscape w → HasWrongEscape (c ∷ d ∷ w)
wrong_after_escape c d m w e k h = record {
  front = c ∷ d ∷ h.front;
  rest = h.rest;
  whole = ap (λ v. c ∷ d ∷ v) h.whole;
  spelled = ap is_some (unescaped-escape c d h.front (Some m) e k) ∙ some_front m (unescaped h.front) h.spelled;
  wrong = h.wrong;
}

-- a word that spells nothing has a wrong escape
wrong_from_none : (w : List ℕ) → unescaped w ≡ None → HasWrongEscape w
wrong_from_none [] h = absurd (cc)
wrong_from_none (c ∷ []) h =
    elim (eqb_tells c 92) [
      | inl p ↦ record { front = []; rest = []; whole = ap (λ x. x ∷ []) p.1; spelled = refl; wrong = tt }
      | inr p ↦ let k = sym (unescaped-plain c [] p.0) ∙ h in absurd (cc)
    ]
wrong_from_none (c ∷ d ∷ cs) h =
    elim (eqb_tells c 92) [
      | inl p ↦ elim (none_or_some (escape_meaning d)) [
        | inl k ↦ record { front = []; rest = d ∷ cs; whole = ap (λ x. x ∷ d ∷ cs) p.1; spelled = refl; wrong = k }
        | inr k ↦ wrong_after_escape c d k.0 cs p.1 k.1 (wrong_from_none cs (none_after k.0 (unescaped cs) (sym (unescaped-escape c d cs (Some k.0) p.1 k.1) ∙ h)))
      ]
      | inr p ↦ wrong_after_plain c (d ∷ cs) p.0 (wrong_from_none (d ∷ cs) (none_after c (unescaped (d ∷ cs)) (sym (unescaped-plain c (d ∷ cs) p.0) ∙ h)))
    ]

-- what no escape goes on from spells nothing, whatever text is spelled before it
none_from_parts : (front rest : List ℕ) → IsSome (unescaped front) → GoesOnWrong rest → unescaped (front ++ 92 ∷ rest) ≡ None
none_from_parts [] [] s g = refl
none_from_parts [] (d ∷ ds) s g = unescaped-escape 92 d ds None refl g
none_from_parts (c ∷ []) rest s g =
    elim (eqb_tells c 92) [
      | inl p ↦ let k : IsSome (unescaped (92 ∷ [])) = subst (λ x. IsSome (unescaped (x ∷ []))) p.1 s in absurd (cc)
      | inr p ↦ unescaped-plain c (92 ∷ rest) p.0 ∙ ap (option_map (λ t. c ∷ t)) (none_from_parts [] rest refl g)
    ]
none_from_parts (c ∷ d ∷ cs) rest s g =
    elim (eqb_tells c 92) [
      | inl p ↦ elim (none_or_some (escape_meaning d)) [
        | inl k ↦ let n = sym (ap is_some (unescaped-escape c d cs None p.1 k)) ∙ s in absurd (cc)
        | inr k ↦ unescaped-escape c d (cs ++ 92 ∷ rest) (Some k.0) p.1 k.1
            ∙ ap (option_map (λ t. k.0 ∷ t)) (none_from_parts cs rest (some_after k.0 (unescaped cs) (sym (ap is_some (unescaped-escape c d cs (Some k.0) p.1 k.1)) ∙ s)) g)
      ]
      | inr p ↦ unescaped-plain c (d ∷ cs ++ 92 ∷ rest) p.0
          ∙ ap (option_map (λ t. c ∷ t)) (none_from_parts (d ∷ cs) rest (some_after c (unescaped (d ∷ cs)) (sym (ap is_some (unescaped-plain c (d ∷ cs) p.0)) ∙ s)) g)
    ]

is_nothing : (o : Option (List ℕ)) → IsNone o → o ≡ None
is_nothing None n = refl
is_nothing (Some t) n = cc

-- a word spells nothing exactly where it has a wrong escape
pub wrong_exactly : (w : List ℕ) (r : Option (List ℕ)) → r ≡ unescaped w → IsNone r ↔ HasWrongEscape w
wrong_exactly w r e = (
  λ n. wrong_from_none w (sym e ∙ is_nothing r n),
  λ h. ap is_some (e ∙ ap unescaped h.whole ∙ none_from_parts h.front h.rest h.spelled h.wrong),
)

-- what a text is written as is read back
pub spelled_exactly : (w t : List ℕ) (r : Option (List ℕ)) → r ≡ unescaped w → w ≡ escaped t → r ≡ Some t
spelled_exactly w t r e h = e ∙ ap unescaped h ∙ unescaped-escaped t

-- a character that needs no escape stands for itself
escape_of-plain : (c : ℕ) → is_escaped c ≡ false → escape_of c ≡ c ∷ []
escape_of-plain c h =
    let last = or_parts (c == 92 || c == 9 || c == 10) (c == 13) h in
    let third = or_parts (c == 92 || c == 9) (c == 10) last.0 in
    let first = or_parts (c == 92) (c == 9) third.0 in
    rw (first.0, first.1, third.1, last.1) refl

high_plain : (c : ℕ) → 128 ≤ c → is_escaped c ≡ false
high_plain c h = grind (arith, nat_tests)

-- a text whose bytes need no escape is written as it is
escaped_bytes : (cs : List ℕ) → list_any is_escaped (encode_utf8_all cs) ≡ false → escaped cs ≡ cs
escaped_bytes [] h = refl
escaped_bytes (c ∷ cs) h =
    let parts = or_parts (list_any is_escaped (encode_utf8 c)) (list_any is_escaped (encode_utf8_all cs)) (sym (list_any-append is_escaped (encode_utf8 c) (encode_utf8_all cs)) ∙ h) in
    let plain : is_escaped c ≡ false = elim (leb_tells 128 c) [
      | inl p ↦ high_plain c p.1
      | inr p ↦ (or_parts (is_escaped c) false (sym (ap (list_any is_escaped) (encode_ascii c p.1)) ∙ parts.0)).0
    ] in
    rw (escape_of-plain c plain) (ap (λ t. c ∷ t) (escaped_bytes cs parts.1))

pub escaped-plain : (bytes : List ℕ) → IsUtf8 bytes → list_any is_escaped bytes ≡ false → escaped (chars bytes) ≡ chars bytes
escaped-plain bytes u h = escaped_bytes (chars bytes) (ap (list_any is_escaped) (encodes-chars bytes u) ∙ h)

-- in a text without a line feed another byte is escaped
pub escaped-without_feed : (bytes : List ℕ) → has_line_feed bytes ≡ false → list_any is_escaped bytes ≡ list_any (is_byte3 92 9 13) bytes
escaped-without_feed [] h = refl
escaped-without_feed (b ∷ bytes) h =
    let parts = or_parts (b == 10) (has_line_feed bytes) h in
    rw (parts.0, or-false (b == 92 || b == 9), escaped-without_feed bytes parts.1) refl

-- a text can be cut before a line feed and after it
feed-there : (bytes : List ℕ) (place : ℕ) → IsFirstLineFeed bytes place → get_or bytes place 0 ≡ 10
feed-there bytes place found =
    let front = take place bytes in
    let rest = drop (place + 1) bytes in
    let fits : length front ≡ place = omega (arith, length-take place bytes, found.within) in
    ap (λ b. get_or b place 0) found.parts ∙ ap (λ n. get_or (front ++ 10 ∷ rest) n 0) (sym fits) ∙ get_or-append_seam front 10 rest 0

pub after_feed : (bytes : List ℕ) (place : ℕ) → IsUtf8 bytes → IsFirstLineFeed bytes place → IsCharBoundary bytes (place + 1)
after_feed bytes place u found = IsCharBoundary-after_ascii bytes place u found.within (omega (arith, feed-there bytes place found))

feed_utf8 : IsUtf8 (10 ∷ [])
unfolding encode
feed_utf8 = (10 ∷ [], (refl, refl))

feed_chars : chars (10 ∷ []) ≡ 10 ∷ []
unfolding chars
feed_chars = refl

pub cut_chars : (bytes : List ℕ) (place : ℕ) → IsUtf8 bytes → IsFirstLineFeed bytes place → chars bytes ≡ chars (take place bytes) ++ 10 ∷ chars (drop (place + 1) bytes)
cut_chars bytes place u found =
    let front = take place bytes in
    let rest = drop (place + 1) bytes in
    let is_front = IsUtf8-take bytes place u (IsCharBoundary-before_ascii bytes place found.within (omega (arith, feed-there bytes place found))) in
    ap chars found.parts ∙ chars-append front (10 ∷ rest) is_front
    ∙ ap (λ cs. chars front ++ cs) (chars-append (10 ∷ []) rest feed_utf8 ∙ ap (λ cs. cs ++ chars rest) feed_chars)

-- Texts put together, as they are written in words. ----

pub escaped-append : (a b : List ℕ) → escaped (a ++ b) ≡ escaped a ++ escaped b
escaped-append a b = flat_map-append escape_of a b

module _ (f : ℕ → List ℕ) (sep : List ℕ) where
  escaped-followed : (xs : List ℕ) → flat_map (λ x. escaped sep ++ escaped (f x)) xs ≡ escaped (flat_map (λ x. sep ++ f x) xs)
  escaped-followed [] = refl
  escaped-followed (x ∷ xs) =
      let rest = flat_map (λ x. sep ++ f x) xs in
      ap (λ v. (escaped sep ++ escaped (f x)) ++ v) (escaped-followed xs)
      ∙ ap (λ v. v ++ escaped rest) (sym (escaped-append sep (f x))) ∙ sym (escaped-append (sep ++ f x) rest)

  pub escaped-joined : (xs : List ℕ) → join_by (λ x. escaped (f x)) (escaped sep) xs ≡ escaped (join_by f sep xs)
  escaped-joined [] = refl
  escaped-joined (x ∷ xs) = ap (λ v. escaped (f x) ++ v) (escaped-followed xs) ∙ sym (escaped-append (f x) (flat_map (λ x. sep ++ f x) xs))

scalars_parts : (xs ys : List ℕ) → scalars (xs ++ ys) ≡ true → (scalars xs ≡ true) × (scalars ys ≡ true)
scalars_parts [] ys h = (refl, h)
scalars_parts (x ∷ xs) ys h =
    let first = and_parts (scalar x) (scalars (xs ++ ys)) h in
    let rest = scalars_parts xs ys first.1 in (rw (first.0, rest.0) refl, rest.1)

scalar_escaped : (c : ℕ) → scalars (escape_of c) ≡ true → scalar c ≡ true
scalar_escaped c h =
    elim (eqb_tells c 92) [
      | inl p ↦ rw p.1 refl
      | inr p ↦ elim (eqb_tells c 9) [
        | inl q ↦ rw q.1 refl
        | inr q ↦ elim (eqb_tells c 10) [
          | inl r ↦ rw r.1 refl
          | inr r ↦ elim (eqb_tells c 13) [
            | inl s ↦ rw s.1 refl
            | inr s ↦ let e : escape_of c ≡ c ∷ [] = rw (p.0, q.0, r.0, s.0) refl in (and_parts (scalar c) true (ap scalars (sym e) ∙ h)).0
          ]
        ]
      ]
    ]

scalars_escaped : (t : List ℕ) → scalars (escaped t) ≡ true → scalars t ≡ true
scalars_escaped [] h = refl
scalars_escaped (c ∷ t) h = let parts = scalars_parts (escape_of c) (escaped t) h in rw (scalar_escaped c parts.0, scalars_escaped t parts.1) refl

-- what stands escaped at the end of a text is one
pub scalars_behind : (front t whole : List ℕ) → whole ≡ front ++ escaped t → scalars whole ≡ true → scalars t ≡ true
scalars_behind front t whole e h = scalars_escaped t (scalars_parts front (escaped t) (ap scalars (sym e) ∙ h)).1
