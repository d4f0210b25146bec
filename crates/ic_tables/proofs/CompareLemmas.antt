-- Comparing foldings character by character, and fronts that fold to a text.
use Rattle.std.proofs.Common.{◌≡◌, ℕ, ◌+◌, ◌<◌, Bool, true, false, List, [], ◌∷◌, ◌++◌, length, get_or, take, drop, chars, IsUtf8, IsCharBoundary, ◌==◌, ◌&&◌, nat_lt, not, bytes_eq, append_assoc, refl, sym, ap, ap₂, subst, ◌∙◌, arith}
use Rattle.std.proofs.lemmas.Bool.{agree_below, agree_below_at, and_parts, both_ways, false_from_ne_true, ltb-true}
use Rattle.std.proofs.lemmas.Bool.Decides.{nat_tests}
use Rattle.std.proofs.lemmas.List.{take_more, drop_more, take-append-drop, append_cancel_left}
use Rattle.std.proofs.lemmas.Str.{IsCharBoundary-after_ascii, IsCharBoundary-start, IsUtf8-drop, chars_past_char, encode_ascii}
use Rattle.std.proofs.lemmas.Map.Text.{is_eq-slice_cmp}
use Rattle.std.proofs.lemmas.Slice.Eq.{bytes_eq-Decides}
use Rattle.std.proofs.lemmas.Cmp.{tied_itself, nat_cmp_total}
use Rattle.std.specs.Char.{to_ascii_lowercase}
use Rattle.std.specs.Cmp.Lexicographic.{slice_cmp}
use Rattle.std.specs.Ordering.{nat_cmp, ordering_then, is_eq}
use Rattle.std.specs.declared.cmp.Ordering.{Ordering}
use Rattle.std.specs.declared.cmp.Ordering.TheVariants.{Less, Equal}
use Rattle.ucd_case.proofs.Computing.{ucd_case}
use Rattle.ucd_case.specs.CaseFolding.{full_fold}
use Rattle.caseless.specs.Caseless.{default_case_fold}
use Rattle.ic_laws.specs.Name.{fold}
use Rattle.ic_tables.specs.Order.{ComparesBy, FoldsFront, FoldsNoFront}
use Rattle.ic_laws.proofs.FoldLaws.{fold-cons}

-- the folding of an ASCII character is its lower case
folds_low : ℕ → Bool
folds_low c = bytes_eq (full_fold c) (to_ascii_lowercase c ∷ [])

all_low : agree_below folds_low (λ c. true) 128 ≡ true
unfolding folds_low ucd_case
all_low = refl

pub full_fold-ascii : (c : ℕ) → c < 128 → full_fold c ≡ to_ascii_lowercase c ∷ []
unfolding folds_low
full_fold-ascii c h = (bytes_eq-Decides (full_fold c) (to_ascii_lowercase c ∷ [])).0 (agree_below_at folds_low (λ c. true) 128 c all_low h)

pub fold-nil : fold [] ≡ []
unfolding default_case_fold
fold-nil = refl

same_cmp : (c : ℕ) → nat_cmp c c ≡ Equal
same_cmp c = tied_itself nat_cmp_total c

-- what two texts begin with alike does not count
pub same_front : (a x y : List ℕ) → slice_cmp nat_cmp (a ++ x) (a ++ y) ≡ slice_cmp nat_cmp x y
same_front [] x y = refl
same_front (c ∷ cs) x y = ap (λ o. ordering_then o (slice_cmp nat_cmp (cs ++ x) (cs ++ y))) (same_cmp c) ∙ same_front cs x y

-- after some characters that are alike
pub compares_after : (front text rest : List ℕ) (i c : ℕ) (order : Ordering) → i < length front → text ≡ take i front ++ rest → c ≡ get_or front i c → ComparesBy (c ∷ []) rest order → ComparesBy front text order
compares_after front text rest i c order h e at k =
    record {
      compared = λ more.
          ap₂ (slice_cmp nat_cmp) (ap (λ f. f ++ more) (sym (take-append-drop i front) ∙ ap (λ l. take i front ++ l) (drop_more front i c h ∙ ap (λ x. x ∷ drop (i + 1) front) (sym at))) ∙ append_assoc (take i front) _ more) e
          ∙ same_front (take i front) _ rest ∙ k.compared (drop (i + 1) front ++ more);
      apart = k.apart;
    }

-- a character's folding decides
pub decided : (c : ℕ) (cs text whole : List ℕ) (order : Ordering) → text ≡ c ∷ cs → ComparesBy (full_fold c) whole order → slice_cmp nat_cmp (fold text) whole ≡ order
decided c cs text whole order e k = ap (λ t. slice_cmp nat_cmp t whole) (ap fold e ∙ fold-cons c cs) ∙ k.compared (fold cs)

-- it stands in front of what it is compared with
pub passed : (c : ℕ) (cs text whole rest : List ℕ) → text ≡ c ∷ cs → whole ≡ full_fold c ++ rest → slice_cmp nat_cmp (fold text) whole ≡ slice_cmp nat_cmp (fold cs) rest
passed c cs text whole rest e w = ap₂ (slice_cmp nat_cmp) (ap fold e ∙ fold-cons c cs) w ∙ same_front (full_fold c) (fold cs) rest

pub ended : (text whole : List ℕ) → text ≡ [] → whole ≡ [] → slice_cmp nat_cmp (fold text) whole ≡ Equal
ended text whole e w = ap₂ (slice_cmp nat_cmp) (ap fold e ∙ fold-nil) w

pub ended_before : (text whole ds : List ℕ) (d : ℕ) → text ≡ [] → whole ≡ d ∷ ds → slice_cmp nat_cmp (fold text) whole ≡ Less
ended_before text whole ds d e w = ap₂ (slice_cmp nat_cmp) (ap fold e ∙ fold-nil) w

pub ruleset past_steps = (take_more, append_assoc)

pub ruleset fold_steps = (full_fold-ascii)

pub ruleset compare_steps = (passed, ended, ended_before)

-- fronts that fold to a text
pub front_here : (whole text : List ℕ) → whole ≡ [] → FoldsFront whole text text
front_here whole text e = record { front = []; split = refl; folds = fold-nil ∙ sym e }

differ_from : (a b : List ℕ) → (a ≡ b → ⊥) → bytes_eq a b ≡ false
differ_from a b h = false_from_ne_true (bytes_eq a b) (λ e. h ((bytes_eq-Decides a b).0 e))

same_as : (a b : List ℕ) → bytes_eq a b ≡ false → a ≡ b → ⊥
same_as a b h e = both_ways (bytes_eq a b) h ((bytes_eq-Decides a b).1 e)

module _ (whole text : List ℕ) where
  -- no text begins with a folding where it has ended
  pub front_none : (d : ℕ) (ds : List ℕ) → whole ≡ d ∷ ds → text ≡ [] → FoldsNoFront whole text
  front_none d ds w e [] rest split = differ_from (fold []) whole (λ s. bad (fold []) d ds fold-nil (s ∙ w))
    where
      bad : (t : List ℕ) (x : ℕ) (xs : List ℕ) → t ≡ [] → t ≡ x ∷ xs → ⊥
      bad t x xs e f = cc
  front_none d ds w e (c ∷ front) rest split = absurd (bad text c (front ++ rest) e split)
    where
      bad : (t : List ℕ) (x : ℕ) (xs : List ℕ) → t ≡ [] → t ≡ x ∷ xs → ⊥
      bad t x xs e f = cc

  -- nor where its first character folds to something else
  pub front_other : (d : ℕ) (ds : List ℕ) (c : ℕ) (cs : List ℕ) (order : Ordering) → whole ≡ d ∷ ds → text ≡ c ∷ cs → ComparesBy (full_fold c) whole order → FoldsNoFront whole text
  front_other d ds c cs order w e k [] rest split = differ_from (fold []) whole (λ s. bad (fold []) d ds fold-nil (s ∙ w))
    where
      bad : (t : List ℕ) (x : ℕ) (xs : List ℕ) → t ≡ [] → t ≡ x ∷ xs → ⊥
      bad t x xs e f = cc
  front_other d ds c cs order w e k (b ∷ front) rest split =
      differ_from (fold (b ∷ front)) whole (λ s. both_ways (is_eq order) k.apart (equal s))
    where
      equal : fold (b ∷ front) ≡ whole → is_eq order ≡ true
      equal s =
          let first : b ≡ c = cc in
          sym (ap is_eq (k.compared (fold front))) ∙ is_eq-slice_cmp (full_fold c ++ fold front) whole
          ∙ (bytes_eq-Decides (full_fold c ++ fold front) whole).1 (sym (fold-cons c front) ∙ ap (λ x. fold (x ∷ front)) (sym first) ∙ s)

  -- after a first character, what is left of both decides
  pub front_more : (c : ℕ) (cs left rest : List ℕ) → text ≡ c ∷ cs → whole ≡ full_fold c ++ left → FoldsFront left cs rest → FoldsFront whole text rest
  front_more c cs left rest e w f =
      record { front = c ∷ f.front; split = e ∙ ap (λ t. c ∷ t) f.split; folds = fold-cons c f.front ∙ ap (λ t. full_fold c ++ t) f.folds ∙ sym w }

  pub front_no_more : (d : ℕ) (ds : List ℕ) (c : ℕ) (cs left : List ℕ) → whole ≡ d ∷ ds → text ≡ c ∷ cs → whole ≡ full_fold c ++ left → FoldsNoFront left cs → FoldsNoFront whole text
  front_no_more d ds c cs left w e k none [] rest split = differ_from (fold []) whole (λ s. bad (fold []) d ds fold-nil (s ∙ w))
    where
      bad : (t : List ℕ) (x : ℕ) (xs : List ℕ) → t ≡ [] → t ≡ x ∷ xs → ⊥
      bad t x xs e f = cc
  front_no_more d ds c cs left w e k none (b ∷ front) rest split =
      differ_from (fold (b ∷ front)) whole (λ s. same_as (fold front) left (none front rest (cc)) (equal s))
    where
      equal : fold (b ∷ front) ≡ whole → fold front ≡ left
      equal s =
          let first : b ≡ c = cc in
          append_cancel_left (full_fold c) (fold front) left (sym (fold-cons c front) ∙ ap (λ x. fold (x ∷ front)) (sym first) ∙ s ∙ k)

-- ASCII characters are told by their bytes
eqb_same : (a c : ℕ) → (a == c) ≡ true → a ≡ c
eqb_same a c h = grind (arith, nat_tests, h)

unequal_first : (a c : ℕ) (o : Ordering) → not (a == c) ≡ true → ordering_then (nat_cmp a c) o ≡ nat_cmp a c
unequal_first a c o h = grind (arith, nat_tests, h)

low_below : agree_below (λ c. nat_lt (to_ascii_lowercase c) 128) (λ c. true) 128 ≡ true
low_below = refl

byte_first : (bytes : List ℕ) (at b : ℕ) → IsUtf8 bytes → IsCharBoundary bytes at → at < length bytes → b ≡ get_or bytes at 0 → b < 128
    → IsCharBoundary bytes (at + 1) × (chars (drop at bytes) ≡ b ∷ chars (drop (at + 1) bytes))
byte_first bytes at b utf8 cut within is ascii =
    let more : drop at bytes ≡ b ∷ drop (at + 1) bytes = drop_more bytes at 0 within ∙ ap (λ x. x ∷ drop (at + 1) bytes) (sym is) in
    let spelled = more ∙ ap (λ front. front ++ drop (at + 1) bytes) (sym (encode_ascii b ascii)) in (
      IsCharBoundary-after_ascii bytes at utf8 within (subst (λ x. x < 128) is ascii),
      chars_past_char (drop at bytes) (drop (at + 1) bytes) b (IsUtf8-drop bytes at utf8 cut) spelled,
    )

pub bytes_go_on : (text folded : List ℕ) (at b d : ℕ) → IsUtf8 text → IsUtf8 folded → IsCharBoundary text at → IsCharBoundary folded at → at < length text → at < length folded
    → b ≡ get_or text at 0 → d ≡ get_or folded at 0 → (nat_lt b 128 && to_ascii_lowercase b == d) ≡ true
    → IsCharBoundary text (at + 1) × IsCharBoundary folded (at + 1)
    × (slice_cmp nat_cmp (fold (chars (drop (at + 1) text))) (chars (drop (at + 1) folded)) ≡ slice_cmp nat_cmp (fold (chars (drop at text))) (chars (drop at folded)))
bytes_go_on text folded at b d u v cut_text cut_folded in_text in_folded is_b is_d same =
    let parts = and_parts (nat_lt b 128) (to_ascii_lowercase b == d) same in
    let ascii : b < 128 = ltb-true b 128 parts.0 in
    let low : to_ascii_lowercase b ≡ d = eqb_same (to_ascii_lowercase b) d parts.1 in
    let small : d < 128 = subst (λ x. x < 128) low (ltb-true (to_ascii_lowercase b) 128 (agree_below_at (λ c. nat_lt (to_ascii_lowercase c) 128) (λ c. true) 128 b low_below ascii)) in
    let t = byte_first text at b u cut_text in_text is_b ascii in
    let f = byte_first folded at d v cut_folded in_folded is_d small in
    let whole : chars (drop at folded) ≡ full_fold b ++ chars (drop (at + 1) folded) = f.1 ∙ ap (λ x. x ++ chars (drop (at + 1) folded)) (ap (λ x. x ∷ []) (sym low) ∙ sym (full_fold-ascii b ascii)) in
    (t.0, f.0, sym (passed b (chars (drop (at + 1) text)) (chars (drop at text)) (chars (drop at folded)) (chars (drop (at + 1) folded)) t.1 whole))

pub some_there : (n : ℕ) → false ≡ (n == 0) → 0 < n
some_there n h = let other : (n == 0) ≡ false = sym h in grind (arith, nat_tests, other)

pub bytes_differ : (text folded : List ℕ) (b d : ℕ) → IsUtf8 text → IsUtf8 folded → 0 < length text → 0 < length folded → b ≡ get_or text 0 0 → d ≡ get_or folded 0 0
    → (nat_lt b 128 && nat_lt d 128 && not (to_ascii_lowercase b == d)) ≡ true → nat_cmp (to_ascii_lowercase b) d ≡ slice_cmp nat_cmp (fold (chars text)) (chars folded)
bytes_differ text folded b d u v in_text in_folded is_b is_d apart =
    let parts = and_parts (nat_lt b 128 && nat_lt d 128) (not (to_ascii_lowercase b == d)) apart in
    let both = and_parts (nat_lt b 128) (nat_lt d 128) parts.0 in
    let ascii : b < 128 = ltb-true b 128 both.0 in
    let t = byte_first text 0 b u (IsCharBoundary-start text u) in_text is_b ascii in
    let f = byte_first folded 0 d v (IsCharBoundary-start folded v) in_folded is_d (ltb-true d 128 both.1) in
    let front : fold (chars text) ≡ to_ascii_lowercase b ∷ fold (chars (drop 1 text)) =
    ap fold t.1 ∙ fold-cons b (chars (drop 1 text)) ∙ ap (λ x. x ++ fold (chars (drop 1 text))) (full_fold-ascii b ascii) in
    sym (ap₂ (slice_cmp nat_cmp) front f.1 ∙ unequal_first (to_ascii_lowercase b) d (slice_cmp nat_cmp (fold (chars (drop 1 text))) (chars (drop 1 folded))) parts.1)
