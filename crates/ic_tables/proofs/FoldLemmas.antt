-- Foldings as texts, and words that agree.
use Rattle.std.proofs.Common.{◌≡◌, ℕ, List, [], ◌∷◌, ◌++◌, Bool, true, false, cond, not, ◌&&◌, ◌||◌, ◌∙◌, String, bytes_eq, encode_utf8_all, map, refl, sym, ap, ap₂, append_assoc}
use Rattle.std.proofs.Math.Bool.{and-false}
use Rattle.std.proofs.lemmas.Map.Text.{btree_set_updates_text}
use Rattle.std.proofs.lemmas.Str.{encodes_same}
use Rattle.std.proofs.lemmas.Bool.{and_from}
use Rattle.std.proofs.lemmas.Bool.Decides.{Decides-like, same_from_decides}
use Rattle.std.proofs.lemmas.Slice.Eq.{bytes_eq-Decides}
use Rattle.std.specs.BTreeSet as sorted
use Rattle.std.specs.BTreeSet.{BTreeSet, contains_text}
use Rattle.std.specs.Cmp.Lexicographic.{slice_cmp}
use Rattle.std.specs.List.{list_any}
use Rattle.std.specs.Ordering.{nat_cmp}
use Rattle.std.specs.String.{string_bytes, string_cmp}
use Rattle.std.specs.declared.alloc.Global.{Global}
use Rattle.ic_laws.specs.Name.{agrees, fold}
use Rattle.ic_tables.specs.Tables.{are_different, has_text}
use Rattle.ic_tables.specs.Words.{FindsFoldings, no_two_agree}
use Rattle.ic_laws.proofs.General.{bytes_eq-flip as bytes_eq_swap}

pub agrees_by_folding : (w : List ℕ) (ws : List (List ℕ)) → list_any (agrees w) ws ≡ has_text (map fold ws) (fold w)
agrees_by_folding w [] = refl
agrees_by_folding w (v ∷ vs) = ap₂ ◌||◌ (bytes_eq_swap (fold w) (fold v)) (agrees_by_folding w vs)

-- no two words agree where their foldings are different
pub no_two_by_folding : (ws : List (List ℕ)) → no_two_agree ws ≡ are_different (map fold ws)
no_two_by_folding [] = refl
no_two_by_folding (w ∷ ws) = ap₂ (λ a b. not a && b) (agrees_by_folding w ws) (no_two_by_folding ws)

-- ---- the foldings of words, in a set

abbrev Folded : Type 0
Folded = BTreeSet (String Global)

agree_by_bytes : (v w : List ℕ) → bytes_eq (encode_utf8_all (fold v)) (encode_utf8_all (fold w)) ≡ agrees w v
agree_by_bytes v w =
    same_from_decides _ _ (bytes_eq-Decides (encode_utf8_all (fold v)) (encode_utf8_all (fold w)))
    (Decides-like _ (λ e. ap encode_utf8_all (sym e)) (λ e. sym (encodes_same (fold v) (fold w) e)) (bytes_eq-Decides (fold w) (fold v)))

choice_or : (a b : Bool) → cond a true b ≡ (a || b)
choice_or true b = refl
choice_or false b = refl

-- a folding that is put in is new where its word agrees with none of the others, and is found beside theirs
pub one_folding : (before after : Folded) (others : List (List ℕ)) (word bytes : List ℕ) (new : Bool) → FindsFoldings before others → bytes ≡ encode_utf8_all (fold word) → new ≡ not (contains_text before bytes)
    → sorted.UpdatesBy string_cmp (λ k. slice_cmp nat_cmp bytes (string_bytes k)) before after true → (new ≡ not (list_any (agrees word) others)) × FindsFoldings after (word ∷ others)
one_folding before after others word bytes new finds is told updates = (
  told ∙ ap (λ bs. not (contains_text before bs)) is ∙ ap not (finds word),
  λ other.
      let key = encode_utf8_all (fold other) in
      btree_set_updates_text bytes before after true updates key
      ∙ ap (λ rest. cond (bytes_eq bytes key) true rest) (finds other)
      ∙ choice_or (bytes_eq bytes key) (list_any (agrees other) others)
      ∙ ap (λ (b : Bool). b || list_any (agrees other) others) (ap (λ (b : List ℕ). bytes_eq b key) is ∙ agree_by_bytes word other),
)

-- ---- words from the last to the first

-- the items behind are all but these, no two of their words agree, and a set has the foldings
pub record AreBehind {X : Type 0} (id : X → List ℕ) (folded : Folded) (rest items : List X) : Type 0 where
  pub behind : List X
  pub all : rest ++ behind ≡ items
  pub apart : no_two_agree (map id behind) ≡ true
  pub finds : FindsFoldings folded (map id behind)

module _ {X : Type 0} (id : X → List ℕ) where
  -- one more whose word agrees with none behind
  pub one_behind : (before after : Folded) (rest front items : List X) (x : X) (new : Bool) (b : AreBehind id before rest items) → rest ≡ front ++ x ∷ []
      → (new ≡ not (list_any (agrees (id x)) (map id b.behind))) × FindsFoldings after (id x ∷ map id b.behind) → new ≡ true → AreBehind id after front items
  one_behind before after rest front items x new b is put told = record {
    behind = x ∷ b.behind;
    all = sym (append_assoc front (x ∷ []) b.behind) ∙ ap (λ xs. xs ++ b.behind) (sym is) ∙ b.all;
    apart = and_from (not (list_any (agrees (id x)) (map id b.behind))) (no_two_agree (map id b.behind)) (sym put.0 ∙ told) b.apart;
    finds = put.1;
  }

  clash_in_front : (front behind : List X) (x : X) → not (list_any (agrees (id x)) (map id behind)) ≡ false → no_two_agree (map id (front ++ x ∷ behind)) ≡ false
  clash_in_front [] behind x e = rw e refl
  clash_in_front (y ∷ ys) behind x e = rw (clash_in_front ys behind x e) (and-false _)

  -- two agree where a word agrees with one behind
  pub one_agrees : (folded after : Folded) (rest front items : List X) (x : X) (new : Bool) (b : AreBehind id folded rest items) → rest ≡ front ++ x ∷ []
      → (new ≡ not (list_any (agrees (id x)) (map id b.behind))) × FindsFoldings after (id x ∷ map id b.behind) → new ≡ false → false ≡ no_two_agree (map id items)
  one_agrees folded after rest front items x new b is put told =
      sym (ap (λ xs. no_two_agree (map id xs)) (sym b.all ∙ ap (λ xs. xs ++ b.behind) is ∙ append_assoc front (x ∷ []) b.behind) ∙ clash_in_front front b.behind x (sym put.0 ∙ told))
