-- The turns of the loops over what stands after an operand and between operands.
use Rattle.std.proofs.Common.{◌≡◌, ◌≢◌, true, false, ◌∙◌, sym, ap, subst, refl, ℕ, zero, suc, ◌+◌, ◌-◌, ◌<◌, ◌≤◌, List, ◌∷◌, Option, Some, None, option_map, arith}
use Rattle.ic_laws.specs.Parse.{Read, Reader, made, arguments, postfix, binary, joined_by, turns, applied, opened}
use Rattle.ic_laws.specs.Token.{Token, Percent, Hash, Operator, Open}
use Rattle.ic_laws.specs.Tree.{Spelled, sign_level, is_callable}
use Rattle.ic_laws.specs.declared.tree.Tree.TheOpen as one
use Rattle.ic_laws.specs.declared.tree.BinarySign.{BinarySign}
use Rattle.ic_laws.proofs.parsing.ReadLemmas.{turns_stop, turns_go}
use Rattle.ic_laws.proofs.parsing.FuelLemmas.{turns_fail}
use Rattle.std.proofs.lemmas.Bool.{le-leb, lt-leb}
use Rattle.ic_tree.specs.Tokens.{ahead_of, after_first}
use Rattle.ic_tree.specs.declared.token.Ahead.TheVariants as ahead
use Rattle.ic_tree.specs.Turn.{IsTurn, turn_of}
use Rattle.ic_tree.specs.declared.reader.Turn.{Turn}
use Rattle.ic_tree.specs.declared.reader.Turn.TheVariants as turn

-- what a turn leads to
abbrev pub after : (Spelled → List Token → Option (Read Spelled)) → ℕ → Turn → List Token → Read Spelled
after turning fuel (turn.Stays same) rest = Some (same, rest)
after turning fuel turn.Fails rest = None
after turning fuel (turn.Takes next) rest = turns turning fuel next rest

after_turn : (turning : Spelled → List Token → Option (Read Spelled)) (fuel : ℕ) (left : Spelled) (ts : List Token) (t : Turn) (rest : List Token) → IsTurn (turning left ts) left ts t rest → after turning fuel t rest ≡ turns turning (suc fuel) left ts
after_turn turning fuel left ts (turn.Stays same) rest h =
    subst (λ (u : Spelled). Some (u, rest) ≡ turns turning (suc fuel) left ts) (sym h.1) (subst (λ (us : List Token). Some (left, us) ≡ turns turning (suc fuel) left ts) (sym h.2) (sym (turns_stop turning fuel left ts h.0)))
after_turn turning fuel left ts turn.Fails rest h = sym (turns_fail turning (suc fuel) left ts h)
after_turn turning fuel left ts (turn.Takes next) rest h = sym (turns_go turning fuel left ts next rest h)

pub turn_is : (turning : Spelled → List Token → Option (Read Spelled)) (most i : ℕ) (left : Spelled) (ts : List Token) (t s : Turn) (rest : List Token) → i < most → t ≡ s → IsTurn (turning left ts) left ts t rest → after turning (most - (i + 1)) s rest ≡ turns turning (most - i) left ts
turn_is turning most i left ts t s rest more is h =
    let step : most - i ≡ suc (most - (i + 1)) = omega arith in
    subst (λ (n : ℕ). after turning (most - (i + 1)) s rest ≡ turns turning n left ts) (sym step)
    (after_turn turning (most - (i + 1)) left ts s rest (subst (λ (u : Turn). IsTurn (turning left ts) left ts u rest) is h))

pub turns_begin : (turning : Spelled → List Token → Option (Read Spelled)) (most : ℕ) (left : Spelled) (ts : List Token) → turns turning (most - 0) left ts ≡ turns turning most left ts
turns_begin turning most left ts = let same : most - 0 ≡ most = omega arith in ap (λ (n : ℕ). turns turning n left ts) same

pub turns_spent : (turning : Spelled → List Token → Option (Read Spelled)) (most i : ℕ) (left : Spelled) (ts : List Token) → most ≤ i → None ≡ turns turning (most - i) left ts
unfolding turns
turns_spent turning most i left ts over = let none : most - i ≡ 0 = omega arith in rw none refl

-- a turn that takes a tree, where there is one
pub taken_turn : (turning : Option (Read Spelled)) (read : Read Spelled) (left : Spelled) (ts rest : List Token) (o : Option Spelled) (t : Turn) → turning ≡ Some read → option_map (λ u. (u, rest)) o ≡ read → t ≡ turn_of o → IsTurn turning left ts t rest
taken_turn turning read left ts rest o t turns got is = rw (turns, is) (shown o got)
  where
    shown : (o : Option Spelled) → option_map (λ u. (u, rest)) o ≡ read → IsTurn (Some read) left ts (turn_of o) rest
    shown None e = ap Some (sym e)
    shown (Some t) e = ap Some (sym e)

-- what stands in sight says which turn is taken
module _ (most : ℕ) (below : Reader) (b : ℕ) (left : Spelled) where
  pub percent_turn : (ts rest : List Token) → ahead_of ts ≡ ahead.Percent → rest ≡ after_first ts → postfix most below b left ts ≡ Some (made most (one.Percent left) rest)
  unfolding postfix
  percent_turn (Percent ∷ ts) rest is same = rw same refl
  percent_turn ts rest is same = cc

  pub hash_turn : (ts rest : List Token) → ahead_of ts ≡ ahead.Hash → rest ≡ after_first ts → postfix most below b left ts ≡ Some (made most (one.Spill left) rest)
  unfolding postfix
  hash_turn (Hash ∷ ts) rest is same = rw same refl
  hash_turn ts rest is same = cc

  pub open_stays : (ts : List Token) → ahead_of ts ≡ ahead.Open → is_callable left ≡ false → postfix most below b left ts ≡ None
  unfolding postfix
  open_stays (Open ∷ ts) is lacks = rw lacks refl
  open_stays ts is lacks = cc

  pub open_fails : (ts : List Token) → ahead_of ts ≡ ahead.Open → is_callable left ≡ true → b ≡ 0 → postfix most below b left ts ≡ Some None
  unfolding postfix
  open_fails (Open ∷ ts) is can none = rw (can, none) refl
  open_fails ts is can none = cc

  open_turn : (ts rest : List Token) → ahead_of ts ≡ ahead.Open → is_callable left ≡ true → 0 < b → rest ≡ after_first ts → postfix most below b left ts ≡ Some (applied most below (b - 1) left rest)
  unfolding postfix
  open_turn (Open ∷ ts) rest is can some same = rw (can, same) (ap Some (opened_some b some))
    where
      opened_some : (b : ℕ) → 0 < b → opened b (λ inner. applied most below inner left ts) ≡ applied most below (b - 1) left ts
      opened_some zero less = absurd (omega arith)
      opened_some (suc n) less = let pred : suc n - 1 ≡ n = omega arith in rw pred refl
  open_turn ts rest is can some same = cc

  pub open_lacks : (ts middle rest : List Token) (o : Option (List Spelled)) → ahead_of ts ≡ ahead.Open → is_callable left ≡ true → 0 < b → middle ≡ after_first ts → option_map (λ us. (us, rest)) o ≡ arguments below (b - 1) middle → o ≡ None → postfix most below b left ts ≡ Some None
  unfolding applied
  open_lacks ts middle rest o is can some same got none =
      let lacks : arguments below (b - 1) middle ≡ None = sym got ∙ ap (option_map (λ us. (us, rest))) none in
      open_turn ts middle is can some same ∙ ap Some (rw lacks refl)

  pub open_applies : (ts middle rest : List Token) (o : Option (List Spelled)) (found : List Spelled) → ahead_of ts ≡ ahead.Open → is_callable left ≡ true → 0 < b → middle ≡ after_first ts → option_map (λ us. (us, rest)) o ≡ arguments below (b - 1) middle → o ≡ Some found → postfix most below b left ts ≡ Some (made most (one.Apply left found) rest)
  unfolding applied
  open_applies ts middle rest o found is can some same got stands =
      let read : arguments below (b - 1) middle ≡ Some (found, rest) = sym got ∙ ap (option_map (λ us. (us, rest))) stands in
      open_turn ts middle is can some same ∙ ap Some (rw read refl)

  pub other_stays : (ts : List Token) → ahead_of ts ≢ ahead.Percent → ahead_of ts ≢ ahead.Hash → ahead_of ts ≢ ahead.Open → postfix most below b left ts ≡ None
  unfolding postfix
  other_stays (Percent ∷ ts) p h o = absurd (p refl)
  other_stays (Hash ∷ ts) p h o = absurd (h refl)
  other_stays (Open ∷ ts) p h o = absurd (o refl)
  other_stays ts p h o = refl

  pub sign_turn : (least : ℕ) (sign : BinarySign) (ts rest : List Token) → ahead_of ts ≡ ahead.Operator sign → least ≤ sign_level sign → rest ≡ after_first ts → binary most below b least left ts ≡ Some (joined_by most below b sign left rest)
  unfolding binary
  sign_turn least sign (Operator other ∷ ts) rest is le past =
      let same : other ≡ sign = cc in
      rw (same, past) (rw (le-leb least (sign_level sign) le) refl)
  sign_turn least sign ts rest is le past = cc

  pub sign_fails : (sign : BinarySign) (rest back : List Token) (o : Option Spelled) → option_map (λ u. (u, back)) o ≡ below b (sign_level sign + 1) rest → o ≡ None → joined_by most below b sign left rest ≡ None
  unfolding joined_by
  sign_fails sign rest back o got none = rw (sym got, none) refl

  pub sign_joins : (sign : BinarySign) (rest back : List Token) (o : Option Spelled) (right : Spelled) → option_map (λ u. (u, back)) o ≡ below b (sign_level sign + 1) rest → o ≡ Some right → joined_by most below b sign left rest ≡ made most (one.Binary sign left right) back
  unfolding joined_by
  sign_joins sign rest back o right got some = rw (sym got, some) refl

  pub sign_stays : (least : ℕ) (sign : BinarySign) (ts : List Token) → ahead_of ts ≡ ahead.Operator sign → sign_level sign < least → binary most below b least left ts ≡ None
  unfolding binary
  sign_stays least sign (Operator other ∷ ts) is lt =
      let same : other ≡ sign = cc in
      rw same (rw (lt-leb least (sign_level sign) lt) refl)
  sign_stays least sign ts is lt = cc

  pub no_sign_stays : (least : ℕ) (ts : List Token) → ((sign : BinarySign) → ahead_of ts ≢ ahead.Operator sign) → binary most below b least left ts ≡ None
  unfolding binary
  no_sign_stays least (Operator sign ∷ ts) lacks = absurd (lacks sign refl)
  no_sign_stays least ts lacks = refl

pub level_same : (below : Reader) (b level other : ℕ) (ts : List Token) → level ≡ other → below b (level + 1) ts ≡ below b (other + 1) ts
level_same below b level other ts e = ap (λ (n : ℕ). below b (n + 1) ts) e
