-- What is read is a well-formed tree with those tokens: operands with their signs, and whole expressions.
use Rattle.std.proofs.Common.{◌≡◌, ℕ, suc, ◌+◌, ◌<◌, ◌≤◌, List, [], ◌∷◌, ◌++◌, append_assoc, Option, Some, None, option_and_then, Bool, true, false, nat_le, refl, sym, ap, subst, ◌∙◌, map, arith, if◌then◌else◌}
use Rattle.std.proofs.lemmas.Bool.{leb-true, leb-false}
use Rattle.std.proofs.lemmas.Option.{same_Some, option_and_then_some}
use Rattle.ic_laws.specs.Dialect.{DialectMeaning}
use Rattle.ic_laws.specs.Parse.{node, Reader, made, arguments, primary, applied, postfix, postfixes, joined_by, binary, prefix_sign, prefixed, operand, expression}
use Rattle.ic_laws.specs.Token.{Token, Separator, Operator, At, Percent, Hash, Open, Close}
use Rattle.ic_laws.specs.Tree.{Spelled, sign_level, level, is_callable}
use Rattle.ic_laws.specs.Yield.{joined, prefix_token, yield}
use Rattle.ic_laws.specs.declared.tree.BinarySign.{BinarySign}
use Rattle.ic_laws.specs.declared.tree.BinarySign.TheVariants as signs
use Rattle.ic_laws.specs.declared.tree.PrefixSign.{PrefixSign}
use Rattle.ic_laws.specs.declared.tree.PrefixSign.TheVariants as prefixes
use Rattle.ic_laws.specs.declared.tree.Tree.TheOpen as one
use Rattle.ic_laws.proofs.parsing.Nodes.{level-node}
use Rattle.ic_laws.proofs.parsing.Completeness.{below_six}
use Rattle.ic_laws.proofs.parsing.Soundness.{NoSign, NoSign-more, Good, Good-less, Sound, good_made, turns_sound}
use Rattle.ic_laws.proofs.parsing.SoundParts.{ArgumentsGood, arguments_sound}
use Rattle.ic_laws.proofs.parsing.SoundKinds.{if_some, opened_some, primary_sound}

module _ (d : DialectMeaning) (most : ℕ) (below : Reader) (sound : Sound d most below) where
  percent_sound : (b : ℕ) (all : List Token) (left : Spelled) (ts : List Token) (read : Spelled × List Token) → Good d most b 7 all (left, Percent ∷ ts) → made most (one.Percent left) ts ≡ Some read → Good d most b 7 all read
  percent_sound b all left ts read good e =
      good_made d most b 7 (one.Percent left) all ts read (record {
        well = record { operands = good.tight; called = tt; arguments = tt; parts = good.there; elements = tt; unsigned = tt; words = tt; places = tt };
        below = good.well;
        there = refl;
        few = good.few;
        tight = omega arith;
      }) (good.tokens ∙ sym (append_assoc (yield d left) (Percent ∷ []) ts)) e

  spill_sound : (b : ℕ) (all : List Token) (left : Spelled) (ts : List Token) (read : Spelled × List Token) → Good d most b 7 all (left, Hash ∷ ts) → made most (one.Spill left) ts ≡ Some read → Good d most b 7 all read
  spill_sound b all left ts read good e =
      good_made d most b 7 (one.Spill left) all ts read (record {
        well = record { operands = good.tight; called = tt; arguments = tt; parts = good.there; elements = tt; unsigned = tt; words = tt; places = tt };
        below = good.well;
        there = refl;
        few = good.few;
        tight = omega arith;
      }) (good.tokens ∙ sym (append_assoc (yield d left) (Hash ∷ []) ts)) e

  applied_sound : (b inner : ℕ) (all : List Token) (left : Spelled) (ts : List Token) (read : Spelled × List Token) → inner + 1 ≤ b → is_callable left ≡ true → Good d most b 7 all (left, Open ∷ ts) → applied most below inner left ts ≡ Some read → Good d most b 7 all read
  unfolding applied
  applied_sound b inner all left ts read le callable good e =
      option_and_then_some _ (arguments below inner ts) read e (λ found got h.
      let given : ArgumentsGood d inner ts found = arguments_sound d most below sound inner ts found got in
      let tokens : List Token = joined Separator (map (yield d) found.0) in
      good_made d most b 7 (one.Apply left found.0) all found.1 read (record {
        well = record { operands = good.tight; called = callable; arguments = given.arguments; parts = good.there; elements = tt; unsigned = tt; words = tt; places = tt };
        below = (good.well, given.well);
        there = refl;
        few = omega (arith, good.few, given.few);
        tight = omega arith;
      })
      (good.tokens ∙ ap (λ (xs : List Token). yield d left ++ Open ∷ xs) given.tokens
      ∙ sym (append_assoc (yield d left) (Open ∷ (tokens ++ Close ∷ [])) found.1)
      ∙ ap (λ (xs : List Token). xs ++ found.1) (sym (append_assoc (yield d left) (Open ∷ tokens) (Close ∷ [])))) h)

  postfix_sound : (b : ℕ) (all : List Token) (left : Spelled) (ts : List Token) (read : Spelled × List Token) → Good d most b 7 all (left, ts) → postfix most below b left ts ≡ Some (Some read) → Good d most b 7 all read
  unfolding postfix
  postfix_sound b all left (Percent ∷ ts) read good e = percent_sound b all left ts read good (same_Some _ (Some read) e)
  postfix_sound b all left (Hash ∷ ts) read good e = spill_sound b all left ts read good (same_Some _ (Some read) e)
  postfix_sound b all left (Open ∷ ts) read good e =
      if_some (is_callable left) _ (Some read) e (λ callable h.
      opened_some b (λ inner. applied most below inner left ts) read (same_Some _ (Some read) h) (λ inner le more. applied_sound b inner all left ts read le callable good more))
  postfix_sound b all left ts read good e = cc

  prefix_sign_some : (token : Token) (sign : PrefixSign) → prefix_sign token ≡ Some sign → token ≡ prefix_token sign
  unfolding prefix_sign
  prefix_sign_some (Operator signs.Plus) sign e = ap prefix_token (same_Some prefixes.Plus sign e)
  prefix_sign_some (Operator signs.Minus) sign e = ap prefix_token (same_Some prefixes.Minus sign e)
  prefix_sign_some At sign e = ap prefix_token (same_Some prefixes.At sign e)
  prefix_sign_some token sign e = cc

  prefixed_sound : (b : ℕ) (token : Token) (sign : PrefixSign) (ts : List Token) (read : Spelled × List Token) → prefix_sign token ≡ Some sign → prefixed most below b sign ts ≡ Some read → Good d most b 6 (token ∷ ts) read
  unfolding prefixed
  prefixed_sound b token sign ts read is e = option_and_then_some _ (below b 6 ts) read e (λ x got h.
      let good : Good d most b 6 ts x = sound.good b 6 ts x (omega arith) got in
      good_made d most b 6 (one.Prefix sign x.0) (token ∷ ts) x.1 read (record {
        well = record { operands = good.tight; called = tt; arguments = tt; parts = good.there; elements = tt; unsigned = tt; words = tt; places = tt };
        below = good.well;
        there = refl;
        few = good.few;
        tight = omega arith;
      }) (ap (λ (t : Token). t ∷ ts) (prefix_sign_some token sign is) ∙ ap (λ (xs : List Token). prefix_token sign ∷ xs) good.tokens) h)

  operand_sound : (b : ℕ) (ts : List Token) (read : Spelled × List Token) → operand d most below b ts ≡ Some read → Good d most b 6 ts read
  unfolding operand
  operand_sound b [] read e = cc
  operand_sound b (token ∷ ts) read e = at (prefix_sign token) refl e
    where
      at : (o : Option PrefixSign) → prefix_sign token ≡ o → elim o [
        | Some sign ↦ prefixed most below b sign ts
        | None ↦ option_and_then (λ first. postfixes most below b most first.0 first.1) (primary d most below b token ts)
      ] ≡ Some read → Good d most b 6 (token ∷ ts) read
      at (Some sign) is h = prefixed_sound b token sign ts read is h
      at None is h = option_and_then_some _ (primary d most below b token ts) read h (λ first got more.
          let kept = turns_sound (postfix most below b) (Good d most b 7 (token ∷ ts)) (λ left rest next good turned. postfix_sound b (token ∷ ts) left rest next good turned)
          most first.0 first.1 read (primary_sound d most below sound b token ts first got) more in
          Good-less d most b 6 7 (token ∷ ts) read (omega arith) kept.0)

  -- what the loop over signs keeps
  record Kept (b least : ℕ) (all : List Token) (read : Spelled × List Token) : Type 0 where
    pub good : Good d most b least all read
    pub next : NoSign (suc (level read.0)) read.1

  joined_sound : (b least : ℕ) (all : List Token) (sign : BinarySign) (left : Spelled) (ts : List Token) (read : Spelled × List Token) → least ≤ sign_level sign → Kept b least all (left, Operator sign ∷ ts) → joined_by most below b sign left ts ≡ Some read → Good d most b least all read
  unfolding joined_by
  joined_sound b least all sign left ts read enough kept e = option_and_then_some _ (below b (sign_level sign + 1) ts) read e (λ right got h.
      let low : sign_level sign + 1 ≤ 6 = omega (arith, below_six sign) in
      let good : Good d most b (sign_level sign + 1) ts right = sound.good b (sign_level sign + 1) ts right low got in
      let before : Good d most b least all (left, Operator sign ∷ ts) = kept.good in
      let next : sign_level sign < suc (level left) = kept.next in
      good_made d most b least (one.Binary sign left right.0) all right.1 read (record {
        well = record { operands = (omega arith, good.tight); called = tt; arguments = tt; parts = (before.there, good.there); elements = tt; unsigned = tt; words = tt; places = tt };
        below = (before.well, good.well);
        there = refl;
        few = omega (arith, before.few, good.few);
        tight = enough;
      })
      (before.tokens ∙ ap (λ (xs : List Token). yield d left ++ Operator sign ∷ xs) good.tokens ∙ sym (append_assoc (yield d left) (Operator sign ∷ yield d right.0) right.1)) h)

  joined_next : (b : ℕ) (sign : BinarySign) (left : Spelled) (ts : List Token) (read : Spelled × List Token) → joined_by most below b sign left ts ≡ Some read → NoSign (suc (level read.0)) read.1
  unfolding joined_by
  joined_next b sign left ts read e = option_and_then_some _ (below b (sign_level sign + 1) ts) read e (λ right got h.
      let low : sign_level sign + 1 ≤ 6 = omega (arith, below_six sign) in
      let next : NoSign (sign_level sign + 1) right.1 = sound.no_sign b (sign_level sign + 1) ts right low got in
      if_some (nat_le _ most) (Some (node (one.Binary sign left right.0), right.1)) read h (λ fits same.
      subst (λ (p : Spelled × List Token). NoSign (suc (level p.0)) p.1) (same_Some _ read same) (NoSign-more (sign_level sign + 1) _ right.1 (omega (arith, level-node (one.Binary sign left right.0))) next)))

  binary_sound : (b least : ℕ) (all : List Token) (left : Spelled) (ts : List Token) (read : Spelled × List Token) → Kept b least all (left, ts) → binary most below b least left ts ≡ Some (Some read) → Kept b least all read
  unfolding binary
  binary_sound b least all left (Operator sign ∷ ts) read kept e = if_some (nat_le least (sign_level sign)) _ (Some read) e (λ enough h.
      let taken : joined_by most below b sign left ts ≡ Some read = same_Some _ (Some read) h in
      record { good = joined_sound b least all sign left ts read (leb-true least (sign_level sign) enough) kept taken; next = joined_next b sign left ts read taken })
  binary_sound b least all left ts read kept e = cc

  binary_none : (b least : ℕ) (left : Spelled) (ts : List Token) → binary most below b least left ts ≡ None → NoSign least ts
  unfolding binary
  binary_none b least left (Operator sign ∷ ts) e = at (nat_le least (sign_level sign)) refl e
    where
      at : (v : Bool) → nat_le least (sign_level sign) ≡ v → (if v then Some (joined_by most below b sign left ts) else None) ≡ None → sign_level sign < least
      at true is h = cc
      at false is h = leb-false least (sign_level sign) is
  binary_none b least left ts e = tt

  no_sign_above : (least : ℕ) (ts : List Token) → 6 ≤ least → NoSign least ts
  no_sign_above least (Operator sign ∷ ts) le = omega (arith, below_six sign)
  no_sign_above least ts le = tt

  expression_kept : (b least : ℕ) (ts : List Token) (read : Spelled × List Token) → least ≤ 6 → expression d most below b least ts ≡ Some read → Kept b least ts read × (binary most below b least read.0 read.1 ≡ None)
  unfolding expression
  expression_kept b least ts read le e = option_and_then_some _ (operand d most below b ts) read e (λ first got more.
      let good : Good d most b 6 ts first = operand_sound b ts first got in
      let start : Kept b least ts first = record { good = Good-less d most b least 6 ts first le good; next = no_sign_above (suc (level first.0)) first.1 (omega (arith, good.tight)) } in
      turns_sound (binary most below b least) (Kept b least ts) (λ left rest next kept turned. binary_sound b least ts left rest next kept turned) most first.0 first.1 read start more)

  pub expression_sound : Sound d most (expression d most below)
  expression_sound = record {
    good = λ b least ts read le e. let kept = expression_kept b least ts read le e in kept.0.good;
    no_sign = λ b least ts read le e. let kept = expression_kept b least ts read le e in binary_none b least read.0 read.1 kept.1;
  }
