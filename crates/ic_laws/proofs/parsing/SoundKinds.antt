-- What is read is a well-formed tree with those tokens: operands without signs, by their kinds.
use Rattle.std.proofs.Common.{◌≡◌, ◌≢◌, inl, inr, ℕ, zero, suc, ◌+◌, ◌≤◌, List, [], ◌∷◌, length, append_assoc, Option, Some, None, option_and_then, Bool, true, false, ◌&&◌, nat_eq, refl, sym, ap, subst, ◌∙◌, map, arith, if◌then◌else◌}
use Rattle.std.specs.Prelude.{ℤ}
use Rattle.std.proofs.lemmas.Bool.{and_parts, cases_Bool, eqb-true, eqb-false}
use Rattle.std.proofs.lemmas.Option.{option_and_then_some}
use Rattle.ic_laws.specs.Name.{is_identifier, is_sheet_name, is_variable}
use Rattle.ic_laws.specs.Dialect.{DialectMeaning}
use Rattle.ic_laws.specs.Parse.{Pair, Read, Reader, made, made_if, past_close, past_brace, past_row_sign, followed, listed, arguments, let_parts, lambda_parts, let_call, lambda_call, function_call, name_call, bracketed, row, array, opened, primary}
use Rattle.ic_laws.specs.Position.{is_place_within}
use Rattle.ic_laws.specs.Token.{Token, Num, Str, Boolean, Err, Ref, Local, Word, FunHead, NameHead, Open, Close, OpenBrace, CloseBrace}
use Rattle.ic_laws.specs.Tree.{Spelled, is_called_name, is_written_sheet, is_unsigned}
use Rattle.ic_laws.specs.Yield.{joined, row_sign, row_tokens, yield}
use Rattle.ic_laws.specs.declared.reference.RefToken.{RefToken}
use Rattle.ic_laws.specs.declared.tree.Error.{Error}
use Rattle.ic_laws.specs.declared.tree.Tree.TheOpen as one
use Rattle.ic_laws.proofs.parsing.CompleteParts.{let_tokens, lambda_tokens}
use Rattle.ic_laws.proofs.parsing.Soundness.{Good, Sound, good_made}
use Rattle.ic_laws.proofs.parsing.SoundParts.{ArgumentsGood, arguments_sound, BodyGood, body_sound, LetGood, let_parts_sound, LambdaGood, lambda_parts_sound}
use Rattle.ic_laws.proofs.parsing.SoundRows.{RowsGood, rows_sound}

pub if_some : {A P : Type 0} (b : Bool) (o : Option A) (y : A) → (if b then o else None) ≡ Some y → (b ≡ true → o ≡ Some y → P) → P
if_some true o y e so = so refl e
if_some false o y e so = cc

pub opened_some : {A P : Type 0} (b : ℕ) (inside : ℕ → Read A) (y : A × List Token) → opened b inside ≡ Some y → ((inner : ℕ) → inner + 1 ≤ b → inside inner ≡ Some y → P) → P
opened_some zero inside y e so = cc
opened_some (suc b) inside y e so = so b (omega arith) e

module _ (d : DialectMeaning) (most : ℕ) (below : Reader) (sound : Sound d most below) where
  good-Num : (b : ℕ) (units : ℤ) (rest : List Token) (read : Spelled × List Token) → made_if (is_unsigned units) most (one.Num units) rest ≡ Some read → Good d most b 7 (Num units ∷ rest) read
  good-Num b units rest read e = if_some (is_unsigned units) (made most (one.Num units) rest) read e (λ good h.
      good_made d most b 7 (one.Num units) (Num units ∷ rest) rest read (record {
        well = record { operands = tt; called = tt; arguments = tt; parts = tt; elements = tt; unsigned = good; words = tt; places = tt };
        below = tt;
        there = refl;
        few = omega arith;
        tight = omega arith;
      }) refl h)

  good-Str : (b : ℕ) (text : List ℕ) (rest : List Token) (read : Spelled × List Token) → made most (one.Str text) rest ≡ Some read → Good d most b 7 (Str text ∷ rest) read
  good-Str b text rest read e = good_made d most b 7 (one.Str text) (Str text ∷ rest) rest read (record {
    well = record { operands = tt; called = tt; arguments = tt; parts = tt; elements = tt; unsigned = tt; words = tt; places = tt };
    below = tt;
    there = refl;
    few = omega arith;
    tight = omega arith;
  }) refl e

  good-Bool : (b : ℕ) (value : Bool) (rest : List Token) (read : Spelled × List Token) → made most (one.Bool value) rest ≡ Some read → Good d most b 7 (Boolean value ∷ rest) read
  good-Bool b value rest read e = good_made d most b 7 (one.Bool value) (Boolean value ∷ rest) rest read (record {
    well = record { operands = tt; called = tt; arguments = tt; parts = tt; elements = tt; unsigned = tt; words = tt; places = tt };
    below = tt;
    there = refl;
    few = omega arith;
    tight = omega arith;
  }) refl e

  good-Err : (b : ℕ) (fault : Error) (rest : List Token) (read : Spelled × List Token) → made most (one.Err fault) rest ≡ Some read → Good d most b 7 (Err fault ∷ rest) read
  good-Err b fault rest read e = good_made d most b 7 (one.Err fault) (Err fault ∷ rest) rest read (record {
    well = record { operands = tt; called = tt; arguments = tt; parts = tt; elements = tt; unsigned = tt; words = tt; places = tt };
    below = tt;
    there = refl;
    few = omega arith;
    tight = omega arith;
  }) refl e

  good-Reference : (b : ℕ) (reference : RefToken) (rest : List Token) (read : Spelled × List Token) → made_if (is_written_sheet reference.sheet && is_place_within reference.place) most (one.Reference reference.sheet reference.place) rest ≡ Some read → Good d most b 7 (Ref reference ∷ rest) read
  good-Reference b reference rest read e =
      if_some (is_written_sheet reference.sheet && is_place_within reference.place) (made most (one.Reference reference.sheet reference.place) rest) read e (λ good h.
      let both = and_parts (is_written_sheet reference.sheet) (is_place_within reference.place) good in
      good_made d most b 7 (one.Reference reference.sheet reference.place) (Ref reference ∷ rest) rest read (record {
        well = record { operands = tt; called = tt; arguments = tt; parts = tt; elements = tt; unsigned = tt; words = both.0; places = both.1 };
        below = tt;
        there = refl;
        few = omega arith;
        tight = omega arith;
      }) refl h)

  good-Local : (b : ℕ) (sheet word : List ℕ) (rest : List Token) (read : Spelled × List Token) → made_if (is_sheet_name sheet && is_identifier word) most (one.Local (Some sheet) word) rest ≡ Some read → Good d most b 7 (Local sheet word ∷ rest) read
  good-Local b sheet word rest read e = if_some (is_sheet_name sheet && is_identifier word) (made most (one.Local (Some sheet) word) rest) read e (λ good h.
      good_made d most b 7 (one.Local (Some sheet) word) (Local sheet word ∷ rest) rest read (record {
        well = record { operands = tt; called = tt; arguments = tt; parts = tt; elements = tt; unsigned = tt; words = and_parts (is_sheet_name sheet) (is_identifier word) good; places = tt };
        below = tt;
        there = refl;
        few = omega arith;
        tight = omega arith;
      }) refl h)

  good-Word : (b : ℕ) (text : List ℕ) (rest : List Token) (read : Spelled × List Token) → made_if (is_variable text) most (one.Word text) rest ≡ Some read → Good d most b 7 (Word text ∷ rest) read
  good-Word b text rest read e = if_some (is_variable text) (made most (one.Word text) rest) read e (λ good h.
      good_made d most b 7 (one.Word text) (Word text ∷ rest) rest read (record {
        well = record { operands = tt; called = tt; arguments = tt; parts = tt; elements = tt; unsigned = tt; words = good; places = tt };
        below = tt;
        there = refl;
        few = omega arith;
        tight = omega arith;
      }) refl h)

  good-Paren : (b inner : ℕ) (ts : List Token) (read : Spelled × List Token) → inner + 1 ≤ b → bracketed most below inner ts ≡ Some read → Good d most b 7 (Open ∷ ts) read
  unfolding bracketed
  good-Paren b inner ts read le e = option_and_then_some _ (followed past_close (below inner 1 ts)) read e (λ body got h.
      let good : BodyGood d inner ts body = body_sound d most below sound inner ts body got in
      good_made d most b 7 (one.Paren body.0) (Open ∷ ts) body.1 read (record {
        well = record { operands = tt; called = tt; arguments = tt; parts = good.there; elements = tt; unsigned = tt; words = tt; places = tt };
        below = good.well;
        there = refl;
        few = omega (arith, good.few);
        tight = omega arith;
      }) (ap (λ (xs : List Token). Open ∷ xs) (good.tokens ∙ sym (append_assoc (yield d body.0) (Close ∷ []) body.1))) h)

  good-Call : (b inner : ℕ) (name : List ℕ) (ts : List Token) (read : Spelled × List Token) → inner + 1 ≤ b → name_call most below inner name ts ≡ Some read → Good d most b 7 (NameHead name ∷ ts) read
  unfolding name_call
  good-Call b inner name ts read le e = if_some (is_called_name name) _ read e (λ called more.
      option_and_then_some _ (arguments below inner ts) read more (λ found got h.
      let good : ArgumentsGood d inner ts found = arguments_sound d most below sound inner ts found got in
      good_made d most b 7 (one.Call name found.0) (NameHead name ∷ ts) found.1 read (record {
        well = record { operands = tt; called = tt; arguments = good.arguments; parts = tt; elements = tt; unsigned = tt; words = called; places = tt };
        below = good.well;
        there = refl;
        few = omega (arith, good.few);
        tight = omega arith;
      }) (ap (λ (xs : List Token). NameHead name ∷ xs) good.tokens) h))

  good-Fun : (b inner number : ℕ) (ts : List Token) (read : Spelled × List Token) → inner + 1 ≤ b → number ≢ d.let_fn → number ≢ d.lambda_fn → option_and_then (λ read. made most (one.Fun number read.0) read.1) (arguments below inner ts) ≡ Some read → Good d most b 7 (FunHead number ∷ ts) read
  good-Fun b inner number ts read le no_let no_lambda e = option_and_then_some _ (arguments below inner ts) read e (λ found got h.
      let good : ArgumentsGood d inner ts found = arguments_sound d most below sound inner ts found got in
      good_made d most b 7 (one.Fun number found.0) (FunHead number ∷ ts) found.1 read (record {
        well = record { operands = tt; called = tt; arguments = good.arguments; parts = tt; elements = tt; unsigned = tt; words = (no_let, no_lambda); places = tt };
        below = good.well;
        there = refl;
        few = omega (arith, good.few);
        tight = omega arith;
      }) (ap (λ (xs : List Token). FunHead number ∷ xs) good.tokens) h)

  good-Lambda : (b inner : ℕ) (ts : List Token) (read : Spelled × List Token) → inner + 1 ≤ b → lambda_call most below inner ts ≡ Some read → Good d most b 7 (FunHead d.lambda_fn ∷ ts) read
  unfolding lambda_call
  good-Lambda b inner ts read le e = option_and_then_some _ (lambda_parts below inner (length ts) ts) read e (λ found got h.
      let good : LambdaGood d inner ts found = lambda_parts_sound d most below sound inner (length ts) ts found got in
      good_made d most b 7 (one.Lambda found.0.0 found.0.1) (FunHead d.lambda_fn ∷ ts) found.1 read (record {
        well = record { operands = tt; called = tt; arguments = tt; parts = good.there; elements = tt; unsigned = tt; words = good.names; places = tt };
        below = good.well;
        there = refl;
        few = omega (arith, good.few);
        tight = omega arith;
      }) (ap (λ (xs : List Token). FunHead d.lambda_fn ∷ xs) (good.tokens ∙ sym (append_assoc (lambda_tokens d found.0.0 found.0.1) (Close ∷ []) found.1))) h)

  let_made : (b inner : ℕ) (ts : List Token) (read : Spelled × List Token) → inner + 1 ≤ b → (pairs : List Pair) (body : Spelled) (rest : List Token) → LetGood d inner ts ((pairs, body), rest) → elim pairs [
    | [] ↦ None
    | pair ∷ pairs ↦ made most (one.Let (pair ∷ pairs) body) rest
  ] ≡ Some read → Good d most b 7 (FunHead d.let_fn ∷ ts) read
  let_made b inner ts read le [] body rest good e = cc
  let_made b inner ts read le (pair ∷ pairs) body rest good e =
      good_made d most b 7 (one.Let (pair ∷ pairs) body) (FunHead d.let_fn ∷ ts) rest read (record {
        well = record { operands = tt; called = tt; arguments = tt; parts = good.there; elements = λ h. cc; unsigned = tt; words = tt; places = tt };
        below = (good.pairs, good.well);
        there = refl;
        few = omega (arith, good.few);
        tight = omega arith;
      }) (ap (λ (xs : List Token). FunHead d.let_fn ∷ xs) (good.tokens ∙ sym (append_assoc (let_tokens d (pair ∷ pairs) body) (Close ∷ []) rest))) e

  good-Let : (b inner : ℕ) (ts : List Token) (read : Spelled × List Token) → inner + 1 ≤ b → let_call most below inner ts ≡ Some read → Good d most b 7 (FunHead d.let_fn ∷ ts) read
  unfolding let_call
  good-Let b inner ts read le e = option_and_then_some _ (let_parts below inner (length ts) ts) read e (λ found got h.
      let_made b inner ts read le found.0.0 found.0.1 found.1 (let_parts_sound d most below sound inner (length ts) ts found got) h)

  good-Array : (b inner : ℕ) (ts : List Token) (read : Spelled × List Token) → inner + 1 ≤ b → array d most ts ≡ Some read → Good d most b 7 (OpenBrace ∷ ts) read
  unfolding array
  good-Array b inner ts read le e = option_and_then_some _ (followed past_brace (listed row (past_row_sign d) (length ts) ts)) read e (λ found got h.
      let good : RowsGood d ts found = rows_sound d ts found got in
      good_made d most b 7 (one.Array found.0) (OpenBrace ∷ ts) found.1 read (record {
        well = record { operands = tt; called = tt; arguments = tt; parts = tt; elements = (good.some, good.constants); unsigned = good.unsigned; words = tt; places = tt };
        below = tt;
        there = refl;
        few = omega arith;
        tight = omega arith;
      }) (ap (λ (xs : List Token). OpenBrace ∷ xs) (good.tokens ∙ sym (append_assoc (joined (row_sign d) (map row_tokens found.0)) (CloseBrace ∷ []) found.1))) h)

  function_sound : (b inner number : ℕ) (ts : List Token) (read : Spelled × List Token) → inner + 1 ≤ b → function_call d most below inner number ts ≡ Some read → Good d most b 7 (FunHead number ∷ ts) read
  unfolding function_call
  function_sound b inner number ts read le e = elim (cases_Bool (nat_eq number d.let_fn)) [
    | inl is_let ↦
        subst (λ (n : ℕ). Good d most b 7 (FunHead n ∷ ts) read) (sym (eqb-true number d.let_fn is_let)) (good-Let b inner ts read le (rw is_let at e))
    | inr not_let ↦ elim (cases_Bool (nat_eq number d.lambda_fn)) [
      | inl is_lambda ↦
          subst (λ (n : ℕ). Good d most b 7 (FunHead n ∷ ts) read) (sym (eqb-true number d.lambda_fn is_lambda)) (good-Lambda b inner ts read le (rw (not_let, is_lambda) at e))
      | inr not_lambda ↦ good-Fun b inner number ts read le (eqb-false number d.let_fn not_let) (eqb-false number d.lambda_fn not_lambda) (rw (not_let, not_lambda) at e)
    ]
  ]

  pub primary_sound : (b : ℕ) (token : Token) (ts : List Token) (read : Spelled × List Token) → primary d most below b token ts ≡ Some read → Good d most b 7 (token ∷ ts) read
  unfolding primary
  primary_sound b (Num units) ts read e = good-Num b units ts read e
  primary_sound b (Str text) ts read e = good-Str b text ts read e
  primary_sound b (Boolean value) ts read e = good-Bool b value ts read e
  primary_sound b (Err fault) ts read e = good-Err b fault ts read e
  primary_sound b (Ref reference) ts read e = good-Reference b reference ts read e
  primary_sound b (Local sheet word) ts read e = good-Local b sheet word ts read e
  primary_sound b (Word text) ts read e = good-Word b text ts read e
  primary_sound b (FunHead number) ts read e = opened_some b _ read e (λ inner le h. function_sound b inner number ts read le h)
  primary_sound b (NameHead name) ts read e = opened_some b _ read e (λ inner le h. good-Call b inner name ts read le h)
  primary_sound b Open ts read e = opened_some b _ read e (λ inner le h. good-Paren b inner ts read le h)
  primary_sound b OpenBrace ts read e = opened_some b _ read e (λ inner le h. good-Array b inner ts read le h)
  primary_sound b token ts read e = cc
