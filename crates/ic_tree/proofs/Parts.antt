-- The turns of the loops that read the parts of LET and LAMBDA.
use Rattle.std.proofs.Common.{◌≡◌, ℕ, ◌<◌, ◌≤◌, List, [], ◌∷◌, ◌++◌, append-nil, append_assoc, length, Option, Some, None, option_map, refl, sym, ap, subst, ◌∙◌, arith}
use Rattle.ic_laws.specs.Parse.{Pair, pair_of, Read, Reader, made, binder, followed, past_close, past_separator, let_parts, lambda_parts, let_call, lambda_call}
use Rattle.ic_laws.specs.Token.{Token}
use Rattle.ic_laws.specs.Tree.{Spelled}
use Rattle.ic_laws.specs.declared.tree.Tree.TheOpen as one
use Rattle.ic_laws.proofs.parsing.ListFuelLemmas.{TakesNoMore, let_pair, let_body, let_fails, let_fuel, lambda_parameter, lambda_body, lambda_fuel}
use Rattle.ic_laws.proofs.parsing.SoundParts.{binder_some}
use Rattle.ic_laws.proofs.parsing.Soundness.{followed_some, past_separator_some}
use Rattle.ic_tree.specs.Begun.{IsBegun}
use Rattle.ic_tree.specs.Listing.{all_let, all_lambda, parts_joined}
use Rattle.ic_tree.specs.Tokens.{token_of}
use Rattle.ic_tree.specs.Turned.{let_made}
use Rattle.ic_tree.specs.declared.reader.binder.Begun.{Begun}
use Rattle.ic_tree.specs.declared.reader.binder.Begun.TheVariants as begun
use Rattle.ic_tree.specs.declared.token.Token as code
use Rattle.ic_tree.proofs.ListSteps.{read_is, read_fails}

pub parts_begin : {A : Type 0} (read : Read (List A × Spelled)) → parts_joined [] read ≡ read
parts_begin None = refl
parts_begin (Some read) = refl

pub parts_start : {A : Type 0} (xs : List A) (read : Read (List A × Spelled)) → xs ≡ [] → parts_joined xs read ≡ read
parts_start xs read none = ap (λ ys. parts_joined ys read) none ∙ parts_begin read

parts_more : {A : Type 0} (xs : List A) (x : A) (read : Read (List A × Spelled)) → parts_joined (xs ++ x ∷ []) read ≡ parts_joined xs (option_map (λ parts. ((x ∷ parts.0.0, parts.0.1), parts.1)) read)
parts_more xs x None = refl
parts_more xs x (Some read) = ap (λ ys. Some ((ys, read.0.1), read.1)) (append_assoc xs (x ∷ []) read.0.0)

parts_end : {A : Type 0} (xs : List A) (body : Spelled) (rest : List Token) (read : Read (List A × Spelled)) → read ≡ Some (([], body), rest) → parts_joined xs read ≡ Some ((xs, body), rest)
parts_end xs body rest read e = ap (parts_joined xs) e ∙ ap (λ ys. Some ((ys, body), rest)) (append-nil xs)

-- what a part begins with, by what the code took
pub begun_variable : (ts rest : List Token) (b : Begun) (name : List ℕ) → IsBegun ts b rest → b ≡ begun.Variable name → binder ts ≡ Some (name, rest)
begun_variable ts rest b name h is = subst (λ (x : Begun). IsBegun ts x rest) is h

pub begun_body : (ts rest : List Token) (b : Begun) (token : code.Token) → IsBegun ts b rest → b ≡ begun.Body token → (binder ts ≡ None) × (ts ≡ token_of token ∷ rest)
begun_body ts rest b token h is = subst (λ (x : Begun). IsBegun ts x rest) is h

pub begun_nothing : (ts rest : List Token) (b : Begun) → IsBegun ts b rest → b ≡ begun.Nothing → ts ≡ []
begun_nothing ts rest b h is = subst (λ (x : Begun). IsBegun ts x rest) is h

begun_shorter : (ts : List Token) (name : List ℕ) (rest : List Token) → binder ts ≡ Some (name, rest) → length rest < length ts
begun_shorter ts name rest e = let start = binder_some ts (name, rest) e in omega (arith, ap length start.0)

value_shorter : (below : Reader) → TakesNoMore below → (b : ℕ) (middle : List Token) (value : Spelled × List Token) → followed past_separator (below b 1 middle) ≡ Some value → length value.1 ≤ length middle
value_shorter below takes b middle value e =
    followed_some past_separator (below b 1 middle) value e (λ after got goes.
    omega (arith, takes.shorter b middle (value.0, after) got, ap length (past_separator_some after value.1 goes)))

module _ (below : Reader) (takes : TakesNoMore below) (b : ℕ) where
  -- a variable of LET with its value
  let_next : (ts middle rest : List Token) (name : List ℕ) (value : Spelled) → binder ts ≡ Some (name, middle) → followed past_separator (below b 1 middle) ≡ Some (value, rest)
      → all_let below b ts ≡ option_map (λ parts. ((pair_of name value ∷ parts.0.0, parts.0.1), parts.1)) (all_let below b rest)
  let_next [] middle rest name value begins got = absurd (omega (arith, begun_shorter [] name middle begins))
  let_next (t ∷ ts) middle rest name value begins got =
      let less : length middle < length (t ∷ ts) = begun_shorter (t ∷ ts) name middle begins in
      let no_longer : length rest ≤ length middle = value_shorter below takes b middle (value, rest) got in
      let_pair below b (length ts) (t ∷ ts) (name, middle) (value, rest) begins got
      ∙ ap (option_map (λ parts. ((pair_of name value ∷ parts.0.0, parts.0.1), parts.1))) (let_fuel below b takes (length ts) (length rest) rest (omega arith) (omega arith))

  pub let_more : (xs new : List Pair) (ts middle rest : List Token) (begins : Begun) (name : List ℕ) (o : Option Spelled) (value : Spelled) → IsBegun ts begins middle → begins ≡ begun.Variable name → option_map (λ t. (t, rest)) o ≡ followed past_separator (below b 1 middle) → o ≡ Some value → new ≡ xs ++ pair_of name value ∷ []
      → parts_joined new (all_let below b rest) ≡ parts_joined xs (all_let below b ts)
  let_more xs new ts middle rest begins name o value h is got some pushed =
      ap (λ (ys : List Pair). parts_joined ys (all_let below b rest)) pushed
      ∙ (parts_more xs (pair_of name value) (all_let below b rest) ∙ sym (ap (parts_joined xs) (let_next ts middle rest name value (begun_variable ts middle begins name h is) (read_is o rest (followed past_separator (below b 1 middle)) value got some))))

  pub let_smaller : (ts middle rest : List Token) (begins : Begun) (name : List ℕ) (o : Option Spelled) (value : Spelled) → IsBegun ts begins middle → begins ≡ begun.Variable name → option_map (λ t. (t, rest)) o ≡ followed past_separator (below b 1 middle) → o ≡ Some value → length rest < length ts
  let_smaller ts middle rest begins name o value h is got some =
      let less : length middle < length ts = begun_shorter ts name middle (begun_variable ts middle begins name h is) in
      let no_longer : length rest ≤ length middle = value_shorter below takes b middle (value, rest) (read_is o rest (followed past_separator (below b 1 middle)) value got some) in
      omega arith

  pub let_value_lacks : (xs : List Pair) (ts middle rest : List Token) (begins : Begun) (name : List ℕ) (o : Option Spelled) → IsBegun ts begins middle → begins ≡ begun.Variable name → option_map (λ t. (t, rest)) o ≡ followed past_separator (below b 1 middle) → o ≡ None
      → parts_joined xs (all_let below b ts) ≡ None
  let_value_lacks xs [] middle rest begins name o h is got none = absurd (omega (arith, begun_shorter [] name middle (begun_variable [] middle begins name h is)))
  let_value_lacks xs (t ∷ ts) middle rest begins name o h is got none =
      ap (parts_joined xs) (let_fails below b (length ts) (t ∷ ts) (name, middle) (begun_variable (t ∷ ts) middle begins name h is) (read_fails o rest (followed past_separator (below b 1 middle)) got none))

  pub let_nothing : (xs : List Pair) (ts rest : List Token) (begins : Begun) → IsBegun ts begins rest → begins ≡ begun.Nothing → parts_joined xs (all_let below b ts) ≡ None
  unfolding let_parts
  let_nothing xs ts rest begins h is = let none : ts ≡ [] = begun_nothing ts rest begins h is in ap (λ (us : List Token). parts_joined xs (all_let below b us)) none

  pub let_body_lacks : (xs : List Pair) (ts middle rest : List Token) (begins : Begun) (token : code.Token) (o : Option Spelled) → IsBegun ts begins middle → begins ≡ begun.Body token → option_map (λ t. (t, rest)) o ≡ followed past_close (below b 1 (token_of token ∷ middle)) → o ≡ None
      → parts_joined xs (all_let below b ts) ≡ None
  let_body_lacks xs ts middle rest begins token o h is got none =
      let begin = begun_body ts middle begins token h is in
      let lacks : followed past_close (below b 1 (token_of token ∷ middle)) ≡ None = read_fails o rest (followed past_close (below b 1 (token_of token ∷ middle))) got none in
      let none_begun : binder (token_of token ∷ middle) ≡ None = subst (λ (us : List Token). binder us ≡ None) begin.1 begin.0 in
      ap (λ (us : List Token). parts_joined xs (all_let below b us)) begin.1
      ∙ ap (parts_joined xs) (let_body below b (length middle) (token_of token ∷ middle) none_begun ∙ ap (option_map (λ body. (([], body.0), body.1))) lacks)

  pub let_body_stands : (xs : List Pair) (ts middle rest : List Token) (begins : Begun) (token : code.Token) (o : Option Spelled) (body : Spelled) → IsBegun ts begins middle → begins ≡ begun.Body token → option_map (λ t. (t, rest)) o ≡ followed past_close (below b 1 (token_of token ∷ middle)) → o ≡ Some body
      → parts_joined xs (all_let below b ts) ≡ Some ((xs, body), rest)
  let_body_stands xs ts middle rest begins token o body h is got some =
      let begin = begun_body ts middle begins token h is in
      let stands : followed past_close (below b 1 (token_of token ∷ middle)) ≡ Some (body, rest) = read_is o rest (followed past_close (below b 1 (token_of token ∷ middle))) body got some in
      let none_begun : binder (token_of token ∷ middle) ≡ None = subst (λ (us : List Token). binder us ≡ None) begin.1 begin.0 in
      ap (λ (us : List Token). parts_joined xs (all_let below b us)) begin.1
      ∙ parts_end xs body rest (all_let below b (token_of token ∷ middle)) (let_body below b (length middle) (token_of token ∷ middle) none_begun ∙ ap (option_map (λ body. (([], body.0), body.1))) stands)

  -- a parameter of LAMBDA
  lambda_next : (ts rest : List Token) (name : List ℕ) → binder ts ≡ Some (name, rest) → all_lambda below b ts ≡ option_map (λ parts. ((name ∷ parts.0.0, parts.0.1), parts.1)) (all_lambda below b rest)
  lambda_next [] rest name begins = absurd (omega (arith, begun_shorter [] name rest begins))
  lambda_next (t ∷ ts) rest name begins =
      let less : length rest < length (t ∷ ts) = begun_shorter (t ∷ ts) name rest begins in
      lambda_parameter below b (length ts) (t ∷ ts) (name, rest) begins
      ∙ ap (option_map (λ parts. ((name ∷ parts.0.0, parts.0.1), parts.1))) (lambda_fuel below b takes (length ts) (length rest) rest (omega arith) (omega arith))

  pub lambda_more : (xs new : List (List ℕ)) (ts rest : List Token) (begins : Begun) (name : List ℕ) → IsBegun ts begins rest → begins ≡ begun.Variable name → new ≡ xs ++ name ∷ []
      → parts_joined new (all_lambda below b rest) ≡ parts_joined xs (all_lambda below b ts)
  lambda_more xs new ts rest begins name h is pushed =
      ap (λ (ys : List (List ℕ)). parts_joined ys (all_lambda below b rest)) pushed
      ∙ (parts_more xs name (all_lambda below b rest) ∙ sym (ap (parts_joined xs) (lambda_next ts rest name (begun_variable ts rest begins name h is))))

  pub lambda_smaller : (ts rest : List Token) (begins : Begun) (name : List ℕ) → IsBegun ts begins rest → begins ≡ begun.Variable name → length rest < length ts
  lambda_smaller ts rest begins name h is = begun_shorter ts name rest (begun_variable ts rest begins name h is)

  pub lambda_nothing : (xs : List (List ℕ)) (ts rest : List Token) (begins : Begun) → IsBegun ts begins rest → begins ≡ begun.Nothing → parts_joined xs (all_lambda below b ts) ≡ None
  unfolding lambda_parts
  lambda_nothing xs ts rest begins h is = let none : ts ≡ [] = begun_nothing ts rest begins h is in ap (λ (us : List Token). parts_joined xs (all_lambda below b us)) none

  pub lambda_body_lacks : (xs : List (List ℕ)) (ts middle rest : List Token) (begins : Begun) (token : code.Token) (o : Option Spelled) → IsBegun ts begins middle → begins ≡ begun.Body token → option_map (λ t. (t, rest)) o ≡ followed past_close (below b 1 (token_of token ∷ middle)) → o ≡ None
      → parts_joined xs (all_lambda below b ts) ≡ None
  lambda_body_lacks xs ts middle rest begins token o h is got none =
      let begin = begun_body ts middle begins token h is in
      let lacks : followed past_close (below b 1 (token_of token ∷ middle)) ≡ None = read_fails o rest (followed past_close (below b 1 (token_of token ∷ middle))) got none in
      let none_begun : binder (token_of token ∷ middle) ≡ None = subst (λ (us : List Token). binder us ≡ None) begin.1 begin.0 in
      ap (λ (us : List Token). parts_joined xs (all_lambda below b us)) begin.1
      ∙ ap (parts_joined xs) (lambda_body below b (length middle) (token_of token ∷ middle) none_begun ∙ ap (option_map (λ body. (([], body.0), body.1))) lacks)

  pub lambda_body_stands : (xs : List (List ℕ)) (ts middle rest : List Token) (begins : Begun) (token : code.Token) (o : Option Spelled) (body : Spelled) → IsBegun ts begins middle → begins ≡ begun.Body token → option_map (λ t. (t, rest)) o ≡ followed past_close (below b 1 (token_of token ∷ middle)) → o ≡ Some body
      → parts_joined xs (all_lambda below b ts) ≡ Some ((xs, body), rest)
  lambda_body_stands xs ts middle rest begins token o body h is got some =
      let begin = begun_body ts middle begins token h is in
      let stands : followed past_close (below b 1 (token_of token ∷ middle)) ≡ Some (body, rest) = read_is o rest (followed past_close (below b 1 (token_of token ∷ middle))) body got some in
      let none_begun : binder (token_of token ∷ middle) ≡ None = subst (λ (us : List Token). binder us ≡ None) begin.1 begin.0 in
      ap (λ (us : List Token). parts_joined xs (all_lambda below b us)) begin.1
      ∙ parts_end xs body rest (all_lambda below b (token_of token ∷ middle)) (lambda_body below b (length middle) (token_of token ∷ middle) none_begun ∙ ap (option_map (λ body. (([], body.0), body.1))) stands)

-- the whole of LET and of LAMBDA
module _ (most : ℕ) (below : Reader) (b : ℕ) (ts : List Token) where
  pub let_call_lacks : all_let below b ts ≡ None → let_call most below b ts ≡ None
  unfolding let_call
  let_call_lacks e = rw e refl

  pub let_call_is : (pairs : List Pair) (body : Spelled) (rest : List Token) → all_let below b ts ≡ Some ((pairs, body), rest) → let_call most below b ts ≡ let_made most pairs body rest
  unfolding let_call
  let_call_is [] body rest e = rw e refl
  let_call_is (pair ∷ pairs) body rest e = rw e refl

  pub lambda_call_lacks : all_lambda below b ts ≡ None → lambda_call most below b ts ≡ None
  unfolding lambda_call
  lambda_call_lacks e = rw e refl

  pub lambda_call_is : (names : List (List ℕ)) (body : Spelled) (rest : List Token) → all_lambda below b ts ≡ Some ((names, body), rest) → lambda_call most below b ts ≡ made most (one.Lambda names body) rest
  unfolding lambda_call
  lambda_call_is names body rest e = rw e refl
