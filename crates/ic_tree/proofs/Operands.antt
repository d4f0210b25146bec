-- The steps of the definition as the code takes them: operands, brackets, arguments and calls.
use Rattle.std.proofs.Common.{◌≡◌, ◌≢◌, true, false, ◌∙◌, sym, ap, subst, refl, ℕ, zero, suc, ◌-◌, ◌<◌, List, [], ◌∷◌, Option, Some, None, Bool, MatchOption, option_map, option_and_then, nat_eq, arith}
use Rattle.ic_laws.specs.Dialect.{DialectMeaning}
use Rattle.ic_laws.specs.Parse.{Read, Reader, node, made, reader, expression, operand, postfix, binary, turns, primary, followed, past_close, past_separator, bracketed, prefixed, prefix_sign, argument, ends_argument, arguments, function_call, name_call, let_call, lambda_call, array, opened, nothing_after, parsed}
use Rattle.ic_laws.specs.Token.{Token, Close}
use Rattle.ic_laws.specs.Tree.{Spelled, is_called_name}
use Rattle.ic_laws.specs.declared.tree.PrefixSign.{PrefixSign}
use Rattle.ic_laws.specs.declared.tree.Tree.TheOpen as one
use Rattle.std.proofs.lemmas.Bool.Decides.{nat_tests}
use Rattle.ic_laws.proofs.parsing.ReadLemmas.{reader-zero, reader_nothing}
use Rattle.ic_tree.specs.Listing.{all_listed}
use Rattle.ic_tree.specs.Tokens.{ahead_of, token_of}
use Rattle.ic_tree.specs.Turned.{Passes, leaf}
use Rattle.ic_tree.specs.declared.token.Ahead.TheVariants as ahead
use Rattle.ic_tree.specs.declared.token.Token as code
use Rattle.ic_tree.specs.declared.token.Token.TheVariants as of
use Rattle.ic_tree.proofs.ListSteps.{read_is, read_fails, passes_some, passes_none}

-- the token that was taken, if any
abbrev Taken : List Token → Option code.Token → List Token → Type 0
Taken ts taken rest = MatchOption taken ((ts ≡ []) × (rest ≡ [])) (λ t. ts ≡ token_of t ∷ rest)

pub reader_taken : (d : DialectMeaning) (most b least : ℕ) (ts rest : List Token) (taken : Option code.Token) (token : code.Token) → Taken ts taken rest → taken ≡ Some token → reader d most b least (token_of token ∷ rest) ≡ reader d most b least ts
reader_taken d most b least ts rest taken token h is =
    let whole : ts ≡ token_of token ∷ rest = subst (λ (m : Option code.Token). Taken ts m rest) is h in ap (reader d most b least) (sym whole)

pub reader_lacks : (d : DialectMeaning) (most b least : ℕ) (ts rest : List Token) (taken : Option code.Token) → Taken ts taken rest → taken ≡ None → None ≡ reader d most b least ts
reader_lacks d most b least ts rest taken h is =
    let none = subst (λ (m : Option code.Token). Taken ts m rest) is h in
    sym (ap (reader d most b least) none.0 ∙ nothing most)
  where
    nothing : (n : ℕ) → reader d n b least [] ≡ None
    nothing zero = reader-zero d b least []
    nothing (suc n) = reader_nothing d n b least

pub reader_spent : (d : DialectMeaning) (most b least : ℕ) (ts : List Token) → most ≡ 0 → None ≡ reader d most b least ts
unfolding reader
reader_spent d most b least ts none = rw none refl

reader_is : (d : DialectMeaning) (most b least : ℕ) (ts : List Token) → 0 < most → reader d most b least ts ≡ option_and_then (λ first. turns (binary most (reader d (most - 1)) b least) most first.0 first.1) (operand d most (reader d (most - 1)) b ts)
unfolding reader expression
reader_is d zero b least ts some = absurd (omega arith)
reader_is d (suc most) b least ts some = let same : suc most - 1 ≡ most = omega arith in rw same refl

pub expression_lacks : (d : DialectMeaning) (most b least : ℕ) (ts rest : List Token) (o : Option Spelled) → 0 < most → option_map (λ t. (t, rest)) o ≡ operand d most (reader d (most - 1)) b ts → o ≡ None → None ≡ reader d most b least ts
expression_lacks d most b least ts rest o some got is =
    let lacks : operand d most (reader d (most - 1)) b ts ≡ None = read_fails o rest (operand d most (reader d (most - 1)) b ts) got is in
    sym (reader_is d most b least ts some ∙ rw lacks refl)

pub expression_is : (d : DialectMeaning) (most b least : ℕ) (ts rest : List Token) (o : Option Spelled) (first : Spelled) → 0 < most → option_map (λ t. (t, rest)) o ≡ operand d most (reader d (most - 1)) b ts → o ≡ Some first → turns (binary most (reader d (most - 1)) b least) most first rest ≡ reader d most b least ts
expression_is d most b least ts rest o first some got is =
    let read : operand d most (reader d (most - 1)) b ts ≡ Some (first, rest) = read_is o rest (operand d most (reader d (most - 1)) b ts) first got is in
    sym (reader_is d most b least ts some ∙ rw read refl)

-- the whole list of tokens
pub parsed_lacks : (d : DialectMeaning) (ts rest : List Token) (o : Option Spelled) → option_map (λ t. (t, rest)) o ≡ reader d 1024 128 1 ts → o ≡ None → None ≡ parsed d ts
unfolding parsed
parsed_lacks d ts rest o got is = let lacks : reader d 1024 128 1 ts ≡ None = read_fails o rest (reader d 1024 128 1 ts) got is in rw lacks refl

pub parsed_goes_on : (d : DialectMeaning) (ts rest : List Token) (o : Option Spelled) (t : Spelled) → option_map (λ t. (t, rest)) o ≡ reader d 1024 128 1 ts → o ≡ Some t → ahead_of rest ≢ ahead.End → None ≡ parsed d ts
unfolding parsed
parsed_goes_on d ts rest o t got is more = let read : reader d 1024 128 1 ts ≡ Some (t, rest) = read_is o rest (reader d 1024 128 1 ts) t got is in rw read (stays rest more)
  where
    stays : (us : List Token) → ahead_of us ≢ ahead.End → None ≡ nothing_after t us
    stays [] more = absurd (more refl)
    stays (u ∷ us) more = refl

pub at_end : (ts : List Token) → ahead_of ts ≡ ahead.End → ts ≡ []
at_end [] is = refl
at_end (Close ∷ ts) is = cc
at_end ts is = cc

pub parsed_is : (d : DialectMeaning) (ts rest : List Token) (o : Option Spelled) (t whole : Spelled) → option_map (λ t. (t, rest)) o ≡ reader d 1024 128 1 ts → o ≡ Some t → ahead_of rest ≡ ahead.End → whole ≡ t → Some whole ≡ parsed d ts
unfolding parsed
parsed_is d ts rest o t whole got is end same =
    let read : reader d 1024 128 1 ts ≡ Some (t, rest) = read_is o rest (reader d 1024 128 1 ts) t got is in
    rw (read, at_end rest end, same) refl

module _ (d : DialectMeaning) (most : ℕ) (below : Reader) (b : ℕ) where
  -- operands
  pub prefix_lacks : (ts rest : List Token) (token : Token) (before : Option PrefixSign) (sign : PrefixSign) (o : Option Spelled) → before ≡ prefix_sign token → before ≡ Some sign → option_map (λ u. (u, rest)) o ≡ below b 6 ts → o ≡ None → None ≡ operand d most below b (token ∷ ts)
  unfolding operand prefixed
  prefix_lacks ts rest token before sign o sure is got none =
      let signed : prefix_sign token ≡ Some sign = sym sure ∙ is in
      let lacks : below b 6 ts ≡ None = read_fails o rest (below b 6 ts) got none in
      rw (signed, operand) (rw (lacks, prefixed) refl)

  pub prefix_makes : (ts rest : List Token) (token : Token) (before : Option PrefixSign) (sign : PrefixSign) (o : Option Spelled) (x : Spelled) → before ≡ prefix_sign token → before ≡ Some sign → option_map (λ u. (u, rest)) o ≡ below b 6 ts → o ≡ Some x → made most (one.Prefix sign x) rest ≡ operand d most below b (token ∷ ts)
  unfolding operand prefixed
  prefix_makes ts rest token before sign o x sure is got some =
      let signed : prefix_sign token ≡ Some sign = sym sure ∙ is in
      let read : below b 6 ts ≡ Some (x, rest) = read_is o rest (below b 6 ts) x got some in
      rw (signed, operand) (rw (read, prefixed) refl)

  pub primary_lacks : (ts rest : List Token) (token : Token) (before : Option PrefixSign) (o : Option Spelled) → before ≡ prefix_sign token → before ≡ None → option_map (λ u. (u, rest)) o ≡ primary d most below b token ts → o ≡ None → None ≡ operand d most below b (token ∷ ts)
  unfolding operand
  primary_lacks ts rest token before o sure is got none =
      let signed : prefix_sign token ≡ None = sym sure ∙ is in
      let lacks : primary d most below b token ts ≡ None = read_fails o rest (primary d most below b token ts) got none in
      rw (signed, operand) (rw lacks refl)

  pub primary_is : (ts rest : List Token) (token : Token) (before : Option PrefixSign) (o : Option Spelled) (first : Spelled) → before ≡ prefix_sign token → before ≡ None → option_map (λ u. (u, rest)) o ≡ primary d most below b token ts → o ≡ Some first → turns (postfix most below b) most first rest ≡ operand d most below b (token ∷ ts)
  unfolding operand
  primary_is ts rest token before o first sure is got some =
      let signed : prefix_sign token ≡ None = sym sure ∙ is in
      let read : primary d most below b token ts ≡ Some (first, rest) = read_is o rest (primary d most below b token ts) first got some in
      rw (signed, operand) (rw read refl)

  -- what opens a bracket
  opens : {A : Type 0} (inside : ℕ → Read A) → 0 < b → inside (b - 1) ≡ opened b inside
  opens inside some = at b some
    where
      at : (n : ℕ) → 0 < n → inside (n - 1) ≡ opened n inside
      at zero less = absurd (omega arith)
      at (suc n) less = let pred : suc n - 1 ≡ n = omega arith in ap inside pred

  pub function_shut : (number : ℕ) (ts : List Token) (token : code.Token) → token ≡ of.FunHead number → b ≡ 0 → None ≡ primary d most below b (token_of token) ts
  unfolding primary
  function_shut number ts token is none = rw (is, none) refl

  pub function_opens : (number : ℕ) (ts : List Token) (token : code.Token) → token ≡ of.FunHead number → 0 < b → function_call d most below (b - 1) number ts ≡ primary d most below b (token_of token) ts
  unfolding primary
  function_opens number ts token is some = rw is (opens (λ inner. function_call d most below inner number ts) some)

  pub name_shut : (name : List ℕ) (ts : List Token) (token : code.Token) → token ≡ of.NameHead name → b ≡ 0 → None ≡ primary d most below b (token_of token) ts
  unfolding primary
  name_shut name ts token is none = rw (is, none) refl

  pub name_opens : (name : List ℕ) (ts : List Token) (token : code.Token) → token ≡ of.NameHead name → 0 < b → name_call most below (b - 1) name ts ≡ primary d most below b (token_of token) ts
  unfolding primary
  name_opens name ts token is some = rw is (opens (λ inner. name_call most below inner name ts) some)

  pub bracket_shut : (ts : List Token) (token : code.Token) → token ≡ of.Open → b ≡ 0 → None ≡ primary d most below b (token_of token) ts
  unfolding primary
  bracket_shut ts token is none = rw (is, none) refl

  pub bracket_opens : (ts : List Token) (token : code.Token) → token ≡ of.Open → 0 < b → bracketed most below (b - 1) ts ≡ primary d most below b (token_of token) ts
  unfolding primary
  bracket_opens ts token is some = rw is (opens (λ inner. bracketed most below inner ts) some)

  pub array_shut : (ts : List Token) (token : code.Token) → token ≡ of.OpenBrace → b ≡ 0 → None ≡ primary d most below b (token_of token) ts
  unfolding primary
  array_shut ts token is none = rw (is, none) refl

  pub array_opens : (ts : List Token) (token : code.Token) → token ≡ of.OpenBrace → 0 < b → array d most ts ≡ primary d most below b (token_of token) ts
  unfolding primary
  array_opens ts token is some = rw is (opens (λ inner. array d most ts) some)

  pub leaf_is : (ts : List Token) (token : code.Token) → ((number : ℕ) → token ≢ of.FunHead number) → ((name : List ℕ) → token ≢ of.NameHead name) → token ≢ of.Open → token ≢ of.OpenBrace → leaf most (token_of token) ts ≡ primary d most below b (token_of token) ts
  unfolding primary leaf
  leaf_is ts (of.FunHead number) f n o a = absurd (f number refl)
  leaf_is ts (of.NameHead name) f n o a = absurd (n name refl)
  leaf_is ts of.Open f n o a = absurd (o refl)
  leaf_is ts of.OpenBrace f n o a = absurd (a refl)
  leaf_is ts token f n o a = refl

  -- a function by its number
  pub let_is : (number : ℕ) (ts : List Token) → number ≡ d.let_fn → let_call most below b ts ≡ function_call d most below b number ts
  unfolding function_call
  let_is number ts is = let same : nat_eq number d.let_fn ≡ true = grind (arith, nat_tests) in rw same refl

  pub lambda_is : (number : ℕ) (ts : List Token) → number ≢ d.let_fn → number ≡ d.lambda_fn → lambda_call most below b ts ≡ function_call d most below b number ts
  unfolding function_call
  lambda_is number ts other is =
      let differs : nat_eq number d.let_fn ≡ false = grind (arith, nat_tests) in
      let same : nat_eq number d.lambda_fn ≡ true = grind (arith, nat_tests) in
      rw (differs, same) refl

  pub function_lacks : (number : ℕ) (ts rest : List Token) (o : Option (List Spelled)) → number ≢ d.let_fn → number ≢ d.lambda_fn → option_map (λ us. (us, rest)) o ≡ arguments below b ts → o ≡ None → None ≡ function_call d most below b number ts
  unfolding function_call
  function_lacks number ts rest o no_let no_lambda got none =
      let differs : nat_eq number d.let_fn ≡ false = grind (arith, nat_tests) in
      let differs_too : nat_eq number d.lambda_fn ≡ false = grind (arith, nat_tests) in
      let lacks : arguments below b ts ≡ None = read_fails o rest (arguments below b ts) got none in
      rw (differs, differs_too, lacks) refl

  pub function_is : (number : ℕ) (ts rest : List Token) (o : Option (List Spelled)) (found : List Spelled) → number ≢ d.let_fn → number ≢ d.lambda_fn → option_map (λ us. (us, rest)) o ≡ arguments below b ts → o ≡ Some found → made most (one.Fun number found) rest ≡ function_call d most below b number ts
  unfolding function_call
  function_is number ts rest o found no_let no_lambda got some =
      let differs : nat_eq number d.let_fn ≡ false = grind (arith, nat_tests) in
      let differs_too : nat_eq number d.lambda_fn ≡ false = grind (arith, nat_tests) in
      let read : arguments below b ts ≡ Some (found, rest) = read_is o rest (arguments below b ts) found got some in
      rw (differs, differs_too, read) refl

module _ (most : ℕ) (below : Reader) (b : ℕ) where
  -- a called name
  pub name_refused : (name : List ℕ) (ts : List Token) (good : Bool) → good ≡ is_called_name name → good ≡ false → None ≡ name_call most below b name ts
  unfolding name_call
  name_refused name ts good is bad = let refused : is_called_name name ≡ false = sym is ∙ bad in rw refused refl

  pub name_lacks : (name : List ℕ) (ts rest : List Token) (good : Bool) (o : Option (List Spelled)) → good ≡ is_called_name name → good ≡ true → option_map (λ us. (us, rest)) o ≡ arguments below b ts → o ≡ None → None ≡ name_call most below b name ts
  unfolding name_call
  name_lacks name ts rest good o is can got none =
      let called : is_called_name name ≡ true = sym is ∙ can in
      let lacks : arguments below b ts ≡ None = read_fails o rest (arguments below b ts) got none in
      rw (called, lacks) refl

  pub name_is : (name : List ℕ) (ts rest : List Token) (good : Bool) (o : Option (List Spelled)) (found : List Spelled) → good ≡ is_called_name name → good ≡ true → option_map (λ us. (us, rest)) o ≡ arguments below b ts → o ≡ Some found → made most (one.Call name found) rest ≡ name_call most below b name ts
  unfolding name_call
  name_is name ts rest good o found is can got some =
      let called : is_called_name name ≡ true = sym is ∙ can in
      let read : arguments below b ts ≡ Some (found, rest) = read_is o rest (arguments below b ts) found got some in
      rw (called, read) refl

  -- a tree between brackets
  pub bracketed_is : (ts middle rest : List Token) (o : Option Spelled) (x : Spelled) (closed : Bool) → option_map (λ u. (u, middle)) o ≡ below b 1 ts → o ≡ Some x → Passes (past_close middle) closed middle rest → closed ≡ true → made most (one.Paren x) rest ≡ bracketed most below b ts
  unfolding bracketed
  bracketed_is ts middle rest o x closed got is passes stood =
      let read : below b 1 ts ≡ Some (x, middle) = read_is o middle (below b 1 ts) x got is in
      let stands : past_close middle ≡ Some rest = passes_some (past_close middle) closed middle rest passes stood in
      rw read (rw stands refl)

  pub bracketed_lacks : (ts rest : List Token) (o : Option Spelled) → option_map (λ u. (u, rest)) o ≡ below b 1 ts → o ≡ None → None ≡ bracketed most below b ts
  unfolding bracketed
  bracketed_lacks ts rest o got is = let lacks : below b 1 ts ≡ None = read_fails o rest (below b 1 ts) got is in rw lacks refl

  pub bracketed_open : (ts middle rest : List Token) (o : Option Spelled) (x : Spelled) (closed : Bool) → option_map (λ u. (u, middle)) o ≡ below b 1 ts → o ≡ Some x → Passes (past_close middle) closed middle rest → closed ≡ false → None ≡ bracketed most below b ts
  unfolding bracketed
  bracketed_open ts middle rest o x closed got is passes stood =
      let read : below b 1 ts ≡ Some (x, middle) = read_is o middle (below b 1 ts) x got is in
      let lacks = passes_none (past_close middle) closed middle rest passes stood in
      rw read (rw lacks.0 refl)

  -- an argument
  pub argument_left_out : (ts : List Token) (t : Spelled) (ends : Bool) → ends ≡ ends_argument ts → ends ≡ true → t ≡ node one.Empty → Some (t, ts) ≡ argument below b ts
  unfolding argument
  argument_left_out ts t ends is ended same = let at : ends_argument ts ≡ true = sym is ∙ ended in rw (at, same) refl

  pub argument_is : (ts : List Token) (ends : Bool) → ends ≡ ends_argument ts → ends ≡ false → below b 1 ts ≡ argument below b ts
  unfolding argument
  argument_is ts ends is stays = let at : ends_argument ts ≡ false = sym is ∙ stays in rw at refl

  -- a list of arguments
  pub no_arguments : (ts rest : List Token) (us : List Spelled) (closed : Bool) → Passes (past_close ts) closed ts rest → closed ≡ true → us ≡ [] → Some (us, rest) ≡ arguments below b ts
  unfolding arguments
  no_arguments ts rest us closed passes stood none = let stands : past_close ts ≡ Some rest = passes_some (past_close ts) closed ts rest passes stood in rw (stands, arguments, none) refl

  pub arguments_lack : (ts same rest : List Token) (closed : Bool) (o : Option (List Spelled)) → Passes (past_close ts) closed ts same → closed ≡ false → option_map (λ us. (us, rest)) o ≡ all_listed (argument below b) past_separator same → o ≡ None → None ≡ arguments below b ts
  unfolding arguments
  arguments_lack ts same rest closed o passes open_still got none =
      let lacks = passes_none (past_close ts) closed ts same passes open_still in
      let nothing : all_listed (argument below b) past_separator ts ≡ None = ap (all_listed (argument below b) past_separator) (sym lacks.1) ∙ read_fails o rest (all_listed (argument below b) past_separator same) got none in
      rw (lacks.0, arguments, nothing) refl

  pub arguments_open : (ts same middle rest : List Token) (closed closed_too : Bool) (o : Option (List Spelled)) (found : List Spelled) → Passes (past_close ts) closed ts same → closed ≡ false → option_map (λ us. (us, middle)) o ≡ all_listed (argument below b) past_separator same → o ≡ Some found → Passes (past_close middle) closed_too middle rest → closed_too ≡ false → None ≡ arguments below b ts
  unfolding arguments
  arguments_open ts same middle rest closed closed_too o found passes open_still got some passes_too stood =
      let lacks = passes_none (past_close ts) closed ts same passes open_still in
      let read : all_listed (argument below b) past_separator ts ≡ Some (found, middle) = ap (all_listed (argument below b) past_separator) (sym lacks.1) ∙ read_is o middle (all_listed (argument below b) past_separator same) found got some in
      let no_close = passes_none (past_close middle) closed_too middle rest passes_too stood in
      rw (lacks.0, arguments, read) (rw no_close.0 refl)

  pub arguments_are : (ts same middle rest : List Token) (closed closed_too : Bool) (o : Option (List Spelled)) (found : List Spelled) → Passes (past_close ts) closed ts same → closed ≡ false → option_map (λ us. (us, middle)) o ≡ all_listed (argument below b) past_separator same → o ≡ Some found → Passes (past_close middle) closed_too middle rest → closed_too ≡ true → Some (found, rest) ≡ arguments below b ts
  unfolding arguments
  arguments_are ts same middle rest closed closed_too o found passes open_still got some passes_too stood =
      let lacks = passes_none (past_close ts) closed ts same passes open_still in
      let read : all_listed (argument below b) past_separator ts ≡ Some (found, middle) = ap (all_listed (argument below b) past_separator) (sym lacks.1) ∙ read_is o middle (all_listed (argument below b) past_separator same) found got some in
      let stands : past_close middle ≡ Some rest = passes_some (past_close middle) closed_too middle rest passes_too stood in
      rw (lacks.0, arguments, read) (rw stands refl)

-- a tree with what must stand after it
module _ (past : List Token → Option (List Token)) (ts middle rest : List Token) (read : Read Spelled) (o : Option Spelled) where
  pub followed_lacks : option_map (λ u. (u, middle)) o ≡ read → o ≡ None → None ≡ followed past read
  followed_lacks got is = sym (ap (followed past) (read_fails o middle read got is))

  pub followed_open : (x : Spelled) (taken : Bool) → option_map (λ u. (u, middle)) o ≡ read → o ≡ Some x → Passes (past middle) taken middle rest → taken ≡ false → None ≡ followed past read
  followed_open x taken got is passes stood =
      let lacks = passes_none (past middle) taken middle rest passes stood in
      sym (ap (followed past) (read_is o middle read x got is) ∙ ap (option_map (λ us. (x, us))) lacks.0)

  pub followed_is : (x : Spelled) (taken : Bool) → option_map (λ u. (u, middle)) o ≡ read → o ≡ Some x → Passes (past middle) taken middle rest → taken ≡ true → Some (x, rest) ≡ followed past read
  followed_is x taken got is passes stood =
      sym (ap (followed past) (read_is o middle read x got is) ∙ ap (option_map (λ us. (x, us))) (passes_some (past middle) taken middle rest passes stood))
