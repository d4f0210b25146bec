-- Fuel that is enough is as good as any other: lists of items, and the parts of LET and LAMBDA.
use Rattle.std.proofs.Common.{◌≡◌, ◌⊎◌, inl, inr, ℕ, zero, suc, ◌<◌, ◌≤◌, List, [], ◌∷◌, length, length-append, Option, Some, None, option_map, refl, sym, ap, ◌∙◌, arith}
use Rattle.ic_laws.specs.Dialect.{DialectMeaning}
use Rattle.ic_laws.specs.Parse.{pair_of, Read, Reader, past_separator, past_close, followed, listed, argument, binder, let_parts, lambda_parts, past_row_sign, constant, row, reader}
use Rattle.ic_laws.specs.Token.{Token, Separator, Word}
use Rattle.ic_laws.specs.Tree.{Spelled}
use Rattle.ic_laws.specs.Yield.{constant_tokens, row_tokens, yield}
use Rattle.ic_laws.proofs.parsing.ReadLemmas.{reader-zero, reader_nothing}
use Rattle.ic_laws.proofs.parsing.Soundness.{Good, Sound, followed_some, past_separator_some}
use Rattle.ic_laws.proofs.parsing.SoundParts.{binder_some, argument_sound}
use Rattle.ic_laws.proofs.parsing.SoundRows.{constant_sound, row_tokens_of, past_row_sign_some}
use Rattle.ic_laws.proofs.parsing.ParseLemmas.{reader_sound}

pub option_cases : {A : Type 0} (o : Option A) → (o ≡ None) ⊎ ((x : A) × (o ≡ Some x))
option_cases None = inl refl
option_cases (Some x) = inr (x, refl)

-- an item takes no more than stands there, and none is read from nothing; a sign takes a token
module _ {A : Type 0} (item : List Token → Read A) (past : List Token → Option (List Token)) where
  pub record Shrinks : Type 0 where
    pub shorter : (ts : List Token) (read : A × List Token) → item ts ≡ Some read → length read.1 ≤ length ts
    pub nothing : item [] ≡ None
    pub sign : (ts rest : List Token) → past ts ≡ Some rest → length rest < length ts

  pub listed_none : (fuel : ℕ) (ts : List Token) → item ts ≡ None → listed item past fuel ts ≡ None
  unfolding listed
  listed_none zero ts e = refl
  listed_none (suc fuel) ts e = rw e refl

  pub listed_last : (fuel : ℕ) (ts : List Token) (first : A × List Token) → item ts ≡ Some first → past first.1 ≡ None → listed item past (suc fuel) ts ≡ Some (first.0 ∷ [], first.1)
  unfolding listed
  listed_last fuel ts first e stops = rw (e, stops) refl

  pub listed_next : (fuel : ℕ) (ts : List Token) (first : A × List Token) (rest : List Token) → item ts ≡ Some first → past first.1 ≡ Some rest → listed item past (suc fuel) ts ≡ option_map (λ others. (first.0 ∷ others.0, others.1)) (listed item past fuel rest)
  unfolding listed
  listed_next fuel ts first rest e goes = rw (e, goes) refl

  pub listed_fuel : Shrinks → (f g : ℕ) (ts : List Token) → length ts ≤ f → length ts ≤ g → listed item past f ts ≡ listed item past g ts
  listed_fuel shrinks zero g [] enough too = listed_none zero [] shrinks.nothing ∙ sym (listed_none g [] shrinks.nothing)
  listed_fuel shrinks zero g (t ∷ ts) enough too = absurd (omega arith)
  listed_fuel shrinks (suc f) zero [] enough too = listed_none (suc f) [] shrinks.nothing ∙ sym (listed_none zero [] shrinks.nothing)
  listed_fuel shrinks (suc f) zero (t ∷ ts) enough too = absurd (omega arith)
  listed_fuel shrinks (suc f) (suc g) ts enough too = elim (option_cases (item ts)) [
    | inl none ↦ listed_none (suc f) ts none ∙ sym (listed_none (suc g) ts none)
    | inr got ↦
        let first : A × List Token = got.0 in
        elim (option_cases (past first.1)) [
          | inl stops ↦ listed_last f ts first got.1 stops ∙ sym (listed_last g ts first got.1 stops)
          | inr goes ↦
              let less : length goes.0 < length first.1 = shrinks.sign first.1 goes.0 goes.1 in
              let no_longer : length first.1 ≤ length ts = shrinks.shorter ts first got.1 in
              listed_next f ts first goes.0 got.1 goes.1
              ∙ ap (option_map (λ others. (first.0 ∷ others.0, others.1))) (listed_fuel shrinks f g goes.0 (omega arith) (omega arith))
              ∙ sym (listed_next g ts first goes.0 got.1 goes.1)
        ]
  ]

-- a reader takes no more than stands there, and reads no tree from nothing
pub record TakesNoMore (below : Reader) : Type 0 where
  pub shorter : (b : ℕ) (ts : List Token) (read : Spelled × List Token) → below b 1 ts ≡ Some read → length read.1 ≤ length ts
  pub nothing : (b : ℕ) → below b 1 [] ≡ None

pub reader_takes : (d : DialectMeaning) (most : ℕ) → TakesNoMore (reader d most)
reader_takes d most = record {
  shorter = λ b ts read e.
      let sound : Sound d most (reader d most) = reader_sound d most in
      let good : Good d most b 1 ts read = sound.good b 1 ts read (omega arith) e in
      omega (arith, ap length good.tokens, length-append (yield d read.0) read.1);
  nothing = λ b. none most b;
}
  where
    none : (most b : ℕ) → reader d most b 1 [] ≡ None
    none zero b = reader-zero d b 1 []
    none (suc most) b = reader_nothing d most b 1

pub arguments_shrink : (d : DialectMeaning) (most b : ℕ) → Shrinks (argument (reader d most) b) past_separator
unfolding argument
arguments_shrink d most b =
    let takes : TakesNoMore (reader d most) = reader_takes d most in
    record {
      shorter = λ ts read e.
          let found = argument_sound d most (reader d most) (reader_sound d most) b ts read e in
          omega (arith, ap length found.0, length-append (yield d read.0) read.1);
      nothing = takes.nothing b;
      sign = λ ts rest e. omega (arith, ap length (past_separator_some ts rest e));
    }

value_shorter : (below : Reader) → TakesNoMore below → (b : ℕ) (ts : List Token) (begun : List ℕ × List Token) (value : Spelled × List Token) → binder ts ≡ Some begun → followed past_separator (below b 1 begun.1) ≡ Some value → length value.1 < length ts
value_shorter below takes b ts begun value begins e =
    followed_some past_separator (below b 1 begun.1) value e (λ after got unread.
    let start = binder_some ts begun begins in
    omega (arith, ap length start.0, takes.shorter b begun.1 (value.0, after) got, ap length (past_separator_some after value.1 unread)))

binder_some_tokens : (ts : List Token) (begun : List ℕ × List Token) → binder ts ≡ Some begun → ts ≡ Word begun.0 ∷ Separator ∷ begun.1
binder_some_tokens ts begun begins = let start = binder_some ts begun begins in start.0

module _ (below : Reader) (b : ℕ) where
  pub let_body : (fuel : ℕ) (ts : List Token) → binder ts ≡ None → let_parts below b (suc fuel) ts ≡ option_map (λ body. (([], body.0), body.1)) (followed past_close (below b 1 ts))
  unfolding let_parts
  let_body fuel ts none = rw (none, let_parts) refl

  pub let_pair : (fuel : ℕ) (ts : List Token) (begun : List ℕ × List Token) (value : Spelled × List Token) → binder ts ≡ Some begun → followed past_separator (below b 1 begun.1) ≡ Some value
      → let_parts below b (suc fuel) ts ≡ option_map (λ parts. ((pair_of begun.0 value.0 ∷ parts.0.0, parts.0.1), parts.1)) (let_parts below b fuel value.1)
  unfolding let_parts
  let_pair fuel ts begun value begins e = rw (begins, let_parts, e) refl

  pub let_fails : (fuel : ℕ) (ts : List Token) (begun : List ℕ × List Token) → binder ts ≡ Some begun → followed past_separator (below b 1 begun.1) ≡ None → let_parts below b (suc fuel) ts ≡ None
  unfolding let_parts
  let_fails fuel ts begun begins e = rw (begins, let_parts, e) refl

  let_nothing : TakesNoMore below → (fuel : ℕ) → let_parts below b fuel [] ≡ None
  unfolding let_parts binder
  let_nothing takes zero = refl
  let_nothing takes (suc fuel) = rw (takes.nothing b) refl

  pub let_fuel : TakesNoMore below → (f g : ℕ) (ts : List Token) → length ts ≤ f → length ts ≤ g → let_parts below b f ts ≡ let_parts below b g ts
  let_fuel takes zero g [] enough too = let_nothing takes zero ∙ sym (let_nothing takes g)
  let_fuel takes zero g (t ∷ ts) enough too = absurd (omega arith)
  let_fuel takes (suc f) zero [] enough too = let_nothing takes (suc f) ∙ sym (let_nothing takes zero)
  let_fuel takes (suc f) zero (t ∷ ts) enough too = absurd (omega arith)
  let_fuel takes (suc f) (suc g) ts enough too = elim (option_cases (binder ts)) [
    | inl none ↦ let_body f ts none ∙ sym (let_body g ts none)
    | inr begins ↦
        let begun : List ℕ × List Token = begins.0 in
        elim (option_cases (followed past_separator (below b 1 begun.1))) [
          | inl fails ↦ let_fails f ts begun begins.1 fails ∙ sym (let_fails g ts begun begins.1 fails)
          | inr got ↦
              let value : Spelled × List Token = got.0 in
              let less : length value.1 < length ts = value_shorter below takes b ts begun value begins.1 got.1 in
              let_pair f ts begun value begins.1 got.1
              ∙ ap (option_map (λ parts. ((pair_of begun.0 value.0 ∷ parts.0.0, parts.0.1), parts.1))) (let_fuel takes f g value.1 (omega arith) (omega arith))
              ∙ sym (let_pair g ts begun value begins.1 got.1)
        ]
  ]

  pub lambda_body : (fuel : ℕ) (ts : List Token) → binder ts ≡ None → lambda_parts below b (suc fuel) ts ≡ option_map (λ body. (([], body.0), body.1)) (followed past_close (below b 1 ts))
  unfolding lambda_parts
  lambda_body fuel ts none = rw (none, lambda_parts) refl

  pub lambda_parameter : (fuel : ℕ) (ts : List Token) (begun : List ℕ × List Token) → binder ts ≡ Some begun → lambda_parts below b (suc fuel) ts ≡ option_map (λ parts. ((begun.0 ∷ parts.0.0, parts.0.1), parts.1)) (lambda_parts below b fuel begun.1)
  unfolding lambda_parts
  lambda_parameter fuel ts begun begins = rw (begins, lambda_parts) refl

  lambda_nothing : TakesNoMore below → (fuel : ℕ) → lambda_parts below b fuel [] ≡ None
  unfolding lambda_parts binder
  lambda_nothing takes zero = refl
  lambda_nothing takes (suc fuel) = rw (takes.nothing b) refl

  pub lambda_fuel : TakesNoMore below → (f g : ℕ) (ts : List Token) → length ts ≤ f → length ts ≤ g → lambda_parts below b f ts ≡ lambda_parts below b g ts
  lambda_fuel takes zero g [] enough too = lambda_nothing takes zero ∙ sym (lambda_nothing takes g)
  lambda_fuel takes zero g (t ∷ ts) enough too = absurd (omega arith)
  lambda_fuel takes (suc f) zero [] enough too = lambda_nothing takes (suc f) ∙ sym (lambda_nothing takes zero)
  lambda_fuel takes (suc f) zero (t ∷ ts) enough too = absurd (omega arith)
  lambda_fuel takes (suc f) (suc g) ts enough too = elim (option_cases (binder ts)) [
    | inl none ↦ lambda_body f ts none ∙ sym (lambda_body g ts none)
    | inr begins ↦
        let begun : List ℕ × List Token = begins.0 in
        let start : ts ≡ Word begun.0 ∷ Separator ∷ begun.1 = binder_some_tokens ts begun begins.1 in
        lambda_parameter f ts begun begins.1
        ∙ ap (option_map (λ parts. ((begun.0 ∷ parts.0.0, parts.0.1), parts.1))) (lambda_fuel takes f g begun.1 (omega (arith, ap length start)) (omega (arith, ap length start)))
        ∙ sym (lambda_parameter g ts begun begins.1)
  ]

pub constants_shrink : Shrinks constant past_separator
constants_shrink = record {
  shorter = λ ts read e. let found = constant_sound ts read e in omega (arith, ap length found.0, length-append (constant_tokens read.0) read.1);
  nothing = refl;
  sign = λ ts rest e. omega (arith, ap length (past_separator_some ts rest e));
}

pub rows_shrink : (d : DialectMeaning) → Shrinks row (past_row_sign d)
unfolding listed
rows_shrink d = record {
  shorter = λ ts read e. omega (arith, ap length (row_tokens_of ts read e), length-append (row_tokens read.0) read.1);
  nothing = refl;
  sign = λ ts rest e. omega (arith, ap length (past_row_sign_some d ts rest e));
}
