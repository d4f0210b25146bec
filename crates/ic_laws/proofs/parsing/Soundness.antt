-- What is read is a well-formed tree with those tokens: what that means, and what each step of a reading gives.
use Rattle.std.proofs.Common.{◌≡◌, ◌≢◌, ℕ, zero, suc, ◌<◌, ◌≤◌, List, [], ◌∷◌, ◌++◌, append_assoc, Option, Some, None, option_map, option_and_then, false, nat_le, refl, sym, ap, subst, ◌∙◌, map, arith}
use Rattle.std.proofs.lemmas.Bool.{leb-true}
use Rattle.std.proofs.lemmas.Option.{same_Some, cond_some, option_and_then_some}
use Rattle.std.specs.List.{AllByRecursion}
use Rattle.ic_laws.specs.Dialect.{DialectMeaning}
use Rattle.ic_laws.specs.Parse.{SpelledKind, node, Read, Reader, made, past_separator, past_close, past_brace, followed, listed, turns}
use Rattle.ic_laws.specs.Token.{Token, Separator, Operator, Close, CloseBrace}
use Rattle.ic_laws.specs.Tree.{Spelled, kind_level, sign_level, level, is_empty_kind, is_empty, height, brackets_step, open_brackets}
use Rattle.ic_laws.specs.Yield.{joined, yield_step, yield}
use Rattle.ic_laws.proofs.parsing.Nodes.{OfChildren, AllWell, PairAllWell, WellKind, well_made, with_tokens, with_numbers, yield-node, brackets-node, level-node, empty-node}

-- a list of tokens begins with no sign between operands that binds at least so tightly
abbrev pub NoSign : ℕ → List Token → Type 0
NoSign least (Operator sign ∷ rest) = sign_level sign < least
NoSign least ts = Unit {0}

pub NoSign-more : (a b : ℕ) (ts : List Token) → a ≤ b → NoSign a ts → NoSign b ts
NoSign-more a b (Operator sign ∷ rest) le h = omega arith
NoSign-more a b ts le h = tt

-- what is read is a tree whose tokens stood there, well-formed, there, low enough, with few enough brackets, tight enough
pub record Good (d : DialectMeaning) (most b least : ℕ) (ts : List Token) (read : Spelled × List Token) : Type 0 where
  pub tokens : ts ≡ yield d read.0 ++ read.1
  pub well : AllWell d read.0
  pub there : is_empty read.0 ≡ false
  pub low : height read.0 ≤ most
  pub few : open_brackets read.0 ≤ b
  pub tight : least ≤ level read.0

pub Good-less : (d : DialectMeaning) (most b less least : ℕ) (ts : List Token) (read : Spelled × List Token) → less ≤ least → Good d most b least ts read → Good d most b less ts read
Good-less d most b less least ts read le good =
    record { tokens = good.tokens; well = good.well; there = good.there; low = good.low; few = good.few; tight = omega (arith, good.tight) }

-- a reader gives what is good, and no sign that binds at least so tightly stands after it
pub record Sound (d : DialectMeaning) (most : ℕ) (below : Reader) : Type 0 where
  pub good : (b least : ℕ) (ts : List Token) (read : Spelled × List Token) → least ≤ 6 → below b least ts ≡ Some read → Good d most b least ts read
  pub no_sign : (b least : ℕ) (ts : List Token) (read : Spelled × List Token) → least ≤ 6 → below b least ts ≡ Some read → NoSign least read.1

-- what a node must meet to be taken
pub record Fitting (d : DialectMeaning) (b least : ℕ) (kind : SpelledKind) : Type 0 where
  pub well : WellKind d kind
  pub below : OfChildren (AllWell d) (PairAllWell d) kind
  pub there : is_empty_kind kind ≡ false
  pub few : brackets_step (with_numbers open_brackets kind) ≤ b
  pub tight : least ≤ kind_level kind

pub good_made : (d : DialectMeaning) (most b least : ℕ) (kind : SpelledKind) (ts rest : List Token) (read : Spelled × List Token) → Fitting d b least kind → ts ≡ yield_step d (with_tokens d kind) ++ rest → made most kind rest ≡ Some read → Good d most b least ts read
good_made d most b least kind ts rest read fits tokens e =
    let parts = cond_some (nat_le (height (node kind)) most) (node kind, rest) read e in
    subst (Good d most b least ts) parts.1 (record {
      tokens = tokens ∙ ap (λ (xs : List Token). xs ++ rest) (sym (yield-node d kind));
      well = well_made d kind fits.well fits.below;
      there = empty-node kind ∙ fits.there;
      low = leb-true (height (node kind)) most parts.0;
      few = subst (λ (n : ℕ). n ≤ b) (sym (brackets-node kind)) fits.few;
      tight = subst (λ (n : ℕ). least ≤ n) (sym (level-node kind)) fits.tight;
    })

-- the steps of a reading, the other way round
pub option_map_some : {A B P : Type 0} (f : A → B) (o : Option A) (y : B) → option_map f o ≡ Some y → ((x : A) → o ≡ Some x → f x ≡ y → P) → P
option_map_some f None y e so = cc
option_map_some f (Some x) y e so = so x refl (same_Some (f x) y e)

pub followed_some : {A P : Type 0} (past : List Token → Option (List Token)) (read : Read A) (r : A × List Token) → followed past read ≡ Some r → ((ts : List Token) → read ≡ Some (r.0, ts) → past ts ≡ Some r.1 → P) → P
followed_some past read r e so =
    option_and_then_some _ read r e (λ x is h. option_map_some _ (past x.1) r h (λ rest after same.
    so x.1 (is ∙ ap (λ (p : _). Some (p, x.1)) (ap (λ (p : _). p.0) same)) (after ∙ ap (λ (p : _). Some p.1) same)))

pub past_separator_some : (ts rest : List Token) → past_separator ts ≡ Some rest → ts ≡ Separator ∷ rest
past_separator_some (Separator ∷ after) rest e = ap (λ xs. Separator ∷ xs) (same_Some after rest e)
past_separator_some ts rest e = cc

pub past_close_some : (ts rest : List Token) → past_close ts ≡ Some rest → ts ≡ Close ∷ rest
past_close_some (Close ∷ after) rest e = ap (λ xs. Close ∷ xs) (same_Some after rest e)
past_close_some ts rest e = cc

pub past_brace_some : (ts rest : List Token) → past_brace ts ≡ Some rest → ts ≡ CloseBrace ∷ rest
past_brace_some (CloseBrace ∷ after) rest e = ap (λ xs. CloseBrace ∷ xs) (same_Some after rest e)
past_brace_some ts rest e = cc

-- a list of items is read as those whose tokens stood there
module _ {A : Type 0} (item : List Token → Read A) (past : List Token → Option (List Token)) (between : Token) (tokens : A → List Token) (P : A → Type 0) where
  pub record ItemSound : Type 0 where
    pub tokens_of : (ts : List Token) (read : A × List Token) → item ts ≡ Some read → ts ≡ tokens read.0 ++ read.1
    pub holds : (ts : List Token) (read : A × List Token) → item ts ≡ Some read → P read.0
    pub sign : (ts rest : List Token) → past ts ≡ Some rest → ts ≡ between ∷ rest

  pub record ListSound (ts : List Token) (read : List A × List Token) : Type 0 where
    pub whole : ts ≡ joined between (map tokens read.0) ++ read.1
    pub all : AllByRecursion P read.0
    pub some : read.0 ≢ []

  joined_two : (x : A) (xs : List A) → xs ≢ [] → joined between (tokens x ∷ map tokens xs) ≡ tokens x ++ between ∷ joined between (map tokens xs)
  joined_two x [] some = absurd (some refl)
  joined_two x (y ∷ ys) some = refl

  listed_one : (sound : ItemSound) (ts : List Token) (x : A) (after : List Token) → item ts ≡ Some (x, after) → ListSound ts (x ∷ [], after)
  listed_one sound ts x after e = record { whole = sound.tokens_of ts (x, after) e; all = (sound.holds ts (x, after) e, tt); some = λ h. cc }

  listed_more : (sound : ItemSound) (ts : List Token) (x : A) (after rest : List Token) (others : List A × List Token) → item ts ≡ Some (x, after) → past after ≡ Some rest → ListSound rest others → ListSound ts (x ∷ others.0, others.1)
  listed_more sound ts x after rest others e unread more = record {
    whole =
        sound.tokens_of ts (x, after) e
        ∙ ap (λ (xs : List Token). tokens x ++ xs) (sound.sign after rest unread ∙ ap (λ (xs : List Token). between ∷ xs) more.whole)
        ∙ sym (append_assoc (tokens x) (between ∷ joined between (map tokens others.0)) others.1)
        ∙ ap (λ (xs : List Token). xs ++ others.1) (sym (joined_two x others.0 more.some));
    all = (sound.holds ts (x, after) e, more.all);
    some = λ h. cc;
  }

  pub listed_sound : (sound : ItemSound) (fuel : ℕ) (ts : List Token) (read : List A × List Token) → listed item past fuel ts ≡ Some read → ListSound ts read
  unfolding listed
  listed_sound sound zero ts read e = cc
  listed_sound sound (suc fuel) ts read e = option_and_then_some _ (item ts) read e (λ first is h. after (λ rest others got. listed_sound sound fuel rest others got) first is (past first.1) refl h)
    where
      after : ((rest : List Token) (others : List A × List Token) → listed item past fuel rest ≡ Some others → ListSound rest others) → (first : A × List Token) → item ts ≡ Some first → (o : Option (List Token)) → past first.1 ≡ o → elim o [
        | Some rest ↦ option_map (λ others. (first.0 ∷ others.0, others.1)) (listed item past fuel rest)
        | None ↦ Some (first.0 ∷ [], first.1)
      ] ≡ Some read → ListSound ts read
      after again first is None at h = subst (ListSound ts) (same_Some (first.0 ∷ [], first.1) read h) (listed_one sound ts first.0 first.1 is)
      after again first is (Some rest) at h =
          option_map_some _ (listed item past fuel rest) read h (λ others got same.
          subst (ListSound ts) same (listed_more sound ts first.0 first.1 rest others is at (again rest others got)))

-- a loop keeps what each turn keeps, and stops where there is no turn
module _ (turn : Spelled → List Token → Option (Read Spelled)) (Kept : Spelled × List Token → Type 0) where
  pub turns_sound : ((left : Spelled) (ts : List Token) (read : Spelled × List Token) → Kept (left, ts) → turn left ts ≡ Some (Some read) → Kept read)
      → (fuel : ℕ) (left : Spelled) (ts : List Token) (read : Spelled × List Token) → Kept (left, ts) → turns turn fuel left ts ≡ Some read → Kept read × (turn read.0 read.1 ≡ None)
  unfolding turns
  turns_sound keeps zero left ts read kept e = cc
  turns_sound keeps (suc fuel) left ts read kept e = next (λ on kept more. turns_sound keeps fuel on.0 on.1 read kept more) (turn left ts) refl e
    where
      next : ((on : Spelled × List Token) → Kept on → turns turn fuel on.0 on.1 ≡ Some read → Kept read × (turn read.0 read.1 ≡ None)) → (o : Option (Read Spelled)) → turn left ts ≡ o → elim o [
        | None ↦ Some (left, ts)
        | Some read ↦ option_and_then (λ next. turns turn fuel next.0 next.1) read
      ] ≡ Some read → Kept read × (turn read.0 read.1 ≡ None)
      next again None at h = subst (λ (p : Spelled × List Token). Kept p × (turn p.0 p.1 ≡ None)) (same_Some (left, ts) read h) (kept, at)
      next again (Some taken) at h =
          option_and_then_some _ taken read h (λ on is more.
          again on (keeps left ts on kept (at ∙ ap (λ (o : Read Spelled). Some o) is)) more)
