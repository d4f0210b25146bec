-- What the readers of tokens answer, step by step: where a loop stops or goes on, and how a list of items is read back.
use Rattle.std.proofs.Common.{◌≡◌, ℕ, zero, suc, ◌<◌, ◌≤◌, List, [], ◌∷◌, ◌++◌, length, length-append, append_assoc, Option, Some, None, Bool, true, false, refl, map, arith}
use Rattle.std.proofs.lemmas.Bool.{le-leb, lt-leb}
use Rattle.std.specs.List.{AllByRecursion}
use Rattle.ic_laws.specs.Dialect.{DialectMeaning}
use Rattle.ic_laws.specs.Parse.{SpelledKind, node, Read, Reader, made, made_if, past_close, listed, ends_argument, turns, postfix, binary, primary, prefix_sign, operand, expression, reader}
use Rattle.ic_laws.specs.Token.{Token, Separator, Operator, Percent, Hash, Open, Close}
use Rattle.ic_laws.specs.Tree.{Spelled, sign_level, height}
use Rattle.ic_laws.specs.Yield.{joined}

-- a list of tokens begins with nothing that goes on from an operand: with no sign after one, no bracket, and no sign
-- between operands that binds at least so tightly
abbrev pub NothingGoesOn : ℕ → List Token → Type 0
NothingGoesOn least (Operator sign ∷ rest) = sign_level sign < least
NothingGoesOn least (Percent ∷ rest) = ⊥
NothingGoesOn least (Hash ∷ rest) = ⊥
NothingGoesOn least (Open ∷ rest) = ⊥
NothingGoesOn least ts = Unit {0}

pub NothingGoesOn-more : (a b : ℕ) (ts : List Token) → a ≤ b → NothingGoesOn a ts → NothingGoesOn b ts
NothingGoesOn-more a b (Operator sign ∷ rest) le h = omega arith
NothingGoesOn-more a b (Percent ∷ rest) le h = h
NothingGoesOn-more a b (Hash ∷ rest) le h = h
NothingGoesOn-more a b (Open ∷ rest) le h = h
NothingGoesOn-more a b ts le h = tt

pub made_takes : (most : ℕ) (kind : SpelledKind) (rest : List Token) → height (node kind) ≤ most → made most kind rest ≡ Some (node kind, rest)
made_takes most kind rest low = rw (le-leb (height (node kind)) most low) refl

pub made_if_takes : (good : Bool) (most : ℕ) (kind : SpelledKind) (rest : List Token) → good ≡ true → height (node kind) ≤ most → made_if good most kind rest ≡ Some (node kind, rest)
made_if_takes good most kind rest h low = rw h (made_takes most kind rest low)

pub turns_stop : (turn : Spelled → List Token → Option (Read Spelled)) (fuel : ℕ) (left : Spelled) (ts : List Token) → turn left ts ≡ None → turns turn (suc fuel) left ts ≡ Some (left, ts)
unfolding turns
turns_stop turn fuel left ts e = rw (e, turns) refl

pub turns_go : (turn : Spelled → List Token → Option (Read Spelled)) (fuel : ℕ) (left : Spelled) (ts : List Token) (next : Spelled) (rest : List Token) → turn left ts ≡ Some (Some (next, rest)) → turns turn (suc fuel) left ts ≡ turns turn fuel next rest
unfolding turns
turns_go turn fuel left ts next rest e = rw (e, turns) refl

pub postfix_stops : (most : ℕ) (below : Reader) (b least : ℕ) (left : Spelled) (ts : List Token) → NothingGoesOn least ts → postfix most below b left ts ≡ None
unfolding postfix
postfix_stops most below b least left (Percent ∷ rest) h = absurd h
postfix_stops most below b least left (Hash ∷ rest) h = absurd h
postfix_stops most below b least left (Open ∷ rest) h = absurd h
postfix_stops most below b least left ts h = refl

pub binary_stops : (most : ℕ) (below : Reader) (b least : ℕ) (left : Spelled) (ts : List Token) → NothingGoesOn least ts → binary most below b least left ts ≡ None
unfolding binary
binary_stops most below b least left (Operator sign ∷ rest) h = rw (lt-leb least (sign_level sign) h) refl
binary_stops most below b least left ts h = refl

pub reader-zero : (d : DialectMeaning) (b least : ℕ) (ts : List Token) → reader d zero b least ts ≡ None
unfolding reader
reader-zero d b least ts = refl

pub reader_nothing : (d : DialectMeaning) (most b least : ℕ) → reader d (suc most) b least [] ≡ None
unfolding reader expression operand
reader_nothing d most b least = refl

-- what is read has begun with no end of an argument
pub reader_begins : (d : DialectMeaning) (most b least : ℕ) (ts : List Token) (read : Spelled × List Token) → reader d most b least ts ≡ Some read → ends_argument ts ≡ false
unfolding reader expression operand primary prefix_sign
reader_begins d zero b least (Separator ∷ rest) read e = cc
reader_begins d (suc most) b least (Separator ∷ rest) read e = cc
reader_begins d zero b least (Close ∷ rest) read e = cc
reader_begins d (suc most) b least (Close ∷ rest) read e = cc
reader_begins d most b least ts read e = refl

pub no_close : (ts : List Token) → ends_argument ts ≡ false → past_close ts ≡ None
no_close (Close ∷ rest) e = cc
no_close ts e = refl

pub close_ends : (least : ℕ) (ts : List Token) → ends_argument ts ≡ true → NothingGoesOn least ts
close_ends least (Separator ∷ rest) e = tt
close_ends least (Close ∷ rest) e = tt
close_ends least [] e = tt
close_ends least (token ∷ rest) e = cc

-- a list of items reads back, where each of them does before what can stand after it
module _ {A : Type 0} (item : List Token → Read A) (past : List Token → Option (List Token)) (between : Token) (tokens : A → List Token) (Fine : List Token → Type 0) where
  pub record ItemReads (a : A) : Type 0 where
    pub reads : (rest : List Token) → Fine rest → item (tokens a ++ rest) ≡ Some (a, rest)

  pub record SignReads : Type 0 where
    pub taken : (rest : List Token) → past (between ∷ rest) ≡ Some rest
    pub fine : (rest : List Token) → Fine (between ∷ rest)

  pub listed_reads : (sign : SignReads) (last : List Token) → past last ≡ None → Fine last → (x : A) (xs : List A) → AllByRecursion ItemReads (x ∷ xs) → (fuel : ℕ) → length (x ∷ xs) ≤ fuel → listed item past fuel (joined between (map tokens (x ∷ xs)) ++ last) ≡ Some (x ∷ xs, last)
  unfolding listed
  listed_reads sign last stops fine x xs all zero long = absurd (omega arith)
  listed_reads sign last stops fine x [] all (suc fuel) long = rw (all.0.reads last fine, stops) refl
  listed_reads sign last stops fine x (y ∷ ys) all (suc fuel) long =
      let more : List Token = joined between (map tokens (y ∷ ys)) in
      let first : item (tokens x ++ (between ∷ (more ++ last))) ≡ Some (x, between ∷ (more ++ last)) = all.0.reads (between ∷ (more ++ last)) (sign.fine (more ++ last)) in
      let others : listed item past fuel (more ++ last) ≡ Some (y ∷ ys, last) = listed_reads sign last stops fine y ys all.1 fuel (omega arith) in
      rw (append_assoc (tokens x) (between ∷ more) last, first, sign.taken (more ++ last), others) refl

  pub joined_long : (x : A) (xs : List A) → length xs ≤ length (joined between (map tokens (x ∷ xs)))
  joined_long x [] = omega arith
  joined_long x (y ∷ ys) = omega (arith, joined_long y ys, length-append (tokens x) (between ∷ joined between (map tokens (y ∷ ys))))
