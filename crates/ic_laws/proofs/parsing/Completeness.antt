-- A well-formed tree is read back from its tokens: what that means for a tree, and the kinds without arguments.
use Rattle.std.specs.Prelude.{ℤ}
use Rattle.std.proofs.Common.{◌≡◌, ℕ, zero, suc, ◌+◌, ◌<◌, ◌≤◌, max, List, [], ◌∷◌, ◌++◌, append_assoc, Option, Some, None, Bool, true, refl, ◌∙◌, arith, ◌&&◌}
use Rattle.std.proofs.lemmas.Bool.{le-leb}
use Rattle.ic_laws.specs.Dialect.{DialectMeaning}
use Rattle.ic_laws.specs.Parse.{SpelledKind, node, Read, Reader, postfix, postfixes, binary, binaries, joined_by, bracketed, primary, prefix_sign, prefixed, operand, expression, reader}
use Rattle.ic_laws.specs.Token.{Token, Num, Str, Boolean, Err, Ref, Local, Word, Operator, Percent, Hash, Open, Close}
use Rattle.ic_laws.specs.Name.{is_identifier, is_sheet_name, is_variable}
use Rattle.ic_laws.specs.Position.{is_place_within}
use Rattle.ic_laws.specs.Tree.{Spelled, sign_level, level, height, open_brackets, is_unsigned, is_written_sheet}
use Rattle.ic_laws.specs.Yield.{prefix_token, yield}
use Rattle.ic_laws.specs.declared.tree.BinarySign.{BinarySign}
use Rattle.ic_laws.specs.declared.reference.Place.{Place}
use Rattle.ic_laws.specs.declared.tree.BinarySign.TheVariants as signs
use Rattle.ic_laws.specs.declared.tree.Error.{Error}
use Rattle.ic_laws.specs.declared.tree.PrefixSign.{PrefixSign}
use Rattle.ic_laws.specs.declared.tree.PrefixSign.TheVariants as prefixes
use Rattle.ic_laws.specs.declared.tree.Tree.TheOpen as one
use Rattle.ic_laws.proofs.parsing.Nodes.{WellKind, yield-node, height-node, brackets-node, level-node, level_positive, height_positive}
use Rattle.ic_laws.proofs.parsing.ReadLemmas.{NothingGoesOn, NothingGoesOn-more, made_takes, made_if_takes, turns_stop, turns_go, postfix_stops, binary_stops}

-- a tree is read back before what doesn't go on from it
pub record ReadsBack (d : DialectMeaning) (most b : ℕ) (t : Spelled) : Type 0 where
  pub reads : (least : ℕ) (rest : List Token) → least ≤ level t → NothingGoesOn least rest → reader d most b least (yield d t ++ rest) ≡ Some (t, rest)

-- after an operand its loop goes on, with fuel for all that a tree may still grow
pub record GoesOn (read : Read Spelled) (loop : ℕ → Read Spelled) (most : ℕ) (t : Spelled) : Type 0 where
  pub fuel : ℕ
  pub enough : most < fuel + height t
  pub same : read ≡ loop fuel

-- a tree that binds as tightly as what stands after an operand does, whatever stands after it
pub record Tight (d : DialectMeaning) (t : Spelled) : Type 0 where
  pub goes : (most b : ℕ) (rest : List Token) → height t ≤ suc most → open_brackets t ≤ b → GoesOn (operand d (suc most) (reader d most) b (yield d t ++ rest)) (λ fuel. postfixes (suc most) (reader d most) b fuel t rest) (suc most) t

-- any tree, before what stands after a whole operand
pub record Wide (d : DialectMeaning) (t : Spelled) : Type 0 where
  pub goes : (most b least : ℕ) (rest : List Token) → height t ≤ suc most → open_brackets t ≤ b → least ≤ level t → NothingGoesOn (suc (level t)) rest → GoesOn (expression d (suc most) (reader d most) b least (yield d t ++ rest)) (λ fuel. binaries (suc most) (reader d most) b least fuel t rest) (suc most) t

pub record Complete (d : DialectMeaning) (t : Spelled) : Type 0 where
  pub tight : 7 ≤ level t → Tight d t
  pub wide : Wide d t

-- where the loops stop, the tree is read back
pub back : (d : DialectMeaning) (t : Spelled) → Wide d t → (most b : ℕ) → height t ≤ most → open_brackets t ≤ b → ReadsBack d most b t
unfolding reader
back d t wide zero b low few = absurd (omega (arith, height_positive t))
back d t wide (suc most) b low few = record {
  reads = λ least rest tight ends.
      let on : GoesOn _ _ _ _ = wide.goes most b least rest low few tight (NothingGoesOn-more least (suc (level t)) rest (omega arith) ends) in
      on.same ∙ stopped least rest on.fuel (omega (arith, on.enough)) ends;
}
  where
    stopped : (least : ℕ) (rest : List Token) (fuel : ℕ) → 0 < fuel → NothingGoesOn least rest → binaries (suc most) (reader d most) b least fuel t rest ≡ Some (t, rest)
    stopped least rest zero some ends = absurd (omega arith)
    stopped least rest (suc fuel) some ends = turns_stop (binary (suc most) (reader d most) b least) fuel t rest (binary_stops (suc most) (reader d most) b least t rest ends)

-- a tight tree before what doesn't go on
pub wide_from_tight : (d : DialectMeaning) (t : Spelled) → 7 ≤ level t → Tight d t → Wide d t
unfolding expression
wide_from_tight d t seven tight = record {
  goes = λ most b least rest low few enough ends.
      let on : GoesOn _ _ _ _ = tight.goes most b rest low few in
      record {
        fuel = suc most;
        enough = omega (arith, height_positive t);
        same = rw (on.same ∙ stopped most b rest on.fuel (omega (arith, on.enough)) ends) refl;
      };
}
  where
    stopped : (most b : ℕ) (rest : List Token) (fuel : ℕ) → 0 < fuel → NothingGoesOn (suc (level t)) rest → postfixes (suc most) (reader d most) b fuel t rest ≡ Some (t, rest)
    stopped most b rest zero some ends = absurd (omega arith)
    stopped most b rest (suc fuel) some ends = turns_stop (postfix (suc most) (reader d most) b) fuel t rest (postfix_stops (suc most) (reader d most) b (suc (level t)) t rest ends)

pub complete_tight : (d : DialectMeaning) (t : Spelled) → 7 ≤ level t → Tight d t → Complete d t
complete_tight d t seven tight = record { tight = λ h. tight; wide = wide_from_tight d t seven tight }

-- an operand that begins with its token and isn't gone on from
pub record BeginsWithToken (d : DialectMeaning) (kind : SpelledKind) : Type 0 where
  pub token : Token
  pub following : List Token
  pub tokens : yield d (node kind) ≡ token ∷ following
  pub seven : 7 ≤ level (node kind)
  pub no_sign : prefix_sign token ≡ None
  pub reads : (most b : ℕ) (rest : List Token) → height (node kind) ≤ suc most → open_brackets (node kind) ≤ b → primary d (suc most) (reader d most) b token (following ++ rest) ≡ Some (node kind, rest)

pub complete_primary : (d : DialectMeaning) (kind : SpelledKind) → BeginsWithToken d kind → Complete d (node kind)
unfolding operand
complete_primary d kind begins = complete_tight d (node kind) begins.seven (record {
  goes = λ most b rest low few. record {
    fuel = suc most;
    enough = omega (arith, height_positive (node kind));
    same = rw (begins.tokens) (first_read most b rest low few);
  };
})
  where
    first_read : (most b : ℕ) (rest : List Token) → height (node kind) ≤ suc most → open_brackets (node kind) ≤ b → operand d (suc most) (reader d most) b (begins.token ∷ (begins.following ++ rest)) ≡ postfixes (suc most) (reader d most) b (suc most) (node kind) rest
    first_read most b rest low few = rw (begins.no_sign, operand, begins.reads most b rest low few) refl

-- a turn of the loop after an operand
pub record Follows (d : DialectMeaning) (kind : SpelledKind) : Type 0 where
  pub left : Spelled
  pub token : Token
  pub following : List Token
  pub tokens : yield d (node kind) ≡ yield d left ++ (token ∷ following)
  pub seven : 7 ≤ level (node kind)
  pub tight : Tight d left
  pub higher : height left < height (node kind)
  pub fewer : open_brackets left ≤ open_brackets (node kind)
  pub turn : (most b : ℕ) (rest : List Token) → height (node kind) ≤ suc most → open_brackets (node kind) ≤ b → postfix (suc most) (reader d most) b left (token ∷ (following ++ rest)) ≡ Some (Some (node kind, rest))

pub complete_postfix : (d : DialectMeaning) (kind : SpelledKind) → Follows d kind → Complete d (node kind)
complete_postfix d kind follows = complete_tight d (node kind) follows.seven (record {
  goes = λ most b rest low few.
      let on : GoesOn _ _ _ _ = follows.tight.goes most b (follows.token ∷ (follows.following ++ rest)) (omega (arith, follows.higher)) (omega (arith, follows.fewer)) in
      turned most b rest low few on.fuel on.enough on.same;
})
  where
    turned : (most b : ℕ) (rest : List Token) → height (node kind) ≤ suc most → open_brackets (node kind) ≤ b → (fuel : ℕ) → suc most < fuel + height follows.left
        → operand d (suc most) (reader d most) b (yield d follows.left ++ (follows.token ∷ (follows.following ++ rest))) ≡ postfixes (suc most) (reader d most) b fuel follows.left (follows.token ∷ (follows.following ++ rest))
        → GoesOn (operand d (suc most) (reader d most) b (yield d (node kind) ++ rest)) (λ fuel. postfixes (suc most) (reader d most) b fuel (node kind) rest) (suc most) (node kind)
    turned most b rest low few zero enough same = absurd (omega (arith, follows.higher))
    turned most b rest low few (suc fuel) enough same = record {
      fuel = fuel;
      enough = omega (arith, follows.higher);
      same = rw (follows.tokens, append_assoc (yield d follows.left) (follows.token ∷ follows.following) rest)
          (same ∙ turns_go (postfix (suc most) (reader d most) b) fuel follows.left (follows.token ∷ (follows.following ++ rest)) (node kind) rest (follows.turn most b rest low few));
    }

pub below_six : (sign : BinarySign) → sign_level sign < 6
below_six signs.Equal = omega arith
below_six signs.Unequal = omega arith
below_six signs.Less = omega arith
below_six signs.Greater = omega arith
below_six signs.AtMost = omega arith
below_six signs.AtLeast = omega arith
below_six signs.Join = omega arith
below_six signs.Plus = omega arith
below_six signs.Minus = omega arith
below_six signs.Times = omega arith
below_six signs.Over = omega arith
below_six signs.Power = omega arith

operand_prefix : (d : DialectMeaning) (most : ℕ) (below : Reader) (b : ℕ) (sign : PrefixSign) (ts : List Token) (x : Spelled) (rest : List Token) → below b 6 ts ≡ Some (x, rest) → height (node (one.Prefix sign x)) ≤ most → operand d most below b (prefix_token sign ∷ ts) ≡ Some (node (one.Prefix sign x), rest)
unfolding operand prefix_sign prefixed
operand_prefix d most below b prefixes.Plus ts x rest e low = rw (e, le-leb (height (node (one.Prefix prefixes.Plus x))) most low) refl
operand_prefix d most below b prefixes.Minus ts x rest e low = rw (e, le-leb (height (node (one.Prefix prefixes.Minus x))) most low) refl
operand_prefix d most below b prefixes.At ts x rest e low = rw (e, le-leb (height (node (one.Prefix prefixes.At x))) most low) refl

pub complete-Num : (d : DialectMeaning) (units : ℤ) → WellKind d (one.Num units) → Complete d (node (one.Num units))
unfolding primary prefix_sign
complete-Num d units well = complete_primary d (one.Num units) (record {
  token = Num units;
  following = [];
  tokens = yield-node d (one.Num units);
  seven = omega (arith, level-node (one.Num units));
  no_sign = refl;
  reads = λ most b rest low few. made_if_takes (is_unsigned units) (suc most) (one.Num units) rest well.unsigned low;
})

pub complete-Str : (d : DialectMeaning) (text : List ℕ) → Complete d (node (one.Str text))
unfolding primary prefix_sign
complete-Str d text = complete_primary d (one.Str text) (record {
  token = Str text;
  following = [];
  tokens = yield-node d (one.Str text);
  seven = omega (arith, level-node (one.Str text));
  no_sign = refl;
  reads = λ most b rest low few. made_takes (suc most) (one.Str text) rest low;
})

pub complete-Bool : (d : DialectMeaning) (value : Bool) → Complete d (node (one.Bool value))
unfolding primary prefix_sign
complete-Bool d value = complete_primary d (one.Bool value) (record {
  token = Boolean value;
  following = [];
  tokens = yield-node d (one.Bool value);
  seven = omega (arith, level-node (one.Bool value));
  no_sign = refl;
  reads = λ most b rest low few. made_takes (suc most) (one.Bool value) rest low;
})

pub complete-Err : (d : DialectMeaning) (error : Error) → Complete d (node (one.Err error))
unfolding primary prefix_sign
complete-Err d error = complete_primary d (one.Err error) (record {
  token = Err error;
  following = [];
  tokens = yield-node d (one.Err error);
  seven = omega (arith, level-node (one.Err error));
  no_sign = refl;
  reads = λ most b rest low few. made_takes (suc most) (one.Err error) rest low;
})

pub complete-Reference : (d : DialectMeaning) (sheet : Option (List ℕ)) (place : Place) → WellKind d (one.Reference sheet place) → Complete d (node (one.Reference sheet place))
unfolding primary prefix_sign
complete-Reference d sheet place well = complete_primary d (one.Reference sheet place) (record {
  token = Ref (record { sheet = sheet; place = place });
  following = [];
  tokens = yield-node d (one.Reference sheet place);
  seven = omega (arith, level-node (one.Reference sheet place));
  no_sign = refl;
  reads = λ most b rest low few.
      made_if_takes (is_written_sheet sheet && is_place_within place) (suc most) (one.Reference sheet place) rest (both _ _ well.words well.places) low;
})
  where
    both : (a b : Bool) → a ≡ true → b ≡ true → (a && b) ≡ true
    both a b p q = rw (p, q) refl

pub complete-Local : (d : DialectMeaning) (sheet word : List ℕ) → is_sheet_name sheet ≡ true → is_identifier word ≡ true → Complete d (node (one.Local (Some sheet) word))
unfolding primary prefix_sign
complete-Local d sheet word good also = complete_primary d (one.Local (Some sheet) word) (record {
  token = Local sheet word;
  following = [];
  tokens = yield-node d (one.Local (Some sheet) word);
  seven = omega (arith, level-node (one.Local (Some sheet) word));
  no_sign = refl;
  reads = λ most b rest low few. made_if_takes (is_sheet_name sheet && is_identifier word) (suc most) (one.Local (Some sheet) word) rest (both _ _ good also) low;
})
  where
    both : (a b : Bool) → a ≡ true → b ≡ true → (a && b) ≡ true
    both a b p q = rw (p, q) refl

pub complete-Word : (d : DialectMeaning) (text : List ℕ) → is_variable text ≡ true → Complete d (node (one.Word text))
unfolding primary prefix_sign
complete-Word d text good = complete_primary d (one.Word text) (record {
  token = Word text;
  following = [];
  tokens = yield-node d (one.Word text);
  seven = omega (arith, level-node (one.Word text));
  no_sign = refl;
  reads = λ most b rest low few. made_if_takes (is_variable text) (suc most) (one.Word text) rest good low;
})

pub complete-Paren : (d : DialectMeaning) (x : Spelled) → Wide d x → Complete d (node (one.Paren x))
unfolding primary prefix_sign bracketed
complete-Paren d x wide = complete_primary d (one.Paren x) (record {
  token = Open;
  following = yield d x ++ Close ∷ [];
  tokens = yield-node d (one.Paren x);
  seven = omega (arith, level-node (one.Paren x));
  no_sign = refl;
  reads = λ most b rest low few.
      rw (append_assoc (yield d x) (Close ∷ []) rest) (within most b rest low (omega (arith, few, brackets-node (one.Paren x))));
})
  where
    within : (most b : ℕ) (rest : List Token) → height (node (one.Paren x)) ≤ suc most → open_brackets x + 1 ≤ b → primary d (suc most) (reader d most) b Open (yield d x ++ Close ∷ rest) ≡ Some (node (one.Paren x), rest)
    within most zero rest low few = absurd (omega arith)
    within most (suc b) rest low few =
        let inner : ReadsBack d most b x = back d x wide most b (omega (arith, low, height-node (one.Paren x))) (omega arith) in
        rw (inner.reads 1 (Close ∷ rest) (level_positive x) tt, le-leb (height (node (one.Paren x))) (suc most) low) refl

pub complete-Prefix : (d : DialectMeaning) (sign : PrefixSign) (x : Spelled) → WellKind d (one.Prefix sign x) → Wide d x → Complete d (node (one.Prefix sign x))
unfolding expression
complete-Prefix d sign x well wide = record {
  tight = λ h. absurd (omega (arith, h, level-node (one.Prefix sign x)));
  wide = record {
    goes = λ most b least rest low few enough ends.
        let inner : ReadsBack d most b x = back d x wide most b (omega (arith, low, height-node (one.Prefix sign x))) (omega (arith, few, brackets-node (one.Prefix sign x))) in
        let six : NothingGoesOn 6 rest = NothingGoesOn-six rest ends in
        record {
          fuel = suc most;
          enough = omega (arith, height_positive (node (one.Prefix sign x)));
          same = rw (yield-node d (one.Prefix sign x), operand_prefix d (suc most) (reader d most) b sign (yield d x ++ rest) x rest (inner.reads 6 rest well.operands six) low) refl;
        };
  };
}
  where
    NothingGoesOn-six : (rest : List Token) → NothingGoesOn (suc (level (node (one.Prefix sign x)))) rest → NothingGoesOn 6 rest
    NothingGoesOn-six (Operator s ∷ rest) h = below_six s
    NothingGoesOn-six (Percent ∷ rest) h = h
    NothingGoesOn-six (Hash ∷ rest) h = h
    NothingGoesOn-six (Open ∷ rest) h = h
    NothingGoesOn-six ts h = tt

pub complete-Percent : (d : DialectMeaning) (x : Spelled) → WellKind d (one.Percent x) → Complete d x → Complete d (node (one.Percent x))
unfolding postfix
complete-Percent d x well complete = complete_postfix d (one.Percent x) (record {
  left = x;
  token = Percent;
  following = [];
  tokens = yield-node d (one.Percent x);
  seven = omega (arith, level-node (one.Percent x));
  tight = complete.tight well.operands;
  higher = omega (arith, height-node (one.Percent x));
  fewer = omega (arith, brackets-node (one.Percent x));
  turn = λ most b rest low few. rw (le-leb (height (node (one.Percent x))) (suc most) low) refl;
})

pub complete-Spill : (d : DialectMeaning) (x : Spelled) → WellKind d (one.Spill x) → Complete d x → Complete d (node (one.Spill x))
unfolding postfix
complete-Spill d x well complete = complete_postfix d (one.Spill x) (record {
  left = x;
  token = Hash;
  following = [];
  tokens = yield-node d (one.Spill x);
  seven = omega (arith, level-node (one.Spill x));
  tight = complete.tight well.operands;
  higher = omega (arith, height-node (one.Spill x));
  fewer = omega (arith, brackets-node (one.Spill x));
  turn = λ most b rest low few. rw (le-leb (height (node (one.Spill x))) (suc most) low) refl;
})

binary_takes : (most : ℕ) (below : Reader) (b least : ℕ) (sign : BinarySign) (left : Spelled) (ts : List Token) (right : Spelled) (rest : List Token) → least ≤ sign_level sign → below b (sign_level sign + 1) ts ≡ Some (right, rest) → height (node (one.Binary sign left right)) ≤ most → binary most below b least left (Operator sign ∷ ts) ≡ Some (Some (node (one.Binary sign left right), rest))
unfolding binary joined_by
binary_takes most below b least sign left ts right rest enough e low = rw (le-leb least (sign_level sign) enough, e, le-leb (height (node (one.Binary sign left right))) most low) refl

pub complete-Binary : (d : DialectMeaning) (sign : BinarySign) (x y : Spelled) → WellKind d (one.Binary sign x y) → Wide d x → Wide d y → Complete d (node (one.Binary sign x y))
complete-Binary d sign x y well wide_x wide_y = record {
  tight = λ h. absurd (omega (arith, h, level-node (one.Binary sign x y), below_six sign));
  wide = record {
    goes = λ most b least rest low few enough ends.
        let level_is : level (node (one.Binary sign x y)) ≡ sign_level sign = level-node (one.Binary sign x y) in
        let at_least : sign_level sign ≤ level x = well.operands.0 in
        let on : GoesOn _ _ _ _ = wide_x.goes most b least (Operator sign ∷ (yield d y ++ rest)) (omega (arith, low, higher)) (omega (arith, few, fewer)) (omega arith) (omega arith) in
        let inner : ReadsBack d most b y = back d y wide_y most b (omega (arith, low, higher)) (omega (arith, few, fewer)) in
        let read : reader d most b (sign_level sign + 1) (yield d y ++ rest) ≡ Some (y, rest) =
        inner.reads (sign_level sign + 1) rest well.operands.1 (NothingGoesOn-more (suc (level (node (one.Binary sign x y)))) (sign_level sign + 1) rest (omega arith) ends) in
        turned most b least rest low (omega arith) read on.fuel on.enough on.same;
  };
}
  where
    higher : height (node (one.Binary sign x y)) ≡ max (height x) (height y) + 1
    higher = height-node (one.Binary sign x y)

    fewer : open_brackets (node (one.Binary sign x y)) ≡ max (open_brackets x) (open_brackets y)
    fewer = brackets-node (one.Binary sign x y)

    turned : (most b least : ℕ) (rest : List Token) → height (node (one.Binary sign x y)) ≤ suc most → least ≤ sign_level sign → reader d most b (sign_level sign + 1) (yield d y ++ rest) ≡ Some (y, rest) → (fuel : ℕ) → suc most < fuel + height x
        → expression d (suc most) (reader d most) b least (yield d x ++ (Operator sign ∷ (yield d y ++ rest))) ≡ binaries (suc most) (reader d most) b least fuel x (Operator sign ∷ (yield d y ++ rest))
        → GoesOn (expression d (suc most) (reader d most) b least (yield d (node (one.Binary sign x y)) ++ rest)) (λ fuel. binaries (suc most) (reader d most) b least fuel (node (one.Binary sign x y)) rest) (suc most) (node (one.Binary sign x y))
    turned most b least rest low enough read zero room same = absurd (omega (arith, higher))
    turned most b least rest low enough read (suc fuel) room same = record {
      fuel = fuel;
      enough = omega (arith, higher);
      same = rw (yield-node d (one.Binary sign x y), append_assoc (yield d x) (Operator sign ∷ yield d y) rest)
          (same ∙ turns_go (binary (suc most) (reader d most) b least) fuel x (Operator sign ∷ (yield d y ++ rest)) (node (one.Binary sign x y)) rest
          (binary_takes (suc most) (reader d most) b least sign x (yield d y ++ rest) y rest enough read low));
    }
