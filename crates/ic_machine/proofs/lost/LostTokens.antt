-- A formula is printed as it is with its lost references, where no reference outside the sheet can be written.
use Rattle.std.proofs.Common.{◌≡◌, ◌∙◌, refl, sym, ap, ap₂, ℕ, ℤ, List, [], ◌∷◌, ◌++◌, map, flat_map, Bool, true, false, Option, if◌then◌else◌}
use Rattle.std.proofs.lemmas.List.{map-append}
use Rattle.std.specs.Prelude.{nat_eq}
use Rattle.ic_laws.specs.Character.{comma}
use Rattle.ic_laws.specs.Dialect.{DialectMeaning, reference_text, word_text}
use Rattle.ic_laws.specs.Position.{is_inside}
use Rattle.ic_laws.specs.Reading.{printed}
use Rattle.ic_laws.specs.Token.{Close, CloseBrace, Err, FunHead, Hash, NameHead, Open, OpenBrace, Operator, Percent, Ref, Semicolon, Separator, Token, Word, token_text}
use Rattle.ic_laws.specs.Tree.{Spelled}
use Rattle.ic_laws.specs.Yield.{PairTokens, constant_tokens, joined, pair_parts, pair_step, prefix_token, row_sign, row_tokens, yield, yield_step}
use Rattle.ic_laws.specs.declared.dialect.WordKind.TheVariants as kinds
use Rattle.ic_laws.specs.declared.reference.RefToken.{RefToken}
use Rattle.ic_laws.specs.declared.tree.BinarySign.TheVariants as signs
use Rattle.ic_laws.specs.declared.tree.Constant.{Constant}
use Rattle.ic_laws.specs.declared.tree.Constant.TheVariants as constants
use Rattle.ic_laws.specs.declared.tree.Error.TheVariants as errors
use Rattle.ic_laws.specs.declared.tree.PrefixSign.{PrefixSign}
use Rattle.ic_laws.specs.declared.tree.PrefixSign.TheVariants as prefixes
use Rattle.ic_laws.specs.declared.tree.Tree.{Tree-F, map-Tree}
use Rattle.ic_laws.specs.declared.tree.Tree.TheOpen as one
use Rattle.ic_machine.specs.Lost.{lost_kind, with_lost}
use Rattle.ic_machine.proofs.lost.FoldFusion.{fused}
use Rattle.ic_machine.proofs.lost.LostTrees.{fold_lost}

module _ (row column : ℤ) where
  -- a token of a reference that is lost is that of the error value
  abbrev pub lost_token : Token → Token
  lost_token (Ref r) = if is_inside r.place row column then Ref r else Err errors.REF
  lost_token token = token

  abbrev all : List Token → List Token
  all tokens = map lost_token tokens

  abbrev in_pair : PairTokens → PairTokens
  in_pair pair = record { variable = pair.variable; value = all pair.value }

  lost_joined : (between : Token) → lost_token between ≡ between → (parts : List (List Token)) → all (joined between parts) ≡ joined between (map all parts)
  lost_joined between same [] = refl
  lost_joined between same (part ∷ []) = refl
  lost_joined between same (part ∷ next ∷ parts) =
      map-append lost_token part (between ∷ joined between (next ∷ parts))
      ∙ ap (λ (ts : List Token). all part ++ ts) (ap₂ (λ (t : Token) (ts : List Token). t ∷ ts) same (lost_joined between same (next ∷ parts)))

  of_constant : (c : Constant) → all (constant_tokens c) ≡ constant_tokens c
  of_constant (constants.Num true units) = refl
  of_constant (constants.Num false units) = refl
  of_constant (constants.Str text) = refl
  of_constant (constants.Bool value) = refl
  of_constant (constants.Err e) = refl

  of_constants : (row : List Constant) → map all (map constant_tokens row) ≡ map constant_tokens row
  of_constants [] = refl
  of_constants (c ∷ row) = ap₂ (λ (part : List Token) (parts : List (List Token)). part ∷ parts) (of_constant c) (of_constants row)

  of_row : (row : List Constant) → all (row_tokens row) ≡ row_tokens row
  of_row row = lost_joined Separator refl (map constant_tokens row) ∙ ap (joined Separator) (of_constants row)

  of_rows : (rows : List (List Constant)) → map all (map row_tokens rows) ≡ map row_tokens rows
  of_rows [] = refl
  of_rows (row ∷ rows) = ap₂ (λ (part : List Token) (parts : List (List Token)). part ∷ parts) (of_row row) (of_rows rows)

  of_names : (names : List (List ℕ)) → map all (map (λ name. Word name ∷ []) names) ≡ map (λ name. Word name ∷ []) names
  of_names [] = refl
  of_names (name ∷ names) = ap (λ (parts : List (List Token)). (Word name ∷ []) ∷ parts) (of_names names)

  of_pairs : (pairs : List PairTokens) → map all (pair_parts pairs) ≡ pair_parts (map in_pair pairs)
  of_pairs [] = refl
  of_pairs (pair ∷ pairs) = ap (λ (parts : List (List Token)). (Word pair.variable ∷ []) ∷ all pair.value ∷ parts) (of_pairs pairs)

  of_prefix : (sign : PrefixSign) → lost_token (prefix_token sign) ≡ prefix_token sign
  of_prefix prefixes.Plus = refl
  of_prefix prefixes.Minus = refl
  of_prefix prefixes.At = refl

  module _ (d : DialectMeaning) where
    of_sign : lost_token (row_sign d) ≡ row_sign d
    of_sign = at (nat_eq d.list comma)
      where
        at : (t : Bool) → lost_token (if t then Semicolon else Operator signs.Over) ≡ (if t then Semicolon else Operator signs.Over)
        at true = refl
        at false = refl

    -- arguments in brackets
    closed : (parts : List (List Token)) (close : Token) → lost_token close ≡ close → all (joined Separator parts ++ close ∷ []) ≡ joined Separator (map all parts) ++ close ∷ []
    closed parts close same =
        map-append lost_token (joined Separator parts) (close ∷ []) ∙ ap₂ (λ (ts us : List Token). ts ++ us) (lost_joined Separator refl parts) (ap (λ (t : Token). t ∷ []) same)

    same : (kind : Tree-F (Option (List ℕ)) (List ℕ) (List Token) PairTokens) → all (yield_step d kind) ≡ yield_step d (lost_kind row column (map-Tree (Option (List ℕ)) (List ℕ) (List Token) PairTokens (List Token) PairTokens all in_pair kind))
    same (one.Reference sheet place) = at (is_inside place row column)
      where
        at : (t : Bool) → (if t then Ref (record { sheet = sheet; place = place }) else Err errors.REF) ∷ [] ≡ yield_step d (if t then one.Reference sheet place else one.Err errors.REF)
        at true = refl
        at false = refl
    same (one.Num units) = refl
    same (one.Str text) = refl
    same (one.Bool value) = refl
    same (one.Err e) = refl
    same (one.Local sheet word) = refl
    same (one.Word text) = refl
    same one.Empty = refl
    same (one.Paren x) = ap (λ (ts : List Token). Open ∷ ts) (map-append lost_token x (Close ∷ []))
    same (one.Prefix sign x) = ap (λ (t : Token). t ∷ all x) (of_prefix sign)
    same (one.Percent x) = map-append lost_token x (Percent ∷ [])
    same (one.Spill x) = map-append lost_token x (Hash ∷ [])
    same (one.Binary sign a b) = map-append lost_token a (Operator sign ∷ b)
    same (one.Fun number arguments) = ap (λ (ts : List Token). FunHead number ∷ ts) (closed arguments Close refl)
    same (one.Call name arguments) = ap (λ (ts : List Token). NameHead name ∷ ts) (closed arguments Close refl)
    same (one.Let pairs body) =
        ap (λ (ts : List Token). FunHead d.let_fn ∷ ts)
        (closed (pair_parts pairs ++ body ∷ []) Close refl
        ∙ ap (λ (parts : List (List Token)). joined Separator parts ++ Close ∷ []) (map-append all (pair_parts pairs) (body ∷ []) ∙ ap (λ (parts : List (List Token)). parts ++ all body ∷ []) (of_pairs pairs)))
    same (one.Lambda parameters body) =
        ap (λ (ts : List Token). FunHead d.lambda_fn ∷ ts)
        (closed (map (λ name. Word name ∷ []) parameters ++ body ∷ []) Close refl
        ∙ ap (λ (parts : List (List Token)). joined Separator parts ++ Close ∷ [])
        (map-append all (map (λ name. Word name ∷ []) parameters) (body ∷ []) ∙ ap (λ (parts : List (List Token)). parts ++ all body ∷ []) (of_names parameters)))
    same (one.Apply x arguments) =
        map-append lost_token (x ++ Open ∷ joined Separator arguments) (Close ∷ [])
        ∙ ap (λ (ts : List Token). ts ++ Close ∷ []) (map-append lost_token x (Open ∷ joined Separator arguments) ∙ ap (λ (ts : List Token). all x ++ Open ∷ ts) (lost_joined Separator refl arguments))
    same (one.Array rows) =
        ap (λ (ts : List Token). OpenBrace ∷ ts)
        (map-append lost_token (joined (row_sign d) (map row_tokens rows)) (CloseBrace ∷ [])
        ∙ ap (λ (ts : List Token). ts ++ CloseBrace ∷ []) (lost_joined (row_sign d) of_sign (map row_tokens rows) ∙ ap (joined (row_sign d)) (of_rows rows)))

    -- the tokens of a formula with its lost references are its own tokens, with lost ones
    pub yield_lost : (u : Spelled) → yield d (with_lost row column u) ≡ map lost_token (yield d u)
    yield_lost u =
        fold_lost row column (yield_step d) pair_step u
        ∙ sym (fused (yield_step d) pair_step (λ kind. yield_step d (lost_kind row column kind)) pair_step all in_pair same (λ variable value. refl) u)

    -- so it is printed as the formula is, where no reference outside the sheet can be spelled
    module _ (none : (r : RefToken) → is_inside r.place row column ≡ false → d.can_spell r ≡ false) where
      text_lost : (token : Token) → token_text d (lost_token token) ≡ token_text d token
      text_lost (Ref r) = at (is_inside r.place row column) refl
        where
          at : (t : Bool) → is_inside r.place row column ≡ t → token_text d (if t then Ref r else Err errors.REF) ≡ reference_text d r
          at true e = refl
          at false e = sym (ap (λ (t : Bool). if t then d.spell_ref r else word_text d kinds.Error 0) (none r e))
      text_lost token = refl

      texts_lost : (tokens : List Token) → flat_map (token_text d) (map lost_token tokens) ≡ flat_map (token_text d) tokens
      texts_lost [] = refl
      texts_lost (token ∷ tokens) = ap₂ (λ (xs ys : List ℕ). xs ++ ys) (text_lost token) (texts_lost tokens)

      pub printed_lost : (u : Spelled) → printed d (with_lost row column u) ≡ printed d u
      printed_lost u = ap (flat_map (token_text d)) (yield_lost u) ∙ texts_lost (yield d u)
