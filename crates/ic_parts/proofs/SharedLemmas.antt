-- A value that is written into a cell, where its text may be new among the shared ones: the whole book doesn't see that.
use Rattle.std.proofs.Common.{◌≡◌, ℕ, zero, suc, ◌<◌, ◌≤◌, ◌++◌, List, [], ◌∷◌, Bool, true, false, cond, chars, length, take, Option, Some, None, is_some, option_map, unwrap_or, bytes_eq, refl, sym, ap, ap₂, subst, ◌∙◌, arith}
use Rattle.std.proofs.lemmas.Option.{slice_get_within}
use Rattle.std.proofs.lemmas.Slice.Eq.{bytes_eq-Decides}
use Rattle.std.specs.List.{slice_get}
use Rattle.ic_cells.specs.Listed.{place_in}
use Rattle.ic_cells.specs.Strings.{string_index, with_string}
use Rattle.ic_cells.specs.declared.style.Style.{Style}
use Rattle.ic_grid.specs.Shape.{is_loose, shape_of}
use Rattle.ic_machine.specs.Content.{Content, TextContent, content_of}
use Rattle.ic_machine.specs.Styling.{restyled}
use Rattle.ic_parts.specs.Values.{IsAmountValue, IsLonger, IsValueCell, value_cell, value_content, value_strings, with_put}
use Rattle.ic_parts.specs.declared.lists.Lists.{Lists}
use Rattle.ic_parts.specs.declared.values.Value.{Value}
use Rattle.ic_parts.specs.declared.values.Value.TheVariants as values
use Rattle.ic_parts.proofs.GridLemmas.{all_taken_back, take_all, take_front}

-- Shared strings with more behind them. ----

module _ {X : Type 0} where
  in_front : (xs ys : List X) (at : ℕ) → at < length xs → slice_get (xs ++ ys) at ≡ slice_get xs at
  in_front [] ys at lt = absurd (omega arith)
  in_front (x ∷ xs) ys zero lt = refl
  in_front (x ∷ xs) ys (suc at) lt = in_front xs ys at (omega arith)

  no_shorter : (xs ys : List X) → length xs ≤ length (xs ++ ys)
  no_shorter [] ys = omega arith
  no_shorter (x ∷ xs) ys = let rest = no_shorter xs ys in omega arith

  at_end : (x : X) (xs : List X) → slice_get (xs ++ x ∷ []) (length xs) ≡ Some x
  at_end x [] = refl
  at_end x (y ∷ ys) = at_end x ys

-- a text stands where it is found
first_there : (text other : List ℕ) (strings : List (List ℕ)) (k : ℕ) (o : Option ℕ) → ((i : ℕ) → o ≡ Some i → slice_get strings i ≡ Some text) → (b : Bool) → bytes_eq text other ≡ b → cond b (Some 0) (option_map suc o) ≡ Some k → slice_get (other ∷ strings) k ≡ Some text
first_there text other strings k o h true is e =
    let start : 0 ≡ k = cc in
    let same : text ≡ other = (bytes_eq-Decides text other).0 is in
    subst (λ i. slice_get (other ∷ strings) i ≡ Some text) start (ap (λ (t : List ℕ). let o : Option (List ℕ) = Some t in o) (sym same))
first_there text other strings k None h false is e = cc
first_there text other strings k (Some i) h false is e =
    let next : suc i ≡ k = cc in subst (λ i. slice_get (other ∷ strings) i ≡ Some text) next (h i refl)

found_there : (text : List ℕ) (strings : List (List ℕ)) (k : ℕ) → place_in bytes_eq text strings ≡ Some k → slice_get strings k ≡ Some text
found_there text [] k e = cc
found_there text (other ∷ strings) k e = first_there text other strings k (place_in bytes_eq text strings) (λ i f. found_there text strings i f) (bytes_eq text other) refl e

module _ (text : List ℕ) (strings : List (List ℕ)) where
  with_text : Bool → List (List ℕ)
  with_text known = cond known strings (strings ++ text ∷ [])

  text_longer : (known : Bool) → IsLonger strings (with_text known)
  unfolding with_text
  text_longer true = record { stays = λ i lt. refl; longer = omega arith }
  text_longer false = record { stays = λ i lt. in_front strings (text ∷ []) i lt; longer = no_shorter strings (text ∷ []) }

  text_back : (known : Bool) → take (length strings) (with_text known) ≡ strings
  unfolding with_text
  text_back true = take_all strings
  text_back false = take_front strings (text ∷ [])

  text_there : (o : Option ℕ) → place_in bytes_eq text strings ≡ o → slice_get (with_text (is_some o)) (unwrap_or o (length strings)) ≡ Some text
  unfolding with_text
  text_there (Some k) e = found_there text strings k e
  text_there None e = at_end text strings

  -- the text stands at its index
  pub string_there : slice_get (with_string text strings) (string_index text strings) ≡ Some text
  unfolding with_text
  string_there = text_there (place_in bytes_eq text strings) refl

  pub string_longer : IsLonger strings (with_string text strings)
  unfolding with_text
  string_longer = text_longer (is_some (place_in bytes_eq text strings))

  pub string_back : take (length strings) (with_string text strings) ≡ strings
  unfolding with_text
  string_back = text_back (is_some (place_in bytes_eq text strings))

stays_so : (strings : List (List ℕ)) → IsLonger strings strings
stays_so strings = record { stays = λ i lt. refl; longer = omega arith }

pub value_longer : (value : Value) (strings : List (List ℕ)) → IsLonger strings (value_strings value strings)
value_longer values.Empty strings = stays_so strings
value_longer (values.Boolean truth) strings = stays_so strings
value_longer (values.Number amount) strings = stays_so strings
value_longer (values.Error e) strings = stays_so strings
value_longer (values.Text text) strings = string_longer (chars text.now) strings

-- where strings that were added are taken back, they are as they were
pub strings_back : (value : Value) (strings : List (List ℕ)) → take (length strings) (value_strings value strings) ≡ strings
strings_back values.Empty strings = take_all strings
strings_back (values.Boolean truth) strings = take_all strings
strings_back (values.Number amount) strings = take_all strings
strings_back (values.Error e) strings = take_all strings
strings_back (values.Text text) strings = string_back (chars text.now) strings

-- a value's cell is one where its number is an amount, and is seen as its content
pub value_loose : (value : Value) (strings : List (List ℕ)) (style : ℕ) → is_loose (shape_of (value_cell strings value style)) ≡ true
value_loose values.Empty strings style = refl
value_loose (values.Boolean truth) strings style = refl
value_loose (values.Number amount) strings style = refl
value_loose (values.Error e) strings style = refl
value_loose (values.Text text) strings style = refl

pub value_is : (value : Value) (strings : List (List ℕ)) → IsAmountValue value → IsValueCell (length (value_strings value strings)) (value_cell strings value)
value_is values.Empty strings good = record { loose = λ k. refl; style = λ k. refl; formula = λ k. refl; string = λ k. tt }
value_is (values.Boolean truth) strings good = record { loose = λ k. refl; style = λ k. refl; formula = λ k. refl; string = λ k. tt }
value_is (values.Number amount) strings good = record { loose = λ k. refl; style = λ k. refl; formula = λ k. refl; string = λ k. good }
value_is (values.Error e) strings good = record { loose = λ k. refl; style = λ k. refl; formula = λ k. refl; string = λ k. tt }
value_is (values.Text text) strings good = record {
  loose = λ k. refl;
  style = λ k. refl;
  formula = λ k. refl;
  string = λ k. slice_get_within (with_string (chars text.now) strings) (string_index (chars text.now) strings) (chars text.now) (string_there (chars text.now) strings);
}

pub content_is : (value : Value) (strings : List (List ℕ)) → (λ style. content_of (value_strings value strings) (value_cell strings value style)) ≡ value_content value
content_is values.Empty strings = refl
content_is (values.Boolean truth) strings = refl
content_is (values.Number amount) strings = refl
content_is (values.Error e) strings = refl
content_is (values.Text text) strings =
    ap (λ (o : Option (List ℕ)). let content : ℕ → Content = λ style. TextContent (unwrap_or o []) style in content) (string_there (chars text.now) strings)

-- what was added is taken back
pub taken_away : (lists then : Lists) (value : Value) (change : Style → Style) (n : ℕ) → then ≡ with_put value (restyled change n lists.styles) lists → (styles : List Style) (strings : List (List ℕ))
    → styles ≡ take (length lists.styles) then.styles → strings ≡ take (length lists.strings) then.strings → record then { styles = styles; strings = strings } ≡ lists
taken_away lists then value change n e styles strings by_styles by_strings =
    ap (λ (a : Lists). let b : Lists = record a { styles = styles; strings = strings } in b) e
    ∙ ap₂ (λ (st : List Style) (ss : List (List ℕ)). let b : Lists = record lists { styles = st; strings = ss } in b)
    (by_styles ∙ ap (λ (a : Lists). take (length lists.styles) a.styles) e ∙ all_taken_back change lists.styles n)
    (by_strings ∙ ap (λ (a : Lists). take (length lists.strings) a.strings) e ∙ strings_back value lists.strings)
