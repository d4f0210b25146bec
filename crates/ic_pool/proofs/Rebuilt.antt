-- A node of a formula is what its parts make.
use Rattle.std.proofs.Common.{◌≡◌, ℕ, suc, ◌+◌, ◌*◌, ◌-◌, ℤ, pos, negsuc, List, [], ◌∷◌, Bool, true, false, Option, Some, None, ◌==◌, if◌then◌else◌, map, refl, sym, ap, ap₂, ◌∙◌, arith}
use Rattle.ic_laws.proofs.binding.Again.{BoundKind, bound_node}
use Rattle.ic_laws.specs.Binding.{BoundPair}
use Rattle.ic_laws.specs.Tree.{Bound}
use Rattle.ic_laws.specs.declared.reference.Place.{Place}
use Rattle.ic_laws.specs.declared.reference.Place.TheVariants as places
use Rattle.ic_laws.specs.declared.reference.Position.{Position}
use Rattle.ic_laws.specs.declared.reference.Position.TheVariants as at
use Rattle.ic_laws.specs.declared.reference.RefPart.{RefPart}
use Rattle.ic_laws.specs.declared.tree.BinarySign.{BinarySign}
use Rattle.ic_laws.specs.declared.tree.BinarySign.TheVariants as signs
use Rattle.ic_laws.specs.declared.tree.Constant.{Constant}
use Rattle.ic_laws.specs.declared.tree.Constant.TheVariants as constants
use Rattle.ic_laws.specs.declared.tree.Error.{Error}
use Rattle.ic_laws.specs.declared.tree.Error.TheVariants as errors
use Rattle.ic_laws.specs.declared.tree.NameKey.{NameKey}
use Rattle.ic_laws.specs.declared.tree.NameMention.{NameMention}
use Rattle.ic_laws.specs.declared.tree.NameMention.TheVariants as words
use Rattle.ic_laws.specs.declared.tree.PrefixSign.{PrefixSign}
use Rattle.ic_laws.specs.declared.tree.PrefixSign.TheVariants as prefixes
use Rattle.ic_laws.specs.declared.tree.SheetMention.{SheetMention}
use Rattle.ic_laws.specs.declared.tree.SheetMention.TheVariants as sheets
use Rattle.ic_laws.specs.declared.tree.Tree.TheOpen as one
use Rattle.ic_pool.specs.Code.{bit, int_sign, int_size, high, low, error_number, prefix_number, sign_number, position_kind, position_value, place_numbers, sheet_kind, sheet_id, sheet_text, scope_numbers, word_numbers, word_text, constant_text, numbers, texts, pairs_of, trees_of}

-- ---- back from numbers

abbrev bit_of : ℕ → Bool
bit_of n = if n == 0 then false else true

bit_back : (b : Bool) → bit_of (bit b) ≡ b
bit_back false = refl
bit_back true = refl

abbrev int_of : ℕ → ℕ → ℤ
int_of sign n = if sign == 0 then pos n else negsuc (n - 1)

int_back : (z : ℤ) → int_of (int_sign z) (int_size z) ≡ z
int_back (pos n) = refl
int_back (negsuc n) = ap negsuc (let e : suc n - 1 ≡ n = omega arith in e)

both_halves : (n : ℕ) → high n * 0x8000_0000_0000_0000 + low n ≡ n
both_halves n = omega arith

abbrev amount_of : ℕ → ℕ → ℕ → ℤ
amount_of sign h l = int_of sign (h * 0x8000_0000_0000_0000 + l)

amount_back : (z : ℤ) → amount_of (int_sign z) (high (int_size z)) (low (int_size z)) ≡ z
amount_back z = ap (int_of (int_sign z)) (both_halves (int_size z)) ∙ int_back z

abbrev error_of : ℕ → Error
error_of n =
    if n == 0 then errors.REF else if n == 1 then errors.NAME else if n == 2 then errors.VALUE else if n == 3 then errors.DIV
    else if n == 4 then errors.NA else if n == 5 then errors.NUM else if n == 6 then errors.NIMPL else if n == 7 then errors.SPILL
    else if n == 8 then errors.CALC else if n == 9 then errors.CIRC else if n == 10 then errors.ERROR else errors.NULL

error_back : (e : Error) → error_of (error_number e) ≡ e
error_back errors.REF = refl
error_back errors.NAME = refl
error_back errors.VALUE = refl
error_back errors.DIV = refl
error_back errors.NA = refl
error_back errors.NUM = refl
error_back errors.NIMPL = refl
error_back errors.SPILL = refl
error_back errors.CALC = refl
error_back errors.CIRC = refl
error_back errors.ERROR = refl
error_back errors.NULL = refl

abbrev prefix_of : ℕ → PrefixSign
prefix_of n = if n == 0 then prefixes.Plus else if n == 1 then prefixes.Minus else prefixes.At

prefix_back : (s : PrefixSign) → prefix_of (prefix_number s) ≡ s
prefix_back prefixes.Plus = refl
prefix_back prefixes.Minus = refl
prefix_back prefixes.At = refl

abbrev sign_of : ℕ → BinarySign
sign_of n =
    if n == 0 then signs.Equal else if n == 1 then signs.Unequal else if n == 2 then signs.Less else if n == 3 then signs.Greater
    else if n == 4 then signs.AtMost else if n == 5 then signs.AtLeast else if n == 6 then signs.Join else if n == 7 then signs.Plus
    else if n == 8 then signs.Minus else if n == 9 then signs.Times else if n == 10 then signs.Over else signs.Power

sign_back : (s : BinarySign) → sign_of (sign_number s) ≡ s
sign_back signs.Equal = refl
sign_back signs.Unequal = refl
sign_back signs.Less = refl
sign_back signs.Greater = refl
sign_back signs.AtMost = refl
sign_back signs.AtLeast = refl
sign_back signs.Join = refl
sign_back signs.Plus = refl
sign_back signs.Minus = refl
sign_back signs.Times = refl
sign_back signs.Over = refl
sign_back signs.Power = refl

abbrev position_of : ℕ → ℕ → ℕ → Position
position_of kind sign n = if kind == 0 then at.Abs (int_of sign n) else at.Rel (int_of sign n)

position_back : (p : Position) → position_of (position_kind p) (int_sign (position_value p)) (int_size (position_value p)) ≡ p
position_back (at.Abs n) = ap (λ z. at.Abs z) (int_back n)
position_back (at.Rel n) = ap (λ z. at.Rel z) (int_back n)

abbrev part_of : List ℕ → RefPart
part_of (a ∷ b ∷ c ∷ d ∷ e ∷ f ∷ rest) = record { row = position_of a b c; column = position_of d e f }
part_of rest = record { row = at.Abs (pos 0); column = at.Abs (pos 0) }

abbrev past_part : List ℕ → List ℕ
past_part (a ∷ b ∷ c ∷ d ∷ e ∷ f ∷ rest) = rest
past_part rest = []

abbrev numbers_of_part : RefPart → List ℕ → List ℕ
numbers_of_part part rest =
    position_kind part.row ∷ int_sign (position_value part.row) ∷ int_size (position_value part.row) ∷ position_kind part.column
    ∷ int_sign (position_value part.column) ∷ int_size (position_value part.column) ∷ rest

part_back : (part : RefPart) (rest : List ℕ) → part_of (numbers_of_part part rest) ≡ part
part_back part rest = ap₂ (λ (p q : Position). let part : RefPart = record { row = p; column = q } in part) (position_back part.row) (position_back part.column)

abbrev place_of : List ℕ → Place
place_of (kind ∷ rest) = if kind == 0 then places.Cell (part_of rest) else places.Range (part_of rest) (part_of (past_part rest))
place_of [] = places.Cell (part_of [])

place_back : (place : Place) → place_of (place_numbers place) ≡ place
place_back (places.Cell part) = ap (λ p. places.Cell p) (part_back part [])
place_back (places.Range first last) =
    ap₂ (λ p q. places.Range p q) (part_back first (numbers_of_part last [])) (part_back last [])

abbrev sheet_of : ℕ → ℕ → List ℕ → SheetMention
sheet_of kind id name = if kind == 0 then sheets.Own else if kind == 1 then sheets.Sheet id else sheets.Dangling name

sheet_back : (mention : SheetMention) → sheet_of (sheet_kind mention) (sheet_id mention) (sheet_text mention) ≡ mention
sheet_back sheets.Own = refl
sheet_back (sheets.Sheet id) = refl
sheet_back (sheets.Dangling name) = refl

abbrev scope_from : List ℕ → Option ℕ
scope_from [] = None
scope_from (id ∷ rest) = Some id

scope_back : (o : Option ℕ) → scope_from (scope_numbers o) ≡ o
scope_back None = refl
scope_back (Some id) = refl

abbrev word_of : List ℕ → List ℕ → NameMention
word_of (kind ∷ scope) name =
    if kind == 0 then words.Var name else if kind == 1 then words.Name (record { name = name; scope = scope_from scope }) else words.Dangling name
word_of [] name = words.Var name

word_back : (word : NameMention) → word_of (word_numbers word) (word_text word) ≡ word
word_back (words.Var name) = refl
word_back (words.Name key) = ap (λ (o : Option ℕ). let key : NameKey = record { name = key.name; scope = o } in words.Name key) (scope_back key.scope)
word_back (words.Dangling name) = refl

abbrev num_constant : List ℕ → Constant
num_constant (minus ∷ sign ∷ h ∷ l ∷ rest) = constants.Num (bit_of minus) (amount_of sign h l)
num_constant rest = constants.Str []

abbrev first_number : List ℕ → ℕ
first_number [] = 0
first_number (n ∷ ns) = n

abbrev constant_of : List ℕ → Constant
constant_of (kind ∷ rest) =
    if kind == 0 then num_constant rest else if kind == 1 then constants.Str rest
    else if kind == 2 then constants.Bool (bit_of (first_number rest)) else constants.Err (error_of (first_number rest))
constant_of [] = constants.Str []

constant_back : (c : Constant) → constant_of (constant_text c) ≡ c
constant_back (constants.Num minus amount) = ap₂ (λ m z. constants.Num m z) (bit_back minus) (amount_back amount)
constant_back (constants.Str text) = refl
constant_back (constants.Bool value) = ap (λ b. constants.Bool b) (bit_back value)
constant_back (constants.Err error) = ap (λ e. constants.Err e) (error_back error)

map_back : {A B : Type 0} (f : A → B) (g : B → A) → ((x : A) → g (f x) ≡ x) → (xs : List A) → map g (map f xs) ≡ xs
map_back f g h [] = refl
map_back f g h (x ∷ xs) = ap₂ ◌∷◌ (h x) (map_back f g h xs)

-- ---- back from the parts of a node

abbrev int_at : List ℕ → ℤ
int_at (sign ∷ h ∷ l ∷ rest) = amount_of sign h l
int_at rest = pos 0

abbrev first_text : List (List (List ℕ)) → List ℕ
first_text ((t ∷ ts) ∷ rows) = t
first_text rows = []

abbrev second_text : List (List (List ℕ)) → List ℕ
second_text ((s ∷ t ∷ ts) ∷ rows) = t
second_text rows = []

abbrev first_row : List (List (List ℕ)) → List (List ℕ)
first_row (row ∷ rows) = row
first_row [] = []

abbrev first_tree : List Bound → Bound
first_tree (t ∷ ts) = t
first_tree [] = bound_node one.Empty

abbrev other_trees : List Bound → List Bound
other_trees (t ∷ ts) = ts
other_trees [] = []

abbrev reference_of : List ℕ → List ℕ → BoundKind
reference_of (kind ∷ id ∷ place) name = one.Reference (sheet_of kind id name) (place_of place)
reference_of rest name = one.Empty

abbrev local_of : List ℕ → List (List (List ℕ)) → BoundKind
local_of (kind ∷ id ∷ word) rows = one.Local (sheet_of kind id (first_text rows)) (word_of word (second_text rows))
local_of rest rows = one.Empty

abbrev rebuilt_of : ℕ → List ℕ → List (List (List ℕ)) → List BoundPair → List Bound → BoundKind
rebuilt_of t ns rows pairs trees =
    if t == 0 then one.Num (int_at ns) else if t == 1 then one.Str (first_text rows) else if t == 2 then one.Bool (bit_of (first_number ns))
    else if t == 3 then one.Err (error_of (first_number ns)) else if t == 4 then reference_of ns (first_text rows)
    else if t == 5 then one.Word (word_of ns (first_text rows)) else if t == 6 then one.Empty else if t == 7 then one.Paren (first_tree trees)
    else if t == 8 then one.Prefix (prefix_of (first_number ns)) (first_tree trees) else if t == 9 then one.Percent (first_tree trees)
    else if t == 10 then one.Spill (first_tree trees)
    else if t == 11 then one.Binary (sign_of (first_number ns)) (first_tree trees) (first_tree (other_trees trees))
    else if t == 12 then one.Fun (first_number ns) trees else if t == 13 then one.Call (word_of ns (first_text rows)) trees
    else if t == 14 then one.Let pairs (first_tree trees) else if t == 15 then one.Lambda (first_row rows) (first_tree trees)
    else if t == 16 then one.Apply (first_tree trees) (other_trees trees) else if t == 17 then one.Array (map (map constant_of) rows)
    else local_of ns rows

abbrev rebuilt : List ℕ → List (List (List ℕ)) → List BoundPair → List Bound → BoundKind
rebuilt [] rows pairs trees = one.Empty
rebuilt (t ∷ ns) rows pairs trees = rebuilt_of t ns rows pairs trees

rebuilt-parts : (x : BoundKind) → rebuilt (numbers x) (texts x) (pairs_of x) (trees_of x) ≡ x
rebuilt-parts (one.Num amount) = ap (λ z. let k : BoundKind = one.Num z in k) (amount_back amount)
rebuilt-parts (one.Str text) = refl
rebuilt-parts (one.Bool value) = ap (λ b. let k : BoundKind = one.Bool b in k) (bit_back value)
rebuilt-parts (one.Err error) = ap (λ e. let k : BoundKind = one.Err e in k) (error_back error)
rebuilt-parts (one.Reference sheet place) = ap₂ (λ s p. let k : BoundKind = one.Reference s p in k) (sheet_back sheet) (place_back place)
rebuilt-parts (one.Local sheet word) = ap₂ (λ s w. let k : BoundKind = one.Local s w in k) (sheet_back sheet) (word_back word)
rebuilt-parts (one.Word word) = ap (λ w. let k : BoundKind = one.Word w in k) (word_back word)
rebuilt-parts one.Empty = refl
rebuilt-parts (one.Paren x) = refl
rebuilt-parts (one.Prefix sign x) = ap (λ s. let k : BoundKind = one.Prefix s x in k) (prefix_back sign)
rebuilt-parts (one.Percent x) = refl
rebuilt-parts (one.Spill x) = refl
rebuilt-parts (one.Binary sign a b) = ap (λ s. let k : BoundKind = one.Binary s a b in k) (sign_back sign)
rebuilt-parts (one.Fun number arguments) = refl
rebuilt-parts (one.Call word arguments) = ap (λ w. let k : BoundKind = one.Call w arguments in k) (word_back word)
rebuilt-parts (one.Let pairs body) = refl
rebuilt-parts (one.Lambda parameters body) = refl
rebuilt-parts (one.Apply x arguments) = refl
rebuilt-parts (one.Array rows) =
    ap (λ (r : List (List Constant)). let k : BoundKind = one.Array r in k)
    (map_back (map constant_text) (map constant_of) (map_back constant_text constant_of constant_back) rows)

pub same_parts : (x y : BoundKind) → numbers x ≡ numbers y → texts x ≡ texts y → pairs_of x ≡ pairs_of y → trees_of x ≡ trees_of y → x ≡ y
same_parts x y e f g h =
    sym (rebuilt-parts x) ∙ ap (λ n. rebuilt n (texts x) (pairs_of x) (trees_of x)) e ∙ ap (λ t. rebuilt (numbers y) t (pairs_of x) (trees_of x)) f
    ∙ ap (λ p. rebuilt (numbers y) (texts y) p (trees_of x)) g ∙ ap (rebuilt (numbers y) (texts y) (pairs_of y)) h ∙ rebuilt-parts y
