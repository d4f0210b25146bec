-- Binding by example.
use Rattle.std.proofs.Common.{◌≡◌, ℕ, pos, List, [], ◌∷◌, Option, None, Some, codes, refl, if◌then◌else◌}
use Rattle.std.specs.Prelude.{bytes_eq}
use Rattle.std.specs.Fmt.{decimal}
use Rattle.caseless.proofs.Computing.{caseless}
use Rattle.ic_laws.proofs.binding.Again.{bound_node, bound-node, spelled-node}
use Rattle.ic_laws.specs.Binding.{BoundPair, bound, bound_pair_of, bound_sheet, spelled, spelled_sheet}
use Rattle.ic_laws.specs.Name.{agrees}
use Rattle.ic_laws.specs.Parse.{Pair, node, pair_of}
use Rattle.ic_laws.specs.Scene.{found_name, definition_spelling, sheet_spelling}
use Rattle.ic_laws.specs.Tree.{Spelled, Bound}
use Rattle.ic_laws.specs.declared.scene.Scene.{Scene}
use Rattle.ic_laws.specs.declared.tree.BinarySign.TheVariants as signs
use Rattle.ic_laws.specs.declared.tree.NameMention.{NameMention}
use Rattle.ic_laws.specs.declared.tree.NameMention.TheVariants as names
use Rattle.ic_laws.specs.declared.tree.SheetMention.TheVariants as sheets
use Rattle.ic_laws.specs.declared.tree.Tree.TheOpen as one

-- two sheets; a definition for all of them and one for Data alone
abbrev scene : Scene
scene = record {
  sheets = record { id = 1; name = codes "Data" } ∷ record { id = 2; name = codes "Straße" } ∷ [];
  names = record { name = codes "tax"; scope = None } ∷ record { name = codes "Tax"; scope = Some 1 } ∷ [];
}

abbrev english : List ℕ → Option ℕ
english word = if agrees word (codes "SUM") then Some 4 else None

-- a sheet is found in any case; one that isn't there dangles, and no name is the own sheet
data_found : bound_sheet scene (Some (codes "DATA")) ≡ sheets.Sheet 1
unfolding caseless
data_found = refl

gone_dangles : bound_sheet scene (Some (codes "Gone")) ≡ sheets.Dangling (codes "Gone")
unfolding caseless
gone_dangles = refl

-- a sharp s agrees with two letters
strasse_found : bound_sheet scene (Some (codes "STRASSE")) ≡ sheets.Sheet 2
unfolding caseless
strasse_found = refl

no_name_is_own : bound_sheet scene None ≡ sheets.Own
no_name_is_own = refl

-- on Data the local definition is found before the one without a scope; elsewhere that one
local_first : found_name scene (Some 1) (codes "TAX") ≡ Some (record { name = codes "tax"; scope = Some 1 })
unfolding caseless
local_first = refl

global_elsewhere : found_name scene (Some 2) (codes "TAX") ≡ Some (record { name = codes "tax"; scope = None })
unfolding caseless
global_elsewhere = refl

-- each is shown in its own spelling; a key without a definition by its folded name, an id without a sheet by its digits
own_spelling : definition_spelling scene (record { name = codes "tax"; scope = Some 1 }) ≡ codes "Tax"
unfolding caseless
own_spelling = refl

no_definition : definition_spelling scene (record { name = codes "rate"; scope = None }) ≡ codes "rate"
unfolding caseless
no_definition = refl

no_sheet : sheet_spelling scene 37 ≡ decimal 37
no_sheet = refl

-- trees of one level
abbrev word : List ℕ → Spelled
word name = node (one.Word name)

abbrev number : Spelled
number = node (one.Num (pos 1))

abbrev let_in : List Pair → Spelled → Spelled
let_in pairs body = node (one.Let pairs body)

abbrev mention : NameMention → Bound
mention m = bound_node (one.Word m)

abbrev number_bound : Bound
number_bound = bound_node (one.Num (pos 1))

abbrev let_bound : List BoundPair → Bound → Bound
let_bound pairs body = bound_node (one.Let pairs body)

abbrev at_data : Spelled → Bound
at_data t = bound english scene (Some 1) t

-- LET(tax,1,TAX): the variable is seen in the body, as it is typed there, and not the definition
shadowed : at_data (let_in (pair_of (codes "tax") number ∷ []) (word (codes "TAX"))) ≡ let_bound (bound_pair_of (codes "tax") number_bound ∷ []) (mention (names.Var (codes "TAX")))
unfolding caseless
shadowed = simp bound-node

abbrev plus : Spelled → Spelled → Spelled
plus a b = node (one.Binary signs.Plus a b)

abbrev plus_bound : Bound → Bound → Bound
plus_bound a b = bound_node (one.Binary signs.Plus a b)

-- LET(x,1,LET(x,x+1,x)): the inner value sees the outer variable, the inner body the inner one
inner_value : at_data (let_in (pair_of (codes "x") number ∷ []) (let_in (pair_of (codes "x") (plus (word (codes "x")) number) ∷ []) (word (codes "x"))))
    ≡ let_bound (bound_pair_of (codes "x") number_bound ∷ []) (let_bound (bound_pair_of (codes "x") (plus_bound (mention (names.Var (codes "x"))) number_bound) ∷ []) (mention (names.Var (codes "x"))))
unfolding caseless
inner_value = simp bound-node

-- LET(x,x,x): the value doesn't see its own variable
own_value : at_data (let_in (pair_of (codes "x") (word (codes "x")) ∷ []) (word (codes "x"))) ≡ let_bound (bound_pair_of (codes "x") (mention (names.Dangling (codes "x"))) ∷ []) (mention (names.Var (codes "x")))
unfolding caseless
own_value = simp bound-node

-- LET(a,1,b,A,tax): a later value sees it, and the body sees the definition
later_value : at_data (let_in (pair_of (codes "a") number ∷ pair_of (codes "b") (word (codes "A")) ∷ []) (word (codes "tax")))
    ≡ let_bound (bound_pair_of (codes "a") number_bound ∷ bound_pair_of (codes "b") (mention (names.Var (codes "A"))) ∷ []) (mention (names.Name (record { name = codes "tax"; scope = Some 1 })))
unfolding caseless
later_value = simp bound-node

-- LAMBDA(tax,tax): a parameter is seen in the body
parameter : at_data (node (one.Lambda (codes "tax" ∷ []) (word (codes "tax")))) ≡ bound_node (one.Lambda (codes "tax" ∷ []) (mention (names.Var (codes "tax"))))
unfolding caseless
parameter = simp bound-node

-- LAMBDA(f,F(tax)): a parameter that is called
called_parameter : at_data (node (one.Lambda (codes "f" ∷ []) (node (one.Call (codes "F") (word (codes "tax") ∷ [])))))
    ≡ bound_node (one.Lambda (codes "f" ∷ []) (bound_node (one.Call (names.Var (codes "F")) (mention (names.Name (record { name = codes "tax"; scope = Some 1 })) ∷ []))))
unfolding caseless
called_parameter = simp bound-node

-- LET(sum,1,Sum(tax)): an English function word that is called is the function, whatever variables are seen
called_function : at_data (let_in (pair_of (codes "sum") number ∷ []) (node (one.Call (codes "Sum") (word (codes "tax") ∷ []))))
    ≡ let_bound (bound_pair_of (codes "sum") number_bound ∷ []) (bound_node (one.Fun 4 (mention (names.Name (record { name = codes "tax"; scope = Some 1 })) ∷ [])))
unfolding caseless
called_function = simp bound-node

-- LET(tax,1,data!TAX): no variable is seen in a word with its sheet, which finds what is local to that sheet
with_sheet : at_data (let_in (pair_of (codes "tax") number ∷ []) (node (one.Local (Some (codes "data")) (codes "TAX"))))
    ≡ let_bound (bound_pair_of (codes "tax") number_bound ∷ []) (bound_node (one.Local (sheets.Sheet 1) (names.Name (record { name = codes "tax"; scope = Some 1 }))))
unfolding caseless
with_sheet = simp bound-node

-- Straße!tax: the definition without scope isn't found; gone!tax: where the sheet dangles the word does
none_local : bound english scene (Some 1) (node (one.Local (Some (codes "Straße")) (codes "tax"))) ≡ bound_node (one.Local (sheets.Sheet 2) (names.Dangling (codes "tax")))
unfolding caseless
none_local = simp bound-node

sheet_gone : bound english scene (Some 1) (node (one.Local (Some (codes "gone")) (codes "tax"))) ≡ bound_node (one.Local (sheets.Dangling (codes "gone")) (names.Dangling (codes "tax")))
unfolding caseless
sheet_gone = simp bound-node

-- What the settled law needs. Three sheets of which two have one id and two agree: A is found as sheet 1, which is spelled B, which finds sheet 2.
abbrev tangled : Scene
tangled = record {
  sheets = record { id = 2; name = codes "B" } ∷ record { id = 1; name = codes "B" } ∷ record { id = 1; name = codes "A" } ∷ [];
  names = [];
}

a_found : bound_sheet tangled (Some (codes "A")) ≡ sheets.Sheet 1
unfolding caseless
a_found = refl

another_found : bound_sheet tangled (spelled_sheet (sheet_spelling tangled) (sheets.Sheet 1)) ≡ sheets.Sheet 2
unfolding caseless
another_found = refl

-- Function words that don't agree by folding: sum(), where a definition SUM is found, is spelled SUM() and is a function then.
abbrev only_capitals : List ℕ → Option ℕ
only_capitals word = if bytes_eq word (codes "SUM") then Some 4 else None

abbrev with_sum : Scene
with_sum = record { sheets = []; names = record { name = codes "SUM"; scope = None } ∷ [] }

abbrev sum_called : Bound
sum_called = bound_node (one.Call (names.Name (record { name = codes "sum"; scope = None })) [])

called_name : bound only_capitals with_sum None (node (one.Call (codes "sum") [])) ≡ sum_called
unfolding caseless
called_name = simp bound-node

called_otherwise : bound only_capitals with_sum None (spelled with_sum sum_called) ≡ bound_node (one.Fun 4 [])
unfolding caseless
called_otherwise = simp (spelled-node, bound-node)
