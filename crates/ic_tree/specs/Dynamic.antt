-- When a formula is dynamic: when what it gives may spill over several cells.
use Rattle.std.specs.Prelude.{List, Bool, true, false, ◌||◌, Option, None, Some}
use Rattle.std.specs.List.{list_any, slice_get}
use Rattle.ic_laws.specs.Tree.{Bound}
use Rattle.ic_laws.specs.declared.reference.Place.{Place}
use Rattle.ic_laws.specs.declared.reference.Place.TheVariants as places
use Rattle.ic_laws.specs.declared.tree.NameMention.{NameMention}
use Rattle.ic_laws.specs.declared.tree.PrefixSign.{PrefixSign}
use Rattle.ic_laws.specs.declared.tree.PrefixSign.TheVariants as signs
use Rattle.ic_laws.specs.declared.tree.SheetMention.{SheetMention}
use Rattle.ic_laws.specs.declared.tree.Tree.{Tree-F, fold-Tree}
use Rattle.ic_laws.specs.declared.tree.Tree.TheOpen as one
use Rattle.ic_tables.specs.declared.language.FunctionKind.{FunctionKind}
use Rattle.ic_tables.specs.declared.language.FunctionKind.TheVariants as kinds

-- a range is dynamic, even one of a single cell; a cell is not
abbrev pub is_range : Place → Bool
is_range (places.Range first last) = true
is_range (places.Cell part) = false

-- what stands after `@` gives one value
abbrev pub is_at : PrefixSign → Bool
is_at signs.At = true
is_at sign = false

-- one of these is dynamic
abbrev pub one_dynamic : List Bool → Bool
one_dynamic parts = list_any (λ part. part) parts

-- a function that takes its arguments as a whole gives one value, one that takes them cell by cell gives as many as they
-- have, and some give several whatever they are given
abbrev pub is_kind_dynamic : Option FunctionKind → Bool → Bool
is_kind_dynamic None arguments = false
is_kind_dynamic (Some kinds.Whole) arguments = false
is_kind_dynamic (Some kinds.Each) arguments = arguments
is_kind_dynamic (Some kinds.Dynamic) arguments = true

-- a sign before an operand leaves it as it is, but for `@`
abbrev pub is_prefix_dynamic : Bool → Bool → Bool
is_prefix_dynamic true operand = false
is_prefix_dynamic false operand = operand

-- A node is dynamic: a range, an array, what `#` spills; what has a dynamic operand or argument, and LET with a dynamic
-- value or body. What stands after `@`, LAMBDA, words and values are not.
abbrev pub dynamic_step : List FunctionKind → Tree-F SheetMention NameMention Bool Bool → Bool
dynamic_step kinds (one.Reference sheet place) = is_range place
dynamic_step kinds (one.Paren x) = x
dynamic_step kinds (one.Prefix sign x) = is_prefix_dynamic (is_at sign) x
dynamic_step kinds (one.Percent x) = x
dynamic_step kinds (one.Spill x) = true
dynamic_step kinds (one.Binary sign a b) = a || b
dynamic_step kinds (one.Fun number arguments) = is_kind_dynamic (slice_get kinds number) (one_dynamic arguments)
dynamic_step kinds (one.Call word arguments) = one_dynamic arguments
dynamic_step kinds (one.Let pairs body) = one_dynamic pairs || body
dynamic_step kinds (one.Apply x arguments) = x || one_dynamic arguments
dynamic_step kinds (one.Array rows) = true
dynamic_step kinds kind = false

-- a formula is dynamic, with functions of these kinds
abbrev pub dynamic_with : List FunctionKind → Bound → Bool
dynamic_with kinds t = fold-Tree SheetMention NameMention Bool Bool (dynamic_step kinds) (λ pair. pair.value) t
