-- The key of a style: a list of numbers from which it can be read back; first places by keys; and a map from the keys of
-- styles to them.
use Rattle.std.specs.Prelude.{◌≡◌, ℕ, ◌+◌, suc, List, [], ◌∷◌, ◌++◌, Bool, true, false, Option, Some, None, option_map, bytes_eq, if◌then◌else◌}
use Rattle.std.specs.BTreeMap.{BTreeMap, get}
use Rattle.std.specs.Cmp.Lexicographic.{slice_cmp}
use Rattle.std.specs.Ordering.{nat_cmp}
use Rattle.ic_cells.specs.Style.{AreStyles}
use Rattle.ic_cells.specs.declared.style.Color.{Color}
use Rattle.ic_cells.specs.declared.style.Color.TheVariants as colors
use Rattle.ic_cells.specs.declared.style.Style.{Style}

abbrev pub flag : Bool → ℕ
flag true = 1
flag false = 0

-- each character one higher, and a 0 at the end
abbrev pub text_code : List ℕ → List ℕ
text_code [] = 0 ∷ []
text_code (c ∷ cs) = (c + 1) ∷ text_code cs

abbrev pub fill_code : Color → List ℕ
fill_code colors.None = []
fill_code (colors.Rgb t) = 1 ∷ text_code t

unfoldable pub code : Style → List ℕ
code s = flag s.quote_prefix ∷ flag s.bold ∷ (text_code s.num_fmt ++ fill_code s.fill)

-- the first place of an item with this key, where each item has one
abbrev pub place_by_key : {X : Type 0} → (X → List ℕ) → List ℕ → List X → Option ℕ
place_by_key key_of key [] = None
place_by_key key_of key (x ∷ xs) = if bytes_eq key (key_of x) then Some 0 else option_map suc (place_by_key key_of key xs)

-- the map has at each key the first place of a style with that key
pub record IsIndexed (index : BTreeMap (List ℕ) ℕ) (styles : List Style) : Type 0 where
  pub finds : (key : List ℕ) → get (slice_cmp nat_cmp) index key ≡ place_by_key code key styles
  pub are_styles : AreStyles styles
