-- Styles as plain data, and their keys.
use Rattle.std.proofs.Common.{◌≡◌, ℕ, ◌+◌, List, [], ◌∷◌, ◌++◌, Bool, true, false, ◌&&◌, refl, sym, ap, subst, bytes_eq, arith}
use Rattle.std.proofs.lemmas.Bool.{and_parts, and_from}
use Rattle.std.proofs.lemmas.Slice.Eq.{bytes_eq-Decides}
use Rattle.std.specs.Bool.{Decides, one_answer}
use Rattle.ic_cells.specs.Key.{code, fill_code, flag, place_by_key, text_code}
use Rattle.ic_cells.specs.Style.{first_place, is_color, is_flag, is_style}
use Rattle.ic_cells.specs.declared.style.Color.{Color}
use Rattle.ic_cells.specs.declared.style.Color.TheVariants as colors
use Rattle.ic_cells.specs.declared.style.Style.{Style}
use Rattle.ic_cells.proofs.PlacedLemmas.{place_is}

-- ---- one style

made : List ℕ → Bool → Bool → Color → Style
made format quote bold fill = record { num_fmt = format; quote_prefix = quote; bold = bold; fill = fill }

same_fields : (a b : Style) → a.num_fmt ≡ b.num_fmt → a.quote_prefix ≡ b.quote_prefix → a.bold ≡ b.bold → a.fill ≡ b.fill → a ≡ b
unfolding made
same_fields a b e f g h =
    let same : made a.num_fmt a.quote_prefix a.bold a.fill ≡ made b.num_fmt b.quote_prefix b.bold b.fill = cc in same

flag_is : (a b : Bool) → is_flag a b ≡ true → a ≡ b
flag_is true true e = refl
flag_is true false e = cc
flag_is false true e = cc
flag_is false false e = refl

pub flag_again : (a : Bool) → is_flag a a ≡ true
flag_again true = refl
flag_again false = refl

color_is : (a b : Color) → is_color a b ≡ true → a ≡ b
color_is colors.None colors.None e = refl
color_is colors.None (colors.Rgb b) e = cc
color_is (colors.Rgb a) colors.None e = cc
color_is (colors.Rgb a) (colors.Rgb b) e = ap colors.Rgb ((bytes_eq-Decides a b).0 e)

pub color_again : (a : Color) → is_color a a ≡ true
color_again colors.None = refl
color_again (colors.Rgb a) = (bytes_eq-Decides a a).1 refl

style_is : (a b : Style) → is_style a b ≡ true → a ≡ b
unfolding is_style
style_is a b e =
    let one = and_parts (bytes_eq a.num_fmt b.num_fmt && is_flag a.quote_prefix b.quote_prefix && is_flag a.bold b.bold) (is_color a.fill b.fill) e in
    let two = and_parts (bytes_eq a.num_fmt b.num_fmt && is_flag a.quote_prefix b.quote_prefix) (is_flag a.bold b.bold) one.0 in
    let three = and_parts (bytes_eq a.num_fmt b.num_fmt) (is_flag a.quote_prefix b.quote_prefix) two.0 in
    same_fields a b ((bytes_eq-Decides a.num_fmt b.num_fmt).0 three.0) (flag_is a.quote_prefix b.quote_prefix three.1) (flag_is a.bold b.bold two.1)
    (color_is a.fill b.fill one.1)

pub style_again : (a : Style) → is_style a a ≡ true
unfolding is_style
style_again a =
    and_from _ _ (and_from _ _ (and_from _ _ ((bytes_eq-Decides a.num_fmt a.num_fmt).1 refl) (flag_again a.quote_prefix)) (flag_again a.bold))
    (color_again a.fill)

pub is_style-Decides : (a b : Style) → Decides (is_style a b) (a ≡ b)
is_style-Decides a b = (style_is a b, λ e. subst (λ c. is_style a c ≡ true) e (style_again a))

-- ---- keys

text_ends : (a b r s : List ℕ) → text_code a ++ r ≡ text_code b ++ s → (a ≡ b) × (r ≡ s)
text_ends [] [] r s e = (refl, cc)
text_ends [] (d ∷ b) r s e = let h : 0 ≡ d + 1 = cc in absurd (omega arith)
text_ends (c ∷ a) [] r s e = let h : c + 1 ≡ 0 = cc in absurd (omega arith)
text_ends (c ∷ a) (d ∷ b) r s e =
    let h : c + 1 ≡ d + 1 = cc in
    let same : c ≡ d = omega arith in
    let tails : text_code a ++ r ≡ text_code b ++ s = cc in
    let rest = text_ends a b r s tails in
    let ends : a ≡ b = rest.0 in
    (cc, rest.1)

flag_determines : (a b : Bool) → flag a ≡ flag b → a ≡ b
flag_determines true true e = refl
flag_determines true false e = absurd (omega arith)
flag_determines false true e = absurd (omega arith)
flag_determines false false e = refl

fill_determines : (a b : Color) → fill_code a ≡ fill_code b → a ≡ b
fill_determines colors.None colors.None e = refl
fill_determines colors.None (colors.Rgb b) e = cc
fill_determines (colors.Rgb a) colors.None e = cc
fill_determines (colors.Rgb a) (colors.Rgb b) e =
    let tails : text_code a ≡ text_code b = cc in
    ap colors.Rgb (text_ends a b [] [] (ap (λ c. c ++ []) tails)).0

-- equal keys are keys of one style
pub code_determines : (a b : Style) → code a ≡ code b → a ≡ b
unfolding code
code_determines a b e =
    let quotes : flag a.quote_prefix ≡ flag b.quote_prefix = cc in
    let bolds : flag a.bold ≡ flag b.bold = cc in
    let tails : text_code a.num_fmt ++ fill_code a.fill ≡ text_code b.num_fmt ++ fill_code b.fill = cc in
    let ends = text_ends a.num_fmt b.num_fmt (fill_code a.fill) (fill_code b.fill) tails in
    same_fields a b ends.0 (flag_determines a.quote_prefix b.quote_prefix quotes) (flag_determines a.bold b.bold bolds)
    (fill_determines a.fill b.fill ends.1)

code_is : (a b : Style) → bytes_eq (code a) (code b) ≡ is_style a b
code_is a b =
    sym
    (one_answer _ _ (is_style-Decides a b)
    ((λ e. code_determines a b ((bytes_eq-Decides (code a) (code b)).0 e)), (λ e. (bytes_eq-Decides (code a) (code b)).1 (ap code e))))

-- the search by keys is the search by styles
pub place_of_code : (s : Style) (styles : List Style) → place_by_key code (code s) styles ≡ first_place s styles
place_of_code s styles = place_is code is_style code_is s styles
