-- What stands at an index, and the lines of what is left.
use Rattle.std.proofs.Common.{◌≡◌, ◌++◌, ◌∷◌, [], ◌∙◌, ℕ, ◌+◌, ◌-◌, ◌<◌, ◌≤◌, suc, List, Bool, true, false, cond, ap, append_assoc, append-nil, drop, filter, get_or, length, map, refl, reverse, sym}
use Rattle.std.proofs.lemmas.List.{drop_all, drop_more, reverse-append}
use Rattle.std.proofs.Math.Numerals.{add-one}
use Rattle.std.specs.List.{range_with_len}
use Rattle.std.specs.Prelude.{flat_map, nat_eq}
use Rattle.ic_laws.specs.declared.scene.SheetName.{SheetName}
use Rattle.ic_dump.specs.Lines.{Text, deleting_line, first_id, inserting_line, inserting_lines_from, is_first, naming_line}
use Rattle.ic_parts.proofs.MarkupLemmas.{range_more}

-- what is left begins with what stands there
pub left_of : {X : Type 0} (xs : List X) (i : ℕ) (x : X) → i < length xs → x ≡ get_or xs i x → drop i xs ≡ x ∷ drop (i + 1) xs
left_of xs i x below item = drop_more xs i x below ∙ ap (λ y. y ∷ drop (i + 1) xs) (sym item)

-- what is made of each, one after another
pub next_of : {X Y : Type 0} (f : X → List Y) (xs : List X) (i : ℕ) (x : X) (items new all : List Y) → i < length xs → x ≡ get_or xs i x → items ++ flat_map f (drop i xs) ≡ all → new ≡ items ++ f x → new ++ flat_map f (drop (i + 1) xs) ≡ all
next_of f xs i x items new all below item so_far put =
    ap (λ v. v ++ flat_map f (drop (i + 1) xs)) put ∙ append_assoc items (f x) (flat_map f (drop (i + 1) xs))
    ∙ ap (λ ys. items ++ flat_map f ys) (sym (left_of xs i x below item)) ∙ so_far

pub done_of : {X Y : Type 0} (f : X → List Y) (xs : List X) (i : ℕ) (items all : List Y) → length xs ≤ i → items ++ flat_map f (drop i xs) ≡ all → items ≡ all
done_of f xs i items all end so_far = sym (append-nil items) ∙ ap (λ ys. items ++ flat_map f ys) (sym (drop_all i xs end)) ∙ so_far

-- the line of the sheet of a new book
abbrev pub naming_of : SheetName → List Text
naming_of s = cond (is_first s) (naming_line s ∷ []) []

pub named_first : (s : SheetName) (lines new : List Text) → s.id ≡ first_id → new ≡ lines ++ naming_line s ∷ [] → new ≡ lines ++ naming_of s
named_first s lines new e put = put ∙ ap (λ id. lines ++ cond (nat_eq id first_id) (naming_line s ∷ []) []) (sym e)

pub naming_each : (sheets : List SheetName) → map naming_line (filter is_first sheets) ≡ flat_map naming_of sheets
naming_each [] = refl
naming_each (s ∷ sheets) = by_test (is_first s) refl (naming_each sheets)
  where
    by_test : (b : Bool) → is_first s ≡ b → map naming_line (filter is_first sheets) ≡ flat_map naming_of sheets → map naming_line (filter is_first (s ∷ sheets)) ≡ naming_of s ++ flat_map naming_of sheets
    by_test true e more = rw e (ap (λ rest. naming_line s ∷ rest) more)
    by_test false e more = rw e more

-- the line of each other, with its index
pub inserting_next : (sheets : List SheetName) (i : ℕ) (s : SheetName) (lines new all : List Text) → i < length sheets → s ≡ get_or sheets i s → lines ++ inserting_lines_from i (drop i sheets) ≡ all → new ≡ lines ++ cond (is_first s) [] (inserting_line i s ∷ []) → new ++ inserting_lines_from (i + 1) (drop (i + 1) sheets) ≡ all
inserting_next sheets i s lines new all below item so_far put =
    let its = cond (is_first s) [] (inserting_line i s ∷ []) in
    ap (λ v. v ++ inserting_lines_from (i + 1) (drop (i + 1) sheets)) put ∙ append_assoc lines its (inserting_lines_from (i + 1) (drop (i + 1) sheets))
    ∙ ap (λ n. lines ++ (its ++ inserting_lines_from n (drop (i + 1) sheets))) (add-one i)
    ∙ ap (λ ys. lines ++ inserting_lines_from i ys) (sym (left_of sheets i s below item)) ∙ so_far

pub deleting_next : (own count gone index left fewer : ℕ) (lines new all : List Text) → left ≡ suc fewer → index ≡ own + fewer → lines ++ map deleting_line (reverse (range_with_len own left)) ≡ all → new ≡ lines ++ deleting_line index ∷ [] → new ++ map deleting_line (reverse (range_with_len own fewer)) ≡ all
deleting_next own count gone index left fewer lines new all e at so_far put =
    ap (λ v. v ++ map deleting_line (reverse (range_with_len own fewer))) put
    ∙ append_assoc lines (deleting_line index ∷ []) (map deleting_line (reverse (range_with_len own fewer)))
    ∙ ap (λ (ns : List ℕ). lines ++ map deleting_line ns)
    (ap (λ n. n ∷ reverse (range_with_len own fewer)) at
    ∙ sym (ap (λ n. reverse (range_with_len own n)) e ∙ ap reverse (range_more own fewer) ∙ reverse-append (range_with_len own fewer) ((own + fewer) ∷ [])))
    ∙ so_far
