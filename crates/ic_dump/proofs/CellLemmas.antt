-- Lists that stand for others, one after another: definitions by their records, and sheets by what is seen of them.
use Rattle.std.proofs.Common.{arith, ◌≡◌, ◌++◌, ◌∷◌, [], ◌∙◌, ℕ, ◌+◌, ◌<◌, ◌≤◌, zero, suc, List, Option, Some, None, ap, append_assoc, append-nil, drop, get_or, length, map, option_map, refl, slice_get, sym, take}
use Rattle.std.proofs.Math.Numerals.{add-one}
use Rattle.std.proofs.lemmas.Grind.{flat_map-append}
use Rattle.std.proofs.lemmas.List.{length-map, map-append, take_all, take_more}
use Rattle.std.proofs.lemmas.Option.{slice_get-map, slice_get_read}
use Rattle.std.specs.Option.{option_to_list}
use Rattle.std.specs.Prelude.{flat_map}
use Rattle.ic_laws.specs.CoreBook.{Cells, CoreBook, Sheet, last_id, scene_of}
use Rattle.ic_laws.specs.Notations.{Notations}
use Rattle.ic_laws.specs.declared.scene.SheetName.{SheetName}
use Rattle.ic_sheets.specs.Sheet.{sheet_core}
use Rattle.ic_parts.specs.Book.{Book, IsValidBook, core_of, whole_sheet}
use Rattle.ic_parts.specs.Lent.{placed}
use Rattle.ic_dump.specs.Lines.{Text, cell_lines_from, lines_of_cells}
use Rattle.ic_dump.specs.Records.{core_seen}
use Rattle.ic_dump.specs.declared.sheets.SheetSeen.{SheetSeen}

-- the record at an index is that of what stands at that index
pub record_at : {A B : Type 0} (f : A → B) (xs : List A) (ys : List B) (i : ℕ) (y : B) → ys ≡ map f xs → i < length ys → y ≡ get_or ys i y → option_map f (slice_get xs i) ≡ Some y
record_at {A} {B} f xs ys i y are below item =
    sym (slice_get-map f xs i) ∙ ap (λ (l : List B). slice_get l i) (sym are) ∙ slice_get_read ys (length ys) i y refl below item

pub record_is : {A B : Type 0} (f : A → B) (o : Option A) (x : A) (y : B) → o ≡ Some x → option_map f o ≡ Some y → y ≡ f x
record_is f o x y there is = let both : Some (f x) ≡ Some y = sym (ap (option_map f) there) ∙ is in cc

-- so there is one
pub one_there : {A B : Type 0} (f : A → B) (o : Option A) (y : B) → option_map f o ≡ Some y → (x : A) × (o ≡ Some x)
one_there f None y e = cc
one_there f (Some x) y e = (x, refl)

-- ---- what is made of each sheet, one after another

pub begins : {X : Type 0} (xs : List X) (i : ℕ) (x : X) → slice_get xs i ≡ Some x → drop i xs ≡ x ∷ drop (suc i) xs
begins [] i x e = cc
begins (y ∷ xs) zero x e = let same : y ≡ x = cc in ap (λ z. z ∷ xs) same
begins (y ∷ xs) (suc i) x e = begins xs i x e

pub begins_at : {X : Type 0} (xs : List X) (i : ℕ) (x : X) → slice_get xs i ≡ Some x → drop i xs ≡ x ∷ drop (i + 1) xs
begins_at xs i x e = begins xs i x e ∙ ap (λ k. x ∷ drop k xs) (sym (add-one i))

pub next_at : {X Y : Type 0} (f : X → List Y) (xs : List X) (i : ℕ) (x : X) (items new all : List Y) → slice_get xs i ≡ Some x → items ++ flat_map f (drop i xs) ≡ all → new ≡ items ++ f x → new ++ flat_map f (drop (i + 1) xs) ≡ all
next_at f xs i x items new all there so_far put =
    ap (λ v. v ++ flat_map f (drop (i + 1) xs)) put ∙ append_assoc items (f x) (flat_map f (drop (i + 1) xs))
    ∙ ap (λ ys. items ++ flat_map f ys) (sym (begins_at xs i x there)) ∙ so_far

-- their lines, each sheet with its index
pub lines_next : (n : Notations) (book : CoreBook) (sheets : List Sheet) (i : ℕ) (s : Sheet) (lines new all : List Text) → slice_get sheets i ≡ Some s → lines ++ cell_lines_from n book i (drop i sheets) ≡ all → new ≡ lines ++ lines_of_cells n book i s.cells → new ++ cell_lines_from n book (i + 1) (drop (i + 1) sheets) ≡ all
lines_next n book sheets i s lines new all there so_far put =
    let its = lines_of_cells n book i s.cells in
    ap (λ v. v ++ cell_lines_from n book (i + 1) (drop (i + 1) sheets)) put ∙ append_assoc lines its (cell_lines_from n book (i + 1) (drop (i + 1) sheets))
    ∙ ap (λ k. lines ++ (its ++ cell_lines_from n book k (drop (i + 1) sheets))) (add-one i)
    ∙ ap (λ ys. lines ++ cell_lines_from n book i ys) (sym (begins_at sheets i s there)) ∙ so_far

-- one more of a list, where there is one
pub one_taken : {X : Type 0} (xs : List X) (i : ℕ) → take (i + 1) xs ≡ take i xs ++ option_to_list (slice_get xs i)
one_taken xs i = ap (λ k. take k xs) (add-one i) ∙ by_index xs i
  where
    by_index : {X : Type 0} (xs : List X) (i : ℕ) → take (suc i) xs ≡ take i xs ++ option_to_list (slice_get xs i)
    by_index [] zero = refl
    by_index [] (suc i) = refl
    by_index (x ∷ xs) zero = refl
    by_index (x ∷ xs) (suc i) = ap (λ rest. x ∷ rest) (by_index xs i)

-- ---- the sheets that are seen

-- there are no more sheets than ids
pub few_sheets : (b : Book) (names : List SheetName) → IsValidBook b → names ≡ (scene_of (core_of b)).sheets → length names ≤ last_id
few_sheets b names valid are =
    let all : length names ≡ length b.sheets = ap length are ∙ length-map (core_of b).sheets _ ∙ length-map b.sheets sheet_core in
    let seen : length (map (whole_sheet b.strings) b.sheets) ≡ length b.sheets = length-map b.sheets (whole_sheet b.strings) in
    let few : length (map (whole_sheet b.strings) b.sheets) ≤ last_id = valid.whole.sheets.few in
    omega arith

-- a sheet as it is called, with its formulas, is the one at its index
same_sheet : (s : Sheet) (n : SheetName) (cells : Cells) → n ≡ (let m : SheetName = record { id = s.id; name = s.name } in m) → cells ≡ s.cells → (let t : Sheet = record { id = n.id; name = n.name; cells = cells } in t) ≡ s
same_sheet s n cells e f =
    ap (λ (m : SheetName). let t : Sheet = record { id = m.id; name = m.name; cells = cells } in t) e
    ∙ ap (λ (cs : Cells). let t : Sheet = record { id = s.id; name = s.name; cells = cs } in t) f

-- one sheet more
pub seen_more : (b : Book) (names : List SheetName) (i : ℕ) (n : SheetName) (items new : List SheetSeen) (one : SheetSeen) → names ≡ (scene_of (core_of b)).sheets → i < length names → n ≡ get_or names i n → one.name.now ≡ n
    → ((s : Sheet) → slice_get (core_of b).sheets i ≡ Some s → map placed one.cells.items ≡ s.cells) → map core_seen items ≡ take i (core_of b).sheets → new ≡ items ++ one ∷ [] → map core_seen new ≡ take (i + 1) (core_of b).sheets
seen_more b names i n items new one are below item its cells so_far put =
    let sheets : List Sheet = (core_of b).sheets in
    let its_name : Sheet → SheetName = λ s. record { id = s.id; name = s.name } in
    let there = record_at its_name sheets names i n are below item in
    let found = one_there its_name (slice_get sheets i) n there in
    let same : core_seen one ≡ found.0 = same_sheet found.0 one.name.now (map placed one.cells.items) (its ∙ record_is its_name (slice_get sheets i) found.0 n found.1 there) (cells found.0 found.1) in
    ap (map core_seen) put ∙ map-append core_seen items (one ∷ [])
    ∙ ap (λ front. front ++ core_seen one ∷ []) so_far ∙ ap (λ s. take i sheets ++ s ∷ []) same
    ∙ sym (one_taken sheets i ∙ ap (λ o. take i sheets ++ option_to_list o) found.1)

-- and all of them
pub all_seen : (b : Book) (names : List SheetName) (i : ℕ) → names ≡ (scene_of (core_of b)).sheets → length names ≤ i → take i (core_of b).sheets ≡ (core_of b).sheets
all_seen b names i are end =
    let all : length names ≡ length (core_of b).sheets = ap length are ∙ length-map (core_of b).sheets _ in
    take_all i (core_of b).sheets (omega arith)

-- ---- what is made of each, one more

pub mapped_more : {X Y Z : Type 0} (g : Y → Z) (h : X → Y) (xs : List X) (i : ℕ) (x : X) (old items new : List Z) → i < length xs → x ≡ get_or xs i x → items ≡ old ++ map g (map h (take i xs)) → new ≡ items ++ g (h x) ∷ [] → new ≡ old ++ map g (map h (take (i + 1) xs))
mapped_more g h xs i x old items new below item so_far put =
    put ∙ ap (λ zs. zs ++ g (h x) ∷ []) so_far ∙ append_assoc old (map g (map h (take i xs))) (g (h x) ∷ [])
    ∙ ap (λ zs. old ++ zs)
    (sym (ap (λ ys. map g (map h ys)) (take_more xs i x below ∙ ap (λ y. take i xs ++ y ∷ []) (sym item)) ∙ ap (map g) (map-append h (take i xs) (x ∷ [])) ∙ map-append g (map h (take i xs)) (h x ∷ [])))

-- the same of lists that are made
pub made_more : {X Y Z : Type 0} (g : Y → List Z) (h : X → Y) (xs : List X) (i : ℕ) (x : X) (old items new : List Z) → i < length xs → x ≡ get_or xs i x → items ≡ old ++ flat_map g (map h (take i xs)) → new ≡ items ++ g (h x) → new ≡ old ++ flat_map g (map h (take (i + 1) xs))
made_more g h xs i x old items new below item so_far put =
    put ∙ ap (λ zs. zs ++ g (h x)) so_far ∙ append_assoc old (flat_map g (map h (take i xs))) (g (h x))
    ∙ ap (λ zs. old ++ zs)
    (ap (λ zs. flat_map g (map h (take i xs)) ++ zs) (sym (append-nil (g (h x)))) ∙ sym (flat_map-append g (map h (take i xs)) (h x ∷ []))
    ∙ ap (flat_map g) (sym (map-append h (take i xs) (x ∷ [])))
    ∙ ap (λ ys. flat_map g (map h ys)) (sym (take_more xs i x below ∙ ap (λ y. take i xs ++ y ∷ []) (sym item))))
