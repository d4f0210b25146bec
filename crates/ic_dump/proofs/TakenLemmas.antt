-- The names that a passing sheet can't have, part by part.
use Rattle.std.proofs.Common.{◌≡◌, ◌++◌, ◌∷◌, [], ◌∙◌, ℕ, List, Option, Some, None, ap, ap₂, append_assoc, map, option_map, refl, slice_get, sym, take, ◌+◌}
use Rattle.std.proofs.lemmas.Grind.{flat_map-append}
use Rattle.std.proofs.lemmas.List.{map-append}
use Rattle.std.specs.Option.{option_to_list}
use Rattle.std.specs.Prelude.{flat_map}
use Rattle.ic_laws.specs.CoreBook.{CellPlace, CoreBook, Definition, Sheet, names_of}
use Rattle.ic_laws.specs.declared.tree.Formula.{Formula}
use Rattle.ic_dump.proofs.CellLemmas.{one_taken}
use Rattle.ic_dump.specs.Passing.{taken_names, unfound_of}

-- those that the formulas of a sheet's cells name
abbrev pub unfound_at : Sheet → List (List ℕ)
unfound_at s = flat_map unfound_of (map (λ (cell : CellPlace × Formula). cell.1) s.cells)

pub unfound_each : (sheets : List Sheet) → flat_map unfound_of (flat_map (λ (s : Sheet). map (λ (cell : CellPlace × Formula). cell.1) s.cells) sheets) ≡ flat_map unfound_at sheets
unfound_each [] = refl
unfound_each (s ∷ sheets) =
    flat_map-append unfound_of (map (λ (cell : CellPlace × Formula). cell.1) s.cells) (flat_map (λ (s : Sheet). map (λ (cell : CellPlace × Formula). cell.1) s.cells) sheets)
    ∙ ap (λ rest. unfound_at s ++ rest) (unfound_each sheets)

-- the names of sheets, what cells name, and what bodies name
pub taken_parts : (book : CoreBook) (own cells all : List (List ℕ)) → own ≡ names_of book → cells ≡ own ++ flat_map unfound_of (flat_map (λ (s : Sheet). map (λ (cell : CellPlace × Formula). cell.1) s.cells) book.sheets)
    → all ≡ cells ++ flat_map unfound_of (map (λ d. d.body) book.definitions) → all ≡ taken_names book
taken_parts book own cells all first then_cells then_bodies =
    let of_cells : List Formula = flat_map (λ (s : Sheet). map (λ (cell : CellPlace × Formula). cell.1) s.cells) book.sheets in
    let bodies : List Formula = map (λ d. d.body) book.definitions in
    then_bodies
    ∙ ap (λ front. front ++ flat_map unfound_of bodies) (then_cells ∙ ap (λ front. front ++ flat_map unfound_of of_cells) first)
    ∙ append_assoc (names_of book) (flat_map unfound_of of_cells) (flat_map unfound_of bodies)
    ∙ ap (λ rest. names_of book ++ rest) (sym (flat_map-append unfound_of of_cells bodies))

-- one body more, where there is one
pub bodies_more : (ds : List Definition) (i : ℕ) (old items new : List (List ℕ)) → items ≡ old ++ flat_map unfound_of (map (λ d. d.body) (take i ds)) → new ≡ items ++ flat_map unfound_of (option_to_list (option_map (λ d. d.body) (slice_get ds i))) → new ≡ old ++ flat_map unfound_of (map (λ d. d.body) (take (i + 1) ds))
bodies_more ds i old items new so_far put =
    let its = flat_map unfound_of (map (λ (d : Definition). d.body) (take i ds)) in
    let body : Definition → Formula = λ d. d.body in
    put
    ∙ ap₂ (λ (a b : List (List ℕ)). a ++ b) so_far (ap (flat_map unfound_of) (listed body (slice_get ds i)))
    ∙ append_assoc old its (flat_map unfound_of (map body (option_to_list (slice_get ds i))))
    ∙ ap (λ rest. old ++ rest)
    (sym (ap (λ xs. flat_map unfound_of (map body xs)) (one_taken ds i) ∙ ap (flat_map unfound_of) (map-append body (take i ds) (option_to_list (slice_get ds i))) ∙ flat_map-append unfound_of (map body (take i ds)) (map body (option_to_list (slice_get ds i)))))
  where
    listed : {X Y : Type 0} (f : X → Y) (o : Option X) → option_to_list (option_map f o) ≡ map f (option_to_list o)
    listed f None = refl
    listed f (Some x) = refl
