-- References are equal by `==` exactly where they are one reference.
use Rattle.std.proofs.Common.{◌≡◌, ℕ, ℤ, Bool, true, false, ◌&&◌, ◌==◌, refl, ap, ◌∙◌}
use mathlib.Core.Bool.{beq}
use Rattle.std.specs.Bool.{Decides}
use Rattle.std.specs.Ordering.{int_eq}
use Rattle.std.specs.Cmp.{booleans_Decides, signed_Decides, unsigned_Decides}
use Rattle.ic_refs.specs.contracts.reference.A1ReferencePartialEq.TheImpl as written_equality
use Rattle.ic_refs.specs.contracts.reference.CellReferenceIndexPartialEq.TheImpl as cell_equality
use Rattle.ic_refs.specs.contracts.reference.ParsedReferencePartialEq.TheImpl as parsed_equality
use Rattle.ic_refs.specs.declared.reference.A1Reference.{A1Reference}
use Rattle.ic_refs.specs.declared.reference.CellReferenceIndex.{CellReferenceIndex}
use Rattle.ic_refs.specs.declared.reference.ParsedReference.{ParsedReference}
use Rattle.ic_refs.specs.declared.reference.ParsedReference.TheVariants as parsed

-- two tests decide two facts
both : (s t : Bool) (P Q : Type 0) → Decides s P → Decides t Q → Decides (s && t) (P × Q)
both true t P Q h k = (λ e. (h.0 refl, k.0 e), λ p. k.1 p.1)
both false t P Q h k = (λ e. let f : false ≡ true = e in absurd (cc), λ p. h.1 p.0)

-- four tests decide four facts
four : (s t u v : Bool) (P Q R S : Type 0) → Decides s P → Decides t Q → Decides u R → Decides v S → Decides (s && (t && (u && v))) (P × (Q × (R × S)))
four s t u v P Q R S h k l m = both s (t && (u && v)) P (Q × (R × S)) h (both t (u && v) Q (R × S) k (both u v R S l m))

-- a cell from its parts
abbrev cell : ℕ → ℤ → ℤ → CellReferenceIndex
cell sheet row column = record { sheet = sheet; row = row; column = column }

pub cells_Decides : (a b : CellReferenceIndex) → Decides (cell_equality.ghosts.eq a b) (a ≡ b)
cells_Decides a b =
    let rest = both (int_eq a.row b.row) (int_eq a.column b.column) (a.row ≡ b.row) (a.column ≡ b.column) (signed_Decides a.row b.row) (signed_Decides a.column b.column) in
    let d = both (a.sheet == b.sheet) (int_eq a.row b.row && int_eq a.column b.column) (a.sheet ≡ b.sheet) ((a.row ≡ b.row) × (a.column ≡ b.column)) (unsigned_Decides a.sheet b.sheet) rest in (
      λ e. let p = d.0 e in
          ap (λ x. cell x a.row a.column) p.0 ∙ ap (λ x. cell b.sheet x a.column) p.1.0 ∙ ap (λ x. cell b.sheet b.row x) p.1.1,
      λ e. d.1 (ap (λ (c : CellReferenceIndex). c.sheet) e, (ap (λ (c : CellReferenceIndex). c.row) e, ap (λ (c : CellReferenceIndex). c.column) e)),
    )

-- a reference from its parts
abbrev written : ℤ → ℤ → Bool → Bool → A1Reference
written row column absolute_row absolute_column = record { row = row; column = column; absolute_row = absolute_row; absolute_column = absolute_column }

pub written_Decides : (a b : A1Reference) → Decides (written_equality.ghosts.eq a b) (a ≡ b)
written_Decides a b =
    let d = four (int_eq a.row b.row) (int_eq a.column b.column) (beq a.absolute_row b.absolute_row) (beq a.absolute_column b.absolute_column)
    (a.row ≡ b.row) (a.column ≡ b.column) (a.absolute_row ≡ b.absolute_row) (a.absolute_column ≡ b.absolute_column)
    (signed_Decides a.row b.row) (signed_Decides a.column b.column) (booleans_Decides a.absolute_row b.absolute_row) (booleans_Decides a.absolute_column b.absolute_column) in (
      λ e. let p = d.0 e in
          ap (λ x. written x a.column a.absolute_row a.absolute_column) p.0 ∙ ap (λ x. written b.row x a.absolute_row a.absolute_column) p.1.0
          ∙ ap (λ x. written b.row b.column x a.absolute_column) p.1.1.0 ∙ ap (λ x. written b.row b.column b.absolute_row x) p.1.1.1,
      λ e. d.1 (
        ap (λ (r : A1Reference). r.row) e,
        (ap (λ (r : A1Reference). r.column) e, (ap (λ (r : A1Reference). r.absolute_row) e, ap (λ (r : A1Reference). r.absolute_column) e)),
      ),
    )

pub parsed_Decides : (a b : ParsedReference) → Decides (parsed_equality.ghosts.eq a b) (a ≡ b)
parsed_Decides (parsed.CellReference x) (parsed.CellReference y) =
    let d = cells_Decides x y in (λ e. ap parsed.CellReference (d.0 e), λ e. let same : x ≡ y = cc in d.1 same)
parsed_Decides (parsed.Range x y) (parsed.Range z w) =
    let d = both (cell_equality.ghosts.eq x z) (cell_equality.ghosts.eq y w) (x ≡ z) (y ≡ w) (cells_Decides x z) (cells_Decides y w) in (
      λ e. let p = d.0 e in ap (λ c. parsed.Range c y) p.0 ∙ ap (λ c. parsed.Range z c) p.1,
      λ e. let first : x ≡ z = cc in let last : y ≡ w = cc in d.1 (first, last),
    )
parsed_Decides (parsed.CellReference x) (parsed.Range y z) = (λ e. let f : false ≡ true = e in absurd (cc), λ e. cc)
parsed_Decides (parsed.Range x y) (parsed.CellReference z) = (λ e. let f : false ≡ true = e in absurd (cc), λ e. cc)
