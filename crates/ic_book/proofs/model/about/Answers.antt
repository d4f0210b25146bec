use Rattle.std.proofs.Common.{◌≡◌, ◌∙◌, ℕ, List, Bor, ap, sym}
use Rattle.std.specs.Str.{chars}
use Rattle.ic_cells.specs.declared.workbook.Metadata.{Metadata}
use Rattle.ic_parts.specs.Book.{metadata_made}
use Rattle.ic_parts.specs.declared.about.About.{About}
use Rattle.ic_book.proofs.model.about.Goals as goal

-- the same parts make the same
made : (name : List ℕ) (zone : Bor (List ℕ)) (theme : List ℕ) (metadata : Metadata) (n t : List ℕ) (m : Metadata) → name ≡ n → theme ≡ t → metadata ≡ m
    → ◌≡◌ {A = About} (record { name = name; zone = zone; theme = theme; metadata = metadata }) (record { name = n; zone = zone; theme = t; metadata = m })
made name zone theme metadata n t m a b c = λ i. record { name = a i; zone = zone; theme = b i; metadata = c i }

-- metadata that was made at a moment is what is made at its moment
of_its_moment : (metadata : Metadata) (created : List ℕ) → metadata ≡ metadata_made created → metadata ≡ metadata_made metadata.created
of_its_moment metadata created is = is ∙ ap metadata_made (sym (ap (λ (m : Metadata). m.created) is))

pub returns : goal.returns
unfolding chars
returns c =
    made _ _ _ _ _ _ _ c.in_ok-name.ensures (c.from.ensures ∙ ap chars c.new.ensures.bytes) (of_its_moment _ _ c.in_ok-metadata.ensures)
