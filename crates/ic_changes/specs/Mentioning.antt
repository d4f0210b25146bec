-- Where a book mentions a sheet or a definition.
use Rattle.std.specs.Prelude.{List, [], ◌∷◌, ◌++◌, flat_map, Bool, if◌then◌else◌}
use Rattle.std.specs.FinMap as finite
use Rattle.ic_laws.specs.CoreBook.{Definition}
use Rattle.ic_laws.specs.declared.tree.Formula.{Formula}
use Rattle.ic_definitions.specs.Named.{key_in}
use Rattle.ic_pool.specs.Mentioning.{mentions_name, mentions_sheet, passes_at}
use Rattle.ic_sheets.specs.declared.sheet.Sheet.{Sheet}
use Rattle.ic_parts.specs.Sites.{sites_in}
use Rattle.ic_changes.specs.declared.mentioning.Sought.{Sought}
use Rattle.ic_changes.specs.declared.mentioning.Sought.TheVariants as sought
use Rattle.ic_parts.specs.declared.sites.MentionSite.{MentionSite}
use Rattle.ic_parts.specs.declared.sites.MentionSite.TheVariants as sites

-- a formula mentions what is looked for
abbrev pub mentions : Sought → Formula → Bool
mentions (sought.Sheet id) formula = mentions_sheet id formula
mentions (sought.Name key) formula = mentions_name key.now formula

module _ (test : Formula → Bool) where
  -- the cells of a sheet whose formulas pass a test, by rows and columns
  abbrev pub cells_passing : Sheet → List MentionSite
  cells_passing sheet = sites_in sheet.id (passes_at test sheet.pool.formulas) (finite.entries sheet.grid.cells)

  -- a definition, if its body passes
  abbrev pub definition_passing : Definition → List MentionSite
  definition_passing definition = if test definition.body then sites.Definition (key_in definition) ∷ [] else []

  -- all of them
  abbrev pub sites_passing : List Sheet → List Definition → List MentionSite
  sites_passing sheets definitions = flat_map cells_passing sheets ++ flat_map definition_passing definitions
