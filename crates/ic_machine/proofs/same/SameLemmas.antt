-- Books that are the same but for how they are written and how they look: each is the same as itself, and their cores are
-- the same but for the notation.
use Rattle.std.proofs.Common.{◌≡◌, ℕ, List, [], ◌∷◌, ◌++◌, map, refl, sym, ap, ap₂, ◌∙◌}
use Rattle.std.specs.FinMap as finite
use Rattle.std.specs.List.{AllZip}
use Rattle.ic_laws.specs.CoreBook as core
use Rattle.ic_laws.specs.CoreBook.{CellPlace}
use Rattle.ic_laws.specs.declared.tree.Formula.{Formula}
use Rattle.ic_grid.proofs.ContentsLemmas.{same_contents}
use Rattle.ic_grid.specs.Contents.{Contents}
use Rattle.ic_machine.specs.Alike.{seen_by}
use Rattle.ic_machine.specs.Book.{Book, Entry, Grid, Sheet, core_cells, core_entry, core_of, core_sheet, scene_in}
use Rattle.ic_machine.specs.Content.{AnchorContent, BoolContent, Content, EmptyContent, ErrContent, FormulaContent, NumContent, SpillContent, TextContent}
use Rattle.ic_machine.specs.Same.{IsSameBook, IsSameGrid, IsSameSheet, unstyled}
use Rattle.ic_machine.specs.Translation.{in_notation}
use Rattle.ic_machine.proofs.contents.AlikeGrid.{entries-seen, get-seen}

-- the same as itself, and in another notation ----

pub sheet_itself : (s : Sheet) → IsSameSheet s s
sheet_itself s = record { id = refl; name = refl; pool = refl; grid = record { contents = λ p. refl; rows = λ r. refl; columns = λ c. refl; merges = refl }; tab = refl }

sheets_itself : (sheets : List Sheet) → AllZip IsSameSheet sheets sheets
sheets_itself [] = tt
sheets_itself (s ∷ sheets) = (sheet_itself s, sheets_itself sheets)

pub switched_same : (locale language : List ℕ) (b : Book) → IsSameBook (in_notation locale language b) b
switched_same locale language b = record { sheets = sheets_itself b.sheets; definitions = refl; zone = refl; theme = refl; name = refl; metadata = refl; tables = refl }

-- the cores ----

-- contents of which the same is seen without styles
pub contents_same : (one other : Grid) → IsSameGrid one other → seen_by unstyled one.contents ≡ seen_by unstyled other.contents
contents_same one other same = same_contents _ _ (λ q. get-seen unstyled one.contents q ∙ same.contents q ∙ sym (get-seen unstyled other.contents q))

abbrev bare : Entry → Entry
bare entry = (entry.0, unstyled entry.1)

entry_bare : (pool : List Formula) (place : CellPlace) (content : Content) → core_entry pool (place, unstyled content) ≡ core_entry pool (place, content)
entry_bare pool place (EmptyContent style) = refl
entry_bare pool place (BoolContent truth style) = refl
entry_bare pool place (NumContent amount style) = refl
entry_bare pool place (ErrContent e style) = refl
entry_bare pool place (TextContent text style) = refl
entry_bare pool place (FormulaContent index value style) = refl
entry_bare pool place (AnchorContent index area kind value style) = refl
entry_bare pool place (SpillContent anchor value style) = refl

cells_bare : (pool : List Formula) (entries : List Entry) → core_cells pool (map bare entries) ≡ core_cells pool entries
cells_bare pool [] = refl
cells_bare pool (e ∷ es) = ap₂ (λ (x y : core.Cells). x ++ y) (entry_bare pool e.0 e.1) (cells_bare pool es)

cells_seen : (pool : List Formula) (m : Contents Content) → core_cells pool (finite.entries (seen_by unstyled m)) ≡ core_cells pool (finite.entries m)
cells_seen pool m = ap (core_cells pool) (entries-seen unstyled m) ∙ cells_bare pool (finite.entries m)

core_cells_same : (one other : Sheet) → IsSameSheet one other → core_cells other.pool (finite.entries other.grid.contents) ≡ core_cells one.pool (finite.entries one.grid.contents)
core_cells_same one other same =
    ap (λ pool. core_cells pool (finite.entries other.grid.contents)) (sym same.pool)
    ∙ sym (cells_seen one.pool other.grid.contents)
    ∙ ap (λ (m : Contents Content). core_cells one.pool (finite.entries m)) (sym (contents_same one.grid other.grid same.grid))
    ∙ cells_seen one.pool one.grid.contents

core_sheet_same : (one other : Sheet) → IsSameSheet one other → core_sheet other ≡ core_sheet one
core_sheet_same one other same i = record { id = sym same.id i; name = sym same.name i; cells = core_cells_same one other same i }

core_sheets_same : (one other : List Sheet) → AllZip IsSameSheet one other → map core_sheet other ≡ map core_sheet one
core_sheets_same [] [] same = refl
core_sheets_same [] (t ∷ other) same = absurd same
core_sheets_same (s ∷ one) [] same = absurd same
core_sheets_same (s ∷ one) (t ∷ other) same = ap₂ (λ (x : core.Sheet) (xs : List core.Sheet). x ∷ xs) (core_sheet_same s t same.0) (core_sheets_same one other same.1)

pub core_same : (one other : Book) → IsSameBook one other → core_of other ≡ record (core_of one) { locale = other.locale; language = other.language }
core_same one other same i = record { sheets = core_sheets_same one.sheets other.sheets same.sheets i; definitions = sym same.definitions i; locale = other.locale; language = other.language }

-- so what formulas can mention is the same
pub scene_same : (one other : Book) → IsSameBook one other → scene_in other ≡ scene_in one
scene_same one other same = ap core.scene_of (core_same one other same)
