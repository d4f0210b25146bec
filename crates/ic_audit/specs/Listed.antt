-- The lines that tell sites, and what the program writes.
use Rattle.std.specs.Prelude.{◌≡◌, ℕ, List, [], ◌∷◌, ◌++◌, Option, Some, None, IsSome, codes, flat_map, encode_utf8_all}
use Rattle.std.specs.Fmt.{decimal, signed_decimal}
use Rattle.ic_laws.specs.Character.{line_feed, tab}
use Rattle.ic_laws.specs.Lines.{escaped}
use Rattle.ic_lines.specs.Bytes.{AppendsFront}
use Rattle.ic_machine.specs.Refusal.{CellSite, DefinitionSite, Site}
use Rattle.ic_tables.specs.Tables.{TableSet}
use Rattle.ic_run.specs.Prepared.{book_after}
use Rattle.ic_audit.specs.Asked.{Question, sites_asked}

-- the id of the sheet that a definition is local to, or a minus
abbrev pub told_scope : Option ℕ → List ℕ
told_scope None = codes "-"
told_scope (Some id) = decimal id

-- a cell by the id of its sheet, its row and its column; a definition by its folded name and the id of its sheet
abbrev pub site_line : Site → List ℕ
site_line (CellSite id place) = codes "cell\t" ++ (decimal id ++ (tab ∷ (signed_decimal place.0 ++ (tab ∷ (signed_decimal place.1 ++ line_feed ∷ [])))))
site_line (DefinitionSite key) = codes "name\t" ++ (escaped key.name ++ (tab ∷ (told_scope key.scope ++ line_feed ∷ [])))

-- the bytes of the lines of sites
abbrev pub told_sites : List Site → List ℕ
told_sites sites = encode_utf8_all (flat_map site_line sites)

-- there are sites, and they are told behind what was written before; or a front of that, which isn't all of it
abbrev pub TellsSites : Option (List Site) → List ℕ → List ℕ → Type 0
TellsSites None before now = ⊥
TellsSites (Some sites) before now = now ≡ before ++ told_sites sites

abbrev pub TellsSitesFront : Option (List Site) → List ℕ → List ℕ → Type 0
TellsSitesFront None before now = ⊥
TellsSitesFront (Some sites) before now = AppendsFront (told_sites sites) before now

-- The sites that are asked for, in the book after the lines of some bytes, from a new one, whenever that was made. ----

abbrev pub AppendsSites : Question → TableSet → List ℕ → List ℕ → List ℕ → Type 0
AppendsSites question tables bytes before now = (created : List ℕ) → TellsSites (sites_asked question (book_after tables created bytes)) before now

abbrev pub AppendsSitesFront : Question → TableSet → List ℕ → List ℕ → List ℕ → Type 0
AppendsSitesFront question tables bytes before now = (created : List ℕ) → TellsSitesFront (sites_asked question (book_after tables created bytes)) before now

-- there is such a sheet, or such a definition; or there is none
abbrev pub FindsSome : Question → TableSet → List ℕ → List ℕ → Type 0
FindsSome question tables bytes left = (created : List ℕ) → IsSome (sites_asked question (book_after tables created bytes))

abbrev pub FindsNothing : Question → TableSet → List ℕ → List ℕ → Type 0
FindsNothing question tables bytes left = (created : List ℕ) → sites_asked question (book_after tables created bytes) ≡ None
