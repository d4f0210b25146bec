-- What changes do to mentions, by example.
use Rattle.std.proofs.Common.{◌≡◌, ℕ, [], ◌∷◌, Option, None, Some, codes, refl}
use Rattle.caseless.proofs.Computing.{caseless}
use Rattle.ic_laws.specs.Changes.{changed_local, changed_sheet, changed_word, definition_added, definition_gone, sheet_gone, sheet_named}
use Rattle.ic_laws.specs.declared.scene.NameSpelling.{NameSpelling}
use Rattle.ic_laws.specs.declared.scene.Scene.{Scene}
use Rattle.ic_laws.specs.declared.tree.NameMention.{NameMention}
use Rattle.ic_laws.specs.declared.tree.NameMention.TheVariants as names
use Rattle.ic_laws.specs.declared.tree.SheetMention.TheVariants as sheets

-- a definition for all sheets, and one for sheet 1 alone
abbrev everywhere : NameSpelling
everywhere = record { name = codes "Tax"; scope = None }

abbrev on_one : NameSpelling
on_one = record { name = codes "TAX"; scope = Some 1 }

abbrev tax_at : Option ℕ → NameMention
tax_at scope = names.Name (record { name = codes "tax"; scope = scope })

-- scenes with one of them, and with none
abbrev one_left : Scene
one_left = record { sheets = []; names = everywhere ∷ [] }

abbrev none_left : Scene
none_left = record { sheets = []; names = [] }

abbrev local_left : Scene
local_left = record { sheets = []; names = on_one ∷ [] }

-- sheet 1 is called DATA from now on: what dangled by that name in any case means it, and no other mention does
dangling_bound : changed_sheet (sheet_named none_left 1 (codes "DATA")) (sheets.Dangling (codes "Data")) ≡ sheets.Sheet 1
unfolding caseless
dangling_bound = refl

other_dangles : changed_sheet (sheet_named none_left 1 (codes "DATA")) (sheets.Dangling (codes "Gone")) ≡ sheets.Dangling (codes "Gone")
unfolding caseless
other_dangles = refl

found_stays : changed_sheet (sheet_named none_left 1 (codes "DATA")) (sheets.Sheet 2) ≡ sheets.Sheet 2
found_stays = refl

-- A rename that is taken back doesn't give back what dangled by the name between: it means the sheet from then on.
bound_for_good : changed_sheet (sheet_named none_left 1 (codes "Data")) (changed_sheet (sheet_named none_left 1 (codes "Gone")) (sheets.Dangling (codes "gone"))) ≡ sheets.Sheet 1
unfolding caseless
bound_for_good = refl

-- sheet 1 goes
deleted_dangles : changed_sheet (sheet_gone none_left 1 (codes "Data")) (sheets.Sheet 1) ≡ sheets.Dangling (codes "Data")
deleted_dangles = refl

other_sheet : changed_sheet (sheet_gone none_left 1 (codes "Data")) (sheets.Sheet 2) ≡ sheets.Sheet 2
other_sheet = refl

-- the local one comes: on its sheet what meant the other means it, and what meant nothing; elsewhere nothing changes
taken_over : changed_word (definition_added on_one) (Some 1) (tax_at None) ≡ tax_at (Some 1)
unfolding caseless
taken_over = refl

bound_there : changed_word (definition_added on_one) (Some 1) (names.Dangling (codes "taX")) ≡ tax_at (Some 1)
unfolding caseless
bound_there = refl

not_elsewhere : changed_word (definition_added on_one) (Some 2) (tax_at None) ≡ tax_at None
unfolding caseless
not_elsewhere = refl

not_in_bodies : changed_word (definition_added on_one) None (names.Dangling (codes "tax")) ≡ names.Dangling (codes "tax")
unfolding caseless
not_in_bodies = refl

-- the one for all sheets comes: it is behind local ones, and never in place of a variable
behind_local : changed_word (definition_added everywhere) (Some 1) (tax_at (Some 1)) ≡ tax_at (Some 1)
unfolding caseless
behind_local = refl

bound_anywhere : changed_word (definition_added everywhere) (Some 2) (names.Dangling (codes "TAX")) ≡ tax_at None
unfolding caseless
bound_anywhere = refl

variable_stays : changed_word (definition_added everywhere) (Some 2) (names.Var (codes "tax")) ≡ names.Var (codes "tax")
variable_stays = refl

-- the local one goes: what meant it means the other where there is one, and dangles where there is none
given_back : changed_word (definition_gone one_left on_one) (Some 1) (tax_at (Some 1)) ≡ tax_at None
unfolding caseless
given_back = refl

dangles : changed_word (definition_gone none_left on_one) (Some 1) (tax_at (Some 1)) ≡ names.Dangling (codes "TAX")
unfolding caseless
dangles = refl

-- Words with their sheets: what dangled by an agreeing name means the sheet, and with it what is local to that.
with_sheet_bound : changed_local (sheet_named local_left 1 (codes "DATA")) (sheets.Dangling (codes "Data")) (names.Dangling (codes "taX")) ≡ (sheets.Sheet 1, tax_at (Some 1))
unfolding caseless
with_sheet_bound = refl

no_global : changed_local (sheet_named one_left 1 (codes "DATA")) (sheets.Dangling (codes "Data")) (names.Dangling (codes "tax")) ≡ (sheets.Sheet 1, names.Dangling (codes "tax"))
unfolding caseless
no_global = refl

-- both dangle where the sheet goes, and the word alone where the definition does
both_dangle : changed_local (sheet_gone local_left 1 (codes "Data")) (sheets.Sheet 1) (tax_at (Some 1)) ≡ (sheets.Dangling (codes "Data"), names.Dangling (codes "TAX"))
unfolding caseless
both_dangle = refl

word_dangles : changed_local (definition_gone one_left on_one) (sheets.Sheet 1) (tax_at (Some 1)) ≡ (sheets.Sheet 1, names.Dangling (codes "TAX"))
unfolding caseless
word_dangles = refl

-- one that is local to the sheet comes, whichever sheet the formula stands on; one for all sheets binds none
word_bound : changed_local (definition_added on_one) (sheets.Sheet 1) (names.Dangling (codes "Tax")) ≡ (sheets.Sheet 1, tax_at (Some 1))
unfolding caseless
word_bound = refl

not_by_global : changed_local (definition_added everywhere) (sheets.Sheet 1) (names.Dangling (codes "Tax")) ≡ (sheets.Sheet 1, names.Dangling (codes "Tax"))
unfolding caseless
not_by_global = refl
