-- The start of a book, and small facts of its calls.
use Rattle.std.proofs.Common.{◌≡◌, ℕ, ◌+◌, ◌^◌, ◌<◌, ◌≤◌, ◌++◌, ◌∷◌, [], List, true, false, Option, Some, None, SomeIff, IfSome, is_some, All, codes, bytes_eq, refl, sym, ap, subst, arith, if◌then◌else◌}
use Rattle.std.proofs.lemmas.List.Elements.{All-weaker}
use Rattle.ic_laws.specs.Name.{is_sheet_name}
use Rattle.ic_laws.specs.Greatest.{greatest}
use Rattle.ic_laws.proofs.CoreLemmas.{All-greatest}
use Rattle.ic_laws.proofs.core.SheetAdded.{one_sheet_valid}
use Rattle.ic_tables.specs.Tables.{IsWellFormed, TableSet, locale_of, language_of, lists_zone}
use Rattle.ic_tree.specs.Notations.{notations_of}
use Rattle.ic_laws.specs.Notations.{Notations}
use Rattle.ic_laws.specs.declared.scene.Scene.{Scene}
use Rattle.ic_machine.proofs.valid.SheetsStay.{nothing_holds}
use Rattle.ic_machine.specs.Book as machine
use Rattle.ic_machine.specs.Book.{empty_sheet}
use Rattle.ic_machine.specs.Valid as valid_machine
use Rattle.ic_parts.specs.Book.{IsValidBook, first_sheet_name_in, new_book, whole_of}
use Rattle.ic_parts.proofs.BookValid.{no_strings}
use Rattle.ic_parts.proofs.WholeLemmas.{whole_empty}

-- the name of a new book's sheet is a sheet name
pub first_name_is_good : (language : List ℕ) → is_sheet_name (first_sheet_name_in language) ≡ true
first_name_is_good language =
    elim (bytes_eq language (codes "es")) as (λ b. is_sheet_name ((if b then codes "Hoja" else rest) ++ codes "1") ≡ true) [
      | true ↦ refl
      | false ↦
          elim (bytes_eq language (codes "fr")) as (λ b. is_sheet_name ((if b then codes "Feuil" else more) ++ codes "1") ≡ true) [
            | true ↦ refl
            | false ↦
                elim (bytes_eq language (codes "de")) as (λ b. is_sheet_name ((if b then codes "Tabelle" else last) ++ codes "1") ≡ true) [
                  | true ↦ refl
                  | false ↦
                      elim (bytes_eq language (codes "it")) as (λ b. is_sheet_name ((if b then codes "Foglio" else codes "Sheet") ++ codes "1") ≡ true) [ true ↦ refl | false ↦ refl ]
                ]
          ]
    ]
  where
    last : List ℕ
    last = if bytes_eq language (codes "it") then codes "Foglio" else codes "Sheet"

    more : List ℕ
    more = if bytes_eq language (codes "de") then codes "Tabelle" else last

    rest : List ℕ
    rest = if bytes_eq language (codes "fr") then codes "Feuil" else more

-- a new book is valid where the tables have its locale, language and zone
start_whole : (name locale zone language created : List ℕ) (tables : TableSet) → is_some (locale_of tables locale) ≡ true → is_some (language_of tables language) ≡ true → lists_zone tables zone ≡ true → IsWellFormed tables
    → valid_machine.IsValidBook (record (whole_of (new_book name locale zone language created tables)) { sheets = empty_sheet 1 (first_sheet_name_in language) ∷ [] })
unfolding notations_of
start_whole name locale zone language created tables l g z well =
    let n : Notations = notations_of tables in
    let called : List ℕ = first_sheet_name_in language in
    let core = one_sheet_valid n called locale language (first_name_is_good language) l g in
    let scene : Scene = record { sheets = record { id = 1; name = called } ∷ []; names = [] } in
    let holds = nothing_holds n scene 1 1 called in
    record {
      sheets = record { some = omega arith; few = omega arith };
      sheet_names = record { names = (first_name_is_good language, tt); differ = core.names_differ };
      sheet_ids = record { ids = (core.sheets.0.id, tt); differ = core.ids_differ };
      definitions = record { names = tt; scopes = tt; differ = core.keys_differ };
      kept = record { pools = (tt, tt); bodies = tt };
      inside = (holds.inside, tt);
      formulas = (holds.formulas, tt);
      styles = record { styles = record { default = refl; different = refl }; numbers = (holds.styles, tt) };
      arrays = (holds.arrays, tt);
      merges = (holds.merges, tt);
      layout = (holds.layout, tt);
      amounts = (holds.amounts, tt);
      locale = l;
      language = g;
      zone = z;
      tables = well;
    }

pub new_book_valid : (name locale zone language created : List ℕ) (tables : TableSet) → is_some (locale_of tables locale) ≡ true → is_some (language_of tables language) ≡ true → lists_zone tables zone ≡ true → IsWellFormed tables → IsValidBook (new_book name locale zone language created tables)
new_book_valid name locale zone language created tables l g z well = record {
  whole =
      subst valid_machine.IsValidBook
      (ap (λ (s : machine.Sheet). let b : machine.Book = record (whole_of (new_book name locale zone language created tables)) { sheets = s ∷ [] } in b) (sym (whole_empty [] 1 (first_sheet_name_in language))))
      (start_whole name locale zone language created tables l g z well);
  strings = (no_strings 0, tt);
}

-- a number one above the greatest id in use is above each
pub above_all : (r : Option ℕ) (g : ℕ) (ids : List ℕ) → SomeIff r (g + 1 < 2 ^ 32) (g + 1) → g ≡ greatest ids → IfSome r (λ id. All (λ used. used < id) ids)
above_all None g ids s e = tt
above_all (Some id) g ids s e = All-weaker (λ n. n ≤ greatest ids) (λ n. n < id) (λ n h. omega (arith, h, s.1, e)) ids (All-greatest ids)
