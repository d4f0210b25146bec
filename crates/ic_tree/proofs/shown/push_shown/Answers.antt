use Rattle.std.proofs.Common.{◌≡◌, ◌&&◌, ◌++◌, ℤ, OnOk, chars, option_map, refl, string_bytes, subst₂, sym, true, w32}
use Rattle.std.specs.Option.{option_copied}
use Rattle.std.proofs.lemmas.Bool.{and_parts}
use Rattle.std.proofs.lemmas.Int.{to_z-of_z}
use Rattle.ic_laws.specs.Position.{is_column, is_inside, is_row}
use Rattle.ic_laws.specs.SheetText.{sheet_text}
use Rattle.ic_laws.specs.Tree.{is_written_sheet}
use Rattle.ic_refs.proofs.PushLemmas.{both_appended}
use Rattle.ic_refs.specs.A1.{is_spellable, place_text}
use Rattle.ic_laws.specs.Dialect.{reference_to}
use Rattle.ic_tree.proofs.shown.push_shown.Goals as goal

pub push_a1_place-requires : goal.push_a1_place-requires
push_a1_place-requires c =
    let r = reference_to (option_copied c.args.sheet) c.args.place in
    subst₂ (λ (row column : ℤ). is_inside c.args.place row column ≡ true) (sym (to_z-of_z w32 c.args.row c.ranges.row)) (sym (to_z-of_z w32 c.args.column c.ranges.column))
    (and_parts (is_row c.args.row && is_column c.args.column) (is_inside c.args.place c.args.row c.args.column)
    (and_parts (is_spellable c.args.row c.args.column r) (is_written_sheet r.sheet) c.requires).0).1

pub returns : goal.returns
returns c =
    both_appended c.push_a1_place.result _ _ _ (sheet_text (option_map chars (option_copied c.args.sheet))) (place_text c.args.row c.args.column c.args.place) _
    refl c.in_ok-push_sheet.ensures
    (subst₂ (λ (row column : ℤ). OnOk c.push_a1_place.result (chars (string_bytes c.push_a1_place.new.out) ≡ chars (string_bytes c.push_sheet.new.out) ++ place_text row column c.args.place))
    (to_z-of_z w32 c.args.row c.ranges.row) (to_z-of_z w32 c.args.column c.ranges.column) c.push_a1_place.ensures)
