-- Numbers that are typed, shown and cleared, by example.
use Rattle.std.proofs.Common.{◌≡◌, ℕ, ℤ, pos, List, [], ◌∷◌, map, Bool, true, false, Option, None, Some, Ok, codes, refl, ap, ap₂, ◌∙◌}
use Rattle.std.specs.Fmt.{digits}
use Rattle.std.specs.FinMap as finite
use Rattle.std.specs.List.{list_any}
use Rattle.std.specs.Option.{option_map_or}
use Rattle.std.specs.Prelude.{◌&&◌}
use Rattle.ic_laws.specs.Amount.{fraction_digits}
use Rattle.ic_laws.specs.CoreBook.{CellPlace}
use Rattle.ic_laws.proofs.core.CellWritten.{place_cmp_total}
use Rattle.ic_cells.specs.Style.{default_style, is_style, with_format}
use Rattle.ic_cells.specs.declared.style.Style.{Style}
use Rattle.ic_grid.specs.Arrays.{array_at, has_cut, is_cut_by}
use Rattle.ic_grid.specs.Block.{is_between, is_in_block, is_span_within}
use Rattle.ic_grid.specs.Clear.{cleared, cleared_cell}
use Rattle.ic_grid.specs.Contents.{Contents, remade, remade_entries}
use Rattle.ic_grid.specs.declared.block.Block.{Block}
use Rattle.ic_input.specs.Code.{number_code}
use Rattle.ic_input.specs.Number.{from_digits, unsigned_number}
use Rattle.ic_input.specs.Typed as typing
use Rattle.ic_input.specs.declared.input.Typed.TheVariants as kinds
use Rattle.ic_machine.specs.Book.{Book, Entry, empty_grid, on_grid, unless_refused}
use Rattle.ic_machine.specs.Command.{commands}
use Rattle.ic_machine.specs.Content.{Content, EmptyContent, NumContent, held}
use Rattle.ic_machine.specs.Format.{formatted}
use Rattle.ic_machine.specs.InForce.{typed_in}
use Rattle.ic_machine.specs.Refusal.{BadArea, ClearArray}
use Rattle.ic_machine.specs.Reply.{Reply, TextField, text_field}
use Rattle.ic_machine.specs.Step.{outcome_of}
use Rattle.ic_machine.specs.subjects.Arrays.{clear_step}
use Rattle.ic_machine.specs.subjects.Reading.{formatted_content, formatted_step}
use Rattle.ic_machine.proofs.as_core.CoreLemmas.{no_cells}
use Rattle.ic_machine.proofs.examples.OneSheet.{by_grid, input_done, one_cell, one_entry, put_first, sheet_with, with_first}
use Rattle.ic_machine.proofs.examples.Session.{answers, done, next, step}
use Rattle.ic_machine.proofs.examples.Small.{start}

-- the first cell, which holds something or nothing
abbrev place : CellPlace
place = (pos 1, pos 1)

abbrev block : Block
block = record { row = pos 1; column = pos 1; width = pos 1; height = pos 1 }

abbrev dollars : Style
dollars = with_format (codes "#,##0$") default_style

abbrev plain : List Style
plain = default_style ∷ []

abbrev styles : List Style
styles = default_style ∷ dollars ∷ []

abbrev book : Contents Content → List Style → Book
book contents styles = with_first start [] (sheet_with [] contents) styles

abbrev ten : ℕ → Content
ten style = NumContent (pos 10000000000) style

abbrev hundred : Content
hundred = NumContent (pos 100000000000) 1

dollars_typed : typed_in start (codes "100$") ≡ kinds.Number (pos 100000000000) (Some (codes "#,##0$"))
unfolding typing.typed unsigned_number from_digits
dollars_typed = refl

ten_typed : typed_in start (codes "10") ≡ kinds.Number (pos 10000000000) None
unfolding typing.typed unsigned_number from_digits
ten_typed = refl

-- ---- a number with a symbol

typed_dollars : step start (codes "set_user_input\t0\t1\t1\t100$") ≡ (book (one_cell place hundred) styles, Ok [])
unfolding step commands is_style
typed_dollars =
    ap (outcome_of start)
    (input_done start [] (sheet_with [] finite.empty) plain place (codes "100$") (kinds.Number (pos 100000000000) (Some (codes "#,##0$"))) 0 (one_cell place hundred) dollars_typed
    (simp (finite.get-empty)) (simp (finite.get-empty)) (put_first place hundred))

-- ---- it is cleared

no_cut : (amount : ℤ) (style : ℕ) → has_cut held (one_cell place (NumContent amount style)) block ≡ false
unfolding is_between
no_cut amount style =
    ap (λ (es : List Entry). list_any (λ p. is_in_block block p && is_cut_by block (array_at held (one_cell place (NumContent amount style)) p)) (map (λ (e : Entry). e.0) es)) (one_entry place (NumContent amount style))
    ∙ simp (finite.gets, place_cmp_total)

emptied : cleared held block false (one_cell place hundred) ≡ one_cell place (EmptyContent 1)
unfolding remade is_between
emptied = ap (remade_entries (cleared_cell held (one_cell place hundred) block false)) (one_entry place hundred)

contents_cleared : step (book (one_cell place hundred) styles) (codes "range_clear_contents\t0\t1\t1\t1\t1") ≡ (book (one_cell place (EmptyContent 1)) styles, Ok [])
unfolding step commands on_grid clear_step is_span_within
contents_cleared =
    ap₂ (λ (cut : Bool) (contents : Contents Content). by_grid start [] (sheet_with [] (one_cell place hundred)) styles
    (unless_refused ((false, BadArea) ∷ (cut, ClearArray) ∷ []) (record empty_grid { contents = contents }) [])) (no_cut (pos 100000000000) 1) emptied

-- ---- another number, in the style that stayed

typed_again : step (book (one_cell place (EmptyContent 1)) styles) (codes "set_user_input\t0\t1\t1\t10") ≡ (book (one_cell place (ten 1)) styles, Ok [])
unfolding step commands is_style
typed_again =
    ap (outcome_of (book (one_cell place (EmptyContent 1)) styles))
    (input_done start [] (sheet_with [] (one_cell place (EmptyContent 1))) styles place (codes "10") (kinds.Number (pos 10000000000) None) 1 (one_cell place (ten 1)) ten_typed
    (simp (finite.gets, place_cmp_total)) (simp (finite.gets, place_cmp_total))
    (finite.same_entries_map _ _ (simp (finite.gets, place_cmp_total, finite.entries-insert, no_cells))))

ten_there : (style : ℕ) → finite.get (one_cell place (ten style)) place ≡ Some (ten style)
ten_there style = simp (finite.gets, place_cmp_total)

-- what is told of the formatted value of the cell, by what it holds
abbrev told : ℕ → Option Content → Book × Reply
told style o =
    let left : Book = book (one_cell place (ten style)) styles in
    outcome_of left (unless_refused [] left (text_field (option_map_or (formatted_content left) o [])))

told_dollars : step (book (one_cell place (ten 1)) styles) (codes "get_formatted_cell_value\t0\t1\t1") ≡ (book (one_cell place (ten 1)) styles, Ok (TextField (codes "10$") ∷ []))
unfolding step commands formatted_step formatted number_code digits
told_dollars = ap (told 1) (ten_there 1)

-- ---- all is cleared, the style too

taken : cleared held block true (one_cell place (ten 1)) ≡ finite.empty
unfolding remade is_between
taken = ap (remade_entries (cleared_cell held (one_cell place (ten 1)) block true)) (one_entry place (ten 1)) ∙ finite.empty_of_len _ (simp (finite.gets, place_cmp_total))

all_cleared : step (book (one_cell place (ten 1)) styles) (codes "range_clear_all\t0\t1\t1\t1\t1") ≡ (book finite.empty styles, Ok [])
unfolding step commands on_grid clear_step is_span_within
all_cleared =
    ap₂ (λ (cut : Bool) (contents : Contents Content). by_grid start [] (sheet_with [] (one_cell place (ten 1))) styles
    (unless_refused ((false, BadArea) ∷ (cut, ClearArray) ∷ []) (record empty_grid { contents = contents }) [])) (no_cut (pos 10000000000) 1) taken

typed_plain : step (book finite.empty styles) (codes "set_user_input\t0\t1\t1\t10") ≡ (book (one_cell place (ten 0)) styles, Ok [])
unfolding step commands is_style
typed_plain =
    ap (outcome_of (book finite.empty styles))
    (input_done start [] (sheet_with [] finite.empty) styles place (codes "10") (kinds.Number (pos 10000000000) None) 0 (one_cell place (ten 0)) ten_typed
    (simp (finite.get-empty)) (simp (finite.get-empty)) (put_first place (ten 0)))

told_plain : step (book (one_cell place (ten 0)) styles) (codes "get_formatted_cell_value\t0\t1\t1") ≡ (book (one_cell place (ten 0)) styles, Ok (TextField (codes "10") ∷ []))
unfolding step commands formatted_step formatted number_code digits fraction_digits
told_plain = ap (told 0) (ten_there 0)

-- a number that is typed with a symbol leaves a style which stays where its contents are cleared, and goes with all
typed_and_cleared : answers start
    (codes "set_user_input\t0\t1\t1\t100$" ∷ codes "range_clear_contents\t0\t1\t1\t1\t1" ∷ codes "set_user_input\t0\t1\t1\t10" ∷ codes "get_formatted_cell_value\t0\t1\t1"
    ∷ codes "range_clear_all\t0\t1\t1\t1\t1" ∷ codes "set_user_input\t0\t1\t1\t10" ∷ codes "get_formatted_cell_value\t0\t1\t1" ∷ [])
    ≡ codes "ok" ∷ codes "ok" ∷ codes "ok" ∷ codes "ok\t10$" ∷ codes "ok" ∷ codes "ok" ∷ codes "ok\t10" ∷ []
typed_and_cleared =
    next _ _ _ _ _ _ typed_dollars (next _ _ _ _ _ _ contents_cleared (next _ _ _ _ _ _ typed_again (next _ _ _ _ _ _ told_dollars
    (next _ _ _ _ _ _ all_cleared (next _ _ _ _ _ _ typed_plain (next _ _ _ _ _ _ told_plain (done _)))))))
