use Rattle.std.proofs.Common.{◌≡◌, List, ℕ, chars, option_and_then, option_map, position, sym, ap, ◌∙◌}
use Rattle.ic_laws.specs.CoreStep.{index_of_name}
use Rattle.ic_laws.specs.Name.{agrees}
use Rattle.ic_laws.specs.Scan.{past_run, run_of}
use Rattle.ic_laws.proofs.RunLemmas.{ends_with_rest, run_before_rest}
use Rattle.ic_machine.specs.Parsed.{is_no_bang, parsed_place}
use Rattle.ic_sheets.specs.declared.sheet.Sheet.{Sheet as HeldSheet}
use Rattle.ic_parts.specs.Book.{ModelState, core_of}
use Rattle.ic_parts.specs.References.{parsed_of}
use Rattle.ic_parts.proofs.HeldLemmas.{found_by_name}
use Rattle.ic_book.proofs.model.Model.parsed.Goals as goal

pub front_of-requires : goal.front_of-requires
front_of-requires c = ends_with_rest is_no_bang (chars c.args.text.now) (chars c.past_name-rest.result.now) c.past_name-rest.ensures

pub returns-in_err-index-clause-parsed : goal.returns-in_err-index-clause-parsed
returns-in_err-index-clause-parsed c =
    let text = chars c.args.text.now in
    let front : chars c.front_of.result.now ≡ run_of is_no_bang text = run_before_rest is_no_bang text (chars c.front_of.result.now) (chars c.past_name-rest.result.now) c.past_name-rest.ensures c.front_of.ensures in
    ap (option_map parsed_of) c.from_residual.ensures
    ∙ sym (ap (option_and_then (λ n. parsed_place n (past_run is_no_bang text)))
    (ap (λ (m : ModelState). index_of_name (core_of m.book) (run_of is_no_bang text)) (sym c.self.view_is) ∙ sym (found_by_name c.self.inside.contents.sheets (run_of is_no_bang text))
    ∙ ap (λ (name : List ℕ). position (λ (s : HeldSheet). agrees s.name name) c.self.inside.contents.sheets) (sym front) ∙ sym c.index_of_name.ensures ∙ c.in_err-index.was))

pub returns-clause-parsed : goal.returns-clause-parsed
returns-clause-parsed c =
    let text = chars c.args.text.now in
    let front : chars c.front_of.result.now ≡ run_of is_no_bang text = run_before_rest is_no_bang text (chars c.front_of.result.now) (chars c.past_name-rest.result.now) c.past_name-rest.ensures c.front_of.ensures in
    c.place_after.ensures ∙ ap (parsed_place c.in_ok-index.index) c.past_name-rest.ensures
    ∙ sym (ap (option_and_then (λ n. parsed_place n (past_run is_no_bang text)))
    (ap (λ (m : ModelState). index_of_name (core_of m.book) (run_of is_no_bang text)) (sym c.self.view_is) ∙ sym (found_by_name c.self.inside.contents.sheets (run_of is_no_bang text))
    ∙ ap (λ (name : List ℕ). position (λ (s : HeldSheet). agrees s.name name) c.self.inside.contents.sheets) (sym front) ∙ sym c.index_of_name.ensures ∙ c.in_ok-index.was))
