use Rattle.std.proofs.Common.{◌≡◌, ◌∷◌, ◌==◌, ℕ, List, [], Bool, true, false, None, Some, option_and_then, chars, refl, sym, ◌∙◌, ap, if◌then◌else◌}
use Rattle.ic_laws.specs.Name.{needs_quotes}
use Rattle.ic_laws.specs.Scan.{first_is, is_plain, past_run, run_of}
use Rattle.ic_laws.specs.SheetText.{before_bang}
use Rattle.ic_laws.proofs.RunLemmas.{ends_with_rest, run_before_rest}
use Rattle.ic_refs.proofs.sheet.plain_sheet.Goals as goal

pub front_of-inside-requires : goal.front_of-inside-requires
front_of-inside-requires c = ends_with_rest is_plain (chars c.args.text.now) (chars c.past_plain-rest.result.now) c.past_plain-rest.ensures

no_bang : (quotes : Bool) (name rest : List ℕ) → first_is (λ c. c == 33) rest ≡ false
    → option_and_then (λ (f : List ℕ × List ℕ). before_bang f.0 f.1) (if quotes then None else Some (name, rest)) ≡ None
no_bang true name rest h = refl
no_bang false name [] h = refl
no_bang false name (c ∷ cs) h = rw h refl

pub returns-then-not-begins_with : goal.returns-then-not-begins_with
returns-then-not-begins_with c =
    let text = chars c.args.text.now in
    let none : first_is (λ c. c == 33) (past_run is_plain text) ≡ false =
    ap (first_is (λ c. c == 33)) (sym c.past_plain-rest.ensures) ∙ sym c.begins_with.ensures ∙ c.if-not-begins_with.true in
    sym (no_bang (needs_quotes (run_of is_plain text)) (run_of is_plain text) (past_run is_plain text) none)

pub returns-then-needs_quotes : goal.returns-then-needs_quotes
returns-then-needs_quotes c =
    let text = chars c.args.text.now in
    let run = run_before_rest is_plain text (chars c.front_of-inside.result.now) (chars c.past_plain-rest.result.now) c.past_plain-rest.ensures c.front_of-inside.ensures in
    let quotes : needs_quotes (run_of is_plain text) ≡ true = ap needs_quotes (sym run) ∙ sym c.needs_quotes.ensures ∙ c.if-needs_quotes.true in
    rw quotes refl

pub returns : goal.returns
returns c =
    let text = chars c.args.text.now in
    let run = run_before_rest is_plain text (chars c.front_of-inside.result.now) (chars c.past_plain-rest.result.now) c.past_plain-rest.ensures c.front_of-inside.ensures in
    let quotes : needs_quotes (run_of is_plain text) ≡ false = ap needs_quotes (sym run) ∙ sym c.needs_quotes.ensures ∙ c.if-needs_quotes.false in
    c.before_bang.ensures ∙ rw quotes (rw (sym run, sym c.past_plain-rest.ensures) refl)
