use Rattle.std.proofs.Common.{◌≡◌, ◌∙◌, ◌++◌, ◌∷◌, List, ℕ, [], ap, flat_map, string_bytes, sym}
use Rattle.std.proofs.lemmas.List.{nil_from_length}
use Rattle.std.specs.Str.{chars}
use Rattle.ic_laws.specs.Character.{tab}
use Rattle.ic_laws.specs.Lines.{escaped}
use Rattle.ic_machine.specs.Translation.{line_of}
use Rattle.ic_run.proofs.retold.joined.Goals as goal

pub returns-in_default : goal.returns-in_default
unfolding chars
returns-in_default c =
    let none : c.args.texts.now ≡ [] = nil_from_length c.args.texts.now c.in_default.ensures.cases in
    ap chars c.new-text.ensures.bytes ∙ sym (ap line_of none)

pub returns : goal.returns
unfolding chars
returns c =
    let some : c.args.texts.now ≡ c.in-Some.first.now ∷ c.in-Some.others.now = c.in-Some.ensures.cases.0 in
    let front : chars (string_bytes c.push_escaped.new.word) ≡ escaped c.in-Some.first.now =
    c.in_ok-push_escaped.ensures ∙ ap (λ (b : List ℕ). chars b ++ escaped (chars c.as_str.result.now)) c.new-text.ensures.bytes ∙ ap escaped c.as_str.ensures.characters in
    c.in_ok-push_others.ensures ∙ ap (λ (t : List ℕ). t ++ flat_map (λ (t : List ℕ). tab ∷ escaped t) c.in-Some.others.now) front ∙ sym (ap line_of some)
