use Rattle.std.proofs.Common.{◌≡◌, ◌∙◌, ◌++◌, ◌∷◌, List, ℕ, ap, flat_map, map, string_bytes, sym}
use Rattle.std.proofs.lemmas.List.{nil_from_length}
use Rattle.std.specs.Str.{chars}
use Rattle.ic_laws.specs.Character.{tab}
use Rattle.ic_laws.specs.Lines.{escaped}
use Rattle.ic_machine.specs.Translation.{line_of}
use Rattle.ic_dump.proofs.lines.joined.Goals as goal

pub returns-in_default : goal.returns-in_default
unfolding chars
returns-in_default c =
    ap chars c.in_ok-text.ensures.bytes ∙ sym (ap (λ xs. line_of (map (λ t. chars t.now) xs)) (nil_from_length c.args.texts.now c.in_default.ensures.cases))

pub returns : goal.returns
unfolding chars
returns c =
    let front : chars (string_bytes c.push_escaped.new.word) ≡ escaped (chars c.in-Some.first.now.now) =
    c.in_ok-push_escaped.ensures ∙ ap (λ (b : List ℕ). chars b ++ escaped (chars c.in-Some.first.now.now)) c.in_ok-text.ensures.bytes in
    c.in_ok-push_others.ensures
    ∙ ap (λ (t : List ℕ). t ++ flat_map (λ (t : List ℕ). tab ∷ escaped t) (map (λ t. chars t.now) c.in-Some.others.now)) front
    ∙ sym (ap (λ xs. line_of (map (λ t. chars t.now) xs)) c.in-Some.ensures.cases.0)
