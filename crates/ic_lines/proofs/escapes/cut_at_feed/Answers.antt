use Rattle.std.proofs.Common.{◌≡◌, ◌-◌, ◌+◌, ◌++◌, ◌∷◌, List, ℕ, ap, arith, chars, drop, subst, sym, take, ◌∙◌}
use Rattle.ic_lines.specs.Reading.{IsFirstLineFeed}
use Rattle.ic_lines.proofs.EscapeLemmas.{after_feed, cut_chars}
use Rattle.ic_lines.proofs.escapes.cut_at_feed.Goals as goal

pub range_from-requires : goal.range_from-requires
range_from-requires c some =
    after_feed c.args.text.now c.in-Some.place c.utf8.text (subst (λ bytes. IsFirstLineFeed bytes c.in-Some.place) c.as_bytes.ensures.value c.in-Some.ensures)

pub returns-in-Some-clause-parts : goal.returns-in-Some-clause-parts
returns-in-Some-clause-parts c =
    let found = subst (λ bytes. IsFirstLineFeed bytes c.in-Some.place) c.as_bytes.ensures.value c.in-Some.ensures in
    let all : c.in-Some.place - 0 ≡ c.in-Some.place = omega arith in
    cut_chars c.args.text.now c.in-Some.place c.utf8.text found
    ∙ ap (λ (b : List ℕ). chars b ++ 10 ∷ chars (drop (c.in-Some.place + 1) c.args.text.now)) (sym (c.range.ensures.value ∙ ap (λ n. take n c.args.text.now) all))
    ∙ ap (λ (b : List ℕ). chars c.range.result.now ++ 10 ∷ chars b) (sym c.range_from.ensures.value)
