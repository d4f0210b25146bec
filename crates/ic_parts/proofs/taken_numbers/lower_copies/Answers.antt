use Rattle.std.proofs.Common.{List, Option, ℕ, Some, chars, rules, subst}
use Rattle.ic_machine.specs.subjects.Sheets.{copy_name}
use Rattle.ic_parts.specs.SheetNames.{IsOnlyNumber}
use Rattle.ic_parts.proofs.LoweredNotes.{notes_lowered, notes_stay}
use Rattle.ic_parts.proofs.taken_numbers.lower_copies.Goals as goal

pub returns-in_default : goal.returns-in_default
returns-in_default c = λ names all.
    let gone = chars c.args.name.now in
    notes_stay (λ source. copy_name (chars source)) gone c.args.notes.now names all
    (λ source. subst (λ (o : Option ℕ). IsOnlyNumber (copy_name (chars source)) gone o) c.in_default.is
    (c.number_in_brackets.ensures (chars source) gone c.requires))

pub returns : goal.returns
returns c = λ names all.
    let gone = chars c.args.name.now in
    let only : (source : List ℕ) → IsOnlyNumber (copy_name source) gone (Some c.in-Some.number) =
    λ source. subst (λ (o : Option ℕ). IsOnlyNumber (copy_name source) gone o) c.in-Some.is (c.number_in_brackets.ensures source gone c.requires) in
    notes_lowered (λ source. copy_name (chars source)) gone _ _ (λ k v b w f' t. search (rules, only))
    c.args.notes.now c.retain.new.self c.retain.ensures.filtered
