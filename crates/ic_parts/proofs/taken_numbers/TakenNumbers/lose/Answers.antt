use Rattle.std.proofs.Common.{chars, ◌∙◌}
use Rattle.ic_parts.proofs.LoweredNotes.{knows_left, knows_lost, knows_renamed}
use Rattle.ic_parts.proofs.taken_numbers.TakenNumbers.lose.Goals as goal

pub lower_copies-requires : goal.lower_copies-requires
lower_copies-requires c = c.as_str-2.ensures.value ∙ c.in-Ok.ensures

pub returns-clause-kept : goal.returns-clause-kept
returns-clause-kept c = λ names all.
    let gone = chars c.args.name.now in
    knows_left gone names names (λ q apart e. e) c.args.self.now _
    (record { words = c.lower_words.ensures gone (c.as_str.ensures.value ∙ c.in-Ok.ensures); copies = c.lower_copies.ensures names all.copies }) all

pub returns-clause-lost : goal.returns-clause-lost
returns-clause-lost c = λ names index at all.
    let gone = chars c.args.name.now in
    knows_lost gone names index at c.args.self.now _
    (record { words = c.lower_words.ensures gone (c.as_str.ensures.value ∙ c.in-Ok.ensures); copies = c.lower_copies.ensures names all.copies }) all

pub returns-clause-renamed : goal.returns-clause-renamed
returns-clause-renamed c = λ names index called at all.
    let gone = chars c.args.name.now in
    knows_renamed gone names index at c.args.self.now _
    (record { words = c.lower_words.ensures gone (c.as_str.ensures.value ∙ c.in-Ok.ensures); copies = c.lower_copies.ensures names all.copies }) all called

pub returns-in_default-clause-kept : goal.returns-in_default-clause-kept
returns-in_default-clause-kept c = λ names all. c.forget.ensures names

pub returns-in_default-clause-lost : goal.returns-in_default-clause-lost
returns-in_default-clause-lost c = λ names index at all. c.forget.ensures _

pub returns-in_default-clause-renamed : goal.returns-in_default-clause-renamed
returns-in_default-clause-renamed c = λ names index called at all. c.forget.ensures _
