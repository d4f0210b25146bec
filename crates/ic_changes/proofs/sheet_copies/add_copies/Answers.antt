use Rattle.std.proofs.Common.{List, ◌++◌, ap, ◌∙◌}
use Rattle.ic_laws.specs.CoreBook.{Definition}
use Rattle.ic_definitions.specs.Bodies.{with_bodies}
use Rattle.ic_sheets.proofs.RewritingLemmas.{sheet_there}
use Rattle.ic_changes.proofs.CopiedContents.{bodies_are, bodies_fit, put_apart}
use Rattle.ic_changes.proofs.sheet_copies.add_copies.Goals as goal

pub put_bodies-requires : goal.put_bodies-requires
put_bodies-requires c =
    let there = sheet_there c.args.contents.now.sheets c.args.index c.requires.within in
    bodies_fit _ c.args.copies c.args.copies c.in_ok-filling.own_bodies.items (c.in_ok-filling.ensures.bodies there.0 there.1)

pub append-requires-clause-apart : goal.append-requires-clause-apart
append-requires-clause-apart c =
    let there = sheet_there c.args.contents.now.sheets c.args.index c.requires.within in
    put_apart _ c.args.copies c.put_bodies.new.definitions c.in_ok-filling.own_bodies.items (c.in_ok-filling.ensures.bodies there.0 there.1) c.put_bodies.ensures c.args.contents.now.definitions c.requires.apart

pub returns-clause-definitions : goal.returns-clause-definitions
returns-clause-definitions c = λ source at.
    c.in_ok-append.ensures.ok
    ∙ ap (λ (ds : List Definition). with_bodies c.args.bodies.bodies.items c.args.contents.now.definitions ++ ds)
    (bodies_are _ c.args.copies c.put_bodies.new.definitions c.in_ok-filling.own_bodies.items (c.in_ok-filling.ensures.bodies source at) c.put_bodies.ensures)
