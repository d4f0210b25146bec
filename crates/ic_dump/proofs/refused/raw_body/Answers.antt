use Rattle.std.proofs.Common.{◌≡◌, ◌<◌, ◌∙◌, Some, ap, arith, false, length, option_map, rules, slice_get, sym, true}
use Rattle.std.specs.Option.{option_map_or}
use Rattle.ic_laws.specs.CoreBook.{Definition, spelling_of}
use Rattle.ic_laws.specs.Scene.{key_of}
use Rattle.ic_workbooks.specs.Workbook.{defined_name_of}
use Rattle.ic_dump.specs.Records.{name_seen}
use Rattle.ic_dump.specs.Refused.{is_raw}
use Rattle.ic_dump.proofs.CellLemmas.{one_there, record_at, record_is}
use Rattle.ic_dump.proofs.RefusedLemmas.{passes_here, passes_not}
use Rattle.ic_dump.proofs.refused.raw_body.Goals as goal

pub returns-then-is_raw_at : goal.returns-then-is_raw_at
returns-then-is_raw_at c =
    let b = c.args.model.now.book in
    let ds = b.definitions in
    let i = c.loop-index.index in
    let w = c.index-definitions-index.result in
    let below : i < length c.args.definitions.now = search (rules, arith) in
    let there = record_at (defined_name_of b) ds c.args.definitions.now i w c.requires below c.index-definitions-index.is in
    let its = one_there (defined_name_of b) (slice_get ds i) w there in
    let passes : is_raw its.0.body ≡ true = sym (c.is_raw_at.ensures ∙ ap (λ o. option_map_or (λ (d : Definition). is_raw d.body) o false) its.1) ∙ c.if-is_raw_at.true in
    ap Some (c.in_ok-key_of.ensures ∙ ap (λ x. key_of (name_seen x)) (record_is (defined_name_of b) (slice_get ds i) its.0 w its.1 there))
    ∙ sym (ap (option_map (λ d. key_of (spelling_of d))) (passes_here (λ (d : Definition). is_raw d.body) ds i its.0 _ its.1 passes c.loop-index.invariant))

pub loop-index-preserved : goal.loop-index-preserved
loop-index-preserved c =
    let b = c.args.model.now.book in
    let ds = b.definitions in
    let i = c.loop-index.index in
    let w = c.index-definitions-index.result in
    let below : i < length c.args.definitions.now = search (rules, arith) in
    let its = one_there (defined_name_of b) (slice_get ds i) w (record_at (defined_name_of b) ds c.args.definitions.now i w c.requires below c.index-definitions-index.is) in
    let fails : is_raw its.0.body ≡ false = sym (c.is_raw_at.ensures ∙ ap (λ o. option_map_or (λ (d : Definition). is_raw d.body) o false) its.1) ∙ c.if-is_raw_at.false in
    passes_not (λ (d : Definition). is_raw d.body) ds i its.0 _ its.1 fails c.loop-index.invariant
