use Rattle.std.proofs.Common.{◌≡◌, ◌+◌, ◌<◌, ◌∙◌, ap, arith, length, option_map, suc}
use Rattle.ic_laws.specs.Scene.{same_key}
use Rattle.ic_definitions.specs.Named.{index_with_key, key_in, place_at, raised}
use Rattle.ic_definitions.proofs.HeldKeys.{same_held}
use Rattle.ic_definitions.proofs.LoweredPlaces.{next_placed, none_raised, placed}
use Rattle.ic_definitions.proofs.definitions.changes.renumber.Goals as goal

pub loop-at-preserved : goal.loop-at-preserved
loop-at-preserved c = λ q.
    let ds = c.args.definitions.now in
    let at = c.loop-at.at in
    let d = c.index-definitions-at.result in
    let lt : at < length ds = omega arith in
    let next : suc at ≡ at + 1 = omega arith in
    c.replace_place.ensures q
    ∙ ap (λ b. placed b at (place_at c.loop-at.places q)) (same_held (key_in d) q c.write_key.new.key c.in-Ok.ensures)
    ∙ ap (placed (same_key (key_in d) q) at) (c.loop-at.invariant q)
    ∙ next_placed ds at d lt c.index-definitions-at.is c.requires.differ q
    ∙ ap (λ n. option_map (raised n) (index_with_key q ds)) next

pub returns : goal.returns
returns c = λ q.
    let ds = c.args.definitions.now in
    let end : c.loop-at.at ≡ length ds = omega arith in
    c.loop-at.invariant q ∙ none_raised ds c.loop-at.at q end
