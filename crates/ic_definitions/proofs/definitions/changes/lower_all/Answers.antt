use Rattle.std.proofs.Common.{encode_utf8_all, rules}
use Rattle.std.specs.BTreeMap.{is_at}
use Rattle.std.proofs.lemmas.Map.Made.{lookup-map_values, map_same_pairs}
use Rattle.ic_definitions.specs.Named.{key_cmp, lowered}
use Rattle.ic_definitions.proofs.definitions.changes.lower_all.Goals as goal

pub returns : goal.returns
returns c =
    let e = map_same_pairs _ (lowered c.args.index) _ (λ k v b w f' t. search rules) _ _ c.retain.ensures.filtered in
    λ q. rw e (lookup-map_values (lowered c.args.index) (is_at (key_cmp (encode_utf8_all q.name) q.scope)) c.args.places.now.entries)
