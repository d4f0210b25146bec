use Rattle.std.proofs.Common.{take}
use Rattle.ic_pool.specs.MentionPlaces.{HasAt, KeepsAll}
use Rattle.ic_pool.proofs.mention_index.TopicPlaces.put_all.Given as goal

abbrev pub invariant-loop-topic : goal.invariant-loop-topic
invariant-loop-topic l = record { noted : HasAt l.self l.at (take l.topic-index l.topics); kept : KeepsAll l.initial.self l.self }
