use Rattle.std.proofs.Common.{rules, not, nat_eq}
use Rattle.std.proofs.lemmas.Map.Made.{filter_same_pairs}
use Rattle.ic_sheets.proofs.KeyLemmas.{key_gone}
use Rattle.ic_sheets.proofs.sheets.edits.take_id.Goals as goal

pub returns : goal.returns
returns c =
    let kept = filter_same_pairs _ (λ e. not (nat_eq e.1 c.args.id)) _ (λ k v b w f' t. search rules) _ _ c.retain.ensures.filtered in
    key_gone c.args.ids.now c.retain.new.self c.args.id c.retain.ensures.was_ordered kept
