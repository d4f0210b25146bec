use Rattle.std.proofs.Common.{◌≡◌, ◌∙◌, ◌++◌, ◌∷◌, [], ap, ap₂, sym, subst, OnOk}
use Rattle.ic_pool.specs.Bytes.{text_bytes}
use Rattle.ic_pool.specs.Code.{part_numbers, place_numbers, sheet_id, sheet_kind}
use Rattle.ic_pool.proofs.WriteLemmas.{two_written}
use Rattle.ic_pool.proofs.code.tree.write_reference.Goals as goal

pub returns-in_ok-extend-in-Range : goal.returns-in_ok-extend-in-Range
returns-in_ok-extend-in-Range c =
    let key = c.args.key.now in
    let parts = part_numbers c.in-Range.p ++ part_numbers c.in-Range.q in
    subst (λ xs. OnOk c.write_parts.result (c.write_parts.new.key ≡ xs))
    (two_written key _ (16 ∷ 4 ∷ c.mention_of-mention.result ∷ c.id_of-id.result ∷ 1 ∷ []) parts c.in_ok-extend-in-Range.ensures
    ∙ ap₂ (λ a b. key ++ text_bytes (4 ∷ a ∷ b ∷ 1 ∷ parts)) c.mention_of-mention.ensures c.id_of-id.ensures
    ∙ ap (λ x. key ++ text_bytes (4 ∷ sheet_kind c.args.sheet.now ∷ sheet_id c.args.sheet.now ∷ place_numbers x)) (sym c.in-Range.is)) c.write_parts.ensures
