use Rattle.std.proofs.Common.{◌-◌, chars, length, string_bytes, ap, ◌∙◌}
use Rattle.ic_parts.proofs.NumberedTexts.{copy_put}
use Rattle.ic_parts.proofs.sheet_names.put_copy_name.Goals as goal

pub returns : goal.returns
returns c =
    copy_put c.push_suffix-2.result (chars c.args.source.now) c.args.number c.saturating_sub-room.result
    (string_bytes c.args.text.now) (string_bytes c.clear.new.self) _ _ c.requires
    (c.saturating_sub-room.ensures ∙ ap (λ k. 31 - k) (ap length c.as_str.ensures.value ∙ c.in_ok-push_suffix.ensures.len))
    c.clear.ensures.bytes c.in_ok-push_front.ensures c.push_suffix-2.ensures.chars
