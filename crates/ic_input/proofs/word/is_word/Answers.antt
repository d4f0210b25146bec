use Rattle.std.proofs.Common.{◌==◌, slice_get, ap, refl, sym, ◌∙◌}
use Rattle.std.specs.Char.{to_ascii_lowercase}
use Rattle.ic_input.proofs.ApartLemmas.{apart_first}
use Rattle.ic_input.proofs.word.is_word.Goals as goal

pub returns-in-Some : goal.returns-in-Some
returns-in-Some c =
    let of_word = ap (λ bytes. slice_get bytes 0) (sym c.as_bytes.ensures.value) ∙ sym c.in-Some.ensures.value in
    let apart = ap (λ low. to_ascii_lowercase c.in-Some.byte.now == low) c.requires.lower ∙ (c.if-is_apart.ensures.apart refl) in
    sym (apart_first c.args.word.now c.args.text.now _ _ c.utf8.word c.utf8.text of_word c.requires.is (c.if-is_apart.ensures.ascii refl) c.requires.ascii apart)
