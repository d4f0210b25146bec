use Rattle.std.proofs.lemmas.Str.{IsUtf8-string_bytes}
use Rattle.ic_laws.proofs.TextLemmas.{bytes_eq_chars}
use Rattle.ic_laws.proofs.text.TextPartialEq.eq.Goals as goal

pub returns : goal.returns
returns c =
    let same = bytes_eq_chars _ _ (IsUtf8-string_bytes c.self.inside.inner) (IsUtf8-string_bytes c.other.inside.inner) in
    cc (same, c.self.view_is, c.other.view_is, c.eq.ensures)
