-- A sheet's name as it is written: plain, or what stands between quotes, with each quote doubled.
use Rattle.std.specs.Prelude.{◌≡◌, ℕ, List, [], ◌∷◌, ◌++◌, Option, Some, None, chars, if◌then◌else◌}
use Rattle.ic_laws.specs.Character.{quote}
use Rattle.ic_laws.specs.Name.{needs_quotes}
use Rattle.ic_laws.specs.Scan.{is_plain, run_of, past_run}
use Rattle.ic_laws.specs.SheetText.{name_in_quotes, is_quote}
use Rattle.ic_refs.specs.declared.written.Quoting.{Quoting}
use Rattle.ic_refs.specs.declared.written.Quoting.TheVariants as quotings
use Rattle.ic_refs.specs.declared.written.WrittenName.{WrittenName}

-- each doubled quote as one
abbrev pub undoubled : List ℕ → List ℕ
undoubled [] = []
undoubled (c ∷ []) = c ∷ []
undoubled (c ∷ d ∷ cs) = if is_quote c then quote ∷ undoubled cs else c ∷ undoubled (d ∷ cs)

-- the name that is written so
abbrev pub spelled : Quoting → List ℕ → List ℕ
spelled quotings.Plain cs = cs
spelled quotings.Doubled cs = undoubled cs

abbrev pub name_of : WrittenName → List ℕ
name_of written = spelled written.quoting (chars written.inside.now)

-- the plain name at the front, and the rest
abbrev pub plain_name : List ℕ → Option (List ℕ × List ℕ)
plain_name text = if needs_quotes (run_of is_plain text) then None else Some (run_of is_plain text, past_run is_plain text)

-- after an opening quote, the quote that closes the name stands at the front of the second text
pub record ClosesAt (text closing : List ℕ) : Type 0 where
  pub inside : List ℕ
  pub rest : List ℕ
  pub whole : text ≡ inside ++ closing
  pub quote : closing ≡ quote ∷ rest
  pub read : name_in_quotes text ≡ Some (undoubled inside, rest)
