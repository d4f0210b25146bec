-- What a dialect reads it can spell.
use Rattle.std.specs.Prelude.{◌≡◌, ℕ, List, true, Some, IsSome}
use Rattle.ic_laws.specs.Dialect.{DialectMeaning}
use Rattle.ic_laws.specs.declared.dialect.WordKind.{WordKind}
use Rattle.ic_laws.specs.declared.reference.RefToken.{RefToken}

-- each reference that is read can be spelled, and each number that is found has a word
pub record SpellsWhatItReads (d : DialectMeaning) : Type 0 where
  pub references : (text rest : List ℕ) (r : RefToken) → d.read_ref text ≡ Some (r, rest) → d.can_spell r ≡ true
  pub words : (kind : WordKind) (text : List ℕ) (n : ℕ) → d.find kind text ≡ Some n → IsSome (d.word kind n)
