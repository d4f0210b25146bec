-- Whether a text, written after `=` in English, isn't kept as it is.
use Rattle.std.proofs.Common.{◌≡◌, ◌++◌, ◌∙◌, ℕ, List, None, Some, ap, codes, false, length, nat_eq, refl, sym, true}
use Rattle.std.specs.Prelude.{Option, is_some}
use Rattle.std.specs.Option.{option_or}
use Rattle.ic_laws.specs.CoreBook.{CellPlace}
use Rattle.ic_laws.specs.Dialect.{DialectMeaning}
use Rattle.ic_laws.specs.Notations.{Notations, english}
use Rattle.ic_laws.specs.ReadAs.{read_as}
use Rattle.ic_dump.specs.Refused.{is_read}

pub nothing_read : (n : Notations) (place : CellPlace) (text : List ℕ) → nat_eq (length text) 0 ≡ true → true ≡ is_read n place text
nothing_read n place text h = rw h refl

first_read : {A : Type 0} (a b : Option A) → is_some a ≡ true → true ≡ is_some (option_or a b)
first_read None b h = cc
first_read (Some x) b h = refl

second_read : {A : Type 0} (a b : Option A) → is_some a ≡ false → is_some b ≡ is_some (option_or a b)
second_read None b h = refl
second_read (Some x) b h = cc

pub plain_read : (n : Notations) (place : CellPlace) (text : List ℕ) (d : DialectMeaning) → d ≡ n.shown english english place.0 place.1 → nat_eq (length text) 0 ≡ false → is_some (read_as d text) ≡ true → true ≡ is_read n place text
plain_read n place text d same h reads =
    let now = n.shown english english place.0 place.1 in
    rw h (first_read (read_as now text) (read_as now (text ++ codes ")")) (ap (λ m. is_some (read_as m text)) (sym same) ∙ reads))

pub closed_read : (n : Notations) (place : CellPlace) (text : List ℕ) (d : DialectMeaning) → d ≡ n.shown english english place.0 place.1 → nat_eq (length text) 0 ≡ false → is_some (read_as d text) ≡ false → is_some (read_as d (text ++ codes ")")) ≡ is_read n place text
closed_read n place text d same h unread =
    let now = n.shown english english place.0 place.1 in
    ap (λ m. is_some (read_as m (text ++ codes ")"))) same
    ∙ rw h (second_read (read_as now text) (read_as now (text ++ codes ")")) (ap (λ m. is_some (read_as m text)) (sym same) ∙ unread))
