-- A valid book in another notation is valid, if its tables have that.
use Rattle.std.proofs.Common.{◌≡◌, ℕ, List, true, sym, subst}
use Rattle.ic_machine.specs.Book.{Book, notations_in}
use Rattle.ic_machine.specs.Translation.{in_notation}
use Rattle.ic_machine.specs.TranslationLaws.{IsBeside}
use Rattle.ic_machine.specs.Valid.{IsValidBook}
use Rattle.ic_machine.proofs.valid.SubjectsStay.{with_notation}

pub twin_valid : (locale language : List ℕ) (book other : Book) → IsBeside locale language book other → IsValidBook (in_notation other.locale other.language book)
twin_valid locale language book other beside =
    with_notation book other.locale other.language book.zone book.theme beside.valid
    (subst (λ (id : List ℕ). (notations_in book).knows_locale id ≡ true) (sym beside.locale_is) beside.known_locale)
    (subst (λ (id : List ℕ). (notations_in book).knows_language id ≡ true) (sym beside.language_is) beside.known_language) beside.valid.zone
