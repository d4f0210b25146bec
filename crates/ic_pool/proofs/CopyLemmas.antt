-- A copy in which each mention stays what it is.
use Rattle.std.proofs.Common.{◌≡◌, refl}
use Rattle.ic_laws.proofs.binding.Again.{mapped_same}
use Rattle.ic_laws.proofs.binding.Induction.{every_of_all}
use Rattle.ic_laws.specs.Mentions.{OfMentions, mapped}
use Rattle.ic_laws.specs.Tree.{Bound, Kind}
use Rattle.ic_laws.specs.declared.tree.NameMention.{NameMention}
use Rattle.ic_laws.specs.declared.tree.SheetMention.{SheetMention}
use Rattle.ic_laws.specs.declared.tree.Tree.TheOpen as one

-- no fact is asked of a mention
abbrev NoSheetFact : SheetMention → Type 0
NoSheetFact mention = Unit {0}

abbrev NoWordFact : NameMention → Type 0
NoWordFact mention = Unit {0}

abbrev NoLocalFact : SheetMention → NameMention → Type 0
NoLocalFact sheet mention = Unit {0}

none_asked : (kind : Kind SheetMention NameMention) → OfMentions NoSheetFact NoWordFact NoLocalFact kind
none_asked (one.Reference sheet place) = tt
none_asked (one.Local sheet word) = (tt, tt)
none_asked (one.Word word) = tt
none_asked (one.Call word arguments) = tt
none_asked kind = tt

pub same_mentions : (t : Bound) → mapped (λ m. m) (λ m. m) (λ s m. (s, m)) t ≡ t
same_mentions t =
    mapped_same (λ m. m) (λ m. m) (λ s m. (s, m)) NoSheetFact NoWordFact NoLocalFact (λ m h. refl) (λ m h. refl) (λ s m h k. refl) t
    (every_of_all (OfMentions NoSheetFact NoWordFact NoLocalFact) (λ pair. Unit {0}) none_asked (λ pair. tt) t)
