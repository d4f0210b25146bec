use Rattle.std.proofs.Common.{◌≡◌, ◌∙◌, ℕ, MatchOption, Option, ap, arith, nat_eq, subst, sym}
use Rattle.std.specs.List.{IsDistinct}
use Rattle.ic_laws.specs.Name.{agrees}
use Rattle.ic_sheets.specs.Holders.{KnowsHolders}
use Rattle.ic_sheets.proofs.DanglingLemmas.{none_apart}
use Rattle.ic_sheets.proofs.PlaceLemmas.{greatest_same}
use Rattle.ic_sheets.proofs.RecordLemmas.{ids_started, names_started, none_dangles, none_held, none_known}
use Rattle.ic_sheets.proofs.SearchLemmas.{ids, names}
use Rattle.ic_sheets.specs.Index.{AreAtIndexes, dangles_at, is_listed}
use Rattle.ic_sheets.specs.Mentioners.{KnowsSheets}
use Rattle.ic_sheets.specs.Search.{index_with_id}
use Rattle.ic_sheets.specs.Spots.{index_at}
use Rattle.ic_sheets.specs.declared.sheets.spots.Spots.{Spots}
use Rattle.ic_sheets.proofs.sheets.Sheets.started.Goals as goal

pub returns-in_default : goal.returns-in_default
returns-in_default c = λ differ.
    let sheets = c.in_ok-list.list.items in
    let none = subst (λ xs. MatchOption c.in_ok-indexes.field-0 (IsDistinct nat_eq (ids xs) → ⊥) (λ spots. IsDistinct nat_eq (ids xs) × ((id : ℕ) → index_at id spots.list.items ≡ index_with_id id xs))) c.deref.ensures.value c.in_ok-indexes.ensures in
    let same = ap ids c.in_ok-list.ensures.sheets ∙ ids_started c.args.worksheets.now in
    subst (λ (o : Option Spots). MatchOption o (IsDistinct nat_eq (ids sheets) → ⊥) (λ spots. IsDistinct nat_eq (ids sheets) × ((id : ℕ) → index_at id spots.list.items ≡ index_with_id id sheets))) c.in_default.is none
    (subst (IsDistinct nat_eq) (sym same) differ)

pub invariant_of-sheets : goal.invariant_of-sheets
invariant_of-sheets c =
    let sheets = c.in_ok-list.list.items in
    let made = c.in_ok-list.ensures.sheets in
    let some = subst (λ xs. MatchOption c.in_ok-indexes.field-0 (IsDistinct nat_eq (ids xs) → ⊥) (λ spots. IsDistinct nat_eq (ids xs) × ((id : ℕ) → index_at id spots.list.items ≡ index_with_id id xs))) c.deref.ensures.value c.in_ok-indexes.ensures in
    let both =
    subst (λ (o : Option Spots). MatchOption o (IsDistinct nat_eq (ids sheets) → ⊥) (λ spots. IsDistinct nat_eq (ids sheets) × ((id : ℕ) → index_at id spots.list.items ≡ index_with_id id sheets))) c.in-Some.is some in
    let placed : AreAtIndexes c.in-Some.indexes sheets = record { finds = both.1 } in
    let none = c.in_ok-dangling.ensures.items in (
      record {
        names_differ = subst (IsDistinct agrees) (sym (ap names made ∙ names_started c.args.worksheets.now)) c.requires;
        ids_differ = both.0;
        greatest = c.greatest_id-greatest.ensures ∙ greatest_same c.in-Some.indexes sheets placed;
      },
      placed,
      record {
        finds = λ id. ap (is_listed id) none ∙ sym (ap (dangles_at id) made ∙ none_dangles id c.args.worksheets.now);
        differ = subst (IsDistinct nat_eq) (sym none) none_apart;
      },
      omega (arith, c.in_ok-dangling.ensures.capacity, c.len.ensures, c.in_ok-list.list.ok.0),
      subst (KnowsSheets _) (sym made) (none_known _ c.args.worksheets.now),
      subst (KnowsHolders c.new-2.result) (sym made) (none_held c.new-2.result c.args.worksheets.now),
    )

pub returns : goal.returns
returns c =
    let sheets = c.in_ok-list.list.items in
    let some = subst (λ xs. MatchOption c.in_ok-indexes.field-0 (IsDistinct nat_eq (ids xs) → ⊥) (λ spots. IsDistinct nat_eq (ids xs) × ((id : ℕ) → index_at id spots.list.items ≡ index_with_id id xs))) c.deref.ensures.value c.in_ok-indexes.ensures in
    let both =
    subst (λ (o : Option Spots). MatchOption o (IsDistinct nat_eq (ids sheets) → ⊥) (λ spots. IsDistinct nat_eq (ids sheets) × ((id : ℕ) → index_at id spots.list.items ≡ index_with_id id sheets))) c.in-Some.is some in
    (subst (IsDistinct nat_eq) (ap ids c.in_ok-list.ensures.sheets ∙ ids_started c.args.worksheets.now) both.0, c.in_ok-list.ensures.sheets, c.in_ok-list.ensures.finds)
