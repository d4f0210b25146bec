-- What the sheets keep beside them stays true when sheets come, go, get other names or places, and when their formulas change.
use Rattle.std.proofs.Common.{◌≡◌, ℕ, suc, ◌<◌, List, [], ◌∷◌, ◌++◌, false, cond, Some, None, append-nil, max, length, take, drop, get_or, slice_set, encode_utf8_all, bytes_eq, nat_eq, refl, sym, ap, subst, ◌∙◌, arith}
use Rattle.std.proofs.lemmas.List.{map-append, take-append-drop}
use Rattle.std.proofs.lemmas.List.Sorted.{IsPermutation-map, length_permutation}
use Rattle.std.proofs.lemmas.Map.Keys.{IsDistinct-IsPermutation, IsDistinct-push}
use Rattle.std.proofs.lemmas.Option.{get_or_from_slice_get, slice_get_read}
use Rattle.std.specs.BTreeMap.{IsEmpty, get_by_text}
use Rattle.std.specs.Cmp.{nat_eq_equiv}
use Rattle.std.specs.List.{IsDistinct, insert, list_any, remove}
use Rattle.ic_laws.proofs.core.Lists.{distinct_removed, none_passes, removed_seen, updated_unseen}
use Rattle.ic_laws.proofs.core.SheetMoved.{item_at, moved_permutes}
use Rattle.ic_laws.specs.CoreStep.{moved, put_back, updated_at}
use Rattle.ic_laws.specs.Greatest.{greatest}
use Rattle.ic_laws.specs.Name.{agrees, fold}
use Rattle.ic_sheets.proofs.IndexLemmas.{Index, IsIndexed, IsIndexed-add, IsIndexed-empty, IsIndexed-move, IsIndexed-remove_at, IsIndexed-rename_at, alone, differ-middle, differ-without, id_of-same, none_agrees, set_parts, set_updated, split_at}
use Rattle.ic_sheets.proofs.SearchLemmas.{ids, names}
use Rattle.ic_sheets.specs.Index.{AreKept, FindsSheets}
use Rattle.ic_sheets.specs.Search.{id_of}
use Rattle.ic_sheets.specs.declared.sheet.Sheet.{Sheet}

none_apart : IsDistinct nat_eq []
unfolding IsDistinct
none_apart = tt

no_names : IsDistinct agrees []
unfolding IsDistinct
no_names = tt

pub kept_empty : (sheets : List Sheet) → sheets ≡ [] → AreKept 0 sheets
kept_empty sheets none = record {
  names_differ = subst (λ xs. IsDistinct agrees (names xs)) (sym none) no_names;
  ids_differ = subst (λ xs. IsDistinct nat_eq (ids xs)) (sym none) none_apart;
  greatest = sym (ap (λ xs. greatest (ids xs)) none);
}

-- an empty look-up finds no sheets
pub finds_empty : (index : Index) (sheets : List Sheet) → IsEmpty index → sheets ≡ [] → FindsSheets index sheets
finds_empty index sheets empty none = (IsIndexed-empty index sheets empty none).finds

-- a name that no sheet has
pub free_is_none : (name : List ℕ) (sheets : List Sheet) → list_any (agrees name) (names sheets) ≡ false → id_of (fold name) sheets ≡ None
free_is_none name sheets e = none_agrees name sheets (none_passes (agrees name) (names sheets) e)

-- ---- names that differ

differ_pushed : (sheets list : List Sheet) (s : Sheet) → IsDistinct agrees (names sheets) → id_of (fold s.name) sheets ≡ None → list ≡ sheets ++ s ∷ [] → IsDistinct agrees (names list)
differ_pushed sheets list s differ none pushed =
    let whole : sheets ++ [] ≡ sheets = append-nil sheets in
    subst (λ xs. IsDistinct agrees (names xs)) (sym pushed) (differ-middle sheets [] s (subst (λ xs. IsDistinct agrees (names xs)) (sym whole) differ) (ap (id_of (fold s.name)) whole ∙ none))

differ_removed : (sheets list : List Sheet) (place : ℕ) (s : Sheet) → IsDistinct agrees (names sheets) → place < length sheets → s ≡ get_or sheets place s → list ≡ remove sheets place → IsDistinct agrees (names list)
differ_removed sheets list place s differ lt read removed =
    subst (λ xs. IsDistinct agrees (names xs)) (sym removed) (differ-without (take place sheets) (drop (suc place) sheets) s (subst (λ xs. IsDistinct agrees (names xs)) (split_at sheets place s lt read) differ))

differ_renamed : (sheets : List Sheet) (place : ℕ) (s t : Sheet) → IsDistinct agrees (names sheets) → place < length sheets → s ≡ get_or sheets place s → id_of (fold t.name) (remove sheets place) ≡ None → IsDistinct agrees (names (slice_set sheets place t))
differ_renamed sheets place s t differ lt read none =
    let front : List Sheet = take place sheets in
    let back : List Sheet = drop (suc place) sheets in
    subst (λ xs. IsDistinct agrees (names xs)) (sym (set_parts sheets place t lt))
    (differ-middle front back t (differ-without front back s (subst (λ xs. IsDistinct agrees (names xs)) (split_at sheets place s lt read) differ)) none)

differ_moved : (front back first rest : List Sheet) (s : Sheet) → first ++ rest ≡ front ++ back → IsDistinct agrees (names (front ++ s ∷ back)) → IsDistinct agrees (names (first ++ s ∷ rest))
differ_moved front back first rest s same differ =
    differ-middle first rest s (subst (λ xs. IsDistinct agrees (names xs)) (sym same) (differ-without front back s differ)) (ap (id_of (fold s.name)) same ∙ alone front back s differ)

-- ---- a sheet comes

pub greatest_pushed : (ns : List ℕ) (n : ℕ) → max (greatest ns) n ≡ greatest (ns ++ n ∷ [])
greatest_pushed [] n = omega arith
greatest_pushed (m ∷ ns) n = let rest : max (greatest ns) n ≡ greatest (ns ++ n ∷ []) = greatest_pushed ns n in omega (arith, rest)

pub finds_pushed : (before after : Index) (last : ℕ) (sheets list : List Sheet) (s : Sheet) → AreKept last sheets → FindsSheets before sheets → list_any (agrees s.name) (names sheets) ≡ false
    → ((q : List ℕ) → get_by_text after (encode_utf8_all q) ≡ cond (bytes_eq (fold s.name) q) (Some s.id) (get_by_text before (encode_utf8_all q))) → list ≡ sheets ++ s ∷ [] → FindsSheets after list
finds_pushed before after last sheets list s kept finds free u pushed = (IsIndexed-add before after sheets list s (record { finds = finds; differ = kept.names_differ }) (free_is_none s.name sheets free) u pushed).finds

pub kept_pushed : (last now_last : ℕ) (sheets list : List Sheet) (s : Sheet) → AreKept last sheets → list_any (agrees s.name) (names sheets) ≡ false → list_any (nat_eq s.id) (ids sheets) ≡ false → now_last ≡ max last s.id
    → list ≡ sheets ++ s ∷ [] → AreKept now_last list
kept_pushed last now_last sheets list s kept free fresh most pushed =
    let more : ids list ≡ ids sheets ++ s.id ∷ [] = ap ids pushed ∙ map-append (λ (x : Sheet). x.id) sheets (s ∷ []) in
    record {
      names_differ = differ_pushed sheets list s kept.names_differ (free_is_none s.name sheets free) pushed;
      ids_differ = subst (IsDistinct nat_eq) (sym more) (IsDistinct-push nat_eq_equiv (ids sheets) s.id kept.ids_differ fresh);
      greatest = most ∙ ap (λ n. max n s.id) kept.greatest ∙ greatest_pushed (ids sheets) s.id ∙ sym (ap greatest more);
    }

-- ---- a sheet goes

pub finds_removed : (before after : Index) (last : ℕ) (sheets list : List Sheet) (place : ℕ) (s : Sheet) → AreKept last sheets → FindsSheets before sheets → place < length sheets → s ≡ get_or sheets place s → list ≡ remove sheets place
    → ((q : List ℕ) → get_by_text after (encode_utf8_all q) ≡ cond (bytes_eq (fold s.name) q) None (get_by_text before (encode_utf8_all q))) → FindsSheets after list
finds_removed before after last sheets list place s kept finds lt read removed u = (IsIndexed-remove_at before after sheets list place s (record { finds = finds; differ = kept.names_differ }) lt read removed u).finds

pub ids_removed : (sheets : List Sheet) (place : ℕ) → IsDistinct nat_eq (ids sheets) → IsDistinct nat_eq (ids (remove sheets place))
ids_removed sheets place differ = subst (IsDistinct nat_eq) (sym (removed_seen (λ (x : Sheet). x.id) sheets place)) (distinct_removed nat_eq_equiv (ids sheets) place differ)

pub kept_removed : (last now_last : ℕ) (sheets list : List Sheet) (place : ℕ) (s : Sheet) → AreKept last sheets → place < length sheets → s ≡ get_or sheets place s → list ≡ remove sheets place → now_last ≡ greatest (ids list) → AreKept now_last list
kept_removed last now_last sheets list place s kept lt read removed found = record {
  names_differ = differ_removed sheets list place s kept.names_differ lt read removed;
  ids_differ = subst (λ xs. IsDistinct nat_eq (ids xs)) (sym removed) (ids_removed sheets place kept.ids_differ);
  greatest = found;
}

-- ---- a sheet gets another name

freed : (sheets : List Sheet) (place : ℕ) (name : List ℕ) → list_any (agrees name) (remove (names sheets) place) ≡ false → id_of (fold name) (remove sheets place) ≡ None
freed sheets place name free = free_is_none name (remove sheets place) (ap (list_any (agrees name)) (removed_seen (λ (x : Sheet). x.name) sheets place) ∙ free)

pub finds_renamed : (before after : Index) (last : ℕ) (sheets : List Sheet) (place : ℕ) (s : Sheet) (name : List ℕ) → AreKept last sheets → FindsSheets before sheets → place < length sheets → s ≡ get_or sheets place s
    → list_any (agrees name) (remove (names sheets) place) ≡ false
    → ((q : List ℕ) → get_by_text after (encode_utf8_all q) ≡ cond (bytes_eq (fold name) q) (Some s.id) (cond (bytes_eq (fold s.name) q) None (get_by_text before (encode_utf8_all q))))
    → FindsSheets after (slice_set sheets place (record s { name = name }))
finds_renamed before after last sheets place s name kept finds lt read free u =
    (IsIndexed-rename_at before after sheets place s (record s { name = name }) (record { finds = finds; differ = kept.names_differ }) lt read (freed sheets place name free) u).finds

pub kept_renamed : (last : ℕ) (sheets : List Sheet) (place : ℕ) (s : Sheet) (name : List ℕ) → AreKept last sheets → place < length sheets → s ≡ get_or sheets place s
    → list_any (agrees name) (remove (names sheets) place) ≡ false → AreKept last (slice_set sheets place (record s { name = name }))
kept_renamed last sheets place s name kept lt read free =
    let called : Sheet → Sheet = λ x. record x { name = name } in
    let list : List Sheet = slice_set sheets place (called s) in
    let is : list ≡ updated_at called place sheets = set_updated called sheets place s read in
    let same : ids list ≡ ids sheets = ap ids is ∙ updated_unseen (λ (x : Sheet). x.id) called (λ x. refl) place sheets in
    record {
      names_differ = differ_renamed sheets place s (called s) kept.names_differ lt read (freed sheets place name free);
      ids_differ = subst (IsDistinct nat_eq) (sym same) kept.ids_differ;
      greatest = kept.greatest ∙ sym (ap greatest same);
    }

-- ---- a sheet gets another place

greatest_middle : (front back : List Sheet) (s : Sheet) → greatest (ids (front ++ s ∷ back)) ≡ max s.id (greatest (ids (front ++ back)))
greatest_middle [] back s = refl
greatest_middle (x ∷ front) back s = let rest = greatest_middle front back s in omega (arith, rest)

pub moved_is : (sheets : List Sheet) (from to : ℕ) (s : Sheet) → from < length sheets → s ≡ get_or sheets from s → insert (remove sheets from) to s ≡ moved from to sheets
moved_is sheets from to s lt read = ap (put_back to (remove sheets from)) (sym (slice_get_read sheets (length sheets) from s refl lt read))

-- the sheet at an index
pub record Taken (sheets : List Sheet) (at : ℕ) : Type 0 where
  pub sheet : Sheet
  pub read : sheet ≡ get_or sheets at sheet

pub taken : (sheets : List Sheet) (at : ℕ) → at < length sheets → Taken sheets at
taken sheets at lt = let item = item_at sheets at lt in record { sheet = item.0; read = sym (get_or_from_slice_get sheets at item.0 item.0 item.1) }

pub length_moved : (sheets : List Sheet) (from to : ℕ) → from < length sheets → to < length sheets → length (moved from to sheets) ≡ length sheets
length_moved sheets from to lt within = length_permutation sheets (moved from to sheets) (moved_permutes sheets from to lt)

pub finds_moved : (index : Index) (last : ℕ) (sheets list : List Sheet) (from to : ℕ) (s : Sheet) → AreKept last sheets → FindsSheets index sheets → from < length sheets → s ≡ get_or sheets from s → list ≡ insert (remove sheets from) to s → FindsSheets index list
finds_moved index last sheets list from to s kept finds lt read put =
    let front : List Sheet = take from sheets in
    let back : List Sheet = drop (suc from) sheets in
    subst (FindsSheets index) (sym put)
    (IsIndexed-move index front back (take to (front ++ back)) (drop to (front ++ back)) s (take-append-drop to (front ++ back)) (subst (IsIndexed index) (split_at sheets from s lt read) (record { finds = finds; differ = kept.names_differ }))).finds

pub kept_moved : (last : ℕ) (sheets list : List Sheet) (from to : ℕ) (s : Sheet) → AreKept last sheets → from < length sheets → s ≡ get_or sheets from s → list ≡ insert (remove sheets from) to s → AreKept last list
kept_moved last sheets list from to s kept lt read put =
    let front : List Sheet = take from sheets in
    let back : List Sheet = drop (suc from) sheets in
    let first : List Sheet = take to (front ++ back) in
    let rest : List Sheet = drop to (front ++ back) in
    let parts : sheets ≡ front ++ s ∷ back = split_at sheets from s lt read in
    let same : first ++ rest ≡ front ++ back = take-append-drop to (front ++ back) in
    subst (AreKept last) (sym put)
    (record {
      names_differ = differ_moved front back first rest s same (subst (λ xs. IsDistinct agrees (names xs)) parts kept.names_differ);
      ids_differ = subst (λ xs. IsDistinct nat_eq (ids xs)) (sym (moved_is sheets from to s lt read))
          (IsDistinct-IsPermutation nat_eq nat_eq_equiv.symm (ids sheets) (ids (moved from to sheets)) (IsPermutation-map (λ (x : Sheet). x.id) sheets (moved from to sheets) (moved_permutes sheets from to lt)) kept.ids_differ);
      greatest = kept.greatest ∙ ap (λ xs. greatest (ids xs)) parts ∙ greatest_middle front back s ∙ sym (greatest_middle first rest s ∙ ap (λ xs. max s.id (greatest (ids xs))) same);
    })

-- ---- formulas change

pub kept_same : (last : ℕ) (sheets list : List Sheet) → AreKept last sheets → names list ≡ names sheets → ids list ≡ ids sheets → AreKept last list
kept_same last sheets list kept same_names same_ids = record {
  names_differ = subst (IsDistinct agrees) (sym same_names) kept.names_differ;
  ids_differ = subst (IsDistinct nat_eq) (sym same_ids) kept.ids_differ;
  greatest = kept.greatest ∙ sym (ap greatest same_ids);
}

-- what finds them by their names goes by the names and the ids alone
pub finds_same : (index : Index) (sheets list : List Sheet) → FindsSheets index sheets → names list ≡ names sheets → ids list ≡ ids sheets → FindsSheets index list
finds_same index sheets list finds same_names same_ids key = finds key ∙ sym (id_of-same list sheets same_names same_ids key)
