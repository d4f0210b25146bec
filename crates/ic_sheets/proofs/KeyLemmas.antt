-- The key of a sheet goes out of the look-up of names by the id of the sheet.
use Rattle.std.proofs.Common.{◌≡◌, ℕ, suc, ◌<◌, List, [], ◌∷◌, ◌++◌, Bool, true, false, cond, not, Option, Some, None, refl, sym, ap, ap₂, subst, ◌∙◌, take, drop, length, get_or, encode_utf8_all, string_bytes, String, bytes_eq, nat_eq}
use Rattle.std.proofs.lemmas.Bool.{or_parts}
use Rattle.std.proofs.lemmas.Map.Keys.{sorted_head, sorted_tail}
use Rattle.std.proofs.lemmas.Map.Text.{is_eq-slice_cmp}
use Rattle.std.proofs.lemmas.Slice.Eq.{bytes_eq-Decides}
use Rattle.std.specs.BTreeMap.{IsOrdered, get_by_text, is_at}
use Rattle.std.specs.Cmp.{nat_eq_equiv}
use Rattle.std.specs.Cmp.Lexicographic.{slice_cmp}
use Rattle.std.specs.List.{AllByRecursion, IsDistinct, filter, list_any}
use Rattle.std.specs.List.Sorted.{IsStrictlySortedBy}
use Rattle.std.specs.Map.{keys_of, lookup}
use Rattle.std.specs.Ordering.{is_eq, nat_cmp}
use Rattle.std.specs.String.{string_cmp}
use Rattle.std.specs.declared.cmp.Ordering.TheVariants.{Less}
use Rattle.std.specs.declared.alloc.Global.{Global}
use Rattle.ic_laws.specs.Name.{agrees, fold}
use Rattle.ic_sheets.proofs.IndexLemmas.{Index, alone, id_of-middle, split_at}
use Rattle.ic_sheets.proofs.PlaceLemmas.{alone as alone_by_id}
use Rattle.ic_sheets.proofs.SearchLemmas.{ids, names}
use Rattle.ic_sheets.specs.Index.{AreKept, FindsSheets, IsFoundBy, LosesName, other_than}
use Rattle.ic_sheets.specs.Search.{id_of}
use Rattle.ic_sheets.specs.declared.sheet.Sheet.{Sheet}
use Rattle.ic_cells.proofs.TextLemmas.{same_bytes as same_encoded}

-- a key is these bytes
abbrev is_key : List ℕ → String Global → Bool
is_key bytes = is_at (λ k. slice_cmp nat_cmp bytes (string_bytes k))

-- an entry is kept where another id is taken out
abbrev is_kept : ℕ → String Global × ℕ → Bool
is_kept id e = not (nat_eq e.1 id)

-- no later key is these bytes, where the first is
none_after : (bytes : List ℕ) (key : String Global) → bytes ≡ string_bytes key → (es : List (String Global × ℕ)) → AllByRecursion (λ k. string_cmp key k ≡ Less) (keys_of es) → lookup (is_key bytes) es ≡ None
none_after bytes key e [] h = refl
none_after bytes key e (x ∷ es) h = ap₂ (λ r o. cond (is_eq r) (Some x.1) o) (ap (λ b. slice_cmp nat_cmp b (string_bytes x.0)) e ∙ h.0) (none_after bytes key e es h.1)

left_at : (bytes : List ℕ) (id : ℕ) (es : List (String Global × ℕ)) → IsStrictlySortedBy string_cmp (keys_of es) → lookup (is_key bytes) (filter (is_kept id) es) ≡ other_than id (lookup (is_key bytes) es)
left_at bytes id [] d = refl
left_at bytes id (x ∷ es) d = step (nat_eq x.1 id) refl (is_key bytes x.0) refl (left_at bytes id es (sorted_tail string_cmp x.0 (keys_of es) d))
  where
    step : (same : Bool) → nat_eq x.1 id ≡ same → (here : Bool) → is_key bytes x.0 ≡ here → lookup (is_key bytes) (filter (is_kept id) es) ≡ other_than id (lookup (is_key bytes) es)
        → lookup (is_key bytes) (cond (not same) (x ∷ filter (is_kept id) es) (filter (is_kept id) es)) ≡ other_than id (cond here (Some x.1) (lookup (is_key bytes) es))
    step true e true h rest =
        let same_bytes : bytes ≡ string_bytes x.0 = (bytes_eq-Decides bytes (string_bytes x.0)).0 (sym (is_eq-slice_cmp bytes (string_bytes x.0)) ∙ h) in
        rest ∙ ap (other_than id) (none_after bytes x.0 same_bytes es (sorted_head string_cmp x.0 (keys_of es) d)) ∙ sym (ap (λ b. cond b None (Some x.1)) e)
    step true e false h rest = rest
    step false e true h rest = ap (λ b. cond b (Some x.1) (lookup (is_key bytes) (filter (is_kept id) es))) h ∙ sym (ap (λ b. cond b None (Some x.1)) e)
    step false e false h rest = ap (λ b. cond b (Some x.1) (lookup (is_key bytes) (filter (is_kept id) es))) h ∙ rest

-- the keys of an id are taken out
pub key_gone : (before after : Index) (id : ℕ) → IsOrdered string_cmp before → after.entries ≡ filter (is_kept id) before.entries → (q : List ℕ) → get_by_text after q ≡ other_than id (get_by_text before q)
key_gone before after id sorted kept q = ap (lookup (is_key q)) kept ∙ left_at q id before.entries sorted

-- ---- the same by the name of the sheet with the id

others_stay : (id : ℕ) (q : List ℕ) (sheets : List Sheet) → list_any (nat_eq id) (ids sheets) ≡ false → other_than id (id_of q sheets) ≡ id_of q sheets
others_stay id q [] free = refl
others_stay id q (s ∷ sheets) free =
    let parts = or_parts (nat_eq id s.id) (list_any (nat_eq id) (ids sheets)) free in
    step (bytes_eq q (fold s.name)) (nat_eq_equiv.symm s.id id ∙ parts.0) (others_stay id q sheets parts.1)
  where
    step : (b : Bool) → nat_eq s.id id ≡ false → other_than id (id_of q sheets) ≡ id_of q sheets → other_than id (cond b (Some s.id) (id_of q sheets)) ≡ cond b (Some s.id) (id_of q sheets)
    step true other rest = ap (λ c. cond c None (Some s.id)) other
    step false other rest = rest

pub found_by_name : (before : Index) (last : ℕ) (sheets : List Sheet) (place : ℕ) (s : Sheet) → AreKept last sheets → FindsSheets before sheets → place < length sheets → s ≡ get_or sheets place s → IsFoundBy s.name s.id before
found_by_name before last sheets place s kept finds lt read q =
    let front : List Sheet = take place sheets in
    let back : List Sheet = drop (suc place) sheets in
    let parts : sheets ≡ front ++ s ∷ back = split_at sheets place s lt read in
    let none = alone front back s (subst (λ xs. IsDistinct agrees (names xs)) parts kept.names_differ) in
    let free = alone_by_id front back s (subst (λ xs. IsDistinct nat_eq (ids xs)) parts kept.ids_differ) in
    let here : get_by_text before (encode_utf8_all q) ≡ cond (bytes_eq (fold s.name) q) (Some s.id) (id_of q (front ++ back)) = finds q ∙ ap (id_of q) parts ∙ id_of-middle front back s none q in
    ap (other_than s.id) here ∙ step (bytes_eq (fold s.name) q) (id_of q (front ++ back)) (others_stay s.id q (front ++ back) free) ∙ ap (cond (bytes_eq (fold s.name) q) None) (sym here)
  where
    step : (b : Bool) (o : Option ℕ) → other_than s.id o ≡ o → other_than s.id (cond b (Some s.id) o) ≡ cond b None (cond b (Some s.id) o)
    step true o e = ap (λ c. cond c None (Some s.id)) (nat_eq_equiv.refl s.id)
    step false o e = e

-- the key of a name is taken out
pub name_lost : (before after : Index) (name key : List ℕ) → key ≡ encode_utf8_all (fold name) → ((q : List ℕ) → get_by_text after q ≡ cond (bytes_eq key q) None (get_by_text before q)) → LosesName name before after
name_lost before after name key is gone q =
    gone (encode_utf8_all q) ∙ ap (λ b. cond b None (get_by_text before (encode_utf8_all q))) (ap (λ k. bytes_eq k (encode_utf8_all q)) is ∙ same_encoded (fold name) q)
