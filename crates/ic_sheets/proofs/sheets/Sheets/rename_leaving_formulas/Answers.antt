use Rattle.std.proofs.Common.{◌≡◌, ◌<◌, ◌≤◌, ◌∙◌, ap, sym, subst, refl, cond, bytes_eq, slice_set, vec_capacity, false, Some, None, chars, length, encode_utf8_all, string_bytes}
use Rattle.std.specs.BTreeMap.{get_by_text}
use Rattle.std.specs.List.{list_any, remove}
use Rattle.ic_laws.proofs.core.Lists.{updated_unseen}
use Rattle.ic_laws.specs.CoreStep.{updated_at}
use Rattle.ic_laws.specs.Name.{agrees, fold}
use Rattle.ic_sheets.proofs.HolderLemmas.{held_like}
use Rattle.ic_sheets.proofs.DanglingLemmas.{dangling_renamed, length_over}
use Rattle.ic_sheets.proofs.IndexLemmas.{keyed, read_boxed, same_read, set_updated}
use Rattle.ic_sheets.proofs.KeptLemmas.{kept_renamed}
use Rattle.ic_sheets.proofs.MentionerLemmas.{known_like}
use Rattle.ic_sheets.proofs.PlaceLemmas.{placed_same}
use Rattle.ic_sheets.proofs.SearchLemmas.{ids, names}
use Rattle.ic_sheets.specs.declared.sheet.Sheet.{Sheet}
use Rattle.ic_sheets.proofs.KeptLemmas.{finds_renamed}
use Rattle.ic_sheets.specs.Index.{FindsSheets}
use Rattle.ic_sheets.proofs.sheets.Sheets.rename_leaving_formulas.Goals as goal

pub invariant_of-self : goal.invariant_of-self
invariant_of-self c =
    let sheets = c.self.inside.list.items in
    let index = c.args.index in
    let s : Sheet = c.as_mut-sheet.result.now in
    let name = c.in_ok-new_name.new_name in
    let lt : index < length sheets = subst (λ xs. index < length xs) (sym c.self.view_is) c.requires.within in
    let read : c.as_ref-sheet.result.now ≡ s = same_read sheets index c.as_ref-sheet.result.now s lt (read_boxed c.self.inside.list.items c.args.index c.as_ref-sheet.ensures c.index.ensures) (read_boxed c.self.inside.list.items c.args.index c.as_mut-sheet.ensures.value c.index_mut.ensures.value) in
    let named = c.in_ok-new_name.ensures in
    let free : list_any (agrees name) (remove (names sheets) index) ≡ false =
    ap (λ n. list_any (agrees n) (remove (names sheets) index)) named ∙ ap (λ xs. list_any (agrees (chars c.args.name.now)) (remove (names xs) index)) c.self.view_is ∙ c.requires.free in
    let called : Sheet → Sheet = λ x. record x { name = name } in (
      kept_renamed c.self.inside.greatest sheets index s name c.self.invariant.0 lt (read_boxed c.self.inside.list.items c.args.index c.as_mut-sheet.ensures.value c.index_mut.ensures.value) free,
      placed_same c.self.inside.indexes sheets _ c.self.invariant.1 (ap ids (set_updated called sheets index s (read_boxed c.self.inside.list.items c.args.index c.as_mut-sheet.ensures.value c.index_mut.ensures.value)) ∙ updated_unseen (λ (x : Sheet). x.id) called (λ x. refl) index sheets),
      dangling_renamed c.self.inside.dangling.items sheets index s c.self.invariant.2 c.self.invariant.0.ids_differ lt (read_boxed c.self.inside.list.items c.args.index c.as_mut-sheet.ensures.value c.index_mut.ensures.value) (called s) refl refl,
      subst (λ n. n ≤ vec_capacity c.self.inside.dangling) (sym (length_over sheets index (called s))) c.self.invariant.3,
      known_like c.self.inside.mentioners sheets index s (called s) c.self.invariant.4 lt (read_boxed c.self.inside.list.items c.args.index c.as_mut-sheet.ensures.value c.index_mut.ensures.value) refl refl,
      held_like c.self.inside.holders sheets index s (called s) c.self.invariant.5 lt (read_boxed c.self.inside.list.items c.args.index c.as_mut-sheet.ensures.value c.index_mut.ensures.value) refl refl,
    )

pub returns-clause-ok : goal.returns-clause-ok
returns-clause-ok c =
    let sheets = c.self.inside.list.items in
    ap (λ n. slice_set sheets c.args.index (record c.as_mut-sheet.result.now { name = n })) c.in_ok-new_name.ensures
    ∙ set_updated (λ x. record x { name = chars c.args.name.now }) sheets c.args.index c.as_mut-sheet.result.now (read_boxed c.self.inside.list.items c.args.index c.as_mut-sheet.ensures.value c.index_mut.ensures.value)
    ∙ ap (updated_at (λ x. record x { name = chars c.args.name.now }) c.args.index) c.self.view_is

pub returns-clause-finds : goal.returns-clause-finds
returns-clause-finds c =
    let sheets = c.self.inside.list.items in
    let index = c.args.index in
    let s : Sheet = c.as_mut-sheet.result.now in
    let name = c.in_ok-new_name.new_name in
    let lt : index < length sheets = subst (λ xs. index < length xs) (sym c.self.view_is) c.requires.within in
    let read : c.as_ref-sheet.result.now ≡ s = same_read sheets index c.as_ref-sheet.result.now s lt (read_boxed c.self.inside.list.items c.args.index c.as_ref-sheet.ensures c.index.ensures) (read_boxed c.self.inside.list.items c.args.index c.as_mut-sheet.ensures.value c.index_mut.ensures.value) in
    let named = c.in_ok-new_name.ensures in
    let free : list_any (agrees name) (remove (names sheets) index) ≡ false =
    ap (λ n. list_any (agrees n) (remove (names sheets) index)) named ∙ ap (λ xs. list_any (agrees (chars c.args.name.now)) (remove (names xs) index)) c.self.view_is ∙ c.requires.free in
    let new_key : string_bytes c.in_ok-key.key ≡ encode_utf8_all (fold name) = c.in_ok-key.ensures ∙ ap (λ n. encode_utf8_all (fold n)) (sym named) in
    let old_key : c.as_str-2.result.now ≡ encode_utf8_all (fold s.name) =
    c.as_str-2.ensures.value ∙ c.in_ok-old_key.ensures ∙ ap (λ n. encode_utf8_all (fold n)) c.as_str.ensures.characters ∙ ap (λ (x : Sheet). encode_utf8_all (fold x.name)) read in
    let change = keyed c.args.ids.now c.rekey.new.ids _ _ (fold name) (fold s.name) (Some c.as_ref-sheet.result.now.id) c.in_ok-rekey.ensures.ok new_key old_key in
    finds_renamed c.args.ids.now c.rekey.new.ids c.self.inside.greatest sheets index s name c.self.invariant.0 (subst (FindsSheets c.args.ids.now) (sym c.self.view_is) c.requires.finds) lt (read_boxed c.self.inside.list.items c.args.index c.as_mut-sheet.ensures.value c.index_mut.ensures.value) free
    (λ q. change q ∙ ap (λ (x : Sheet). cond (bytes_eq (fold name) q) (Some x.id) (cond (bytes_eq (fold s.name) q) None (get_by_text c.args.ids.now (encode_utf8_all q)))) read)
