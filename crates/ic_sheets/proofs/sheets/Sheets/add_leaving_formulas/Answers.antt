use Rattle.std.proofs.Common.{cond, ◌≡◌, ◌∙◌, ap, ap₂, sym, subst, refl, arith, length-append, ◌++◌, ◌∷◌, [], Some, false, true, chars, encode_utf8_all, length, nat_eq, string_bytes}
use Rattle.std.specs.List.{list_any}
use Rattle.ic_laws.proofs.core.Lists.{all_pushed}
use Rattle.ic_laws.specs.Name.{agrees, fold}
use Rattle.ic_sheets.proofs.HolderLemmas.{nothing_held}
use Rattle.ic_sheets.specs.Holders.{KnowsCells, KnowsHolders}
use Rattle.ic_sheets.proofs.DanglingLemmas.{dangling_pushed}
use Rattle.ic_sheets.proofs.IndexLemmas.{put_by_name}
use Rattle.ic_sheets.proofs.KeptLemmas.{kept_pushed}
use Rattle.ic_sheets.proofs.PlaceLemmas.{none_placed, placed_pushed}
use Rattle.ic_sheets.proofs.SearchLemmas.{ids, names}
use Rattle.ic_sheets.specs.Index.{AreDangling}
use Rattle.ic_sheets.specs.Mentioners.{KnowsPool, KnowsSheets}
use Rattle.ic_sheets.specs.Spots.{index_at}
use Rattle.ic_sheets.specs.Sheet.{empty_grid, plain_tab}
use Rattle.ic_sheets.specs.declared.sheet.Sheet.{Sheet}
use Rattle.ic_sheets.proofs.KeptLemmas.{finds_pushed}
use Rattle.ic_sheets.specs.Index.{FindsSheets}
use Rattle.ic_sheets.proofs.sheets.Sheets.add_leaving_formulas.Goals as goal

pub put-requires-clause-absent : goal.put-requires-clause-absent
put-requires-clause-absent c =
    ap (index_at c.args.id) c.reserve-3.ensures.kept
    ∙ none_placed c.self.inside.indexes c.self.inside.list.items c.args.id c.self.invariant.1 (ap (λ xs. list_any (nat_eq c.args.id) (ids xs)) c.self.view_is ∙ c.requires.fresh)

pub invariant_of-self-2 : goal.invariant_of-self-2
invariant_of-self-2 c =
    let sheets = c.self.inside.list.items in
    let s : Sheet = record { id = c.args.id; name = c.in_ok-name.name; pool = record { formulas = []; is_whole = true }; grid = empty_grid; tab = plain_tab } in
    let named = c.in_ok-name.ensures in
    let free : list_any (agrees s.name) (names sheets) ≡ false = ap (λ n. list_any (agrees n) (names sheets)) named ∙ ap (λ xs. list_any (agrees (chars c.args.name.now)) (names xs)) c.self.view_is ∙ c.requires.free in
    let fresh : list_any (nat_eq s.id) (ids sheets) ≡ false = ap (λ xs. list_any (nat_eq c.args.id) (ids xs)) c.self.view_is ∙ c.requires.fresh in
    let pushed : c.push_reserved.new.self.items ≡ sheets ++ s ∷ [] = c.push_reserved.ensures.items ∙ ap₂ (λ xs (y : Sheet). xs ++ y ∷ []) c.reserve.ensures.items (c.in_ok-sheet.ensures ∙ c.new.ensures) in (
      kept_pushed c.self.inside.greatest c.max-self-inside.result sheets c.push_reserved.new.self.items s c.self.invariant.0 free fresh c.max-self-inside.ensures pushed,
      placed_pushed c.self.inside.indexes c.put.new.self sheets c.push_reserved.new.self.items s c.len-place.result c.self.invariant.1 fresh (c.len-place.ensures ∙ c.reserve.new.self.ok.0 ∙ ap length c.reserve.ensures.items)
          (λ q. c.put.ensures q ∙ ap (λ xs. cond (nat_eq c.args.id q) (Some c.len-place.result) (index_at q xs)) c.reserve-3.ensures.kept) pushed,
      dangling_pushed c.reserve-2.new.self.items sheets c.push_reserved.new.self.items s (subst (λ xs. AreDangling xs sheets) (sym c.reserve-2.ensures.items) c.self.invariant.2) refl pushed,
      omega (arith, ap length pushed, length-append sheets (s ∷ []), c.in_ok-reserve-2.ensures, c.len-place.ensures, c.reserve.new.self.ok.0, ap length c.reserve.ensures.items),
      subst (KnowsSheets c.self.inside.mentioners) (sym pushed) (all_pushed (λ (x : Sheet). KnowsPool c.self.inside.mentioners x.id x.pool.formulas) sheets s c.self.invariant.4 tt),
      subst (KnowsHolders c.self.inside.holders) (sym pushed) (all_pushed (KnowsCells c.self.inside.holders) sheets s c.self.invariant.5 (λ has none. nothing_held)),
    )

pub returns-clause-finds : goal.returns-clause-finds
returns-clause-finds c =
    let sheets = c.self.inside.list.items in
    let s : Sheet = record { id = c.args.id; name = c.in_ok-name.name; pool = record { formulas = []; is_whole = true }; grid = empty_grid; tab = plain_tab } in
    let named = c.in_ok-name.ensures in
    let free : list_any (agrees s.name) (names sheets) ≡ false = ap (λ n. list_any (agrees n) (names sheets)) named ∙ ap (λ xs. list_any (agrees (chars c.args.name.now)) (names xs)) c.self.view_is ∙ c.requires.free in
    let key : string_bytes c.in_ok-key.key ≡ encode_utf8_all (fold s.name) = c.in_ok-key.ensures ∙ ap (λ n. encode_utf8_all (fold n)) (sym named) in
    let pushed : c.push_reserved.new.self.items ≡ sheets ++ s ∷ [] = c.push_reserved.ensures.items ∙ ap₂ (λ xs (y : Sheet). xs ++ y ∷ []) c.reserve.ensures.items (c.in_ok-sheet.ensures ∙ c.new.ensures) in
    finds_pushed c.args.ids.now c.put_id.new.ids c.self.inside.greatest sheets c.push_reserved.new.self.items s c.self.invariant.0 (subst (FindsSheets c.args.ids.now) (sym c.self.view_is) c.requires.finds) free
    (put_by_name c.args.ids.now c.put_id.new.ids (string_bytes c.in_ok-key.key) (fold s.name) (Some c.args.id) c.in_ok-put_id.ensures.ok key) pushed
