use Rattle.std.proofs.Common.{◌≡◌, ◌∙◌, ◌++◌, ◌∷◌, [], ℕ, List, Some, None, ap, arith, cond, length, nat_eq, subst, sym}
use Rattle.std.specs.BTreeMap.{get}
use Rattle.std.specs.Option.{option_or}
use Rattle.std.specs.Ordering.{nat_cmp}
use Rattle.ic_dump.specs.Passing.{sheet_named}
use Rattle.ic_dump.specs.Records.{AreFound}
use Rattle.ic_dump.proofs.StandingLemmas.{found_more}
use Rattle.ic_dump.proofs.standing.push_sheet.Goals as goal

pub returns-clause-found : goal.returns-clause-found
returns-clause-found c =
    let old = c.args.standing.now in
    let name = c.args.name.now in
    let as_put : c.push.new.self.items ≡ old.sheets.items ++ sheet_named (c.args.id, name) ∷ [] =
    c.in_ok-push.ensures.items ∙ ap (λ (n : List ℕ). old.sheets.items ++ sheet_named (c.args.id, n) ∷ []) (c.in_ok-name.ensures ∙ c.as_str.ensures.characters) in
    let long : c.len.result ≡ length old.sheets.items = omega (arith, old.sheets.ok.0) in
    subst (AreFound c.put_index.new.indexes) (sym as_put)
    (found_more old.indexes c.put_index.new.indexes old.sheets.items (sheet_named (c.args.id, name)) c.requires
    (λ other. c.in_ok-put_index.ensures other ∙ ap (λ (n : ℕ). option_or (get nat_cmp old.indexes other) (cond (nat_eq c.args.id other) (Some n) None)) long))
