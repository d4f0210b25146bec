use Rattle.std.proofs.Common.{◌≡◌, Option, MatchResult, IfOk, Some, None, Ok, Err, Result, Bor, List, ℕ, option_map, bytes_eq, chars, find, ap, subst, ◌∙◌}
use Rattle.std.specs.Option.{ok_or}
use Rattle.ic_tables.specs.declared.locale.NamedLocale.{NamedLocale}
use Rattle.ic_tables.specs.Tables.{TableSet, HasGoodFormats, IsWellFormed, locale_of}
use Rattle.ic_tables.proofs.WellFormed.{formats_of_named}
use Rattle.ic_tables.proofs.Lookups.{ok_or-gives}
use Rattle.ic_tables.proofs.tables.Tables.get_named_locale.Goals as goal

look_up-gives : {A B E : Type 0} (f : A → B) (o : Option A) (found : Option B) (e : E) (r : Result A E)
    → r ≡ ok_or o e → option_map f o ≡ found → MatchResult r (λ x. found ≡ Some (f x)) (λ x. (x ≡ e) × (found ≡ None))
look_up-gives f o found e r is h = rw is (ok_or-gives f o found e h)

formats_found : {E : Type 0} (t : TableSet) → IsWellFormed t → (id : List ℕ) (Q : E → Type 0) (r : Result (Bor NamedLocale) E)
    → MatchResult r (λ l. locale_of t id ≡ Some l.now) Q → IfOk r (λ l. HasGoodFormats t l.now.locale)
formats_found t h id Q (Ok l) found = formats_of_named t h id l.now found
formats_found t h id Q (Err e) found = tt

pub returns-clause-found : goal.returns-clause-found
returns-clause-found c =
    let locales = c.as_slice.ensures ∙ ap (λ (t : TableSet). t.locales) c.self.view_is in
    let same = c.find_id.ensures ∙ ap (find (λ l. bytes_eq l.id (chars c.args.id.now))) locales in
    look_up-gives (λ l. l.now) c.find_id.result (locale_of c.args.self.now (chars c.args.id.now)) _ c.ok_or.result c.ok_or.ensures.value same

pub returns-clause-formats : goal.returns-clause-formats
returns-clause-formats c =
    formats_found c.args.self.now (subst IsWellFormed c.self.view_is c.self.invariant) (chars c.args.id.now) _ c.ok_or.result (returns-clause-found c)
