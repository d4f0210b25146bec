use Rattle.std.proofs.Common.{◌≡◌, Option, MatchResult, Some, None, Result, option_map, bytes_eq, chars, find, ap, subst, ◌∙◌}
use Rattle.std.specs.Option.{ok_or}
use Rattle.ic_tables.specs.Tables.{TableSet, IsWellFormed, language_of}
use Rattle.ic_tables.proofs.WellFormed.{words_of_found}
use Rattle.ic_tables.proofs.Lookups.{ok_or-gives}
use Rattle.ic_tables.proofs.tables.Tables.get_language.Goals as goal

look_up-gives : {A B E : Type 0} (f : A → B) (o : Option A) (found : Option B) (e : E) (r : Result A E)
    → r ≡ ok_or o e → option_map f o ≡ found → MatchResult r (λ x. found ≡ Some (f x)) (λ x. (x ≡ e) × (found ≡ None))
look_up-gives f o found e r is h = rw is (ok_or-gives f o found e h)

pub returns-clause-found : goal.returns-clause-found
returns-clause-found c =
    let languages = c.as_slice.ensures ∙ ap (λ (t : TableSet). t.languages) c.self.view_is in
    let same = c.find_id.ensures ∙ ap (find (λ l. bytes_eq l.code (chars c.args.id.now))) languages in
    look_up-gives (λ l. l.now) c.find_id.result (language_of c.args.self.now (chars c.args.id.now)) _ c.ok_or.result c.ok_or.ensures.value same

pub returns-clause-words : goal.returns-clause-words
returns-clause-words c =
    words_of_found c.args.self.now (subst IsWellFormed c.self.view_is c.self.invariant) (chars c.args.id.now) _ c.ok_or.result (returns-clause-found c)
