use Rattle.std.proofs.Common.{◌≡◌, List, ℕ, Option, MatchResult, IfOk, Some, None, Ok, Err, Result, option_map, bytes_eq, chars, find, ap, subst, ◌∙◌}
use Rattle.std.specs.Option.{ok_or}
use Rattle.ic_tables.specs.declared.language.Language.{Language}
use Rattle.ic_tables.specs.Tables.{HasGoodWords, IsWellFormed, TableSet, language_of}
use Rattle.ic_tables.proofs.Lookups.{ok_or-gives}
use Rattle.ic_tables.proofs.WellFormed.{good_words, language_among}
use Rattle.ic_tables.proofs.tables.Tables.get_words.Goals as goal

look_up-gives : {A B E : Type 0} (f : A → B) (o : Option A) (found : Option B) (e : E) (r : Result A E)
    → r ≡ ok_or o e → option_map f o ≡ found → MatchResult r (λ x. found ≡ Some (f x)) (λ x. (x ≡ e) × (found ≡ None))
look_up-gives f o found e r is h = rw is (ok_or-gives f o found e h)

words_of_found : {A E : Type 0} (f : A → Language) (t : TableSet) → IsWellFormed t → (code : List ℕ) (Q : E → Type 0) (r : Result A E)
    → MatchResult r (λ x. language_of t code ≡ Some (f x)) Q → IfOk r (λ x. HasGoodWords t (f x))
words_of_found f t h code Q (Ok x) found = good_words t h (f x) (language_among t code (f x) found).0
words_of_found f t h code Q (Err e) found = tt

pub returns-clause-found : goal.returns-clause-found
returns-clause-found c =
    let languages = ap (λ (t : TableSet). t.languages) c.self.view_is in
    let same = c.words.ensures ∙ ap (find (λ l. bytes_eq l.code (chars c.args.id.now))) languages in
    look_up-gives (λ w. w.language.now) c.words.result (language_of c.args.self.now (chars c.args.id.now)) _ c.ok_or.result c.ok_or.ensures.value same

pub returns-clause-words : goal.returns-clause-words
returns-clause-words c =
    words_of_found (λ w. w.language.now) c.args.self.now (subst IsWellFormed c.self.view_is c.self.invariant) (chars c.args.id.now) _ c.ok_or.result
    (returns-clause-found c)
