-- What `Tables::new` answers.
use Rattle.std.specs.Prelude.{◌≡◌, ℕ, List, Bool, Option, Some, None, Result, MatchResult}
use Rattle.ic_tables.specs.declared.error.TablesError.{TablesError}
use Rattle.ic_tables.specs.declared.error.TablesError.TheVariants as errors
use Rattle.ic_tables.specs.Tables.{first_false}

-- want of memory may come in place of any answer; otherwise the first condition that fails is told
abbrev pub Tells : TablesError → Option ℕ → Type 0
Tells (errors.BadTables n) failed = failed ≡ Some n
Tells errors.OutOfMemory failed = Unit {0}

-- what is answered where these tests, numbered from n, are made in their order
abbrev pub Checks : {T : Type 0} → ℕ → List Bool → Result T TablesError → Type 0
Checks n tests result = MatchResult result (λ _. first_false n tests ≡ None) (λ e. Tells e (first_false n tests))
