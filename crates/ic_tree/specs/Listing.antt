-- A list of items with a sign between each two of them, read to its end.
use Rattle.std.specs.Prelude.{ℕ, List, ◌++◌, length, Option, option_map}
use Rattle.ic_laws.specs.Parse.{Pair, Read, Reader, lambda_parts, let_parts, listed}
use Rattle.ic_laws.specs.Token.{Token}
use Rattle.ic_laws.specs.Tree.{Spelled}

-- the items up to the first that no sign follows
abbrev pub all_listed : {A : Type 0} → (List Token → Read A) → (List Token → Option (List Token)) → List Token → Read (List A)
all_listed item past ts = listed item past (length ts) ts

-- the items that were taken before, and then those that are read
abbrev pub joined_to : {A : Type 0} → List A → Read (List A) → Read (List A)
joined_to taken read = option_map (λ others. (taken ++ others.0, others.1)) read

-- the parts of LET up to the closing bracket
abbrev pub all_let : Reader → ℕ → List Token → Read (List Pair × Spelled)
all_let below b ts = let_parts below b (length ts) ts

-- the parts of LAMBDA up to the closing bracket
abbrev pub all_lambda : Reader → ℕ → List Token → Read (List (List ℕ) × Spelled)
all_lambda below b ts = lambda_parts below b (length ts) ts

-- the parts that were taken before, and then those that are read
abbrev pub parts_joined : {A : Type 0} → List A → Read (List A × Spelled) → Read (List A × Spelled)
parts_joined taken read = option_map (λ parts. ((taken ++ parts.0.0, parts.0.1), parts.1)) read
