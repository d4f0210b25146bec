-- What holds where bytes are told.
use Rattle.std.proofs.Common.{ℕ, List, Option, Some, None}
use Rattle.ic_lines.specs.Bytes.{IfTold}

-- what follows for each two follows where they are told
pub IfTold-weaker : (a b : Option (List ℕ)) (P Q : List ℕ → List ℕ → Type 0) → ((x y : List ℕ) → P x y → Q x y) → IfTold a b P → IfTold a b Q
IfTold-weaker None b P Q f h = tt
IfTold-weaker (Some x) None P Q f h = h
IfTold-weaker (Some x) (Some y) P Q f h = f x y h

-- where nothing happened
pub IfTold-same : (a : Option (List ℕ)) (P : List ℕ → List ℕ → Type 0) → ((x : List ℕ) → P x x) → IfTold a a P
IfTold-same None P f = tt
IfTold-same (Some x) P f = f x

-- one call and then another
pub IfTold-join : (a b c : Option (List ℕ)) (P Q R : List ℕ → List ℕ → Type 0) → ((x y z : List ℕ) → P x y → Q y z → R x z) → IfTold a b P → IfTold b c Q → IfTold a c R
IfTold-join None b c P Q R f h k = tt
IfTold-join (Some x) None c P Q R f h k = absurd h
IfTold-join (Some x) (Some y) None P Q R f h k = k
IfTold-join (Some x) (Some y) (Some z) P Q R f h k = f x y z h k

-- two things of one call
pub IfTold-both : (a b : Option (List ℕ)) (P Q R : List ℕ → List ℕ → Type 0) → ((x y : List ℕ) → P x y → Q x y → R x y) → IfTold a b P → IfTold a b Q → IfTold a b R
IfTold-both None b P Q R f h k = tt
IfTold-both (Some x) None P Q R f h k = h
IfTold-both (Some x) (Some y) P Q R f h k = f x y h k
