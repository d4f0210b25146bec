-- What is appended to a text.
use Rattle.std.proofs.Common.{◌≡◌, ℕ, ◌^◌, ◌<◌, List, ◌++◌, chars, Result, Ok, Err, OnOk, ◌∙◌, ap, append_assoc}
use Rattle.std.specs.Fmt.{decimal}
use Rattle.std.proofs.lemmas.Fmt.{IsAscii-decimal}
use Rattle.std.proofs.lemmas.Str.{chars-IsAscii}

-- a number's digits are characters
pub chars-decimal : (n : ℕ) → n < 2 ^ 64 → chars (decimal n) ≡ decimal n
chars-decimal n h = chars-IsAscii (decimal n) (IsAscii-decimal n h)

-- the same text is appended
pub same_appended : {T E : Type 0} (r : Result T E) (new old x y : List ℕ) → x ≡ y → OnOk r (new ≡ old ++ x) → OnOk r (new ≡ old ++ y)
same_appended (Ok v) new old x y e h = h ∙ ap (λ t. old ++ t) e
same_appended (Err v) new old x y e h = h

-- a text and another one after it are appended
pub both_appended : {T E : Type 0} (r : Result T E) (new mid old x y z : List ℕ) → y ≡ z → mid ≡ old ++ x → OnOk r (new ≡ mid ++ y) → OnOk r (new ≡ old ++ (x ++ z))
both_appended (Ok v) new mid old x y z e m h = h ∙ ap (λ t. mid ++ t) e ∙ ap (λ t. t ++ z) m ∙ append_assoc old x z
both_appended (Err v) new mid old x y z e m h = h
