-- Sessions by example: lines and their replies, one step after another.
use Rattle.std.proofs.Common.{◌≡◌, ℕ, List, [], ◌∷◌, refl, ap, ◌∙◌}
use Rattle.ic_machine.specs.Book.{Book}
use Rattle.ic_machine.specs.Command.{commands}
use Rattle.ic_machine.specs.Reply.{Reply, reply_text}
use Rattle.ic_machine.specs.Step.{line_step}

-- what a line leaves, and its reply
unfoldable pub step : Book → List ℕ → Book × Reply
step book line = line_step commands book line

-- the replies to lines
unfoldable pub answers : Book → List (List ℕ) → List (List ℕ)
answers book [] = []
answers book (line ∷ lines) = reply_text (step book line).1 ∷ answers (step book line).0 lines

-- one line, and then the others
pub next : (book after : Book) (reply : Reply) (line : List ℕ) (lines texts : List (List ℕ)) → step book line ≡ (after, reply) → answers after lines ≡ texts → answers book (line ∷ lines) ≡ reply_text reply ∷ texts
unfolding answers
next book after reply line lines texts h e = ap (λ (s : Book × Reply). reply_text s.1 ∷ answers s.0 lines) h ∙ ap (λ (t : List (List ℕ)). reply_text reply ∷ t) e

pub done : (book : Book) → answers book [] ≡ []
unfolding answers
done book = refl
