-- What lines leave and reply, by the whole machine and by the identity machine.
use Rattle.std.proofs.Common.{◌≡◌, ℕ, List, [], ◌∷◌, ◌++◌, Option, Some, None, codes, refl, ap, ap₂, sym, subst, ◌∙◌}
use Rattle.std.specs.Str.{chars}
use Rattle.ic_laws.specs.CoreBook.{CoreBook}
use Rattle.ic_laws.specs.Notations.{Notations}
use Rattle.ic_tables.specs.Tables.{TableSet}
use Rattle.ic_tree.specs.Notations.{notations_of}
use Rattle.ic_machine.specs.Book as machine
use Rattle.ic_machine.specs.Run.{after, replies}
use Rattle.ic_lines.specs.Bytes.{IfTold}
use Rattle.ic_lines.proofs.ToldLemmas.{IfTold-weaker}
use Rattle.ic_parts.specs.Book.{Book, IsSameBeside, ModelState, StepsTo, core_of, new_book, notations_in}
use Rattle.ic_parts.specs.Whole.{whole_of}
use Rattle.ic_commands.specs.Answered.{DoesLine, LeavesLine}
use Rattle.ic_run.specs.Core.{AreCore, IsPlainBook, identity_machine, whole_machine}
use Rattle.ic_run.specs.Run.{AppendsReplies, AppendsWhole, LinesDo}
use Rattle.ic_run.proofs.CoreLineLemmas.{core_lines_done}

pub lines_leave : (all : List (List ℕ)) (old new : ModelState) → LinesDo all old new → whole_of new.book ≡ after whole_machine (whole_of old.book) all
lines_leave [] old new did = ap (λ (m : ModelState). whole_of m.book) did
lines_leave (line ∷ all) old new did = lines_leave all did.0 new did.2 ∙ ap (λ (b : machine.Book). after whole_machine b all) did.1.book

-- what stays beside two steps
same_beside_again : (old mid new : Book) → IsSameBeside old mid → IsSameBeside mid new → IsSameBeside old new
same_beside_again old mid new p q = record { name = q.name ∙ p.name; zone = q.zone ∙ p.zone; theme = q.theme ∙ p.theme; metadata = q.metadata ∙ p.metadata; tables = q.tables ∙ p.tables }

-- core lines leave what the identity machine leaves
pub core_left : (all : List (List ℕ)) (old new : ModelState) → LinesDo all old new → IsPlainBook (whole_of old.book) → AreCore old.book.tables all
    → StepsTo old.book new.book (after (identity_machine (notations_in old.book)) (core_of old.book) all)
core_left [] old new did plain are =
    subst (λ (m : ModelState). StepsTo old.book m.book (core_of old.book)) (sym did) (record { core = refl; beside = record { name = refl; zone = refl; theme = refl; metadata = refl; tables = refl } })
core_left (line ∷ all) old new did plain are =
    let done = core_lines_done line old did.0 did.1 plain are.0 in
    let later = core_left all did.0 new did.2 done.plain (subst (λ (t : TableSet). AreCore t all) (sym done.steps.beside.tables) are.1) in
    record {
      core = later.core ∙ ap₂ (λ (n : Notations) (c : CoreBook). after (identity_machine n) c all) (ap notations_of done.steps.beside.tables) done.steps.core;
      beside = same_beside_again old.book did.0.book new.book done.steps.beside later.beside;
    }

-- and both machines have the same replies to them
pub replies_same : (all : List (List ℕ)) (old new : ModelState) → LinesDo all old new → IsPlainBook (whole_of old.book) → AreCore old.book.tables all
    → replies whole_machine (whole_of old.book) all ≡ replies (identity_machine (notations_in old.book)) (core_of old.book) all
replies_same [] old new did plain are = refl
replies_same (line ∷ all) old new did plain are =
    let done = core_lines_done line old did.0 did.1 plain are.0 in
    let n = notations_in old.book in
    let later : replies whole_machine (whole_machine (whole_of old.book) line).0 all ≡ replies (identity_machine n) (identity_machine n (core_of old.book) line).0 all =
    ap (λ (b : machine.Book). replies whole_machine b all) (sym did.1.book)
    ∙ replies_same all did.0 new did.2 done.plain (subst (λ (t : TableSet). AreCore t all) (sym done.steps.beside.tables) are.1)
    ∙ ap₂ (λ (n : Notations) (c : CoreBook). replies (identity_machine n) c all) (ap notations_of done.steps.beside.tables) done.steps.core in
    ap₂ (λ (a b : List ℕ). a ++ b) done.tells later

-- what an answered line left
pub line_left : (line : List ℕ) (old new : ModelState) (reply : List ℕ) → DoesLine line old new reply → LeavesLine line old new
line_left line old new reply does = record { book = does.book; stays = does.stays; valid = does.valid }

-- the name of a new workbook
name_chars : chars (codes "workbook") ≡ codes "workbook"
unfolding chars
name_chars = refl

pub workbook : (locale zone language created : List ℕ) (tables : TableSet) → new_book (chars (codes "workbook")) locale zone language created tables ≡ new_book (codes "workbook") locale zone language created tables
workbook locale zone language created tables = ap (λ (name : List ℕ). new_book name locale zone language created tables) name_chars

pub some_moment : (first b before now : Option (List ℕ)) (book : List ℕ → Book) (created : List ℕ) → IfTold first b (λ bytes _. IfTold before now (AppendsReplies whole_machine (whole_of (book created)) bytes))
    → IfTold first b (λ bytes _. IfTold before now (AppendsWhole book bytes))
some_moment None b before now book created told = tt
some_moment (Some bytes) None before now book created told = told
some_moment (Some bytes) (Some left) before now book created told =
    IfTold-weaker before now (AppendsReplies whole_machine (whole_of (book created)) bytes) (AppendsWhole book bytes) (λ x y q. (created, q)) told
