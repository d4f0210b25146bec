use Rattle.std.proofs.Common.{◌≡◌, ◌++◌, [], ◌∷◌, ◌∙◌, ℕ, List, ap, append-nil, append_assoc, chars, string_bytes, sym}
use Rattle.std.proofs.lemmas.Result.{on_ok_weaker}
use Rattle.std.proofs.lemmas.Str.{IsUtf8-string_bytes, scalars-chars}
use Rattle.ic_laws.specs.Character.{tab}
use Rattle.ic_laws.specs.Lines.{escaped}
use Rattle.ic_lines.proofs.EscapeLemmas.{scalars_behind}
use Rattle.ic_book.specs.Markup.{markup_at}
use Rattle.ic_book.proofs.markup.MarkupFields.write.Goals as goal

-- the word behind its tab
behind_tab : (old shown : List ℕ) → (old ++ tab ∷ []) ++ escaped shown ≡ old ++ ((tab ∷ escaped shown) ++ [])
behind_tab old shown = append_assoc old (tab ∷ []) (escaped shown) ∙ ap (λ t. old ++ t) (sym (append-nil (tab ∷ escaped shown)))

pub returns-clause-ok : goal.returns-clause-ok
returns-clause-ok c =
    let shown = markup_at c.args.self.now.model.now.book c.args.self.now.sheet in
    on_ok_weaker c.push_word_at.result
    (λ put. put ∙ ap (λ t. t ++ escaped shown) c.in_ok-push_char.ensures.ok ∙ behind_tab (chars (string_bytes c.args.reply.now)) shown)
    c.push_word_at.ensures

pub returns-clause-texts : goal.returns-clause-texts
returns-clause-texts c =
    let shown = markup_at c.args.self.now.model.now.book c.args.self.now.sheet in
    on_ok_weaker c.push_word_at.result
    (λ put. (scalars_behind (chars (string_bytes c.push_char.new.text)) shown (chars (string_bytes c.push_word_at.new.text)) put (scalars-chars _ (IsUtf8-string_bytes c.push_word_at.new.text)), tt))
    c.push_word_at.ensures
