-- The lines that are made: each is plain text.
use Rattle.std.proofs.Common.{◌≡◌, ℕ, ◌==◌, List, [], ◌∷◌, ◌++◌, Ok, Some, chars, codes, false, true, ap, append-nil, inl, inr, refl, sym, ◌∙◌, IsAscii}
use Rattle.std.specs.Fmt.{decimal}
use Rattle.std.proofs.lemmas.Bool.{cases_Bool}
use Rattle.std.proofs.lemmas.Str.{IsAscii-append, chars-IsAscii}
use Rattle.ic_laws.specs.Character.{tab}
use Rattle.ic_lines.proofs.LineLemmas.{no_line_feed-append}
use Rattle.ic_lines.specs.Reading.{has_line_feed}
use Rattle.ic_machine.specs.Reply.{Field, NumberField, field_word}
use Rattle.ic_words.proofs.ReplyLemmas.{IsAscii-digits, are_ascii, fields_line, number_characters, number_pushed, tested_ascii}
use Rattle.ic_run.specs.Make.{IsPlainLine, code_at, made_text, written_at}
use Rattle.ic_run.specs.declared.made.MadeCommand.{MadeCommand}
use Rattle.ic_run.specs.declared.made.MadeCommand.TheVariants as made

-- ASCII without a line feed
abbrev IsPlain : List ℕ → Type 0
IsPlain bytes = IsAscii bytes × (has_line_feed bytes ≡ false)

joined : (xs ys : List ℕ) → IsPlain xs → IsPlain ys → IsPlain (xs ++ ys)
joined xs ys p q = (IsAscii-append xs ys p.0 q.0, no_line_feed-append xs ys p.1 q.1)

-- a field of a reply is one line, so a number is
no_feed_in_decimal : (n : ℕ) → has_line_feed (decimal n) ≡ false
no_feed_in_decimal n =
    let field : Field = NumberField (Some n) in
    let word : tab ∷ decimal n ≡ field_word field = number_pushed {T = ℕ} {E = ℕ} (Ok 0) [] (tab ∷ []) (tab ∷ decimal n) (Some n) n refl refl refl in
    ap has_line_feed (word ∙ sym (append-nil (field_word field))) ∙ (fields_line (field ∷ []) (number_characters (Some n), tt)).1

-- what stands before a number, the number, and the rest
numbered : (front : List ℕ) (n : ℕ) (rest : List ℕ) → are_ascii front ≡ true → has_line_feed front ≡ false → IsPlain rest → IsPlain (front ++ (decimal n ++ rest))
numbered front n rest ascii line plain = joined front (decimal n ++ rest) (tested_ascii front ascii, line) (joined (decimal n) rest (IsAscii-digits n, no_feed_in_decimal n) plain)

last_numbered : (front : List ℕ) (n : ℕ) → are_ascii front ≡ true → has_line_feed front ≡ false → IsPlain (front ++ decimal n)
last_numbered front n ascii line = joined front (decimal n) (tested_ascii front ascii, line) (IsAscii-digits n, no_feed_in_decimal n)

plain_written : (sheet row column : ℕ) (formula : List ℕ) → IsPlain formula → IsPlain (written_at sheet row column formula)
plain_written sheet row column formula plain =
    numbered (codes "update_cell_with_formula\t") sheet (codes "\t" ++ (decimal row ++ (codes "\t" ++ (decimal column ++ (codes "\t" ++ formula))))) refl refl
    (numbered (codes "\t") row (codes "\t" ++ (decimal column ++ (codes "\t" ++ formula))) refl refl
    (numbered (codes "\t") column (codes "\t" ++ formula) refl refl (joined (codes "\t") formula (tested_ascii (codes "\t") refl, refl) plain)))

plain_code : (place : ℕ) → IsPlain (code_at place)
plain_code place =
    elim (cases_Bool (place == 0)) [
      | inl e ↦ rw e (tested_ascii (codes "en") refl, refl)
      | inr e ↦ elim (cases_Bool (place == 1)) [
        | inl f ↦ rw (e, f) (tested_ascii (codes "es") refl, refl)
        | inr f ↦ elim (cases_Bool (place == 2)) [
          | inl g ↦ rw (e, f, g) (tested_ascii (codes "fr") refl, refl)
          | inr g ↦ elim (cases_Bool (place == 3)) [
            | inl h ↦ rw (e, f, g, h) (tested_ascii (codes "de") refl, refl)
            | inr h ↦ rw (e, f, g, h) (tested_ascii (codes "it") refl, refl)
          ]
        ]
      ]
    ]

plain_text : (m : MadeCommand) → IsPlain (made_text m)
unfolding made_text
plain_text (made.AddSheet i) = last_numbered (codes "add_sheet\tS") i refl refl
plain_text (made.RenameSheet index i) = numbered (codes "rename_sheet_by_index\t") index (codes "\tN" ++ decimal i) refl refl (last_numbered (codes "\tN") i refl refl)
plain_text (made.MoveSheet index target) = numbered (codes "move_sheet\t") index (codes "\t" ++ decimal target) refl refl (last_numbered (codes "\t") target refl refl)
plain_text (made.WriteSum sheet row column i factor) =
    plain_written sheet row column (codes "=SUM('S" ++ (decimal i ++ (codes "'!B2)*" ++ decimal factor)))
    (numbered (codes "=SUM('S") i (codes "'!B2)*" ++ decimal factor) refl refl (last_numbered (codes "'!B2)*") factor refl refl))
plain_text (made.WriteTax sheet row column other) = plain_written sheet row column (codes "=tax+B" ++ decimal other) (last_numbered (codes "=tax+B") other refl refl)
plain_text made.NameTax = (tested_ascii (codes "new_defined_name\ttax\t-\tSheet1!$A$1") refl, refl)
plain_text (made.SetLocale place) = joined (codes "set_locale\t") (code_at place) (tested_ascii (codes "set_locale\t") refl, refl) (plain_code place)
plain_text (made.SetLanguage place) = joined (codes "set_language\t") (code_at place) (tested_ascii (codes "set_language\t") refl, refl) (plain_code place)

-- the text of a command is a plain line
pub plain_line : (text : List ℕ) (m : MadeCommand) → text ≡ made_text m → IsPlainLine text
plain_line text m e =
    let p = plain_text m in
    record {
      characters = ap chars e ∙ chars-IsAscii (made_text m) p.0 ∙ sym e;
      one_line = ap has_line_feed e ∙ p.1;
    }
