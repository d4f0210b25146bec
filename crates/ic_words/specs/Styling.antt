-- The words of a style, as the code has them.
use Rattle.ic_cells.specs.declared.style.Style.{Style}
use Rattle.ic_machine.specs.Word.{AllSaid, Done, OfColor, OfFlag, OfText, Then}
use Rattle.ic_machine.specs.subjects.Styles.{style_said}
use Rattle.ic_words.specs.Words.{color_meant}
use Rattle.ic_words.specs.declared.styling.StyleWords.{StyleWords}

-- what its words say, one after another
abbrev pub style_words : StyleWords → AllSaid (Then OfText (Then OfFlag (Then OfFlag (Then OfColor Done))))
style_words style = (style.num_fmt, (style.quote_prefix, (style.bold, (color_meant style.fill, tt))))

-- the style that is meant
abbrev pub style_meant : StyleWords → Style
style_meant style = style_said style.num_fmt style.quote_prefix style.bold (color_meant style.fill)
