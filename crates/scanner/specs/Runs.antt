-- The runs of bytes that words, numbers, texts and bare items of DATA are made of, and the blanks before them.
use Rattle.std.specs.Prelude.{Bool, true, false, not, ◌||◌, ℕ}
use Rattle.whole.specs.Bytes.{is}
use Rattle.words.specs.Classes.{is_hex, class_of}
use Rattle.words.specs.declared.classes.ByteClass.{ByteClass}
use Rattle.words.specs.declared.classes.ByteClass.TheVariants as class
use Rattle.scanner.specs.declared.runs.Run.{Run}
use Rattle.scanner.specs.declared.runs.Run.TheVariants as run

-- a word is a run of letters and digits
abbrev pub of_word : ByteClass → Bool
of_word class.Letter = true
of_word class.Digit = true
of_word class.Blank = false
of_word class.Sign = false
of_word class.Quote = false
of_word class.Other = false

-- a bare item of DATA runs to the next comma, colon or apostrophe, and no quote stands in it
abbrev pub in_item : ℕ → Bool
in_item b = not (is "," b || is ":" b || is "'" b || is "\"" b)

-- whether a byte belongs to a run: of blanks, a word's, a hexadecimal number's, a quoted text's, a bare item's
abbrev pub passes : Run → ℕ → Bool
passes run.Blank b = is " " b
passes run.Word b = of_word (class_of b)
passes run.Hex b = is_hex b
passes run.Unquoted b = not (is "\"" b)
passes run.Item b = in_item b
