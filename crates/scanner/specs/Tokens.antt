-- What stands at a place of a line, blanks skipped: the token there, and the place after it.
use Rattle.std.specs.Prelude.{Bool, true, false, cond, ◌&&◌, List, [], ◌∷◌, ℕ, ◌+◌, ◌*◌, leb, ltb, length, get_or, drop, None, Option, Some}
use Rattle.whole.specs.Bytes.{is, leading}
use Rattle.whole.specs.Digits.{leading_digits, leading_value, blanks_of}
use Rattle.words.specs.Classes.{capital_of, is_hex, hex_digit, sign_of, pair_of, class_of}
use Rattle.words.specs.Names.{name_width}
use Rattle.words.specs.Places.{place, line_number, largest_line_number, furthest}
use Rattle.words.specs.Vocabulary.{word_of}
use Rattle.words.specs.declared.places.Place.{Place}
use Rattle.words.specs.declared.classes.ByteClass.{ByteClass}
use Rattle.words.specs.declared.classes.ByteClass.TheVariants.{Letter, Digit, Blank, Sign, Quote, Other}
use Rattle.words.specs.declared.vocabulary.WordFound.{WordFound}
use Rattle.words.specs.declared.vocabulary.WordFound.TheVariants.{Plain, Dollared, Remark, Items, Free}
use Rattle.words.specs.declared.symbols.Word.TheVariants.{Rem, Data}
use Rattle.words.specs.declared.names.Kind.{Kind}
use Rattle.words.specs.declared.names.Kind.TheVariants.{Whole, Text}
use Rattle.words.specs.declared.symbols.Scanned.{Scanned}
use Rattle.words.specs.declared.symbols.Token.{Token}
use Rattle.words.specs.declared.symbols.Token.TheVariants.{
  EndOfLine,
  Keyword,
  Not,
  Infix,
  Call,
  Named,
  Number,
  Hexadecimal,
  LineOnly,
  Quoted,
  Symbol,
  Unreadable,
}
use Rattle.scanner.specs.Runs.{passes}
use Rattle.scanner.specs.declared.runs.Run.TheVariants.{Word, Unquoted}
use Rattle.scanner.specs.declared.tokens.Mark.{Mark}
use Rattle.scanner.specs.declared.tokens.Mark.TheVariants.{Dollar, Percent, Bare}

-- a token and the place after it
infix 4 ◌upto◌
abbrev pub ◌upto◌ : Token → ℕ → Scanned
t upto n = record { token = t; next = place n }

-- In what follows a token begins at place i, and s is what the line holds from there on.

-- nothing that reads
abbrev pub unreadable : ℕ → Scanned
unreadable i = Unreadable upto i

-- ---- words and names

-- what follows a word at once
unfoldable pub mark_of : List ℕ → Mark
mark_of [] = Bare
mark_of (b ∷ s) = cond (is "$" b) Dollar (cond (is "%" b) Percent Bare)

abbrev pub mark_length : Mark → ℕ
mark_length Dollar = 1
mark_length Percent = 1
mark_length Bare = 0

-- a name followed at once by `$` is a string's; one with `%`, or with nothing, a whole number's
abbrev pub kind_of : Mark → Kind
kind_of Dollar = Text
kind_of Percent = Whole
kind_of Bare = Whole

abbrev pub name_token : ℕ → ℕ → Kind → Token
name_token i n kind = Named (record { at = i; len = n; kind = kind })

-- a word of n letters and digits with the mark after it; a reserved word has no mark but its own `$`,
-- REM takes the line to its end, whatever follows, what follows DATA is of its items, and a name has at most 40 characters
abbrev pub marked : WordFound → Mark → ℕ → ℕ → ℕ → Scanned
marked (Plain t) Bare i n end = t upto (i + n)
marked (Plain t) Dollar i n end = unreadable i
marked (Plain t) Percent i n end = unreadable i
marked (Dollared t) Dollar i n end = t upto (i + n + 1)
marked (Dollared t) Percent i n end = unreadable i
marked (Dollared t) Bare i n end = unreadable i
marked Remark m i n end = Keyword Rem upto end
marked Items m i n end = Keyword Data upto (i + n)
marked Free m i n end = cond (leb n name_width && leb i furthest) (name_token i n (kind_of m) upto (i + n + mark_length m)) (unreadable i)

-- a run of letters and digits that begins with a letter is one word
unfoldable pub word_token : ℕ → ℕ → List ℕ → Scanned
word_token end i s =
    let w = leading (passes Word) s in
    marked (word_of w) (mark_of (drop (length w) s)) i (length w) end

-- ---- numbers

-- a number is up to 32767, a line number up to 65529; all its digits belong to it
abbrev pub sized : ℕ → ℕ → ℕ → Scanned
sized v i next =
    cond (leb v 32767) (Number v upto next) (cond (leb v largest_line_number) (LineOnly (line_number v) upto next) (unreadable i))

unfoldable pub number_token : ℕ → List ℕ → Scanned
number_token i s = sized (leading_value s) i (i + length (leading_digits s))

-- the value of hexadecimal digits that follow others of the value v
unfoldable pub hex_from : ℕ → List ℕ → ℕ
hex_from v [] = v
hex_from v (d ∷ ds) = hex_from (v * 16 + hex_digit d) ds

-- `&H` with 1 to 4 hex digits, read as 16 bits
abbrev pub hex_of : List ℕ → ℕ → Scanned
hex_of digits i =
    cond (leb 1 (length digits) && leb (length digits) 4)
    (Hexadecimal (hex_from 0 digits) upto (i + 2 + length digits))
    (unreadable i)

unfoldable pub hex_token : ℕ → List ℕ → Scanned
hex_token i s = cond (is "H" (capital_of (get_or s 1 0))) (hex_of (leading is_hex (drop 2 s)) i) (unreadable i)

-- ---- texts and signs

-- a quoted text must be closed; its bytes are those between the quotes
unfoldable pub text_token : ℕ → List ℕ → Scanned
text_token i s =
    let inner = leading (passes Unquoted) (drop 1 s) in
    cond (ltb (1 + length inner) (length s) && leb (i + 1 + length inner) furthest)
    (Quoted (record { at = i + 1; len = length inner }) upto (i + 1 + length inner + 1))
    (unreadable i)

-- a sign alone
abbrev pub alone : Option Token → ℕ → Scanned
alone (Some t) i = t upto (i + 1)
alone None i = unreadable i

-- two signs that are one comparison, or else the first alone
abbrev pub paired : Option Token → Option Token → ℕ → Scanned
paired (Some t) one i = t upto (i + 2)
paired None one i = alone one i

unfoldable pub sign_token : ℕ → List ℕ → Scanned
sign_token i s = paired (pair_of (get_or s 0 0) (get_or s 1 0)) (sign_of (get_or s 0 0)) i

-- ---- any token

-- an apostrophe outside quotes ends the line's statements
abbrev pub other_token : ℕ → ℕ → List ℕ → Scanned
other_token end i s =
    cond (is "'" (get_or s 0 0)) (EndOfLine upto end) (cond (is "&" (get_or s 0 0)) (hex_token i s) (unreadable i))

-- what the first byte of s begins, by its class; blanks are skipped before
abbrev pub begun : ByteClass → ℕ → ℕ → List ℕ → Scanned
begun Letter end i s = word_token end i s
begun Digit end i s = number_token i s
begun Quote end i s = text_token i s
begun Sign end i s = sign_token i s
begun Other end i s = other_token end i s
begun Blank end i s = unreadable i

abbrev pub token_from : ℕ → ℕ → List ℕ → Scanned
token_from end i [] = EndOfLine upto end
token_from end i (b ∷ s) = begun (class_of b) end i (b ∷ s)

-- the token at a place of a line, blanks skipped
unfoldable pub token_at : List ℕ → Place → Scanned
token_at line at =
    let i = at.0 + blanks_of (drop at.0 line) in
    token_from (length line) i (drop i line)

-- whether a token is one: neither the line's end nor something unreadable
abbrev pub reads : Token → Bool
reads EndOfLine = false
reads (Keyword w) = true
reads Not = true
reads (Infix op) = true
reads (Call f) = true
reads (Named v) = true
reads (Number n) = true
reads (Hexadecimal n) = true
reads (LineOnly l) = true
reads (Quoted q) = true
reads (Symbol s) = true
reads Unreadable = false
