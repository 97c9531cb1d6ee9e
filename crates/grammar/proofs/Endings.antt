-- What ends a statement, and words that are the same.
use mathlib.Core.Path.{◌≡◌, refl, sym}
use mathlib.Core.Bool.{true, false, ◌||◌, or-false, false≢true}
use denote.Enum.Bare.{sameb}
use denote.Enum.Declared.{tag_of}
use Rattle.words.specs.declared.symbols.Token.{Token}
use Rattle.words.specs.declared.symbols.Token.TheVariants.{EndOfLine, Keyword, Not, Infix, Call, Named, Number, Hexadecimal, LineOnly, Quoted, Symbol, Unreadable}
use Rattle.words.specs.declared.symbols.Sign.TheVariants.{Colon}
use Rattle.words.specs.declared.symbols.Word.{Word}
use Rattle.words.specs.declared.symbols.Word.TheVariants.{Let, Print, If, Then, Else, Goto, Gosub, Return, For, To, Step, Next, Line, Input, End, Stop, Rem, While, Wend, Data, Read, Restore}
use Rattle.grammar.specs.Tests.{word_rank, is_symbol, is_keyword, ends_statement, ends_line}

-- the line's end, ELSE or a colon
pub statement_ends : (t : Token) → ends_statement t ≡ ends_line t || (is_keyword Else t || is_symbol Colon t)
statement_ends EndOfLine = refl
statement_ends (Keyword w) = sym (or-false _)
statement_ends Not = refl
statement_ends (Infix op) = refl
statement_ends (Call f) = refl
statement_ends (Named v) = refl
statement_ends (Number n) = refl
statement_ends (Hexadecimal n) = refl
statement_ends (LineOnly l) = refl
statement_ends (Quoted q) = refl
statement_ends (Symbol s) = refl
statement_ends Unreadable = refl

-- ELSE is not the line's end
pub else_goes_on : (t : Token) → is_keyword Else t ≡ true → ends_line t ≡ false
else_goes_on EndOfLine e = absurd (false≢true e)
else_goes_on (Keyword w) e = refl
else_goes_on Not e = refl
else_goes_on (Infix op) e = refl
else_goes_on (Call f) e = refl
else_goes_on (Named v) e = refl
else_goes_on (Number n) e = refl
else_goes_on (Hexadecimal n) e = refl
else_goes_on (LineOnly l) e = refl
else_goes_on (Quoted q) e = refl
else_goes_on (Symbol s) e = refl
else_goes_on Unreadable e = refl

-- the derived equality of words is that of their places in the list
word_told : (w : Word) → tag_of Rattle.words.specs.contracts.symbols.Word.the_type w ≡ word_rank w
word_told Let = refl
word_told Print = refl
word_told If = refl
word_told Then = refl
word_told Else = refl
word_told Goto = refl
word_told Gosub = refl
word_told Return = refl
word_told For = refl
word_told To = refl
word_told Step = refl
word_told Next = refl
word_told Line = refl
word_told Input = refl
word_told End = refl
word_told Stop = refl
word_told Rem = refl
word_told While = refl
word_told Wend = refl
word_told Data = refl
word_told Read = refl
word_told Restore = refl

pub same_word : (w x : Word) → sameb Rattle.words.specs.contracts.symbols.Word.the_type w x ≡ is_keyword x (Keyword w)
same_word w x = rw (word_told w, word_told x)
