-- Tests of a token: whether it is a certain sign or word, and what it names or says.
use Rattle.std.specs.Prelude.{Bool, true, false, ℕ, eqb}
use Rattle.words.specs.Places.{line_number}
use Rattle.words.specs.declared.names.Name.{Name}
use Rattle.words.specs.declared.places.LineNumber.{LineNumber}
use Rattle.words.specs.declared.symbols.Quotation.{Quotation}
use Rattle.words.specs.declared.symbols.Token.{Token}
use Rattle.words.specs.declared.symbols.Token.TheVariants.{
  EndOfLine,
  Keyword,
  Not,
  Infix,
  Call,
  Named,
  Number,
  Hexadecimal,
  LineOnly,
  Quoted,
  Symbol,
  Unreadable,
}
use Rattle.words.specs.declared.symbols.Sign.{Sign}
use Rattle.words.specs.declared.symbols.Sign.TheVariants.{
  Open,
  Close,
  Comma,
  Semicolon,
  Colon,
  Question,
  Equal,
  Minus,
}
use Rattle.words.specs.declared.symbols.Word.{Word}
use Rattle.words.specs.declared.symbols.Word.TheVariants.{
  Let,
  Print,
  If,
  Then,
  Else,
  Goto,
  Gosub,
  Return,
  For,
  To,
  Step,
  Next,
  Line,
  Input,
  End,
  Stop,
  Rem,
  While,
  Wend,
  Data,
  Read,
  Restore,
}

-- by a test; what is not chosen is not worked out
abbrev pub choose : {A : Type 0} → Bool → (Unit {0} → A) → (Unit {0} → A) → A
choose true a b = a tt
choose false a b = b tt

-- ---- signs and words, told apart by their place in their list

abbrev pub sign_rank : Sign → ℕ
sign_rank Open = 0
sign_rank Close = 1
sign_rank Comma = 2
sign_rank Semicolon = 3
sign_rank Colon = 4
sign_rank Question = 5
sign_rank Equal = 6
sign_rank Minus = 7

abbrev pub word_rank : Word → ℕ
word_rank Let = 0
word_rank Print = 1
word_rank If = 2
word_rank Then = 3
word_rank Else = 4
word_rank Goto = 5
word_rank Gosub = 6
word_rank Return = 7
word_rank For = 8
word_rank To = 9
word_rank Step = 10
word_rank Next = 11
word_rank Line = 12
word_rank Input = 13
word_rank End = 14
word_rank Stop = 15
word_rank Rem = 16
word_rank While = 17
word_rank Wend = 18
word_rank Data = 19
word_rank Read = 20
word_rank Restore = 21

abbrev pub is_symbol : Sign → Token → Bool
is_symbol x EndOfLine = false
is_symbol x (Keyword w) = false
is_symbol x Not = false
is_symbol x (Infix op) = false
is_symbol x (Call f) = false
is_symbol x (Named v) = false
is_symbol x (Number n) = false
is_symbol x (Hexadecimal n) = false
is_symbol x (LineOnly l) = false
is_symbol x (Quoted q) = false
is_symbol x (Symbol s) = eqb (sign_rank s) (sign_rank x)
is_symbol x Unreadable = false

abbrev pub is_keyword : Word → Token → Bool
is_keyword x EndOfLine = false
is_keyword x (Keyword w) = eqb (word_rank w) (word_rank x)
is_keyword x Not = false
is_keyword x (Infix op) = false
is_keyword x (Call f) = false
is_keyword x (Named v) = false
is_keyword x (Number n) = false
is_keyword x (Hexadecimal n) = false
is_keyword x (LineOnly l) = false
is_keyword x (Quoted q) = false
is_keyword x (Symbol s) = false
is_keyword x Unreadable = false

-- what ends a statement: a colon, ELSE or the line's end
abbrev pub ends_statement : Token → Bool
ends_statement EndOfLine = true
ends_statement (Keyword w) = eqb (word_rank w) (word_rank Else)
ends_statement Not = false
ends_statement (Infix op) = false
ends_statement (Call f) = false
ends_statement (Named v) = false
ends_statement (Number n) = false
ends_statement (Hexadecimal n) = false
ends_statement (LineOnly l) = false
ends_statement (Quoted q) = false
ends_statement (Symbol s) = eqb (sign_rank s) (sign_rank Colon)
ends_statement Unreadable = false

abbrev pub ends_line : Token → Bool
ends_line EndOfLine = true
ends_line (Keyword w) = false
ends_line Not = false
ends_line (Infix op) = false
ends_line (Call f) = false
ends_line (Named v) = false
ends_line (Number n) = false
ends_line (Hexadecimal n) = false
ends_line (LineOnly l) = false
ends_line (Quoted q) = false
ends_line (Symbol s) = false
ends_line Unreadable = false

-- ---- a name, a text or a line number, and what to do with it; or else

abbrev pub on_name : {A : Type 0} → Token → (Name → A) → A → A
on_name EndOfLine go other = other
on_name (Keyword w) go other = other
on_name Not go other = other
on_name (Infix op) go other = other
on_name (Call f) go other = other
on_name (Named v) go other = go v
on_name (Number n) go other = other
on_name (Hexadecimal n) go other = other
on_name (LineOnly l) go other = other
on_name (Quoted q) go other = other
on_name (Symbol s) go other = other
on_name Unreadable go other = other

abbrev pub on_text : {A : Type 0} → Token → (Quotation → A) → A → A
on_text EndOfLine go other = other
on_text (Keyword w) go other = other
on_text Not go other = other
on_text (Infix op) go other = other
on_text (Call f) go other = other
on_text (Named v) go other = other
on_text (Number n) go other = other
on_text (Hexadecimal n) go other = other
on_text (LineOnly l) go other = other
on_text (Quoted q) go other = go q
on_text (Symbol s) go other = other
on_text Unreadable go other = other

-- a line number in a statement is digits, up to 65529
abbrev pub on_line : {A : Type 0} → Token → (LineNumber → A) → A → A
on_line EndOfLine go other = other
on_line (Keyword w) go other = other
on_line Not go other = other
on_line (Infix op) go other = other
on_line (Call f) go other = other
on_line (Named v) go other = other
on_line (Number n) go other = go (line_number n)
on_line (Hexadecimal n) go other = other
on_line (LineOnly l) go other = go l
on_line (Quoted q) go other = other
on_line (Symbol s) go other = other
on_line Unreadable go other = other
