-- The reserved words: the capital words of the papers' statements, operators and functions, with or without `$`.
use Rattle.std.specs.Prelude.{List, [], ◌∷◌, ◌++◌, map, ℕ}
use Rattle.words.specs.Spellings.{Spelt, ◌means◌, meaning}
use Rattle.words.specs.Classes.{capital_of}
use Rattle.words.specs.declared.vocabulary.WordFound.{WordFound}
use Rattle.words.specs.declared.vocabulary.WordFound.TheVariants.{Plain, Dollared, Remark, Items, Free}
use Rattle.whole.specs.declared.arithmetic.Operator.TheVariants.{Modulo, And, Or, Xor, Eqv, Imp}
use Rattle.words.specs.declared.symbols.Token.TheVariants.{Keyword, Not, Infix, Call}
use Rattle.words.specs.declared.symbols.Function.TheVariants.{
  Len,
  Asc,
  Chr,
  Left,
  Right,
  Mid,
  Space,
  String,
  Instr,
  Str,
  Hex,
  Val,
  Abs,
  Sgn,
  Fre,
}
use Rattle.words.specs.declared.symbols.Word.TheVariants.{
  Let,
  Print,
  If,
  Then,
  Else,
  Goto,
  Gosub,
  Return,
  For,
  To,
  Step,
  Next,
  Line,
  Input,
  End,
  Stop,
  While,
  Wend,
  Read,
  Restore,
}

-- Each as it is spelt, without the `$` that the name of a function may end in.

-- the words of statements, the second paper's last
abbrev pub statement_words : List (Spelt WordFound)
statement_words =
    ("LET" means Plain (Keyword Let))
    ∷ ("PRINT" means Plain (Keyword Print))
    ∷ ("IF" means Plain (Keyword If))
    ∷ ("THEN" means Plain (Keyword Then))
    ∷ ("ELSE" means Plain (Keyword Else))
    ∷ ("GOTO" means Plain (Keyword Goto))
    ∷ ("GOSUB" means Plain (Keyword Gosub))
    ∷ ("RETURN" means Plain (Keyword Return))
    ∷ ("FOR" means Plain (Keyword For))
    ∷ ("TO" means Plain (Keyword To))
    ∷ ("STEP" means Plain (Keyword Step))
    ∷ ("NEXT" means Plain (Keyword Next))
    ∷ ("LINE" means Plain (Keyword Line))
    ∷ ("INPUT" means Plain (Keyword Input))
    ∷ ("END" means Plain (Keyword End))
    ∷ ("STOP" means Plain (Keyword Stop))
    ∷ ("REM" means Remark)
    ∷ ("WHILE" means Plain (Keyword While))
    ∷ ("WEND" means Plain (Keyword Wend))
    ∷ ("DATA" means Items)
    ∷ ("READ" means Plain (Keyword Read))
    ∷ ("RESTORE" means Plain (Keyword Restore))
    ∷ []

abbrev pub operator_words : List (Spelt WordFound)
operator_words =
    ("MOD" means Plain (Infix Modulo))
    ∷ ("NOT" means Plain Not)
    ∷ ("AND" means Plain (Infix And))
    ∷ ("OR" means Plain (Infix Or))
    ∷ ("XOR" means Plain (Infix Xor))
    ∷ ("EQV" means Plain (Infix Eqv))
    ∷ ("IMP" means Plain (Infix Imp))
    ∷ []

-- functions without a `$`, and with it
abbrev pub plain_functions : List (Spelt WordFound)
plain_functions =
    ("LEN" means Plain (Call Len))
    ∷ ("ASC" means Plain (Call Asc))
    ∷ ("INSTR" means Plain (Call Instr))
    ∷ ("VAL" means Plain (Call Val))
    ∷ ("ABS" means Plain (Call Abs))
    ∷ ("SGN" means Plain (Call Sgn))
    ∷ ("FRE" means Plain (Call Fre))
    ∷ []

abbrev pub dollar_functions : List (Spelt WordFound)
dollar_functions =
    ("CHR" means Dollared (Call Chr))
    ∷ ("LEFT" means Dollared (Call Left))
    ∷ ("RIGHT" means Dollared (Call Right))
    ∷ ("MID" means Dollared (Call Mid))
    ∷ ("SPACE" means Dollared (Call Space))
    ∷ ("STRING" means Dollared (Call String))
    ∷ ("STR" means Dollared (Call Str))
    ∷ ("HEX" means Dollared (Call Hex))
    ∷ []

abbrev pub function_words : List (Spelt WordFound)
function_words = plain_functions ++ dollar_functions

-- the words of formulas
abbrev pub formula_words : List (Spelt WordFound)
formula_words = operator_words ++ function_words

unfoldable pub reserved : List (Spelt WordFound)
reserved = statement_words ++ formula_words

-- letters are folded to capitals; the whole word decides
abbrev pub word_of : List ℕ → WordFound
word_of letters = meaning reserved Free (map capital_of letters)
