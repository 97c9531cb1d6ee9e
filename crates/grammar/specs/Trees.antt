-- What is read: formulas, statements, and parts, which are lists of statements.
use Rattle.std.specs.Prelude.{ℕ, List}
use Rattle.whole.specs.declared.arithmetic.Operator.{Operator}
use Rattle.words.specs.declared.names.Kind.{Kind}
use Rattle.words.specs.Names.{Telling}
use Rattle.words.specs.declared.places.LineNumber.{LineNumber}
use Rattle.words.specs.declared.symbols.Function.{Function}

mutual
  pub data Formula : Type 0 where
    -- a number, by its word
    number : ℕ → Formula
    variable : Kind → Telling → Formula
    -- a quoted text, by its bytes
    text : List ℕ → Formula
    -- in parentheses
    inside : Formula → Formula
    -- the minus sign
    minus : Formula → Formula
    -- NOT
    complement : Formula → Formula
    two_sided : Operator → Formula → Formula → Formula
    call : Function → Arguments → Formula

  -- a function's arguments, in their order
  pub data Arguments : Type 0 where
    none : Arguments
    also : Arguments → Formula → Arguments

-- the variable that a name stands for
pub record Variable : Type 0 where
  pub kind : Kind
  pub telling : Telling

-- what PRINT takes
pub data Item : Type 0 where
  comma : Item
  semicolon : Item
  shown : Formula → Item

mutual
  pub data Statement : Type 0 where
    empty : Statement
    assign : Variable → Formula → Statement
    print : List Item → Statement
    if_then : Formula → Part → Statement
    if_else : Formula → Part → Part → Statement
    goto : LineNumber → Statement
    gosub : LineNumber → Statement
    return : Statement
    -- start, limit and step
    for : Variable → Formula → Formula → Formula → Statement
    next : Statement
    next_of : Variable → Statement
    while : Formula → Statement
    wend : Statement
    -- the text to print first, and the variable
    line_input : List ℕ → Variable → Statement
    -- its items, by their bytes
    data_of : List (List ℕ) → Statement
    -- never without a variable
    read : List Variable → Statement
    restore : Statement
    restore_to : LineNumber → Statement
    end : Statement
    stop : Statement
    remark : Statement

  -- statements in their order, each with its place in its line; a part always has one
  pub data Part : Type 0 where
    last : ℕ → Statement → Part
    more : ℕ → Statement → Part → Part
