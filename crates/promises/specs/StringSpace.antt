-- When the string space is asked for bytes, and which strings are live then.
use Rattle.std.specs.Prelude.{◌≡◌, true, List, [], ◌∷◌, ◌++◌, ℕ, suc, ◌+◌, ◌≤◌, ◌<◌, length, Ok}
use Rattle.whole.specs.declared.arithmetic.Operator.{Operator}
use Rattle.whole.specs.declared.arithmetic.Operator.TheVariants.{Add}
use Rattle.whole.specs.Texts.{longest_string}
use Rattle.words.specs.declared.names.Kind.TheVariants as kind
use Rattle.words.specs.Names.{Telling}
use Rattle.words.specs.declared.places.LineNumber.{LineNumber}
use Rattle.words.specs.declared.symbols.Function.{Function}
use Rattle.loader.specs.Lines.{Line, lines_of}
use Rattle.loader.specs.Loading.{load_of}
use Rattle.grammar.specs.Trees as tree
use Rattle.grammar.specs.Trees.{Formula, Arguments, Variable, Item, Statement, Part}
use Rattle.grammar.specs.Functions.{wants}
use Rattle.grammar.specs.Formulas.{count_of}
use Rattle.grammar.specs.declared.wanting.Want.{Want}
use Rattle.variables.specs.Strings.{Value, whole, text, Room, value, produced, longest_space}
use Rattle.variables.specs.Variables.{Variables, bytes_of, string_bytes}
use Rattle.strings.specs.Functions.{called}
use Rattle.operators.specs.Values.{left_right, taken, value_of, values_of}
use Rattle.machine.specs.Items.{fresh}
use Rattle.machine.specs.Machine.{Machine, Lent, most_records, room_of, with_items, with_step, noting, printed, write, comma_blanks, longest_input_line}
use Rattle.statements.specs.Parts.{place_of, head_of}
use Rattle.machine.specs.Order.{Stand, some, wend_for}
use Rattle.turns.specs.Steps.{Next, shown_value, take_line, given, is_whole_kind}
use Rattle.runner.specs.Run.{line_number_of, Standing, at, entering, turn}

-- ---- one request

-- the strings that are unfinished then, and the bytes that are asked for
pub record Ask : Type 0 where
  pub unfinished : List (List ℕ)
  pub bytes : List ℕ

unfoldable pub bytes_in : List (List ℕ) → ℕ
bytes_in [] = 0
bytes_in (b ∷ bs) = length b + bytes_in bs

-- with the bytes of all string variables it is more than the space holds
abbrev pub Exceeds : ℕ → ℕ → Ask → Type 0
Exceeds space variables k = space < variables + bytes_in k.unfinished + length k.bytes

-- the strings among some values
unfoldable pub texts_in : List Value → List (List ℕ)
texts_in [] = []
texts_in (whole w ∷ vs) = texts_in vs
texts_in (text b ∷ vs) = b ∷ texts_in vs

-- the same while some values wait
abbrev pub behind : List Value → Ask → Ask
behind vs k = record { unfinished = texts_in vs ++ k.unfinished; bytes = k.bytes }

-- ---- what a formula asks for while it is worked out

-- the result of a function is a text, in whatever room
abbrev pub Produces : Function → List Value → List ℕ → Type 0
Produces f vs b = (room : Room) → called f vs room ≡ produced b vs room

-- each text, variable read, `+` of two texts and function result asks for its bytes; one of over 255 bytes asks for none (it is 15)
mutual
  pub data Asks (vars : Variables) : Formula → Room → Ask → Type 0 where
    quoted : {b : List ℕ} {room : Room} → Asks vars (tree.text b) room (record { unfinished = []; bytes = b })
    read : {name : Telling} {room : Room}
        → Asks vars (tree.variable kind.Text name) room (record { unfinished = []; bytes = bytes_of vars.strings name })
    within : {f : Formula} {room : Room} {k : Ask} → Asks vars f room k → Asks vars (tree.inside f) room k
    negated : {f : Formula} {room : Room} {k : Ask} → Asks vars f room k → Asks vars (tree.minus f) room k
    flipped : {f : Formula} {room : Room} {k : Ask} → Asks vars f room k → Asks vars (tree.complement f) room k
    on_left : {op : Operator} {f g : Formula} {room : Room} {k : Ask} → Asks vars f room k → Asks vars (tree.two_sided op f g) room k
    on_right : {op : Operator} {f g : Formula} {room after : Room} {a : Value} {k : Ask} → value_of f vars room ≡ value a after
        → left_right op a ≡ true → Asks vars g after k → Asks vars (tree.two_sided op f g) room (behind (a ∷ []) k)
    joined : {f g : Formula} {room after last : Room} {a b : List ℕ} → value_of f vars room ≡ value (text a) after
        → value_of g vars after ≡ value (text b) last → length (a ++ b) ≤ longest_string
        → Asks vars (tree.two_sided Add f g) room (record { unfinished = a ∷ b ∷ []; bytes = a ++ b })
    argued : {f : Function} {a : Arguments} {room : Room} {k : Ask} → AsksAmong vars a (wants f (count_of a)) room k
        → Asks vars (tree.call f a) room k
    resulted : {f : Function} {a : Arguments} {room after : Room} {vs : List Value} {b : List ℕ}
        → values_of a (wants f (count_of a)) vars room ≡ taken vs after → Produces f vs b → length b ≤ longest_string
        → Asks vars (tree.call f a) room (record { unfinished = texts_in vs; bytes = b })

  -- arguments are worked out one by one, and wait
  pub data AsksAmong (vars : Variables) : Arguments → List Want → Room → Ask → Type 0 where
    earlier : {a : Arguments} {f : Formula} {ws : List Want} {room : Room} {k : Ask} → AsksAmong vars a ws room k
        → AsksAmong vars (tree.also a f) ws room k
    here : {a : Arguments} {f : Formula} {ws : List Want} {room after : Room} {vs : List Value} {k : Ask}
        → values_of a ws vars room ≡ taken vs after → Asks vars f after k → AsksAmong vars (tree.also a f) ws room (behind vs k)

-- ---- what a statement asks for

-- a formula that a statement works out: the variables alone are live when it is begun
abbrev pub FormulaAsks : Formula → Machine → Ask → Type 0
FormulaAsks f m k = Asks m.variables f (room_of m) k

-- PRINT's items are worked out, printed and let go one by one
pub data PrintAsks : List Item → Machine → Ask → Type 0 where
  this_item : {f : Formula} {is : List Item} {m : Machine} {k : Ask} → FormulaAsks f m k → PrintAsks (tree.shown f ∷ is) m k
  after_item : {f : Formula} {is : List Item} {m n : Machine} {v : Value} {room : Room} {k : Ask}
      → value_of f m.variables (room_of m) ≡ value v room → write (noting m room) (shown_value v) ≡ printed n → PrintAsks is n k
      → PrintAsks (tree.shown f ∷ is) m k
  after_comma : {is : List Item} {m n : Machine} {k : Ask} → write m (comma_blanks m) ≡ printed n → PrintAsks is n k
      → PrintAsks (tree.comma ∷ is) m k
  after_semicolon : {is : List Item} {m : Machine} {k : Ask} → PrintAsks is m k → PrintAsks (tree.semicolon ∷ is) m k

-- a variable of a READ is set to an item, and then the machine is this one
abbrev pub Gave : Variable → List ℕ → Machine → Machine → Type 0
Gave v b m n = (go : Machine → Next) → given v.kind v.telling b m go ≡ go n

-- READ's items are taken one by one; the variables that it has set are live for those after them, and so are those of another machine
pub data ReadAsks : List Variable → Machine → Machine → Ask → Type 0 where
  this_variable : {v : Variable} {vs : List Variable} {m : Machine} {b : List ℕ} {l : List (List ℕ)} → v.kind ≡ kind.Text → m.items ≡ b ∷ l
      → ReadAsks (v ∷ vs) m m (record { unfinished = []; bytes = b })
  after_variable : {v : Variable} {vs : List Variable} {m n o : Machine} {b : List ℕ} {l : List (List ℕ)} {k : Ask} → m.items ≡ b ∷ l
      → Gave v b (with_items m l) n → ReadAsks vs n o k → ReadAsks (v ∷ vs) m o k

-- LET and PRINT, the condition of an IF and of a WHILE, FOR's start, limit and step one after another, the line that LINE INPUT has
-- taken, and READ's items; the statement stands at a place of the first of some lines. The first machine is the one that it is begun with,
-- the second has the variables that are live when it asks
pub data StatementAsks (lines : List Line) (place : ℕ) : Statement → Machine → Machine → Ask → Type 0 where
  assigned : {v : Variable} {f : Formula} {m : Machine} {k : Ask} → FormulaAsks f m k → StatementAsks lines place (tree.assign v f) m m k
  printing : {is : List Item} {m : Machine} {k : Ask} → PrintAsks is m k → StatementAsks lines place (tree.print is) m m k
  tested : {c : Formula} {p : Part} {m : Machine} {k : Ask} → FormulaAsks c m k → StatementAsks lines place (tree.if_then c p) m m k
  chosen : {c : Formula} {p q : Part} {m : Machine} {k : Ask} → FormulaAsks c m k → StatementAsks lines place (tree.if_else c p q) m m k
  started : {v : Variable} {from to by : Formula} {m : Machine} {k : Ask} → is_whole_kind v.kind ≡ true → FormulaAsks from m k
      → StatementAsks lines place (tree.for v from to by) m m k
  limited : {v : Variable} {from to by : Formula} {m : Machine} {a : ℕ} {room : Room} {k : Ask} → is_whole_kind v.kind ≡ true
      → value_of from m.variables (room_of m) ≡ value (whole a) room → FormulaAsks to (noting m room) k
      → StatementAsks lines place (tree.for v from to by) m m k
  stepped : {v : Variable} {from to by : Formula} {m : Machine} {a b : ℕ} {room next : Room} {k : Ask} → is_whole_kind v.kind ≡ true
      → value_of from m.variables (room_of m) ≡ value (whole a) room
      → value_of to m.variables (room_of (noting m room)) ≡ value (whole b) next → FormulaAsks by (noting m next) k
      → StatementAsks lines place (tree.for v from to by) m m k
  -- a WHILE without its WEND is 29, and asks for none
  repeated : {c : Formula} {w : Stand} {m : Machine} {k : Ask} → wend_for place lines ≡ some w → FormulaAsks c m k
      → StatementAsks lines place (tree.while c) m m k
  -- a line of over 254 bytes is 23, and asks for none
  input : {t : List ℕ} {v : Variable} {m n : Machine} {b : ℕ} {s : List ℕ} → write m t ≡ printed n → n.input ≡ b ∷ s
      → length (take_line (b ∷ s)).bytes ≤ longest_input_line
      → StatementAsks lines place (tree.line_input t v) m m (record { unfinished = []; bytes = (take_line (b ∷ s)).bytes })
  reading : {vs : List Variable} {m n : Machine} {k : Ask} → ReadAsks vs m n k → StatementAsks lines place (tree.read vs) m n k

-- ---- what a run asks for

-- a statement that a run begins, with the lines from its own on, its place there and the machine that has counted it
pub data Begins (program : List ℕ) : ℕ → Standing → List Line → ℕ → Statement → Machine → Type 0 where
  first : {n : ℕ} {m : Machine} {lines : List Line} {p : Part}
      → Begins program (suc n) (at m lines p) lines (place_of p) (head_of p) (with_step m)
  later : {n : ℕ} {m : Machine} {lines : List Line} {p : Part} {ls : List Line} {q : ℕ} {s : Statement} {k : Machine}
      → Begins program n (turn program m lines p) ls q s k → Begins program (suc n) (at m lines p) ls q s k

-- a run that is not refused begins a statement of the line, which asks for more than the space holds besides the bytes of all string
-- variables and all unfinished strings
pub record AsksTooMuch (program lines : List ℕ) (lent : Lent) (budget : ℕ) (l : LineNumber) : Type 0 where
  pub small : lent.space ≤ longest_space
  pub few : lent.records ≤ most_records
  pub loads : load_of program ≡ Ok tt
  pub from : List Line
  pub numbered : line_number_of from ≡ l
  pub place : ℕ
  pub statement : Statement
  pub machine : Machine
  pub begins : Begins program budget (entering (fresh program lines lent) (lines_of program)) from place statement machine
  pub asking : Machine
  pub ask : Ask
  pub asks : StatementAsks from place statement machine asking ask
  pub exceeds : Exceeds lent.space (string_bytes asking.variables.strings) ask
