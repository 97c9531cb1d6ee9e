-- The items of a text: those of all its DATA statements in text order, of any branch. Lines that don't read hold none.
use Rattle.std.specs.Prelude.{List, [], ◌∷◌, ◌++◌, ℕ}
use Rattle.loader.specs.Lines.{lines_of}
use Rattle.grammar.specs.Trees.{Statement, empty, assign, print, if_then, if_else, goto, gosub, return, for, next, next_of, while, wend, line_input, data_of, read, restore, restore_to, end, stop, remark}
use Rattle.statements.specs.Parts.{head_of}
use Rattle.machine.specs.Machine.{Machine, Lent, fresh_with}
use Rattle.machine.specs.Order.{Stand, stands}

abbrev pub items_in : Statement → List (List ℕ)
items_in empty = []
items_in (assign v f) = []
items_in (print is) = []
items_in (if_then c p) = []
items_in (if_else c p q) = []
items_in (goto l) = []
items_in (gosub l) = []
items_in return = []
items_in (for v from to by) = []
items_in next = []
items_in (next_of v) = []
items_in (while c) = []
items_in wend = []
items_in (line_input t v) = []
items_in (data_of l) = l
items_in (read vs) = []
items_in restore = []
items_in (restore_to l) = []
items_in end = []
items_in stop = []
items_in remark = []

-- those of some statements, one after the other
unfoldable pub items_of : List Stand → List (List ℕ)
items_of [] = []
items_of (s ∷ ss) = items_in (head_of s.part) ++ items_of ss

abbrev pub items_of_text : List ℕ → List (List ℕ)
items_of_text text = items_of (stands (lines_of text))

-- the machine with which a run of a text begins: all its items are left
abbrev pub fresh : List ℕ → List ℕ → Lent → Machine
fresh text input lent = fresh_with (items_of_text text) input lent
