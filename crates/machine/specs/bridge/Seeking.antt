-- Bridge: the record that a statement asks for: the definition's test, and what the code looks for.
-- The contracts of functions that crates use among themselves cite it; no demand and no promise of run, check_recipe or ask rests on it.
use Rattle.std.specs.Prelude.{◌≡◌, Bool, false, cond, List, ℕ, ltb, None, Option, Some}
use Rattle.words.specs.Places.{place}
use Rattle.words.specs.Names.{Telling}
use Rattle.words.specs.declared.places.Place.{Place}
use Rattle.words.specs.declared.symbols.Scanned.{Scanned}
use Rattle.grammar.specs.Tests.{on_name}
use Rattle.grammar.specs.Trees as tree
use Rattle.grammar.specs.Trees.{Statement}
use Rattle.statements.specs.Statements.{Begun, bad, done, choice, variable_of}
use Rattle.variables.specs.Tables.{slot_in}
use Rattle.machine.specs.Machine as spec
use Rattle.machine.specs.Machine.{is_call, is_loop, is_loop_of}
use Rattle.machine.specs.Repeats.{is_while, is_while_of}
use Rattle.machine.specs.declared.records.Sought.{Sought}
use Rattle.machine.specs.declared.records.Sought.TheVariants as sought

-- what a statement may ask for
pub data Wish : Type 0 where
  nothing : Wish
  call : Wish
  loop : Wish
  loop_of : Telling → Wish
  while_at : ℕ → ℕ → Wish
  while_of : ℕ → ℕ → Wish

-- of a statement at a place of the line that begins at another
abbrev pub wish_of : ℕ → ℕ → Statement → Wish
wish_of line at tree.empty = nothing
wish_of line at (tree.assign v f) = nothing
wish_of line at (tree.print is) = nothing
wish_of line at (tree.if_then c p) = nothing
wish_of line at (tree.if_else c p q) = nothing
wish_of line at (tree.goto l) = nothing
wish_of line at (tree.gosub l) = nothing
wish_of line at tree.return = call
wish_of line at (tree.for v from to by) = loop_of v.telling
wish_of line at tree.next = loop
wish_of line at (tree.next_of v) = loop_of v.telling
wish_of line at (tree.while c) = while_at line at
wish_of line at tree.wend = while_of line at
wish_of line at (tree.line_input t v) = nothing
wish_of line at (tree.data_of l) = nothing
wish_of line at (tree.read vs) = nothing
wish_of line at tree.restore = nothing
wish_of line at (tree.restore_to l) = nothing
wish_of line at tree.end = nothing
wish_of line at tree.stop = nothing
wish_of line at tree.remark = nothing

-- the test that the definition makes
abbrev pub test_of : Wish → spec.Record → Bool
test_of nothing r = false
test_of call r = is_call r
test_of loop r = is_loop r
test_of (loop_of name) r = is_loop_of name r
test_of (while_at line at) r = is_while line at r
test_of (while_of line at) r = is_while_of line at r

-- what the code looks for: a variable that was never assigned has no loop
abbrev pub by_slot : ℕ → Option ℕ → Sought
by_slot numbers None = sought.Nothing
by_slot numbers (Some i) = cond (ltb i numbers) (sought.LoopOf i) sought.Nothing

abbrev pub loop_sought : List ℕ → ℕ → Telling → Sought
loop_sought names numbers name = by_slot numbers (slot_in names name)

abbrev pub sought_for : List ℕ → ℕ → Wish → Sought
sought_for names numbers nothing = sought.Nothing
sought_for names numbers call = sought.Call
sought_for names numbers loop = sought.Loop
sought_for names numbers (loop_of name) = loop_sought names numbers name
sought_for names numbers (while_at line at) = sought.WhileAt (place line) (place at)
sought_for names numbers (while_of line at) = sought.WhileOf (place line) (place at)

-- the record that is looked up is the one that is asked for
abbrev pub Seeks : List ℕ → ℕ → Place → Place → Sought → Begun → Type 0
Seeks names numbers line at k bad = Unit {0}
Seeks names numbers line at k (done x u) = k ≡ sought_for names numbers (wish_of line.0 at.0 x)
Seeks names numbers line at k (choice c u) = k ≡ sought.Nothing

-- the loop's record that a FOR or a NEXT asks for
abbrev pub sought_loop : List ℕ → ℕ → List ℕ → Scanned → Sought
sought_loop names numbers s t = on_name t.token (λ v. loop_sought names numbers (variable_of s v).telling) sought.Loop
