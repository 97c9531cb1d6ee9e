-- An assignment comes to what its formula comes to, but for the notes.
use mathlib.Core.Path.{◌≡◌, refl, sym, ◌∙◌}
use Rattle.whole.specs.declared.errors.Error.TheVariants.{OutOfStringSpace}
use Rattle.words.specs.declared.names.Kind.{Kind}
use Rattle.words.specs.declared.names.Kind.TheVariants as kind
use Rattle.words.specs.Names.{Telling}
use Rattle.words.proofs.Choices.{by_test}
use Rattle.grammar.specs.Trees.{Formula, Variable}
use Rattle.variables.specs.Strings.{Value, whole, text, Room, Outcome, value, fault}
use Rattle.variables.specs.Variables.{Variables, numbers_full, strings_full}
use Rattle.operators.specs.Values.{value_of}
use Rattle.machine.specs.Machine.{Position, Machine, room_of, noting}
use Rattle.turns.specs.Steps.{goes_on, assigned}
use Rattle.laws.specs.Laws.{Gives, FourteenOr, fourteen, comes}
use Rattle.run_laws.specs.Carried.{unnoted, but_for_notes, Spot, ComeToSame, SameBarFourteen, same, first_lacks, second_lacks}

-- storing a value looks at no notes
stored : (k : Kind) (name : Telling) (v : Value) (m : Machine) (after : Position)
    → but_for_notes (assigned k name v m (λ o. goes_on o after)) ≡ but_for_notes (assigned k name v (unnoted m) (λ o. goes_on o after))
stored kind.Whole name (whole w) m after = by_test (numbers_full m.variables.numbers name) (λ e. rw e) (λ e. rw e)
stored kind.Whole name (text b) m after = refl
stored kind.Text name (whole w) m after = refl
stored kind.Text name (text b) m after = by_test (strings_full m.variables.strings name) (λ e. rw e) (λ e. rw e)

-- two formulas that come to one value
pub one_value : (s : Spot) (v : Variable) (f g : Formula) (x : Value) (r t : Room)
    → value_of f s.machine.variables (room_of s.machine) ≡ value x r → value_of g s.machine.variables (room_of s.machine) ≡ value x t
    → ComeToSame s v f g
one_value s v f g x r t e d =
    rw (e, d) (stored v.kind v.telling x (noting s.machine r) s.after ∙ sym (stored v.kind v.telling x (noting s.machine t) s.after))

-- what a formula gives it comes to
pub given : {vars : Variables} {room : Room} {f : Formula} {x : Value} → Gives vars room f x → FourteenOr x (value_of f vars room)
given g = rw g.is comes

by_fourteen : {P : Type 0} {x : Value} {o : Outcome} → FourteenOr x o → ((r : Room) → o ≡ fault OutOfStringSpace r → P)
    → ((r : Room) → o ≡ value x r → P) → P
by_fourteen (fourteen {room = r}) lacks gives = lacks r refl
by_fourteen (comes {room = r}) lacks gives = gives r refl

-- two formulas that come to one value, or to 14
pub one_value_bar_fourteen : (s : Spot) (v : Variable) (f g : Formula) (x : Value)
    → FourteenOr x (value_of f s.machine.variables (room_of s.machine))
    → FourteenOr x (value_of g s.machine.variables (room_of s.machine)) → SameBarFourteen s v f g
one_value_bar_fourteen s v f g x h k =
    by_fourteen h (λ r e. first_lacks (rw e refl)) (λ r e.
    by_fourteen k (λ t d. second_lacks (rw d refl)) (λ t d. same (one_value s v f g x r t e d)))
