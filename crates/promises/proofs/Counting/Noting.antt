-- What a statement notes: only where a formula is worked out, or a line of input is taken, may the machine note more unfinished strings.
use mathlib.Core.Path.{◌≡◌, refl, ap}
use mathlib.Core.List.{List, ◌++◌}
use Prim.Native.Nat.{ℕ, ◌+◌}
use native.Mathlib.Omega.{arith}
use lib.Dec.{ltb}
use lib.ListN.{length}
use Rattle.words.specs.declared.names.Kind.{Kind}
use Rattle.words.specs.declared.names.Kind.TheVariants as kind
use Rattle.words.specs.Names.{Telling}
use Rattle.words.proofs.Choices.{by_test}
use Rattle.grammar.specs.Trees.{Formula}
use Rattle.variables.specs.Strings.{Value, whole, text, Room, Outcome, value, fault}
use Rattle.variables.specs.Variables.{Variables, string_bytes}
use Rattle.operators.specs.Values.{value_of}
use Rattle.machine.specs.Machine.{Machine, room_of, noting, with_output, column_after, Printed, full, printed, write}
use Rattle.turns.specs.Steps.{Next, worked, whole_only, worked_whole, assigned, written, filled}
use Rattle.promises.specs.StringSpace.{Ask}
use Rattle.promises.specs.Requests.{Fits}
use Rattle.promises.proofs.Limits.Keeping.{Leaves, Changes, number_keeps, string_keeps}
use Rattle.promises.proofs.Counting.Rising.{highest_of}
use Rattle.whole.proofs.Never.{never}

-- ---- printing changes neither the variables, the space nor what was noted

pub record Same (m n : Machine) : Type 0 where
  pub space : n.space ≡ m.space
  pub variables : n.variables ≡ m.variables
  pub highest : n.highest ≡ m.highest

pub write_same : (m : Machine) (bytes : List ℕ) (n : Machine) → write m bytes ≡ printed n → Same m n
unfolding write
write_same m bytes n e =
    by_test (ltb m.output_room (length m.output + length bytes))
    (λ t. let f = rw t at e in never (cc))
    (λ t. let f = rw t at e in let g : n ≡ with_output m (m.output ++ bytes) (column_after m.column bytes) = cc in
    record {
      space = ap (λ (x : Machine). x.space) g;
      variables = ap (λ (x : Machine). x.variables) g;
      highest = ap (λ (x : Machine). x.highest) g;
    })

-- what a machine is asked for fits
abbrev pub FitsIn : Machine → Ask → Type 0
FitsIn m k = Fits m.space (string_bytes m.variables.strings) k

pub fits_later : {m n : Machine} (k : Ask) → Same m n → FitsIn m k → FitsIn n k
fits_later k s h = let e = ap (λ (v : Variables). string_bytes v.strings) s.variables in omega (arith, h, e, s.space)

pub fits_earlier : {m n : Machine} (k : Ask) → Same m n → FitsIn n k → FitsIn m k
fits_earlier k s h = let e = ap (λ (v : Variables). string_bytes v.strings) s.variables in omega (arith, h, e, s.space)

-- ---- what holds of the most that was noted

module _ (Q : ℕ → Type 0) where
  abbrev pub Notes : Next → Type 0
  Notes n = Leaves (λ m. Q m.highest) n

  pub unnoted : Changes (λ m. Q m.highest)
  unnoted = record {
    numbers = λ m name w full p. p;
    records = λ m rs few p. p;
    prints = λ m bytes h p. p;
    takes = λ m left h p. p;
    feeds = λ m l p. p;
  }

  pub worked_notes : (m : Machine) (o : Outcome) (go : Value → Machine → Next) → Q (highest_of o)
      → ((v : Value) (room : Room) → o ≡ value v room → Q room.highest → Notes (go v (noting m room))) → Notes (worked m o go)
  worked_notes m (value v room) go q h = h v room refl q
  worked_notes m (fault e room) go q h = q

  pub whole_notes : (f : Formula) (m : Machine) (go : ℕ → Machine → Next) → Q (highest_of (value_of f m.variables (room_of m)))
      → ((w : ℕ) (room : Room) → value_of f m.variables (room_of m) ≡ value (whole w) room → Q room.highest → Notes (go w (noting m room)))
      → Notes (worked_whole f m go)
  whole_notes f m go q h = worked_notes m (value_of f m.variables (room_of m)) _ q only
    where
      only : (v : Value) (room : Room) → value_of f m.variables (room_of m) ≡ value v room → Q room.highest
          → Notes (whole_only v (noting m room) (λ w. go w (noting m room)))
      only (whole w) room e r = h w room e r
      only (text b) room e r = r

  pub assigned_notes : (sort : Kind) (name : Telling) (v : Value) (m : Machine) (go : Machine → Next) → Q m.highest
      → ((n : Machine) → Q n.highest → Notes (go n)) → Notes (assigned sort name v m go)
  assigned_notes kind.Whole name (whole w) m go q h = number_keeps (λ m. Q m.highest) unnoted m name w go q h
  assigned_notes kind.Whole name (text b) m go q h = q
  assigned_notes kind.Text name (whole w) m go q h = q
  assigned_notes kind.Text name (text b) m go q h = string_keeps (λ m. Q m.highest) unnoted m name b go q (λ full. q) h

  pub filled_notes : (sort : Kind) (name : Telling) (b : List ℕ) (m : Machine) (go : Machine → Next) → Q m.highest
      → ((n : Machine) → Q n.highest → Notes (go n)) → Notes (filled sort name b m go)
  filled_notes kind.Whole name b m go q h = q
  filled_notes kind.Text name b m go q h = string_keeps (λ m. Q m.highest) unnoted m name b go q (λ full. q) h

  pub written_notes : (m : Machine) (bytes : List ℕ) (go : Machine → Next) → Q m.highest
      → ((n : Machine) → write m bytes ≡ printed n → Q n.highest → Notes (go n)) → Notes (written m bytes go)
  written_notes m bytes go q h = by (write m bytes) refl
    where
      by : (x : Printed) → write m bytes ≡ x → Notes (written m bytes go)
      by full e = rw e q
      by (printed n) e = rw e (h n e (rw (write_same m bytes n e).highest q))
