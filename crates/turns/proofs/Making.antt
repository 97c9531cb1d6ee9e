-- A string is made of bytes that are not in the space: they are copied right after the variables'.
use mathlib.Core.Path.{◌≡◌}
use mathlib.Core.List.{List}
use Prim.Native.Nat.{ℕ, ◌+◌, ◌≤◌, ◌<◌}
use native.Mathlib.Nat.{le_refl}
use borrow.Author.Tests.{le-ltb, lt-ltb}
use lib.ListN.{length}
use Rattle.whole.specs.declared.errors.Error.TheVariants.{OutOfStringSpace}
use Rattle.space.specs.Moves.{copied}
use Rattle.space.proofs.Frames.{copied-length, copied_below}
use Rattle.variables.specs.Strings.{Room, make, fault, value, text, with_string}
use Rattle.variables.specs.bridge.Memory.{Held}
use Rattle.machine.specs.Machine as spec
use Rattle.machine.specs.Machine.{room_of, noting}
use Rattle.machine.specs.bridge.Holding.{Settled, Same, State}
use Rattle.machine.specs.declared.records.Record.{Record}
use Rattle.turns.specs.Steps as step
use Rattle.turns.specs.Steps.{fails, worked}
use Rattle.turns.proofs.Keeping.{same_kept, same_noting, room_held}
use Rattle.turns.proofs.Leading.{Leads}

module _ {room : Room} {space : List ℕ} {used : ℕ} (b : List ℕ) (held : Held room space used) where
  make_full : length space < used + length b → make b room ≡ fault OutOfStringSpace room
  unfolding make
  make_full h = rw (held.limit, held.lives, lt-ltb (length space) (used + length b) h)

  make_fits : used + length b ≤ length space → make b room ≡ value (text b) (with_string (length b) room)
  unfolding make
  make_fits h = rw (held.limit, held.lives, le-ltb (length space) (used + length b) h)

module _ {program : List ℕ} {rs : List Record} {m : State} {input space room : List ℕ} {n : spec.Machine} (settled : Settled m space) (b : List ℕ)
    (go : spec.Machine → step.Next) (s : Same program rs m input space room n) where
  -- there is no room for them
  pub leads_unmade : length space < m.used + length b
      → Leads program rs m input space room (worked n (make b (room_of n)) (λ v o. go o)) (fails OutOfStringSpace)
  leads_unmade h =
      record { machine = noting n (room_of n); is = rw (make_full b (room_held settled s) h); same = same_noting s (room_of n) }

  pub leads_made : m.used + length b ≤ length space
      → Leads program rs m input (copied space m.used b) room (worked n (make b (room_of n)) (λ v o. go o)) go
  leads_made fits =
      let r = with_string (length b) (room_of n) in
      record {
        machine = noting n r;
        is = rw (make_fits b (room_held settled s) fits);
        same = same_noting (same_kept (copied-length space m.used b) settled (copied_below space m.used b m.used (le_refl _)) s) r;
      }
