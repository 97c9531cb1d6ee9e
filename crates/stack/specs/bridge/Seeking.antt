-- Bridge: the search down the lent records, one record at a time.
-- The contracts of functions inside this crate cite it; no demand and no promise of run, check_recipe or ask rests on it.
use Rattle.std.specs.Prelude.{cond, ℕ, ◌-◌, None, Option, Some}
use Rattle.machine.specs.bridge.Holding.{passes}
use Rattle.machine.specs.bridge.Wanted.{is_sought}
use Rattle.machine.specs.declared.records.Record.{Record}
use Rattle.machine.specs.declared.records.Sought.{Sought}
use Rattle.machine.specs.declared.records.Sought.TheVariants as sought
use Rattle.stack.specs.declared.seeking.Seek.{Seek}

abbrev pub seeking : ℕ → Option ℕ → Seek
seeking n f = record { left = n; found = f }

-- who asks for none looks at none
unfoldable pub seek_from : ℕ → Sought → Seek
seek_from depth sought.Nothing = seeking 0 None
seek_from depth sought.Call = seeking depth None
seek_from depth sought.Loop = seeking depth None
seek_from depth (sought.LoopOf slot) = seeking depth None
seek_from depth (sought.WhileAt line at) = seeking depth None
seek_from depth (sought.WhileOf line at) = seeking depth None

-- it ends at the one that is asked for, and at a GOSUB's
unfoldable pub look_of : Seek → Record → Sought → Seek
look_of s e k =
    cond (is_sought k e) (seeking 0 (Some (s.left - 1)))
    (cond (passes e) (seeking (s.left - 1) None) (seeking 0 None))
