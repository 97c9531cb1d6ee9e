-- The public functions of `turns`.
use Rattle.std.specs.Prelude.{None, Option, Some}
use mathlib.Core.Bool.{cond}
use mathlib.Core.Path.{◌≡◌, refl, sym, ap, ◌∙◌}
use Rattle.variables.specs.Tables.{empty_tables}
use Rattle.variables.specs.declared.tables.Tables.{Tables}
use Rattle.turns.proofs as turns
use Rattle.machine.specs.bridge.Holding.{State}
use Rattle.machine.specs.declared.positions.Turned.{Turned}
use Rattle.machine.specs.declared.state.Machine.{Machine}
use Rattle.turns.specs.bridge.Turns.{Turn, turn_of, Storage, storage_of}
use Rattle.promises.specs.Calls.{Unique}
use Rattle.promises.proofs.Unique.{same, pair}

-- the code's machine, told by the state that it is
abbrev machine_from : State → Machine
machine_from s = record {
  used = record { 0 = s.used };
  printer = s.printer;
  taken = record { 0 = s.taken };
  feed = s.feed;
  steps = s.steps;
  depth = s.depth;
  records = s.records;
}

-- and its answers, by the storage and the turn that they are
abbrev stored_from : Storage → Option Machine
stored_from s = cond s.ok (Some (machine_from s.state)) None

stored_is : (m : Machine) (s : Option Machine) (t : Tables) → s ≡ stored_from (storage_of m s t)
stored_is m (Some n) t = refl
stored_is m None t = refl

stored_same : (m : Machine) (s s' : Option Machine) (t t' : Tables) → storage_of m s t ≡ storage_of m s' t' → s ≡ s'
stored_same m s s' t t' e = stored_is m s t ∙ ap stored_from e ∙ sym (stored_is m s' t')

tables_is : (m : Machine) (s : Option Machine) (t : Tables) → t ≡ (storage_of m s t).state.tables
tables_is m (Some n) t = refl
tables_is m None t = refl

tables_same : (m : Machine) (s s' : Option Machine) (t t' : Tables) → storage_of m s t ≡ storage_of m s' t' → t ≡ t'
tables_same m s s' t t' e = tables_is m s t ∙ ap (λ x. x.state.tables) e ∙ sym (tables_is m s' t')

abbrev turned_from : Turn → Turned
turned_from t = record { machine = machine_from t.state; next = t.next; slot = t.slot; held = t.held }

pub turned_to : Unique turns.turned_to.Kinds.ps turns.turned_to.Kinds.r turns.turned_to.Reads.Pre turns.turned_to.Reads.Post
turned_to κs a p z z' ws ws' e e' = (same e e', refl)

pub fails : Unique turns.fails.Kinds.ps turns.fails.Kinds.r turns.fails.Reads.Pre turns.fails.Reads.Post
fails κs a p z z' ws ws' e e' = (same e e', refl)

pub after : Unique turns.after.Kinds.ps turns.after.Kinds.r turns.after.Reads.Pre turns.after.Reads.Post
after κs a p z z' ws ws' e e' = (same e e', refl)

pub goes_on : Unique turns.goes_on.Kinds.ps turns.goes_on.Kinds.r turns.goes_on.Reads.Pre turns.goes_on.Reads.Post
goes_on κs a p z z' ws ws' e e' = (same e e', refl)

-- whatever tables there are, and so where they are none
pub push : Unique turns.push.Kinds.ps turns.push.Kinds.r turns.push.Reads.Pre turns.push.Reads.Post
push κs a p z z' ws ws' e e' =
    let q : turn_of z empty_tables ≡ turn_of z' empty_tables = same (e empty_tables) (e' empty_tables) in (λ i. turned_from (q i), refl)

pub stored_or_full : Unique turns.stored_or_full.Kinds.ps turns.stored_or_full.Kinds.r turns.stored_or_full.Reads.Pre turns.stored_or_full.Reads.Post
stored_or_full κs a p z z' ws ws' e e' = (same e e', refl)

pub with_string : Unique turns.with_string.Kinds.ps turns.with_string.Kinds.r turns.with_string.Reads.Pre turns.with_string.Reads.Post
with_string κs a p z z' ws ws' e e' =
    let q : storage_of a.0 z ws.1.0 ≡ storage_of a.0 z' ws'.1.0 = same e.0 e'.0 in (
      stored_same a.0 z z' ws.1.0 ws'.1.0 q,
      pair refl (pair (tables_same a.0 z z' ws.1.0 ws'.1.0 q) (pair refl (pair refl (pair (same e.1 e'.1) refl)))),
    )
