-- A whole number that is worked out takes a statement on; what is none ends it.
use Rattle.std.specs.Prelude.{Result, Ok, Err}
use mathlib.Core.Path.{◌≡◌, refl}
use mathlib.Core.List.{List}
use Prim.Native.Nat.{ℕ}
use Rattle.whole.specs.declared.errors.Error.{Error}
use Rattle.whole.specs.declared.errors.Error.TheVariants.{TypeMismatch}
use Rattle.words.specs.declared.symbols.Scanned.{Scanned}
use Rattle.grammar.specs.Trees.{Formula}
use Rattle.variables.specs.bridge.Memory.{mismatch_of}
use Rattle.variables.specs.declared.values.Worked.{Worked}
use Rattle.variables.specs.declared.values.Worked.TheVariants.{Whole, Text}
use Rattle.variables.proofs.Agreements.{NoWhole, no_whole}
use Rattle.machine.specs.Machine as spec
use Rattle.machine.specs.bridge.Holding.{Sound, State}
use Rattle.turns.specs.bridge.Turns.{Turn, turned_to, Turns, Valued}
use Rattle.machine.specs.declared.positions.Next.TheVariants as next
use Rattle.machine.specs.declared.records.Record.{Record}
use Rattle.turns.specs.Steps as step
use Rattle.turns.specs.Steps.{worked_whole}
use Rattle.turns.proofs.Keeping.{sound_kept, leaves_unprinted}
use Rattle.turns.proofs.Leading.{turns_fails, turns_then}
use Rattle.turns.proofs.Working.{leads_whole}

-- what the definition does, said otherwise
pub turns_as : {text : List ℕ} {m : State} {input space room space' room' : List ℕ} {told : List Record → Type 0} {does does' : spec.Machine → step.Next}
    {r : Turn} → ((n : spec.Machine) → does' n ≡ does n) → Turns text m input space room told does r space' room'
    → Turns text m input space room told does' r space' room'
turns_as e t = record { leaves = t.leaves; comes = λ rs x n s. rw (e n) (t.comes rs x n s) }

-- a whole number takes it on; what is none ends it
module _ {text : List ℕ} {m : State} {f : Formula} {u : Scanned} {input space room space' : List ℕ} {told : List Record → Type 0}
    (go : ℕ → spec.Machine → step.Next) (sound : Sound m input space room) where
  turns_fault : {e : Error} → Valued m f u space (Err e) space'
      → Turns text m input space room told (λ n. worked_whole f n go) (turned_to m (next.Fails e)) space' room
  turns_fault v =
      let long = v.framed.long in
      turns_fails (leaves_unprinted (sound_kept long sound) long refl refl) (λ rs o n s. leads_whole sound.settled v s go)

  pub turns_whole : {w : ℕ} {x : Scanned} {space'' : List ℕ} {r : Turn} → Valued m f u space (Ok (Whole w x)) space'
      → Turns text m input space' room told (go w) r space'' room
      → Turns text m input space room told (λ n. worked_whole f n go) r space'' room
  turns_whole v t =
      let long = v.framed.long in
      turns_then (leaves_unprinted {r = turned_to m next.Ends} (sound_kept long sound) long refl refl)
      (λ rs o n s. leads_whole sound.settled v s go) t

  turns_text : {len : ℕ} {x : Scanned} → Valued m f u space (Ok (Text len x)) space'
      → Turns text m input space room told (λ n. worked_whole f n go) (turned_to m (next.Fails TypeMismatch)) space' room
  turns_text v =
      let long = v.framed.long in
      turns_fails (leaves_unprinted (sound_kept long sound) long refl refl) (λ rs o n s. leads_whole sound.settled v s go)

  -- so what is none is its own error, or 13
  pub turns_none : (r : Result Worked Error) → NoWhole r → Valued m f u space r space'
      → Turns text m input space room told (λ n. worked_whole f n go) (turned_to m (next.Fails (mismatch_of r))) space' room
  turns_none =
      no_whole
      (λ r. Valued m f u space r space' → Turns text m input space room told (λ n. worked_whole f n go) (turned_to m (next.Fails (mismatch_of r))) space' room)
      (λ e v. turns_fault v) (λ len x v. turns_text v)
