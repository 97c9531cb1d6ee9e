-- The check's verdict decides what a checked run comes to.
use Rattle.std.specs.Prelude.{Err, Ok}
use mathlib.Core.Path.{◌≡◌, refl}
use mathlib.Core.Bool.{true}
use mathlib.Core.List.{List}
use Prim.Native.Nat.{ℕ}
use Rattle.variables.specs.declared.tables.Tables.{Tables}
use Rattle.machine.specs.Machine.{lent_by}
use Rattle.checker.specs.Check.{check_of}
use Rattle.checker.specs.declared.checking.Fault.{Fault}
use Rattle.runner.specs.Run as run
use Rattle.runner.specs.Run.{answer_of, space_after, room_after, run_of}
use Rattle.runner.specs.declared.running.Ran.{Ran}
use Rattle.promises.specs.Guarded.{Guarded, guarded_run, held_as, run_as, guarded_answer, guarded_space, guarded_room, ends_checked}
use Rattle.promises.proofs.Passing.{checked_runs_end_well}
use Rattle.promises.specs.declared.guarding.CheckedRun.{CheckedRun}

-- what holds of an answer, and of the memory after it
abbrev Met : Guarded → Tables → List ℕ → List ℕ → CheckedRun → List ℕ → List ℕ → Type 0
Met g tables space room r space' room' =
    (r ≡ guarded_answer g tables) × ((space' ≡ guarded_space g space) × ((room' ≡ guarded_room g room) × (ends_checked r.outcome ≡ true)))

module _ (text input space room : List ℕ) (records budget : ℕ) (tables : Tables) where
  abbrev whole : Guarded
  whole = guarded_run text input (lent_by space room records) budget

  abbrev ran : run.Ran
  ran = run_of text input (lent_by space room records) budget

  -- it passed, and was run,
  pub passed_run : check_of text ≡ Ok tt → {a : Ran} {space' room' : List ℕ}
      → (a ≡ answer_of ran tables) × ((space' ≡ space_after ran space) × (room' ≡ room_after ran room))
      → {r : CheckedRun} → r ≡ run_as a → Met whole tables space room r space' room'
  unfolding guarded_run
  passed_run e h f =
      rw (e, f) (rw h.0 refl, (h.1.0, (h.1.1, rw h.0 (checked_runs_end_well text input (lent_by space room records) budget e))))

  -- or it did not pass
  pub held_run : {fault : Fault} → check_of text ≡ Err fault → {r : CheckedRun} → r ≡ held_as fault tables
      → Met whole tables space room r space room
  unfolding guarded_run
  held_run e f = rw e (f, (refl, (refl, rw f)))
