-- The end of a run: what is answered and left in memory, where the code's machine is the definition's.
use Rattle.std.specs.Prelude.{Err, Ok, Result}
use Rattle.whole.proofs.Never.{never}
use Rattle.loader.specs.declared.refusals.RefusedAt.{RefusedAt}
use mathlib.Core.Path.{◌≡◌, refl, sym, ap, ap₂, ◌∙◌}
use mathlib.Core.Bool.{false}
use mathlib.Core.List.{List, ◌++◌}
use Prim.Native.Nat.{ℕ, ◌-◌, ◌≤◌}
use native.Mathlib.Omega.{arith}
use borrow.Author.Tests.{ltb-false}
use lib.Dec.{ltb}
use lib.ListN.{length, drop, replicate, take-append-drop}
use lib.Seq.{length-take-le}
use Rattle.space.specs.Moves.{cleared}
use Rattle.words.proofs.Choices.{by_test}
use Rattle.loader.specs.Loading.{load_of}
use Rattle.variables.specs.Variables.{string_bytes, joined_strings}
use Rattle.variables.specs.bridge.Memory.{strings_held}
use Rattle.variables.specs.declared.tables.Tables.{Tables}
use Rattle.variables.proofs.Holding.{cleaned, strings_live}
use Rattle.variables.proofs.Told.{numbers_told, strings_told}
use Rattle.variables.specs.Strings.{longest_space}
use Rattle.machine.specs.Items.{fresh}
use Rattle.machine.specs.Machine as spec
use Rattle.machine.specs.Machine.{lent_by, most_records}
use Rattle.machine.specs.bridge.Holding.{variables_of, Settled, Sound, Same, State}
use Rattle.machine.specs.declared.records.Record.{Record}
use Rattle.runner.specs.Run as run
use Rattle.runner.specs.Run.{ends_with, is_refused, tables_of, answer_of, space_after, room_after, stack_after, if_loaded, run_of}
use Rattle.runner.specs.bridge.Endings.{run_in, ran_of, ended_as, RanAs, refused_as, admitted}
use Rattle.runner.specs.bridge.Lending.{Runnable, LoadedAs}
use Rattle.runner.specs.declared.running.Done.{Done}
use Rattle.runner.specs.declared.running.Outcome.{Outcome}
use Rattle.runner.specs.declared.running.Ran.{Ran}

-- the tables are told by the variables that they hold
tables_told : (m : State) (space : List ℕ) → Settled m space → m.tables ≡ tables_of (variables_of m space)
tables_told m space s =
    ap₂ (λ n t. record { numbers = n; strings = t }) (numbers_told m.tables.numbers s.numbers)
    (strings_told m.tables.strings space s.strings (omega (arith, s.all, s.within)))

-- the space holds their bytes
space_told : (m : State) (space : List ℕ) → Settled m space
    → cleared space m.used
    ≡ joined_strings (variables_of m space).strings ++ replicate (length space - string_bytes (variables_of m space).strings) 0
space_told m space s =
    let t = m.tables.strings in
    let live : string_bytes (strings_held t space) ≡ m.used = strings_live t space s.strings (omega (arith, s.all, s.within)) ∙ s.all in
    cleaned t space m.used s.strings (sym s.all) ∙ ap (λ k. joined_strings (strings_held t space) ++ replicate (length space - k) 0) (sym live)

answer_told : (o : Outcome) (m : State) (tables : Tables) (ran : run.Ran) → is_refused ran.ending ≡ false → o ≡ ran.ending → m.steps ≡ ran.machine.steps
    → m.printer.written ≡ length ran.machine.output → m.taken ≡ ran.machine.taken → m.tables ≡ tables_of ran.machine.variables
    → ended_as o m ≡ answer_of ran tables
answer_told o m tables ran f a b c d e = rw (f, ← a, ← b, ← c, ← d, ← e)

module _ {text : List ℕ} {rs : List Record} {m : State} {input space room : List ℕ} {n : spec.Machine}
    (sound : Sound m input space room) (same : Same text rs m input space room n) where
  written : length n.output ≡ m.printer.written
  written = rw same.output (length-take-le m.printer.written room sound.fitting.within)

  -- an outcome other than a refusal, with the memory that was lent at the start
  pub ran_as : (o : Outcome) → is_refused o ≡ false → {ran : run.Ran} → ends_with o n ≡ ran → (space₀ room₀ : List ℕ)
      → length space ≡ length space₀ → drop m.printer.written room ≡ drop m.printer.written room₀
      → {r : Ran} {space' : List ℕ} → r ≡ ended_as o m → space' ≡ cleared space m.used → RanAs ran space₀ room₀ r space' room
  ran_as o f is space₀ room₀ long beyond a b =
      rw (← is)
      (record {
        begun = f;
        answers = λ tables.
            a ∙ answer_told o m tables (ends_with o n) f refl (sym same.steps) (sym written) (sym same.taken)
            (tables_told m space sound.settled ∙ ap tables_of (sym same.variables));
        spaced = rw (f, same.variables, ← long) (b ∙ space_told m space sound.settled);
        roomy = rw (written, same.output, ← beyond) (sym (take-append-drop m.printer.written room));
      })

-- ---- the whole run

-- what is not refused loads, and no more is lent than a run takes
admits_fine : (n k : ℕ) (l : Result (Unit {0}) RefusedAt) → admitted n k l ≡ Ok tt → (l ≡ Ok tt) × ((n ≤ longest_space) × (k ≤ most_records))
admits_fine n k l f =
    by_test (ltb longest_space n) (λ t. let g = rw t at f in never (cc)) λ t.
    by_test (ltb most_records k) (λ u. let g = rw (t, u) at f in never (cc))
    (λ u. (rw (t, u) at f, (ltb-false longest_space n t, ltb-false most_records k u)))

pub runnable : (text space : List ℕ) (stack : List Record) → admitted (length space) (length stack) (load_of text) ≡ Ok tt → Runnable text space stack
runnable text space stack f = let e = admits_fine (length space) (length stack) (load_of text) f in record { loads = e.0; small = e.1.0; few = e.1.1 }

-- what holds of an answer, and of the memory after it
abbrev pub Met : run.Ran → Tables → List ℕ → List ℕ → List Record → Ran → List ℕ → List ℕ → List Record → Type 0
Met ran tables space room stack r space' room' stack' =
    (r ≡ answer_of ran tables) × ((space' ≡ space_after ran space) × ((room' ≡ room_after ran room) × (stack' ≡ stack_after ran stack)))

-- with a stack and tables that are lent
module _ (text input space room : List ℕ) (stack : List Record) (budget : ℕ) (tables : Tables) where
  abbrev lent : spec.Lent
  lent = lent_by space room (length stack)

  abbrev whole : run.Ran
  whole = run_of text input lent budget

  abbrev verdict : Result (Unit {0}) RefusedAt
  verdict = admitted (length space) (length stack) (load_of text)

  -- what is tested first decides
  whole_by : whole ≡ if_loaded verdict (fresh text input lent) (λ _. run_in text input lent budget)
  unfolding run_of
  whole_by =
      by_test (ltb longest_space (length space)) (λ t. rw t) λ t.
      by_test (ltb most_records (length stack)) (λ u. rw (t, u)) (λ u. rw (t, u))

  -- what is refused is answered so,
  pub run_refused : {x : RefusedAt} → verdict ≡ Err x → {d : Done} → d ≡ refused_as x.refusal x.place
      → Met whole tables space room stack (ran_of d tables) space room stack
  run_refused e a = rw (whole_by, e) (ap (λ d. ran_of d tables) a, (refl, (refl, refl)))

  -- and all else is run
  pub run_fine : verdict ≡ Ok tt → {r : Ran} {space' room' : List ℕ} {stack' : List Record} → LoadedAs (run_in text input lent budget) space room stack r space' room' stack'
      → Met whole tables space room stack r space' room' stack'
  run_fine e a = rw (whole_by, e) (a.runs.answers tables, (a.runs.spaced, (a.runs.roomy, rw a.runs.begun a.wiped)))
