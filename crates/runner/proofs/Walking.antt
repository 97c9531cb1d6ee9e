-- What the functions over the lent stack come to, from what their callees answer: over lists alone, with no memory in it.
use Rattle.std.specs.Prelude.{ℕ}
use mathlib.Core.Path.{◌≡◌, ap, ◌∙◌}
use mathlib.Core.Bool.{true, false}
use mathlib.Core.Logic.{⊎_elim}
use mathlib.Core.List.{List}
use Prim.Native.Nat.{ℕ, ◌+◌, ◌-◌, ◌<◌, ◌^◌, min}
use native.Mathlib.Omega.{arith}
use borrow.Author.Tests.{lt-ltb}
use lib.Dec.{ltb}
use lib.ListN.{length, replicate}
use Rattle.whole.proofs.Numbers.{less}
use Rattle.words.proofs.Choices.{by_test}
use Rattle.space.specs.Moves.{cleared}
use Rattle.loader.specs.Lines.{lines_of}
use Rattle.rows.specs.bridge.Rows.{Tabled}
use Rattle.variables.specs.Strings.{longest_space}
use Rattle.variables.specs.declared.tables.Tables.{Tables}
use Rattle.machine.specs.Machine.{lent_by, most_records}
use Rattle.machine.specs.bridge.Holding.{blank_record, fresh_machine, state_of}
use Rattle.machine.specs.declared.records.Record.{Record}
use Rattle.runner.specs.Run as run
use Rattle.runner.specs.Run.{run_of, entering}
use Rattle.runner.specs.bridge.Standings.{Rowed, StandsIn}
use Rattle.runner.specs.bridge.Acting.{goes_of}
use Rattle.runner.specs.bridge.Endings.{run_in, outcome_of, done_as, ran_of}
use Rattle.runner.specs.bridge.Lending.{Awaits, StepsAs, Loadable, LoadedAs}
use Rattle.runner.specs.declared.going.Going.{Going}
use Rattle.runner.specs.declared.running.Done.{Done}
use Rattle.runner.specs.declared.running.Ran.{Ran}
use Rattle.runner.proofs.Looping.{Kept, kept_fresh, kept_out, kept_awaits, kept_less, kept_again}
use Rattle.runner.proofs.Finishing.{Met}

-- ---- the loop

-- what it keeps: from here on the run comes to the same
pub record Keeps (text rows input : List ℕ) (budget : ℕ) (space room : List ℕ) (stack : List Record) (going : Going) (tb : Tables) (sp rm : List ℕ) (st : List Record) : Type 0 where
  pub tabled : Tabled text rows
  pub kept : Kept text rows input space room stack budget sp rm (state_of going.machine tb) going.standing st

module _ (text rows input : List ℕ) (budget : ℕ) (space room : List ℕ) (stack : List Record) where
  pub keeps_begun : (tables : Tables) → Loadable text rows tables space stack → (g : Going)
      → (g.machine ≡ fresh_machine (length stack)) × StandsIn rows g.standing (λ x. Unit {0}) (λ x m. entering m (lines_of x))
      → Keeps text rows input budget space room stack g tables space room stack
  keeps_begun tables l g e =
      record { tabled = l.tabled; kept = kept_fresh text input space room stack l.small l.few budget l.tabled l.blank e }

  module _ (g : Going) (tb : Tables) (sp rm : List ℕ) (st : List Record) (k : Keeps text rows input budget space room stack g tb sp rm st) where
    -- its end
    pub keeps_told : Rowed rows g.standing
    keeps_told = k.kept.rowed

    pub keeps_over : length st ≡ length stack → goes_of g.standing g.machine.steps budget ≡ false → (done : Done) (sp' : List ℕ) (st' : List Record)
        → (done ≡ done_as (outcome_of rows g.standing) g.machine) × (sp' ≡ cleared sp g.machine.used.0) → st' ≡ replicate (length st) blank_record
        → LoadedAs (run_in text input (lent_by space room (length stack)) budget) space room stack (ran_of done tb) sp' rm st'
    keeps_over long over done sp' st' told wiped =
        record {
          runs = kept_out k.tabled k.kept over (ap (λ d. ran_of d tb) told.0) told.1;
          wiped = wiped ∙ ap (λ n. replicate n blank_record) long;
        }

    module _ (goes_on : goes_of g.standing g.machine.steps budget ≡ true) where
      -- a turn
      pub keeps_awaits : budget < 2 ^ 32 → Awaits text rows input g.standing (state_of g.machine tb) sp rm
      keeps_awaits b = kept_awaits k.tabled k.kept goes_on (omega arith)

      module _ (next : Going) (tb' : Tables) (sp' rm' : List ℕ) (st' : List Record)
          (s : StepsAs text rows input g.standing (state_of g.machine tb) sp rm st next (state_of next.machine tb') sp' rm' st') where
        pub keeps_on : Keeps text rows input budget space room stack next tb' sp' rm' st'
        keeps_on = record { tabled = k.tabled; kept = kept_again k.tabled k.kept goes_on s }

        pub keeps_nearer : budget - next.machine.steps < budget - g.machine.steps
        keeps_nearer = kept_less k.tabled k.kept goes_on s

-- ---- records of its own

abbrev MetWith : List ℕ → List ℕ → List ℕ → List ℕ → ℕ → Tables → Ran → List ℕ → List ℕ → ℕ → Type 0
MetWith text input space room budget tables ran sp rm records =
    (ran ≡ run.answer_of (run_of text input (lent_by space room records) budget) tables)
    × ((sp ≡ run.space_after (run_of text input (lent_by space room records) budget) space) × (rm ≡ run.room_after (run_of text input (lent_by space room records) budget) room))

-- every number of them that is too large is refused alike
too_many : (text input space room : List ℕ) (budget : ℕ) (tables : Tables) (ran : Ran) (sp rm : List ℕ) (n k : ℕ) → most_records < n → most_records < k
    → MetWith text input space room budget tables ran sp rm n → MetWith text input space room budget tables ran sp rm k
unfolding run_of
too_many text input space room budget tables ran sp rm n k h l m =
    let a = lt-ltb most_records n h in let b = lt-ltb most_records k l in
    by_test (ltb longest_space (length space)) (λ t. rw t (rw t at m)) (λ t. rw (t, b) (rw (t, a) at m))

pub with_made : (text input space room : List ℕ) (records budget : ℕ) (tables : Tables) (lent : List Record) (ran : Ran) (sp rm : List ℕ) (st : List Record)
    → length lent ≡ min records (1 + most_records)
    → Met (run_of text input (lent_by space room (length lent)) budget) tables space room lent ran sp rm st
    → MetWith text input space room budget tables ran sp rm records
with_made text input space room records budget tables lent ran sp rm st e r =
    let own : MetWith text input space room budget tables ran sp rm (length lent) = (r.0, (r.1.0, r.1.1.0)) in
    ⊎_elim (λ h. let same : length lent ≡ records = omega (arith, e) in rw (← same) own)
    (λ h. too_many text input space room budget tables ran sp rm (length lent) records (omega (arith, e)) (omega arith) own)
    (less records (1 + most_records))
