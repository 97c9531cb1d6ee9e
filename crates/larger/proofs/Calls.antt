-- More string space does not change what a call of `run` answers and leaves.
use mathlib.Core.Path.{◌≡◌, refl, sym, ap, ap₂, ◌∙◌}
use mathlib.Core.Bool.{true, false}
use mathlib.Core.List.{List, ◌++◌, append_assoc}
use Prim.Native.Nat.{ℕ, ◌+◌, ◌-◌, ◌≤◌}
use native.Mathlib.Omega.{arith}
use lib.ListN.{length, get_or, replicate, length-append, length-replicate, replicate-append-replicate}
use Rattle.words.proofs.Choices.{by_test}
use Rattle.variables.specs.Strings.{longest_space}
use Rattle.variables.specs.Variables.{string_bytes, joined_strings}
use Rattle.variables.specs.declared.tables.Tables.{Tables}
use Rattle.machine.specs.Machine.{lent_by}
use Rattle.machine.specs.Records.{blank_record}
use Rattle.machine.specs.declared.records.Record.{Record}
use Rattle.blocks.specs.Blocks.{tables_in}
use Rattle.host.specs.Answers.{answer_in}
use Rattle.host.specs.Calls.{block_after}
use Rattle.runner.specs.Run as run
use Rattle.runner.specs.Run.{Ran, run_of, number_in, place_in, is_refused, answer_of}
use Rattle.runner.specs.declared.running.Ran as code
use Rattle.promises.specs.Calls.{text_of, input_of, space_before, room_before, stack_before, budget_of, tables_before, RunBox, text_in, input_in, space_in, room_in, records_in, lent_in, budget_in, block_in, answer_words, outcome_word, refused_word}
use Rattle.promises.specs.Demands.{ran_of}
use Rattle.promises.proofs.Boxes.{box_refuses_exactly}
use Rattle.promises.proofs.Limits.Refusals.{refused_numbered}
use Rattle.promises.proofs.Limits.Bounds.{strings_within}
use Rattle.promises.proofs.Waiting.Needs.{live_is_exact}
use Rattle.larger.specs.Larger.{recipe_without_fre, WithZeros, MoreSpaceSame, BoxMoreSpaceSame}
use Rattle.larger.proofs.Runs.{widened_ran, SameRun, same, lacked, run_same}

-- ---- a space with more zeros at its end

with_zeros : (longer space : List ℕ) (n : ℕ) → longer ≡ space ++ replicate n 0 → WithZeros longer space
with_zeros longer space n e =
    let long : length longer ≡ length space + n = ap length e ∙ rw (length-append, length-replicate) in
    let more : n ≡ length longer - length space = omega arith in
    e ∙ ap (λ (i : ℕ). space ++ replicate i 0) more

filled_up : (bytes : List ℕ) (used narrow wide : ℕ) → used ≤ narrow → narrow ≤ wide
    → bytes ++ replicate {A = ℕ} (wide - used) 0 ≡ (bytes ++ replicate (narrow - used) 0) ++ replicate (wide - narrow) 0
filled_up bytes used narrow wide h longer =
    let more : wide - used ≡ (narrow - used) + (wide - narrow) = omega arith in
    ap (λ (i : ℕ). bytes ++ replicate {A = ℕ} i 0) more ∙ rw (append_assoc, replicate-append-replicate)

-- ---- what two runs leave, the first of which is not refused and does not end in 14; what the tables and the block held before does not matter

record Alike (first second : Ran) (room narrow wide : List ℕ) : Type 0 where
  answers : (before before' : Tables) → answer_of second before' ≡ answer_of first before
  blocks : (before before' : List ℕ) → block_after second before' ≡ block_after first before
  rooms : run.room_after second room ≡ run.room_after first room
  variables : second.machine.variables ≡ first.machine.variables
  stacks : (before before' : List Record) → length before' ≡ length before → run.stack_after second before' ≡ run.stack_after first before
  spaces : WithZeros (run.space_after second wide) (run.space_after first narrow)

unless_lacked : {k : ℕ} {r s : Ran} → SameRun k r s → (number_in r.ending ≡ 14 → ⊥) → s ≡ widened_ran k r
unless_lacked same h = refl
unless_lacked lacked h = absurd (h refl)

alike : (text input room narrow wide : List ℕ) (records budget : ℕ) → recipe_without_fre text ≡ true → length narrow ≤ length wide
    → length wide ≤ longest_space → is_refused (run_of text input (lent_by narrow room records) budget).ending ≡ false
    → (number_in (run_of text input (lent_by narrow room records) budget).ending ≡ 14 → ⊥)
    → Alike (run_of text input (lent_by narrow room records) budget) (run_of text input (lent_by wide room records) budget) room narrow wide
alike text input room narrow wide records budget free longer small taken enough =
    let first = run_of text input (lent_by narrow room records) budget in
    let second = run_of text input (lent_by wide room records) budget in
    let vs = first.machine.variables.strings in
    let e : second ≡ widened_ran (length wide) first =
    unless_lacked (run_same (length wide) text input (lent_by narrow room records) budget free longer small) enough in
    record {
      answers = λ before before'. rw (e, taken);
      blocks = λ before before'. rw (e, taken);
      rooms = rw e;
      variables = rw e;
      stacks = λ before before' l. rw (e, taken) (ap (λ n. replicate n blank_record) l);
      spaces = with_zeros (run.space_after second wide) (run.space_after first narrow) (length wide - length narrow)
          (rw (e, taken) (filled_up (joined_strings vs) (string_bytes vs) (length narrow) (length wide)
          (strings_within live_is_exact text input (lent_by narrow room records) budget) longer));
    }

-- ---- the calls

-- a run of what is equal
moved : (text text' input input' room room' wide : List ℕ) (records records' budget budget' : ℕ) → text' ≡ text → input' ≡ input → room' ≡ room → records' ≡ records → budget' ≡ budget
    → run_of text' input' (lent_by wide room' records') budget' ≡ run_of text input (lent_by wide room records) budget
moved text text' input input' room room' wide records records' budget budget' t i r n b = rw (t, i, r, n, b)

pub more_space_same : MoreSpaceSame
more_space_same c d l free h =
    let outcome : c.answer.outcome ≡ (ran_of c).ending = ap (λ (y : code.Ran). y.outcome) c.allowed.0 in
    let taken : is_refused (ran_of c).ending ≡ false = ap is_refused (sym outcome) ∙ h.taken in
    let enough : number_in (ran_of c).ending ≡ 14 → ⊥ = λ e. h.enough (ap number_in outcome ∙ e) in
    let other = moved (text_of c) (text_of d) (input_of c) (input_of d) (room_before c) (room_before d) (space_before d) (length (stack_before c)) (length (stack_before d)) (budget_of c) (budget_of d) l.text l.input l.room l.records l.budget in
    let both = alike (text_of c) (input_of c) (room_before c) (space_before c) (space_before d) (length (stack_before c)) (budget_of c) free l.longer l.small taken enough in
    record {
      answer = d.allowed.0 ∙ ap (λ x. answer_of x (tables_before d)) other ∙ both.answers (tables_before c) (tables_before d) ∙ sym c.allowed.0;
      room = d.allowed.1.1.0 ∙ ap₂ run.room_after other l.room ∙ both.rooms ∙ sym c.allowed.1.1.0;
      variables = ap (λ (x : Ran). x.machine.variables) other ∙ both.variables;
      space = rw (d.allowed.1.0, c.allowed.1.0, other) both.spaces;
      stack = d.allowed.1.1.1 ∙ ap (λ x. run.stack_after x (stack_before d)) other ∙ both.stacks (stack_before c) (stack_before d) l.records ∙ sym c.allowed.1.1.1;
    }

-- a box is told of a refusal
told_refused : (c : RunBox) → is_refused (run_of (text_in c) (input_in c) (lent_in c) (budget_in c)).ending ≡ true → outcome_word c ≡ refused_word
told_refused c e =
    let o = (run_of (text_in c) (input_in c) (lent_in c) (budget_in c)).ending in
    let why = (refused_numbered (text_in c) (input_in c) (lent_in c) (budget_in c) (number_in o) (place_in o)).0 (record { refused = e; numbered = refl; placed = refl }) in
    ((box_refuses_exactly c (number_in o) (place_in o)).1 why).refused

pub box_more_space_same : BoxMoreSpaceSame
box_more_space_same c d l free h =
    let ran = run_of (text_in c) (input_in c) (lent_in c) (budget_in c) in
    let told : answer_words c ≡ answer_in (answer_of ran (tables_in (block_in c))) = c.allowed.told.answered in
    let taken : is_refused ran.ending ≡ false =
    by_test (is_refused ran.ending) (λ e. absurd (h.taken (told_refused c e))) (λ e. e) in
    let enough : number_in ran.ending ≡ 14 → ⊥ = λ e. h.enough (ap (λ (x : List ℕ). get_or x 1 0) told ∙ e) in
    let other = moved (text_in c) (text_in d) (input_in c) (input_in d) (room_in c) (room_in d) (space_in d) (length (records_in c)) (length (records_in d)) (budget_in c) (budget_in d) l.text l.input l.room l.records l.budget in
    let both = alike (text_in c) (input_in c) (room_in c) (space_in c) (space_in d) (length (records_in c)) (budget_in c) free l.longer l.small taken enough in
    record {
      answer =
          d.allowed.told.answered
          ∙ ap answer_in (ap (λ x. answer_of x (tables_in (block_in d))) other ∙ both.answers (tables_in (block_in c)) (tables_in (block_in d)))
          ∙ sym told;
      block = d.allowed.told.kept ∙ ap (λ x. block_after x (block_in d)) other ∙ both.blocks (block_in c) (block_in d) ∙ sym c.allowed.told.kept;
      room = d.allowed.roomy ∙ ap₂ run.room_after other l.room ∙ both.rooms ∙ sym c.allowed.roomy;
      space = rw (d.allowed.spaced, c.allowed.spaced, other) both.spaces;
      records = d.allowed.stacked ∙ ap (λ x. run.stack_after x (records_in d)) other ∙ both.stacks (records_in c) (records_in d) l.records ∙ sym c.allowed.stacked;
    }
