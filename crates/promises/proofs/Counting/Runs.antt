-- Every request of a run has at most 28 strings unfinished, and the most that the machine notes is the largest count of those granted.
use Rattle.std.specs.Prelude.{Ok}
use mathlib.Core.Path.{◌≡◌, refl, ◌∙◌}
use mathlib.Core.List.{List, []}
use mathlib.Core.Logic.{inl, inr}
use Prim.Native.Nat.{ℕ, zero, suc, ◌≤◌}
use native.Mathlib.Omega.{arith}
use borrow.Author.Tests.{le-ltb}
use Rattle.whole.specs.Bytes.{bytes}
use Rattle.loader.specs.Lines.{Line, lines_of}
use Rattle.loader.specs.Loading.{load_of}
use Rattle.grammar.specs.Trees.{Statement, Part}
use Rattle.variables.specs.Strings.{longest_space}
use Rattle.variables.specs.Variables.{string_bytes}
use Rattle.machine.specs.Items.{fresh}
use Rattle.machine.specs.Machine.{Position, Machine, Lent, most_records, with_step}
use Rattle.statements.specs.Parts.{head_of, tail_of, place_of}
use Rattle.turns.specs.Steps.{do_statement}
use Rattle.runner.specs.Run.{line_number_of, Standing, finished, at, entering, turn, running, run_of}
use Rattle.runner.specs.Examples.{lending, nested, nested_highest}
use Rattle.promises.specs.Unfinished.{most_unfinished}
use Rattle.promises.specs.StringSpace as asks
use Rattle.promises.specs.StringSpace.{Ask, StatementAsks, Begins}
use Rattle.promises.specs.Requests as requests
use Rattle.promises.specs.Requests.{at_once, Fits, Request, Granted, FewRequested, MostIsRequested, Reached, HighestIsCounted}
use Rattle.whole.proofs.Never.{never}
use Rattle.promises.proofs.Waiting.Needs.{live_is_exact}
use Rattle.promises.proofs.Waiting.Runs.{entering_fine, fresh_sound}
use Rattle.promises.proofs.Limits.Bounds.{Stands, entering_stands, following_stands, turn_stands, running_keeps, RunView, long, tall, unloaded, runs, run_view}
use Rattle.promises.proofs.Fourteen.Runs.{space_kept, begun_space}
use Rattle.promises.proofs.Counting.Few.{begun_few}
use Rattle.promises.proofs.Counting.Raising.{Raised, raised_on, raised_as}
use Rattle.promises.proofs.Counting.Granted.{AtLeast, least_kept, statement_counts}
use Rattle.promises.proofs.Counting.Statements.{AskedOf, statement_raises}

module _ (program : List ℕ) where
  abbrev after_of : List Line → Part → Position
  after_of lines p = record { lines = lines; rest = tail_of p }

  -- ---- a request that is granted is counted to the end of the run

  running_counts : (n : ℕ) (s : Standing) (ls : List Line) (q : ℕ) (x : Statement) (m y : Machine) (k : Ask) → Begins program n s ls q x m
      → StatementAsks ls q x m y k → Fits m.space (string_bytes y.variables.strings) k → at_once k ≤ (running n program s).machine.highest
  unfolding running
  running_counts (suc n) (at o lines p) ls q x m y k asks.first d h =
      running_keeps (AtLeast (at_once k)) (least_kept (at_once k)) (λ o p. p) n program (turn program o lines p)
      (following_stands (AtLeast (at_once k)) (line_number_of lines) (do_statement program (place_of p) (head_of p) (with_step o) (after_of lines p))
      (statement_counts live_is_exact program (place_of p) (head_of p) (with_step o) (after_of lines p) y k d h))
  running_counts (suc n) (at o lines p) ls q x m y k (asks.later b) d h = running_counts n (turn program o lines p) ls q x m y k b d h
  running_counts zero s ls q x m y k x5 d h = elim x5 [ ]
  running_counts (suc n) (finished _) ls q x m y k x11 d h = elim x11 [ ]

  -- ---- what a run notes is the count of a request that it was granted

  abbrev highest_at : Standing → ℕ
  highest_at (finished r) = r.machine.highest
  highest_at (at m lines p) = m.highest

  stands_highest : (Q : ℕ → Type 0) (s : Standing) → Stands (λ m. Q m.highest) s → Q (highest_at s)
  stands_highest Q (finished r) h = h
  stands_highest Q (at m lines p) h = h

  module _ (space : ℕ) where
    record Counted (n : ℕ) (s : Standing) (count : ℕ) : Type 0 where
      from : List Line
      place : ℕ
      statement : Statement
      machine : Machine
      begins : Begins program n s from place statement machine
      asking : Machine
      ask : Ask
      asks : StatementAsks from place statement machine asking ask
      fits : Fits space (string_bytes asking.variables.strings) ask
      counted : at_once ask ≡ count

    counted_now : (n : ℕ) (m : Machine) (lines : List Line) (p : Part) → m.space ≡ space
        → (c : ℕ) → AskedOf lines (place_of p) (head_of p) (with_step m) c → Counted (suc n) (at m lines p) c
    counted_now n m lines p h c y =
        record {
          from = lines;
          place = place_of p;
          statement = head_of p;
          machine = with_step m;
          begins = asks.first;
          asking = y.asking;
          ask = y.ask;
          asks = y.asks;
          fits = rw h at y.fits;
          counted = y.counted;
        }

    counted_later : (n : ℕ) (m : Machine) (lines : List Line) (p : Part) (c : ℕ) → Counted n (turn program m lines p) c → Counted (suc n) (at m lines p) c
    counted_later n m lines p c y =
        record {
          from = y.from;
          place = y.place;
          statement = y.statement;
          machine = y.machine;
          begins = asks.later y.begins;
          asking = y.asking;
          ask = y.ask;
          asks = y.asks;
          fits = y.fits;
          counted = y.counted;
        }

    running_raises : (n : ℕ) (s : Standing) → Stands (λ m. m.space ≡ space) s → Raised (Counted n s) (highest_at s) (running n program s).machine.highest
    unfolding running
    running_raises zero (finished r) h = inl refl
    running_raises zero (at m lines p) h = inl refl
    running_raises (suc n) (finished r) h = inl refl
    running_raises (suc n) (at m lines p) h =
        let X = AskedOf lines (place_of p) (head_of p) (with_step m) in
        let Y = Counted (suc n) (at m lines p) in
        let t = stands_highest (Raised X m.highest) (turn program m lines p)
        (following_stands (λ o. Raised X m.highest o.highest) (line_number_of lines)
        (do_statement program (place_of p) (head_of p) (with_step m) (after_of lines p))
        (statement_raises live_is_exact program (place_of p) (with_step m) (after_of lines p) (head_of p))) in
        raised_on Y (raised_as X Y (counted_now n m lines p h) t)
        (raised_as (Counted n (turn program m lines p)) Y (counted_later n m lines p)
        (running_raises n (turn program m lines p) (turn_stands (λ m. m.space ≡ space) (space_kept space) program m lines p h)))

-- ---- a whole run

module _ (text input : List ℕ) (lent : Lent) (budget : ℕ) where
  abbrev start : Standing
  start = entering (fresh text input lent) (lines_of text)

  start_space : Stands (λ m. m.space ≡ lent.space) start
  start_space = entering_stands (λ m. m.space ≡ lent.space) (fresh text input lent) (lines_of text) refl

  counted_granted : (q : Request text input lent budget) → Granted q → at_once q.ask ≤ (run_of text input lent budget).machine.highest
  unfolding run_of
  counted_granted q h =
      let same = begun_space text lent.space budget start q.from q.place q.statement q.machine q.begins start_space in
      rw (le-ltb longest_space lent.space q.small, le-ltb most_records lent.records q.few, q.loads)
      (running_counts text budget start q.from q.place q.statement q.machine q.asking q.ask q.begins q.asks (rw same h))

  reached_by : lent.space ≤ longest_space → lent.records ≤ most_records → load_of text ≡ Ok tt
      → {h : ℕ} → Raised (Counted text lent.space budget start) (highest_at text start) h → Reached text input lent budget h
  reached_by small few loads (inl e) =
      requests.never (e ∙ stands_highest text (λ h. h ≡ 0) start (entering_stands (λ m. m.highest ≡ 0) (fresh text input lent) (lines_of text) refl))
  reached_by small few loads (inr y) =
      requests.granted
      (record {
        small = small;
        few = few;
        loads = loads;
        from = y.from;
        place = y.place;
        statement = y.statement;
        machine = y.machine;
        begins = y.begins;
        asking = y.asking;
        ask = y.ask;
        asks = y.asks;
      })
      y.fits y.counted

  reached_view : RunView text input lent budget → Reached text input lent budget (run_of text input lent budget).machine.highest
  reached_view (long h e) = rw e (requests.never refl)
  reached_view (tall h k e) = rw e (requests.never refl)
  reached_view (unloaded r p h k l e) = rw e (requests.never refl)
  reached_view (runs h k l e) = rw e (reached_by h k l (running_raises text lent.space budget start start_space))

pub highest_is_counted : HighestIsCounted
highest_is_counted text input lent budget =
    record {
      at_least = λ q h. counted_granted text input lent budget q h;
      reached = reached_view text input lent budget (run_view text input lent budget);
    }

pub few_requested : FewRequested
few_requested text input lent budget q =
    let h = begun_few text budget (entering (fresh text input lent) (lines_of text)) q.from q.place q.statement q.machine q.asking q.ask q.begins
    (entering_fine (fresh text input lent) (lines_of text) (fresh_sound text input lent)) q.asks in
    record { allowed = omega (arith, h); most = h }

pub most_is_requested : MostIsRequested
most_is_requested n h = reached_most (rw nested_highest at (highest_is_counted (bytes nested) [] (lending 1000) 1000).reached)
  where
    reached_most : Reached (bytes nested) [] (lending 1000) 1000 most_unfinished → most_unfinished ≤ n
    reached_most (requests.never e) = never (omega (arith, e))
    reached_most (requests.granted q g e) = omega (arith, h (bytes nested) [] (lending 1000) 1000 q, e)
