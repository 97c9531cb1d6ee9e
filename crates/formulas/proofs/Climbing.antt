-- A formula from left to right: what its left side, as far as it is worked out, has to do with the whole.
use Rattle.std.specs.Prelude.{None, Option, Some, Result, Ok, Err}
use mathlib.Core.Path.{◌≡◌, refl, sym, ap, ◌∙◌}
use mathlib.Core.Bool.{true, false}
use mathlib.Core.List.{List}
use Prim.Native.Nat.{ℕ, ◌+◌, ◌≤◌, ◌<◌}
use native.Mathlib.Omega.{arith}
use lib.ListN.{length}
use Rattle.whole.specs.declared.arithmetic.Operator.{Operator}
use Rattle.whole.specs.declared.errors.Error.{Error}
use Rattle.whole.specs.declared.errors.Error.TheVariants.{TypeMismatch}
use Rattle.words.specs.declared.places.Place.{Place}
use Rattle.words.specs.declared.symbols.Scanned.{Scanned}
use Rattle.words.proofs.Choices.{by_test}
use Rattle.scanner.specs.Tokens.{token_at}
use Rattle.space.proofs.Parts.{front_less}
use Rattle.grammar.specs.Trees.{Formula, two_sided}
use Rattle.grammar.specs.Formulas.{right_level, tight_operator, good, after, enough}
use Rattle.skimming.specs.bridge.Remaining.{weight, formula_in, climb_of, operand_of}
use Rattle.skimming.proofs.Weights.{operator_reads, after_lighter}
use Rattle.skimming.proofs.Grammar.{formula_lightens, operand_lightens}
use Rattle.expressions.proofs.Views.{made, formula_view, climb_stops, climb_goes}
use Rattle.expressions.specs.Types.{depth_of}
use Rattle.variables.specs.Strings.{Room, Outcome, fault}
use Rattle.variables.specs.Variables.{Variables}
use Rattle.operators.specs.Values.{value_of}
use Rattle.variables.specs.bridge.Memory.{text_length, Looked, Held, Agrees, GoesOn, Framed}
use Rattle.operators.specs.bridge.Memory.{turn_by, turn_as, SidesMet}
use Rattle.formulas.specs.bridge.Memory.{Scans, Reads, OperandReads, Ready, Evaluated}
use Rattle.variables.specs.declared.values.Worked.{Worked}
use Rattle.variables.specs.declared.values.Worked.TheVariants as worked
use Rattle.operators.proofs.Sides.{takes_answer, sides_agree, sides_refused}
use Rattle.variables.proofs.Agreements.{framed_less}
use Rattle.operators.proofs.Fitting.{Stands, sides_stand}
use Rattle.formulas.proofs.Faults.{climb_fault}
use Rattle.formulas.proofs.Nesting.{left_depth}
use Rattle.variables.proofs.Looking.{looked_kept}
use Rattle.variables.specs.declared.tables.Tables.{Tables}

-- ---- what follows weighs less

pub formula_less : (s : List ℕ) (level : ℕ) (t : Scanned) {f : Formula} {u : Scanned} → formula_in s level t ≡ good f u
    → weight s u + 4 ≤ weight s t
unfolding formula_in
formula_less s level t {f} {u} e = let h : weight s u + 4 ≤ weight s t = rw e at (formula_lightens (enough s) s level t) in h

operand_less : (s : List ℕ) (level : ℕ) (t : Scanned) {f : Formula} {u : Scanned} → operand_of s level t ≡ good f u
    → weight s u + 4 ≤ weight s t
unfolding operand_of
operand_less s level t {f} {u} e =
    let h : weight s u + 4 ≤ weight s t = rw e at (operand_lightens (enough s) s level t.token t.next) in h

-- how much is left to read behind an answer
abbrev pub heft : List ℕ → Result Worked Error → ℕ
heft s (Ok (worked.Whole w t)) = weight s t
heft s (Ok (worked.Text n t)) = weight s t
heft s (Err e) = 0

goes_heft : (s : List ℕ) (r : Result Worked Error) (u : Scanned) → GoesOn r u → heft s r ≤ weight s u
goes_heft s (Ok (worked.Whole w t)) u e = rw e (omega arith)
goes_heft s (Ok (worked.Text n t)) u e = rw e (omega arith)
goes_heft s (Err x) u e = omega arith

-- ---- what a left side meets

abbrev Turn : Type 0
Turn = Result (Option (Operator × Place)) Error

module _ (line : List ℕ) (level : ℕ) where
  -- no operator, unless it is an error
  abbrev Ending : Scanned → Result Worked Error → Type 0
  Ending at (Ok (worked.Whole w t)) = tight_operator level at.token ≡ None
  Ending at (Ok (worked.Text n t)) = tight_operator level at.token ≡ None
  Ending at (Err e) = Unit {0}

  -- an operator of another type
  record Refused (at : Scanned) (left : Result Worked Error) : Type 0 where
    op : Operator
    found : tight_operator level at.token ≡ Some op
    refuses : takes_answer op left ≡ false

  -- an operator that takes it, and the place after that
  record Going (at : Scanned) (left : Result Worked Error) (op : Operator) (next : Place) : Type 0 where
    found : tight_operator level at.token ≡ Some op
    takes : takes_answer op left ≡ true
    begins : next ≡ at.next
    heavy : heft line left ≡ weight line at

  abbrev Met : Scanned → Result Worked Error → Turn → Type 0
  Met at left (Ok None) = Ending at left
  Met at left (Err e) = Refused at left × (e ≡ TypeMismatch)
  Met at left (Ok (Some turn)) = Going at left turn.0 turn.1

  met_by : (left : Worked) (at : Scanned) → heft line (Ok left) ≡ weight line at → (tight_operator level at.token ≡ None → Ending at (Ok left))
      → (o : Option Operator) → tight_operator level at.token ≡ o → Met at (Ok left) (turn_by left at.next o)
  met_by left at h end None e = end e
  met_by left at h end (Some op) e =
      by_test (takes_answer op (Ok left))
      (λ t. rw t (record { found = e; takes = t; begins = refl; heavy = h }))
      (λ t. rw t (record { op = op; found = e; refuses = t }, refl))

  met : (left : Result Worked Error) (at : Scanned) → GoesOn left at → Met at left (turn_as level left)
  met (Ok (worked.Whole w t)) at g = rw g (met_by (worked.Whole w at) at refl (λ e. e) (tight_operator level at.token) refl)
  met (Ok (worked.Text n t)) at g = rw g (met_by (worked.Text n at) at refl (λ e. e) (tight_operator level at.token) refl)
  met (Err e) at g = tt

  module _ (left : Result Worked Error) (at : Scanned) (g : GoesOn left at) {x : Turn} (h : x ≡ turn_as level left) where
    met_so : Met at left x
    met_so = rw h (met left at g)

    turn_ends : x ≡ Ok None → Ending at left
    turn_ends e = rw e at met_so

    turn_refused : {e : Error} → x ≡ Err e → Refused at left × (e ≡ TypeMismatch)
    turn_refused e = rw e at met_so

    turn_goes : {op : Operator} {next : Place} → x ≡ Ok (Some (op, next)) → Going at left op next
    turn_goes e = rw e at met_so

-- ---- an error

record Failed (e : Error) (o : Outcome) : Type 0 where
  left : Room
  is : o ≡ fault e left

failed : (e : Error) (space : List ℕ) (used : ℕ) (o : Outcome) → Agrees (Err e) space used o → Failed e o
failed e space used (fault x room) h = record { left = room; is = rw h refl }
failed e space used (Rattle.variables.specs.Strings.value _ _) h = elim h [ ]

-- ---- a left side as far as it is worked out

-- a formula that reads begins with an operand that does
pub formula_operand : (room : ℕ) (line : List ℕ) (level : ℕ) (t : Scanned) → Reads room (formula_in line level t) → OperandReads room line t
formula_operand room line level t r =
    let v = formula_view line level t r.is in
    let d = left_depth line level v.of v.at v.climbs in
    record { level = level; reads = record { of = v.of; next = v.at; is = v.from; shallow = omega (arith, r.shallow) } }

module _ (line : List ℕ) (tables : Tables) (level used : ℕ) where
  abbrev Done : Formula → Scanned → List ℕ → Result Worked Error → List ℕ → Type 0
  Done f u before r now = Evaluated tables f u before used r now

  -- it is an evaluated formula, from which the whole one climbs; w is the weight of the whole one's first token
  pub record Climbing (w : ℕ) (f : Formula) (u : Scanned) (before : List ℕ) (left : Result Worked Error) (now : List ℕ) : Type 0 where
    pub ready : Ready line tables.strings.lengths before used
    pub of : Formula
    pub at : Scanned
    pub climbs : climb_of line level (good of at) ≡ good f u
    pub lighter : weight line at + 4 ≤ w
    pub done : Evaluated tables of at before used left now

  -- the operand
  pub climbing_begins : (t : Scanned) (f : Formula) (u : Scanned) {before now : List ℕ} {left : Result Worked Error} → Ready line tables.strings.lengths before used
      → formula_in line level t ≡ good f u
      → ((k : ℕ) (g : Formula) (v : Scanned) → operand_of line k t ≡ good g v → Done g v before left now)
      → Climbing (weight line t) f u before left now
  climbing_begins t f u r e h =
      let v = formula_view line level t e in record {
        ready = r;
        of = v.of;
        at = v.at;
        climbs = v.climbs;
        lighter = operand_less line level t v.from;
        done = h level v.of v.at v.from;
      }

  -- a left side's error is the whole one's
  fault_climbs : (g : Formula) (t : Scanned) {f : Formula} {u : Scanned} {before now : List ℕ} {left : Result Worked Error} {e : Error}
      → climb_of line level (good g t) ≡ good f u → Framed before used left now
      → ((vars : Variables) → Looked vars tables before → (room : Room) → Held room before used
      → Agrees (Err e) now used (value_of g vars room))
      → Done f u before (Err e) now
  fault_climbs g t {now = now} {e = e} c k a = record {
    framed = framed_less (Err e) (omega arith) k;
    agrees = λ vars l room h.
        let x = failed e now used (value_of g vars room) (a vars l room h) in
        rw (climb_fault line level g t c vars room e x.left x.is) refl;
    goes = tt;
  }

  stops : {w : ℕ} {f : Formula} {u : Scanned} {before now : List ℕ} {left : Result Worked Error} (c : Climbing w f u before left now)
      → tight_operator level c.at.token ≡ None → Done f u before left now
  stops {f = f} {u = u} c o =
      let e = sym (climb_stops line level c.of c.at o) ∙ c.climbs in
      let i : c.of ≡ f = cc in
      let j : c.at ≡ u = cc in
      rw (i, j) at c.done

  ends_by : {w : ℕ} {f : Formula} {u : Scanned} {before now : List ℕ} (left : Result Worked Error) (c : Climbing w f u before left now)
      → Ending line level c.at left → Done f u before left now
  ends_by (Ok (worked.Whole w t)) c o = stops c o
  ends_by (Ok (worked.Text n t)) c o = stops c o
  ends_by (Err e) c o = fault_climbs c.of c.at c.climbs c.done.framed c.done.agrees

module _ {line : List ℕ} {tables : Tables} {level used w : ℕ} {f : Formula} {u : Scanned} {before now : List ℕ} {left : Result Worked Error}
    (c : Climbing line tables level used w f u before left now) where
  -- no operator follows
  pub climbing_ends : {x : Turn} → x ≡ turn_as level left → x ≡ Ok None → Evaluated tables f u before used left now
  climbing_ends h e = ends_by line tables level used left c (turn_ends line level left c.at c.done.goes h e)

  -- an operator's right side, and what climbs from both
  record Right (op : Operator) : Type 0 where
    side : Formula
    then : Scanned
    reads : formula_in line (right_level op) (after line c.at) ≡ good side then
    climbs : climb_of line level (good (two_sided op c.of side) then) ≡ good f u

  right_of : {op : Operator} → tight_operator level c.at.token ≡ Some op → Right op
  right_of {op} o =
      let v = climb_goes line level c.of c.at o c.climbs in
      let m = made (two_sided op c.of) (formula_in line (right_level op) (after line c.at)) v.from in
      record { side = m.of; then = v.at; reads = m.from; climbs = rw m.is at v.climbs }

  -- an operator of another type
  pub climbing_refused : {x : Turn} {y : Error} → x ≡ turn_as level left → x ≡ Err y
      → Evaluated tables f u before used (Err y) now
  unfolding value_of
  climbing_refused h e =
      let (k, is) = turn_refused line level left c.at c.done.goes h e in
      let v = right_of k.found in
      rw is
      (fault_climbs line tables level used (two_sided k.op c.of v.side) v.then v.climbs c.done.framed
      (λ vars l room h.
      sides_refused k.op left now used (value_of c.of vars room) (λ after. value_of v.side vars after)
      (c.done.agrees vars l room h)
      k.refuses))

  -- the right side begins with the token after the operator, of the next tighter level, and its text stands after the left one's
  module _ {x : Turn} {op : Operator} {next : Place} {first : Scanned}
      (h : x ≡ turn_as level left) (e : x ≡ Ok (Some (op, next))) (b : first ≡ token_at line next) where
    goes_on : Going line level c.at left op next
    goes_on = turn_goes line level left c.at c.done.goes h e

    begins : first ≡ after line c.at
    begins = b ∙ ap (token_at line) goes_on.begins

    side_of : Right op
    side_of = right_of goes_on.found

    lighter_still : weight line first + 4 ≤ weight line c.at
    lighter_still = rw begins (after_lighter line c.at (operator_reads level c.at.token goes_on.found))

    pub right_lighter : weight line first + 8 ≤ w
    right_lighter = omega (arith, lighter_still, c.lighter)

    module _ {k n : ℕ} (lv : k ≡ right_level op) (len : n ≡ text_length left) where
      reads_there : formula_in line k first ≡ good side_of.side side_of.then
      reads_there = ap (λ i. formula_in line i first) lv ∙ ap (formula_in line (right_level op)) begins ∙ side_of.reads

      -- what working it out begins with
      pub right_ready : Ready line tables.strings.lengths now (used + n)
      right_ready = record {
        variables = omega (arith, c.ready.variables);
        within = rw len c.done.framed.fits;
        small = omega (arith, c.ready.small, c.done.framed.long);
        short = c.ready.short;
      }

      pub right_asks : (room : ℕ) → depth_of f ≤ room → Ready line tables.strings.lengths now (used + n) × (Scans line first × Reads room (formula_in line k first))
      unfolding depth_of
      right_asks room d =
          let v = side_of in
          let h = left_depth line level (two_sided op c.of v.side) v.then v.climbs in
          (right_ready, (record { from = next; is = b }, record { of = v.side; next = v.then; is = reads_there; shallow = omega arith }))

      module _ (right : Result Worked Error) {end : List ℕ}
          (rights : (g : Formula) (v : Scanned) → formula_in line k first ≡ good g v
          → Evaluated tables g v now (used + n) right end) where
        right_done : Evaluated tables side_of.side side_of.then now (used + text_length left) right end
        right_done = rw len at (rights side_of.side side_of.then reads_there)

        -- both texts lie in the space
        pub right_fits : used + text_length left + text_length right ≤ length end
        right_fits = right_done.framed.fits

        module _ (r : Result Worked Error) (m : SidesMet op left right end used r) where
          both_stand : Stands end used r side_of.then
          both_stand =
              let j = right_done in
              sides_stand op end used (omega (arith, c.done.framed.fits, j.framed.long)) r side_of.then left right j.goes m

          then_lighter : weight line side_of.then + 4 ≤ weight line first
          then_lighter = formula_less line k first reads_there

          -- both sides are the next left one
          pub climbing_goes : Climbing line tables level used w f u before r end
          unfolding value_of
          climbing_goes =
              let v = side_of in
              let i = c.done in
              let j = right_done in
              record {
                ready = c.ready;
                of = two_sided op c.of v.side;
                at = v.then;
                climbs = v.climbs;
                lighter = omega (arith, then_lighter, right_lighter);
                done = record {
                  framed = record {
                    long = j.framed.long ∙ i.framed.long;
                    kept = front_less end now (used + text_length left) used (omega arith) j.framed.kept ∙ i.framed.kept;
                    fits = both_stand.fits;
                    short = both_stand.short;
                  };
                  agrees = λ vars l room x.
                      sides_agree op left right r now end used (value_of c.of vars room) (λ after. value_of v.side vars after)
                      (i.agrees vars l room x)
                      goes_on.takes
                      j.framed.long
                      j.framed.kept
                      (j.agrees vars (looked_kept l used c.ready.variables i.framed.kept))
                      m;
                  goes = both_stand.goes;
                };
              }

          pub climbing_lightens : heft line r < heft line left
          climbing_lightens =
              omega (arith, goes_heft line r side_of.then both_stand.goes, then_lighter, lighter_still, goes_on.heavy)
