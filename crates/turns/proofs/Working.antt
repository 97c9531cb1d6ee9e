-- Working out a formula with the machine's tables, and what the definition then does.
use Rattle.std.specs.Prelude.{Result, Ok, Err}
use mathlib.Core.Path.{sym, ap, subst}
use mathlib.Core.List.{List}
use Prim.Native.Nat.{ℕ, ◌≤◌}
use lib.ListN.{take, drop}
use Rattle.whole.specs.declared.errors.Error.TheVariants.{TypeMismatch}
use Rattle.whole.specs.Texts.{longest_string}
use Rattle.words.specs.declared.symbols.Scanned.{Scanned}
use Rattle.grammar.specs.Trees.{Formula}
use Rattle.variables.specs.Strings.{Value, whole, text, Outcome, value, fault}
use Rattle.operators.specs.Values.{value_of}
use Rattle.variables.specs.bridge.Memory.{Agrees, Storable}
use Rattle.formulas.specs.bridge.Memory.{Evaluated}
use Rattle.variables.specs.declared.values.Worked.{Worked}
use Rattle.variables.specs.declared.values.Worked.TheVariants.{Whole, Text}
use Rattle.variables.proofs.Holding.{held_looked}
use Rattle.machine.specs.Machine as spec
use Rattle.machine.specs.Machine.{room_of, noting}
use Rattle.machine.specs.bridge.Holding.{variables_of, Settled, Same, State}
use Rattle.machine.specs.declared.records.Record.{Record}
use Rattle.turns.specs.Steps as step
use Rattle.turns.specs.Steps.{fails, worked, whole_only, worked_whole}
use Rattle.turns.specs.bridge.Turns.{Valued}
use Rattle.turns.proofs.Keeping.{same_kept, same_noting, room_held}
use Rattle.turns.proofs.Leading.{Leads}
use Rattle.whole.specs.declared.errors.Error.{Error}

-- the tables hold the machine's variables
pub valued : {m : State} {f : Formula} {u : Scanned} {before after : List ℕ} {r : Result Worked Error} → Settled m before
    → Evaluated m.tables f u before m.used r after
    → Valued m f u before r after
valued {m} {before = before} s e =
    record {
      framed = e.framed;
      agrees = e.agrees (variables_of m before) (held_looked m.tables.numbers m.tables.strings before s.numbers s.strings);
      goes = e.goes;
    }

-- ---- an outcome that an answer agrees with

-- what is done with it, by the answer: it fails, or goes on with the value
abbrev pub met : Result Worked Error → List ℕ → ℕ → (Value → spec.Machine → step.Next) → spec.Machine → step.Next
met (Ok (Whole w t)) after used go = go (whole w)
met (Ok (Text len t)) after used go = go (text (take len (drop used after)))
met (Err e) after used go = fails e

-- the same where a whole number is wanted
abbrev pub whole_met : Result Worked Error → (ℕ → spec.Machine → step.Next) → spec.Machine → step.Next
whole_met (Ok (Whole w t)) go = go w
whole_met (Ok (Text len t)) go = fails TypeMismatch
whole_met (Err e) go = fails e

module _ {line : List ℕ} {rs : List Record} {m : State} {input space room : List ℕ} {n : spec.Machine}
    (same : Same line rs m input space room n) where
  pub leads_met : (r : Result Worked Error) (after : List ℕ) (used : ℕ) (x : Outcome) → Agrees r after used x → (go : Value → spec.Machine → step.Next)
      → Leads line rs m input space room (worked n x go) (met r after used go)
  leads_met (Ok (Whole w t)) after used (value (whole v) left) a go =
      record { machine = _; is = ap (λ k. go (whole k) (noting n left)) (sym a.0); same = same_noting same left }
  leads_met (Ok (Whole w t)) after used (value (text b) left) a go = absurd a
  leads_met (Ok (Whole w t)) after used (fault e left) a go = absurd a
  leads_met (Ok (Text len t)) after used (value (whole v) left) a go = absurd a
  leads_met (Ok (Text len t)) after used (value (text b) left) a go =
      record { machine = _; is = ap (λ k. go (text k) (noting n left)) (sym a.0); same = same_noting same left }
  leads_met (Ok (Text len t)) after used (fault e left) a go = absurd a
  leads_met (Err e) after used (value v left) a go = absurd a
  leads_met (Err e) after used (fault f left) a go =
      record { machine = _; is = ap (λ k. fails k (noting n left)) (sym a); same = same_noting same left }

-- ---- a formula

module _ {line : List ℕ} {rs : List Record} {m : State} {f : Formula} {u : Scanned} {input space room space' : List ℕ} {r : Result Worked Error}
    (settled : Settled m space) (v : Valued m f u space r space') {n : spec.Machine} (same : Same line rs m input space room n) where
  -- the answer agrees with the formula's value
  agreed : Agrees r space' m.used (value_of f n.variables (room_of n))
  agreed =
      subst (λ x. Agrees r space' m.used (value_of f x (room_of n))) (sym same.variables) (v.agrees (room_of n) (room_held settled same))

  kept : Same line rs m input space' room n
  kept = same_kept v.framed.long settled v.framed.kept same

  pub leads_worked : (go : Value → spec.Machine → step.Next)
      → Leads line rs m input space' room (worked n (value_of f n.variables (room_of n)) go) (met r space' m.used go)
  leads_worked go = leads_met kept r space' m.used (value_of f n.variables (room_of n)) agreed go

  pub leads_whole : (go : ℕ → spec.Machine → step.Next) → Leads line rs m input space' room (worked_whole f n go) (whole_met r go)
  leads_whole go = by_answer r (leads_worked (λ x o. whole_only x o (λ w. go w o)))
    where
      by_answer : (x : Result Worked Error)
          → Leads line rs m input space' room (worked_whole f n go) (met x space' m.used (λ y o. whole_only y o (λ w. go w o)))
          → Leads line rs m input space' room (worked_whole f n go) (whole_met x go)
      by_answer (Ok (Whole w t)) l = l
      by_answer (Ok (Text len t)) l = l
      by_answer (Err e) l = l

-- a text stands in the space
pub text_fits : {m : State} {f : Formula} {u t : Scanned} {space space' : List ℕ} {len : ℕ} → Settled m space
    → Valued m f u space (Ok (Text len t)) space' → Storable m.tables.strings.lengths m.used space' len × (len ≤ longest_string)
text_fits h v = (record { all = h.all; fits = v.framed.fits }, v.framed.short)
