-- The search down the stack: what a loop of `look` keeps. It says nothing of memory.
use Rattle.std.specs.Prelude.{None, Option, Some, ℕ}
use Prim.Native.Nat.{ℕ, zero, suc, ◌-◌, ◌<◌}
use mathlib.Core.Path.{◌≡◌, ◌∙◌, subst}
use mathlib.Core.Bool.{Bool, true, false, cond}
use mathlib.Core.List.{List}
use native.Mathlib.Numerals.{unary_clauses}
use native.Mathlib.Omega.{arith}
use lib.ListN.{get_or}
use Rattle.machine.specs.bridge.Holding.{blank_record, passes}
use Rattle.machine.specs.bridge.Wanted.{is_sought, found_in}
use Rattle.machine.specs.declared.records.Record.{Record}
use Rattle.machine.specs.declared.records.Sought.{Sought}
use Rattle.machine.specs.declared.records.Sought.TheVariants as sought
use Rattle.machine.proofs.Searching.{nothing_found}
use Rattle.stack.specs.declared.seeking.Seek.{Seek}
use Rattle.stack.specs.bridge.Seeking.{seeking, seek_from, look_of}

-- the loop's state: what is found, or what is left finds it
pub record Good (ys : List Record) (k : Sought) (F : Option ℕ) (s : Seek) : Type 0 where
  pub over : s.left ≡ 0 → s.found ≡ F
  pub more : 0 < s.left → found_in k ys s.left ≡ F

module _ (ys : List Record) (F : Option ℕ) where
  goes : (k : Sought) (n : ℕ) → found_in k ys n ≡ F → Good ys k F (seeking n None)
  unfolding found_in
  goes k n e = record { over = λ h. subst (λ (m : ℕ). found_in k ys m ≡ F) h e; more = λ _. e }

  pub start : (k : Sought) (n : ℕ) → found_in k ys n ≡ F → Good ys k F (seek_from n k)
  unfolding seek_from
  start sought.Nothing n e = record { over = λ _. nothing_found ys n ∙ e; more = λ h. absurd (omega arith) }
  start sought.Call n e = goes sought.Call n e
  start sought.Loop n e = goes sought.Loop n e
  start (sought.LoopOf slot) n e = goes (sought.LoopOf slot) n e
  start (sought.WhileAt line at) n e = goes (sought.WhileAt line at) n e
  start (sought.WhileOf line at) n e = goes (sought.WhileOf line at) n e

module _ (ys : List Record) (k : Sought) (F : Option ℕ) where
  -- a record is looked at
  keeps : (n : ℕ) (b c : Bool) → cond b (Some n) (cond c (found_in k ys n) None) ≡ F
      → Good ys k F (cond b (seeking 0 (Some n)) (cond c (seeking n None) (seeking 0 None)))
      × ((cond b (seeking 0 (Some n)) (cond c (seeking n None) (seeking 0 None))).left < suc n)
  keeps n true c e = (record { over = λ _. e; more = λ h. absurd (omega arith) }, omega arith)
  keeps n false true e = (goes ys F k n e, omega arith)
  keeps n false false e = (record { over = λ _. e; more = λ h. absurd (omega arith) }, omega arith)

  looks : (n : ℕ) (f : Option ℕ) → 0 < n → found_in k ys n ≡ F
      → Good ys k F (look_of (seeking n f) (get_or ys (n - 1) blank_record) k)
      × ((look_of (seeking n f) (get_or ys (n - 1) blank_record) k).left < n)
  unfolding found_in look_of
  looks zero f h e = absurd (omega arith)
  looks (suc n) f h e =
      simp unary_clauses (keeps n (is_sought k (get_or ys n blank_record)) (passes (get_or ys n blank_record)) e)

  pub looked : (s : Seek) → 0 < s.left → Good ys k F s
      → Good ys k F (look_of s (get_or ys (s.left - 1) blank_record) k)
      × ((look_of s (get_or ys (s.left - 1) blank_record) k).left < s.left)
  looked s h g = looks s.left s.found h (g.more h)
