-- An answer over the space agrees with the outcome that the definition gives.
use Rattle.std.specs.Prelude.{Result, Ok, Err}
use mathlib.Core.Path.{◌≡◌, refl}
use mathlib.Core.List.{List}
use Prim.Native.Nat.{ℕ, ◌+◌, ◌≤◌, ◌<◌}
use native.Mathlib.Omega.{arith}
use borrow.Author.Tests.{lt-ltb, le-ltb}
use denote.Enum.Declared.{tag_of}
use lib.ListN.{length, take, drop}
use Rattle.words.specs.declared.symbols.Scanned.{Scanned}
use Rattle.variables.specs.Strings.{Room, make}
use Rattle.variables.specs.bridge.Memory.{Agrees, Held, text_length, Framed}
use Rattle.variables.specs.declared.values.Worked.{Worked}
use Rattle.variables.specs.declared.values.Worked.TheVariants as worked
use Rattle.whole.specs.declared.errors.Error.{Error}
use Rattle.whole.specs.declared.errors.Error.TheVariants.{OutOfStringSpace}

-- ---- what the layers above need of an answer

-- a string is made where there is room for it
module _ (space bytes : List ℕ) (used : ℕ) (t : Scanned) (room : Room) (h : Held room space used) where
  pub make_agrees : used + length bytes ≤ length space → take (length bytes) (drop used space) ≡ bytes
      → Agrees (Ok (worked.Text (length bytes) t)) space used (make bytes room)
  unfolding make
  make_agrees l e =
      rw (h.limit, h.lives, le-ltb (length space) (used + length bytes) l)
      (e, (refl, record { limit = refl; lives = omega (arith, h.lives) }))

  pub make_refused : length space < used + length bytes → Agrees (Err OutOfStringSpace) space used (make bytes room)
  unfolding make
  make_refused l = rw (h.limit, h.lives, lt-ltb (length space) (used + length bytes) l) refl

-- an answer with no longer text leaves the space as another does
pub framed_less : {before now : List ℕ} {used : ℕ} {r : Result Worked Error} (q : Result Worked Error) → text_length q ≤ text_length r → Framed before used r now
    → Framed before used q now
framed_less q h k = record { long = k.long; kept = k.kept; fits = omega (arith, k.fits); short = omega (arith, k.short) }

-- ---- an answer that is no whole number, as the code tells it

abbrev pub worked_tag : Worked → ℕ
worked_tag x = tag_of Rattle.variables.specs.contracts.values.Worked.the_type x

abbrev pub NoWhole : Result Worked Error → Type 0
NoWhole (Ok x) = worked_tag x ≡ 1
NoWhole (Err e) = Unit {0}

-- a text
pub no_whole_text : {r : Result Worked Error} {x : Worked} → r ≡ Ok x → worked_tag x ≡ 1 → NoWhole r
no_whole_text e h = rw e h

-- or an error
pub no_whole_error : {r : Result Worked Error} {x : Error} → r ≡ Err x → NoWhole r
no_whole_error e = rw e tt

pub no_whole : (P : Result Worked Error → Type 0) → ((e : Error) → P (Err e)) → ((n : ℕ) (t : Scanned) → P (Ok (worked.Text n t)))
    → (x : Result Worked Error) → NoWhole x → P x
no_whole P faults texts (Ok (worked.Whole w t)) k = absurd (omega arith)
no_whole P faults texts (Ok (worked.Text n t)) k = texts n t
no_whole P faults texts (Err e) k = faults e
