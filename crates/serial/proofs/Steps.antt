-- What each call answers and leaves, case by case.
use Rattle.std.specs.Prelude.{Err, Ok, Result, None, Option, Some}
use Rattle.loader.specs.declared.refusals.RefusedAt.{RefusedAt}
use Rattle.loader.specs.Refusals.{refused_at}
use mathlib.Core.Path.{◌≡◌, sym, ap, ◌∙◌}
use mathlib.Core.Bool.{true, false}
use mathlib.Core.List.{List}
use Prim.Native.Nat.{ℕ, ◌+◌, ◌≤◌, ◌<◌}
use native.Mathlib.Nat.{sub-zero}
use native.Mathlib.Omega.{arith}
use borrow.Author.Tests.{le-leb, lt-leb, le-ltb, lt-ltb}
use lib.ListN.{length, take}
use lib.Seq.{length-take-le}
use Rattle.words.specs.Places.{place}
use Rattle.space.specs.Moves.{copied, cleared}
use Rattle.space.proofs.Frames.{copied_lies}
use Rattle.loader.specs.Loading.{longest_text, load_of}
use Rattle.loader.specs.declared.refusals.Refusal.TheVariants.{NoRoom}
use Rattle.serial.specs.Receiving.{held, ended, too_short, begun_of, placed, with_part, taken, zeros, too_long, settled, loaded_at, at_end, untouched, finished}
use Rattle.serial.specs.bridge.Clearing.{zeros_from}

-- ---- to begin

module _ (buffer : List ℕ) where
  pub begun_short : too_short buffer ≡ true → begun_of buffer ≡ refused_at NoRoom (place 0)
  unfolding begun_of
  begun_short e = rw e

  pub begun_ready : too_short buffer ≡ false → begun_of buffer ≡ Ok (Some 0)
  unfolding begun_of
  begun_ready e = rw e

-- ---- a part more

module _ (n : ℕ) (buffer part : List ℕ) where
  -- more than a text may have: nothing is written
  pub placed_past : longest_text < n + length part → placed n buffer part ≡ held None buffer
  unfolding placed
  placed_past h = rw (lt-leb _ _ h)

  -- what a text may have lies in the buffer
  pub placed_lies : n + length part ≤ longest_text → longest_text ≤ length buffer
      → placed n buffer part ≡ held (Some (n + length part)) (copied buffer n part)
  unfolding placed
  placed_lies h k =
      let l : n + length part ≤ length buffer = omega arith in
      rw (le-leb _ _ h, copied_lies buffer n part l)

module _ (receipt : Option ℕ) (buffer part : List ℕ) where
  pub taken_short : too_short buffer ≡ true → taken (held receipt buffer) part ≡ held receipt buffer
  unfolding taken
  taken_short e = rw e

  pub taken_more : too_short buffer ≡ false → taken (held receipt buffer) part ≡ with_part receipt buffer part
  unfolding taken
  taken_more e = rw e

  pub taken_much : too_short buffer ≡ false → receipt ≡ None → taken (held receipt buffer) part ≡ held None buffer
  taken_much e is = taken_more e ∙ ap (λ r. with_part r buffer part) is

  pub taken-placed : too_short buffer ≡ false → (n : ℕ) → receipt ≡ Some n → taken (held receipt buffer) part ≡ placed n buffer part
  taken-placed e n is = taken_more e ∙ ap (λ r. with_part r buffer part) is

-- ---- the end

-- cleared from its first byte on, the whole buffer is zeros
pub cleared_whole : (buffer : List ℕ) → cleared buffer 0 ≡ zeros (length buffer)
unfolding cleared
cleared_whole buffer = rw sub-zero

module _ (n : ℕ) (buffer : List ℕ) where
  pub loaded_long : longest_text < n → loaded_at n buffer ≡ too_long (length buffer)
  unfolding loaded_at
  loaded_long h = rw (lt-ltb _ _ h)

  -- what a buffer is left with is what clearing leaves, from where the answer says
  settled-cleared : (answer : Result (Unit {0}) RefusedAt) → n ≤ length buffer
      → settled answer (take n buffer) (length buffer) ≡ ended answer (cleared buffer (zeros_from answer n))
  unfolding cleared
  settled-cleared (Ok _) l = rw (length-take-le n buffer l)
  settled-cleared (Err e) l = ap (ended (refused_at e.refusal e.place)) (sym (cleared_whole buffer))

  module _ (h : n ≤ longest_text) where
    pub loaded_as : (answer : Result (Unit {0}) RefusedAt) → load_of (take n buffer) ≡ answer → loaded_at n buffer ≡ settled answer (take n buffer) (length buffer)
    unfolding loaded_at
    loaded_as answer e = rw (le-ltb _ _ h, e)

    pub loaded_cleared : longest_text ≤ length buffer → (answer : Result (Unit {0}) RefusedAt) → load_of (take n buffer) ≡ answer
        → loaded_at n buffer ≡ ended answer (cleared buffer (zeros_from answer n))
    loaded_cleared k answer e =
        let l : n ≤ length buffer = omega arith in
        loaded_as answer e ∙ settled-cleared answer l

module _ (receipt : Option ℕ) (buffer : List ℕ) where
  pub finished_short : too_short buffer ≡ true → finished (held receipt buffer) ≡ untouched buffer
  unfolding finished
  finished_short e = rw e

  pub finished_more : too_short buffer ≡ false → finished (held receipt buffer) ≡ at_end receipt buffer
  unfolding finished
  finished_more e = rw e

  pub finished_much : too_short buffer ≡ false → receipt ≡ None
      → finished (held receipt buffer) ≡ too_long (length buffer)
  finished_much e is = finished_more e ∙ ap (λ r. at_end r buffer) is

  pub finished_loaded : too_short buffer ≡ false → (n : ℕ) → receipt ≡ Some n → finished (held receipt buffer) ≡ loaded_at n buffer
  finished_loaded e n is = finished_more e ∙ ap (λ r. at_end r buffer) is
