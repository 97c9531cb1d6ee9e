-- A report written record by record to the front of the room.
use mathlib.Core.Path.{◌≡◌, refl, sym, ap, ◌∙◌}
use mathlib.Core.List.{List, [], ◌++◌, append_assoc, append-nil}
use Prim.Native.Nat.{ℕ, ◌+◌, ◌≤◌, zero-le}
use native.Mathlib.Omega.{arith}
use lib.ListN.{length, take, length-append}
use Rattle.whole.specs.Texts.{held}
use Rattle.whole.specs.declared.texts.Text.{Text}
use Rattle.whole.proofs.Numerals.{held_front, held_count}
use Rattle.space.specs.Moves.{overlaid, copied}
use Rattle.space.proofs.Frames.{copied_lies}
use Rattle.space.proofs.Overlaid.{overlaid-length, overlaid_none, overlaid_after}

-- what is written, and what is still to be
pub record Written (report rest room out : List ℕ) (at : ℕ) : Type 0 where
  pub done : List ℕ
  pub whole : done ++ rest ≡ report
  pub count : at ≡ length done
  pub holds : out ≡ overlaid room 0 done

pub none_written : (report room : List ℕ) → Written report report room room 0
none_written report room = record { done = []; whole = refl; count = refl; holds = sym (overlaid_none room 0) }

module _ {report rest room out : List ℕ} {at : ℕ} (w : Written report rest room out at) where
  pub written_within : at + length rest ≡ length report
  written_within = omega (arith, w.count, length-append w.done rest, ap length w.whole)

  -- the room is as long as it was
  pub written_long : length report ≤ length room → length out ≡ length room
  written_long h = ap length w.holds ∙ overlaid-length room 0 w.done (omega (arith, w.count, written_within))

  -- one part more
  written_more : (part : List ℕ) {later after : List ℕ} → length report ≤ length room → rest ≡ part ++ later → after ≡ copied out at part
      → Written report later room after (at + length part)
  written_more part {later} {after} h e f =
      let n = length part in
      let long = written_long h in
      let fits : at + n ≤ length out = omega (arith, long, written_within, ap length e, length-append part later) in
      let start : at ≡ 0 + length w.done = omega (arith, w.count) in
      record {
        done = w.done ++ part;
        whole = append_assoc w.done part later ∙ ap (λ l. w.done ++ l) (sym e) ∙ w.whole;
        count = omega (arith, w.count, length-append w.done part);
        holds =
            f
            ∙ copied_lies out at part fits
            ∙ ap (λ s. overlaid s at part) w.holds
            ∙ ap (λ k. overlaid (overlaid room 0 w.done) k part) start
            ∙ overlaid_after room 0 w.done part zero-le;
      }

  -- as a held text
  pub written_held : {t : Text} (part : List ℕ) {later after : List ℕ} → length report ≤ length room → rest ≡ part ++ later → t ≡ held part
      → after ≡ copied out at (take t.len t.bytes)
      → Written report later room after (at + t.len)
  written_held part {later} {after} h e i f =
      rw (held_count part i) (written_more part h e (f ∙ ap (λ s. copied out at s) (held_front part i)))

-- all of it
pub all_written : {report room out : List ℕ} {at : ℕ} → Written report [] room out at → (at ≡ length report) × (out ≡ overlaid room 0 report)
all_written w =
    let e = sym (append-nil w.done) ∙ w.whole in (w.count ∙ ap length e, w.holds ∙ ap (overlaid _ 0) e)
