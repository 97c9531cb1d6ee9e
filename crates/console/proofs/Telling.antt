-- What is written of an answer that stands in its room, and of one that is a line alone.
use mathlib.Core.Path.{◌≡◌, ◌∙◌}
use mathlib.Core.List.{List, [], ◌++◌, append-nil}
use Prim.Native.Nat.{ℕ, zero-le}
use native.Mathlib.Omega.{arith}
use lib.ListN.{length, length-append}
use lib.Seq.{take-append_seam}
use Rattle.console.proofs.Counting.{prefix_len_of_le}
use Rattle.whole.specs.Texts.{held}
use Rattle.whole.specs.declared.texts.Text.{Text}
use Rattle.whole.proofs.Numerals.{held_front}
use Rattle.console.specs.Answers.{Tells}
use Rattle.console.specs.declared.answers.Answer.{Answer}

pub tells_front : (all rest : List ℕ) {n : ℕ} {line : Text} {room : List ℕ} → n ≡ length all → room ≡ all ++ rest → line ≡ held []
    → Tells all (record { written = n; line = line }) room
tells_front all rest {n} {line} {room} c r l =
    record {
      within = rw (c, r) (prefix_len_of_le (length all) (all ++ rest) (omega (arith, length-append all rest)));
      written = rw (held_front [] l, r, c, append-nil) (take-append_seam all rest);
    }

pub tells_line : (told : List ℕ) {a : Answer} {line : Text} {room : List ℕ} → a.written ≡ 0 → a.line ≡ line → line ≡ held told → Tells told a room
tells_line told {a} {line} {room} w i e =
    record {
      within = rw w (prefix_len_of_le 0 room zero-le);
      written = rw w (held_front told (i ∙ e));
    }
