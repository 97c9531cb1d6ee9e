-- What is to be written of a run follows from what the runner answers.
use mathlib.Core.Path.{◌≡◌, ap, ap₂, ◌∙◌}
use mathlib.Core.List.{List, ◌++◌}
use Prim.Native.Nat.{ℕ, ◌≤◌}
use native.Mathlib.Omega.{arith}
use lib.ListN.{length, drop, length-append}
use lib.Seq.{take-append_seam}
use Rattle.console.specs.Counts.{IsPrefixLen}
use Rattle.console.proofs.Counting.{prefix_len_of_le}
use Rattle.whole.specs.Bytes.{bytes}
use Rattle.whole.specs.Texts.{held}
use Rattle.whole.specs.declared.texts.Text.{Text}
use Rattle.whole.proofs.Numerals.{held_front}
use Rattle.console.specs.Answers as written
use Rattle.variables.specs.declared.tables.Tables.{Tables}
use Rattle.runner.specs.Run.{Ran, answer_of, room_after}
use Rattle.runner.specs.declared.running.Ran as code
use Rattle.runner.specs.declared.running.Outcome.{Outcome}
use Rattle.runner.specs.declared.running.Outcome.TheVariants.{Ended, Stopped, Out, Failed, Refused}
use Rattle.console.specs.declared.answers.Answer.{Answer}
use Rattle.run_recipe.specs.Answers.{word_of, last_line, Tells, told_of}

-- each word is short
pub short_word : (o : Outcome) → length (word_of o) ≤ 7
unfolding bytes
short_word Ended = omega arith
short_word (Stopped l) = omega arith
short_word (Out l) = omega arith
short_word (Failed e l) = omega arith
short_word (Refused r p) = omega arith

-- the output stands in front of the room
front_counts : (l rest : List ℕ) → IsPrefixLen (length l) (l ++ rest)
front_counts l rest = prefix_len_of_le (length l) (l ++ rest) (omega (arith, length-append l rest))

pub tells : (ran : Ran) (tables : Tables) (room : List ℕ) (r : code.Ran) (line : Text) (room' : List ℕ)
    → r ≡ answer_of ran tables → room' ≡ room_after ran room → line ≡ held (last_line r.outcome r.steps)
    → Tells ran (record { written = r.written; line = line }) room'
tells ran tables room r line room' e f g =
    let out = ran.machine.output in
    let rest = drop (length out) room in
    let count : r.written ≡ length out = ap (λ (x : code.Ran). x.written) e in
    record {
      within = rw (count, f) (front_counts out rest);
      printed = rw (count, f) (take-append_seam out rest);
      ending = g ∙ ap (λ (x : code.Ran). held (last_line x.outcome x.steps)) e;
    }

-- the bytes that are written of it
pub tells_bytes : {ran : Ran} {a : Answer} {room : List ℕ} → Tells ran a room → written.Tells (told_of ran) a room
tells_bytes {ran} t =
    record {
      within = t.within;
      written = ap₂ (λ (l m : List ℕ). l ++ m) t.printed (held_front (last_line ran.ending ran.machine.steps) t.ending);
    }
