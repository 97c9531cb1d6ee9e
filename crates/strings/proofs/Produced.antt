-- What a function makes of arguments that lie in the space: a number, which lets them go, or a text, for which room is asked while
-- they are live.
use Rattle.std.specs.Prelude.{Err, Ok, Result, ℕ}
use Rattle.whole.specs.declared.errors.Error.{Error}
use mathlib.Core.Path.{◌≡◌, refl, sym, ap, ◌∙◌}
use mathlib.Core.List.{List}
use Prim.Native.Nat.{ℕ, ◌+◌, ◌-◌, ◌≤◌, ◌<◌, min}
use native.Mathlib.Omega.{arith}
use borrow.Author.Tests.{lt-ltb, le-ltb}
use lib.ListN.{length, take, drop, replicate, length-drop}
use lib.Seq.{take-append_seam}
use Rattle.whole.specs.Texts.{held, longest_string}
use Rattle.whole.specs.declared.texts.Text.{Text}
use Rattle.whole.specs.declared.errors.Error.TheVariants.{OutOfStringSpace, IllegalFunctionCall}
use Rattle.words.specs.declared.symbols.Scanned.{Scanned}
use Rattle.space.specs.Moves.{copied, moved}
use Rattle.space.proofs.Kept.{Kept, copied_kept, moved_kept}
use Rattle.space.proofs.Frames.{copied_bytes, moved_bytes}
use Rattle.variables.specs.Strings.{Room, Outcome, fault, make, produced, let_all_go}
use Rattle.strings.specs.Functions.{answered, bytes}
use Rattle.variables.specs.bridge.Memory.{Held, Made, answered_as}
use Rattle.strings.specs.bridge.Memory.{MadeOf, Placed, argument_length, first_of, given_length, values_in}
use Rattle.strings.specs.declared.arguments.Given.{Given}
use Rattle.variables.specs.declared.values.Worked.{Worked}
use Rattle.variables.specs.declared.values.Worked.TheVariants as worked
use Rattle.strings.proofs.Givens.{all_gone, bytes_first}
use Rattle.strings.proofs.Parts.{part_is, part_long}

-- ---- a test before the result

module _ {before : List ℕ} {used live : ℕ} {outcome : Room → Outcome} {ahead : Scanned} where
  -- an argument out of its range is refused, and the space is as it was
  pub refused : used ≤ length before → ((room : Room) → outcome room ≡ fault IllegalFunctionCall room)
      → Made before used live outcome ahead (Err IllegalFunctionCall) before
  refused h e =
      record {
        framed = record { long = refl; kept = refl; fits = omega arith; short = omega arith };
        agrees = λ room held. rw (e room) refl;
        goes = tt;
      }

  -- what is made for another outcome is made for one that is the same
  pub made_as : {other : Room → Outcome} {r : Result Worked Error} {after : List ℕ} → ((room : Room) → outcome room ≡ other room)
      → Made before used live other ahead r after → Made before used live outcome ahead r after
  made_as e m = record { framed = m.framed; agrees = λ room held. rw (e room) (m.agrees room held); goes = m.goes }

module _ (before : List ℕ) (used : ℕ) (g : Given) (p : Placed before used g) (ahead : Scanned) where
  -- what is left in a room when the arguments are let go
  pub let_go : (after : List ℕ) (n : ℕ) (room : Room) → length after ≡ length before → room.limit ≡ length before
      → room.live ≡ used + n + given_length g → Held (let_all_go (values_in g (drop used before)) room) after (used + n)
  let_go after n room l e f =
      let d = length-drop used before in
      let k = all_gone (drop used before) room (used + n) g (omega (arith, p.within)) f in
      record { limit = k.limit ∙ e ∙ sym l; lives = k.lives }

  -- ---- a number, or its error

  pub answer_made : (x : Result ℕ Error) → MadeOf (answered x) before used g ahead (answered_as x ahead) before
  answer_made (Ok w) =
      record {
        framed = record { long = refl; kept = refl; fits = omega (arith, p.within); short = omega arith };
        agrees = λ room h. let z : used + 0 ≡ used = omega arith in
            (refl, rw z at (let_go before 0 room refl h.limit (omega (arith, h.lives))));
        goes = refl;
      }
  answer_made (Err e) =
      record {
        framed = record { long = refl; kept = refl; fits = omega (arith, p.within); short = omega arith };
        agrees = λ room h. refl;
        goes = tt;
      }

  -- ---- a text, at most 255 bytes long

  module _ (text : List ℕ) (short : length text ≤ longest_string) where
    pub no_room : length before < used + given_length g + length text
        → MadeOf (produced text) before used g ahead (Err OutOfStringSpace) before
    unfolding produced make
    no_room h =
        record {
          framed = record { long = refl; kept = refl; fits = omega (arith, p.within); short = omega arith };
          agrees = λ room held.
              let l : room.limit < room.live + length text = omega (arith, held.limit, held.lives) in
              rw (le-ltb longest_string (length text) short, lt-ltb room.limit (room.live + length text) l) refl;
          goes = tt;
        }

    -- it stands from `used` on, and nothing below was written
    pub text_made : (after : List ℕ) (n : ℕ) → n ≡ length text → used + given_length g + length text ≤ length before
        → Kept before used n after → take n (drop used after) ≡ text
        → MadeOf (produced text) before used g ahead (Ok (worked.Text n ahead)) after
    unfolding produced make
    text_made after n e h k f =
        record {
          framed = record {
            long = k.long;
            kept = k.below used (omega arith);
            fits = omega (arith, k.long);
            short = omega arith;
          };
          agrees = λ room held.
              let l : room.live + length text ≤ room.limit = omega (arith, held.limit, held.lives) in
              rw (le-ltb longest_string (length text) short, le-ltb room.limit (room.live + length text) l)
              (f, (e, let_go after n _ k.long held.limit (omega (arith, held.lives))));
          goes = refl;
        }

-- ---- a text that was built in a buffer

held-length : (b : Text) (l : List ℕ) → b ≡ held l → b.len ≡ length l
unfolding held
held-length b l e = ap (λ (x : Text). x.len) e

held_bytes : (b : Text) (l : List ℕ) → b ≡ held l → take b.len b.bytes ≡ l
unfolding held
held_bytes b l e = rw e (take-append_seam l (replicate (longest_string - length l) 0))

module _ (before : List ℕ) (used : ℕ) (g : Given) (p : Placed before used g) (ahead : Scanned)
    (b : Text) (short : b.len ≤ longest_string) (l : List ℕ) (e : b ≡ held l) where
  pub no_room_built : length before < used + given_length g + b.len
      → MadeOf (produced l) before used g ahead (Err OutOfStringSpace) before
  no_room_built h = let n = held-length b l e in no_room before used g p ahead l (omega arith) (omega arith)

  pub built_made : {after : List ℕ} → used + given_length g + b.len ≤ length before → after ≡ copied before used (take b.len b.bytes)
      → MadeOf (produced l) before used g ahead (Ok (worked.Text b.len ahead)) after
  built_made {after} h c =
      let n = held-length b l e in
      let d : after ≡ copied before used l = c ∙ ap (copied before used) (held_bytes b l e) in
      let k = copied_kept l d in
      text_made before used g p ahead l (omega arith) after b.len n (omega arith) (rw n k) (rw (n, d) (copied_bytes before used l (omega arith)))

-- ---- a part of the first text

module _ (before : List ℕ) (used : ℕ) (g : Given) (p : Placed before used g) (ahead : Scanned)
    (from most start len : ℕ) (short : most ≤ longest_string) where
  abbrev first : ℕ
  first = argument_length (first_of g)

  module _ (s : start ≡ min from (argument_length (first_of g))) (n : len ≡ min most (argument_length (first_of g) - start)) where
    abbrev text : List ℕ
    text = take most (drop from (bytes (values_in g (drop used before)) 0))

    text_is : take len (drop (used + start) before) ≡ text
    text_is = rw (bytes_first before used g) (part_is before used first from most start len (omega (arith, p.within)) s n)

    text_long : len ≡ length text
    text_long = rw (bytes_first before used g) (sym (part_long before used first from most start len (omega (arith, p.within)) s n))

    pub no_room_part : length before < used + given_length g + len
        → MadeOf (λ vs. produced (take most (drop from (bytes vs 0))) vs) before used g ahead (Err OutOfStringSpace) before
    no_room_part h = no_room before used g p ahead text (omega (arith, text_long)) (omega (arith, text_long))

    pub part_made : {after : List ℕ} → used + given_length g + len ≤ length before → after ≡ moved before (used + start) used len
        → MadeOf (λ vs. produced (take most (drop from (bytes vs 0))) vs) before used g ahead (Ok (worked.Text len ahead)) after
    part_made {after} h m =
        text_made before used g p ahead text (omega (arith, text_long)) after len text_long (omega (arith, text_long)) (moved_kept (used + start) m)
        (rw m (moved_bytes before (used + start) used len (omega (arith, p.within)) (omega arith)) ∙ text_is)
