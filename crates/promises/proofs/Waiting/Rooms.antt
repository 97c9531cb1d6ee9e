-- What is made and let go: a result adds its own string to what was there before its operands, and nothing else stays.
use Rattle.std.specs.Prelude.{Err, Ok, Result, ℕ}
use Rattle.whole.specs.declared.errors.Error.{Error}
use mathlib.Core.Path.{◌≡◌, refl}
use mathlib.Core.Bool.{Bool, true, false, ◌&&◌}
use mathlib.Core.List.{List, [], ◌∷◌}
use Prim.Native.Nat.{ℕ, suc, ◌+◌, ◌-◌, ◌≤◌}
use native.Mathlib.Omega.{arith}
use lib.Dec.{leb, ltb}
use lib.IntN.{pos}
use lib.ListN.{length, take, drop, get_or, replicate}
use Rattle.whole.specs.Digits.{val_of}
use Rattle.whole.specs.Texts.{signed_numeral, hexadecimal, longest_string}
use Rattle.whole.specs.Whole.{fit, magnitude, signum}
use Rattle.whole.specs.Bytes.{blank}
use Rattle.words.specs.declared.symbols.Function.{Function}
use Rattle.words.specs.declared.symbols.Function.TheVariants.{Len, Asc, Chr, Left, Right, Mid, Space, String, Instr, Str, Hex, Val, Abs, Sgn, Fre}
use Rattle.words.proofs.Choices.{by_test}
use Rattle.variables.specs.Strings.{Value, whole, text, Room, Outcome, value, fault, make, let_go, let_all_go, produced}
use Rattle.strings.specs.Functions.{argument, word, bytes, answered, within, ranged, place_of, fill_right, fill_byte, mid_length, instr_start, instr_texts, called}
use Rattle.promises.specs.Unfinished.{bytes_held, strings_held, all_bytes, all_strings, Grown}

-- ---- letting go

-- what some values added to a room is gone when they are let go
pub let_go_lem : (vs : List Value) {before after : Room} {b s : ℕ} → Grown before after (b + all_bytes vs) (s + all_strings vs)
    → Grown before (let_all_go vs after) b s
unfolding let_all_go let_go all_bytes all_strings
let_go_lem [] g = record { limit = g.limit; live = omega arith; unfinished = omega arith }
let_go_lem (whole w ∷ vs) {before} {after} {b} {s} g =
    let_go_lem vs {before = before} {after = after} {b = b} {s = s} (record { limit = g.limit; live = omega arith; unfinished = omega arith })
let_go_lem (text t ∷ vs) {before} {after} {b} {s} g =
    let_go_lem vs {before = before} {after = let_go (text t) after} {b = b} {s = s}
    (record { limit = g.limit; live = omega arith; unfinished = omega arith })

pub let_go_highest : (vs : List Value) (room : Room) → (let_all_go vs room).highest ≡ room.highest
unfolding let_all_go let_go
let_go_highest [] room = refl
let_go_highest (whole w ∷ vs) room = let_go_highest vs room
let_go_highest (text t ∷ vs) room = let_go_highest vs (let_go (text t) room)

-- ---- with never more than `top` strings at once

module _ (top : ℕ) where
  -- so many bytes and strings more
  pub record Kept (before after : Room) (b s : ℕ) : Type 0 where
    pub grown : Grown before after b s
    pub low : after.highest ≤ top

  -- a value was worked out, or a fault was met
  abbrev pub Good : Room → Outcome → Type 0
  Good before (value v after) = Kept before after (bytes_held v) (strings_held v)
  Good before (fault e after) = after.highest ≤ top

  pub make_good : (b : List ℕ) (room : Room) → room.highest ≤ top → room.unfinished + 1 ≤ top → Good room (make b room)
  unfolding make
  make_good b room h u =
      by_test (ltb room.limit (room.live + length b))
      (λ e. rw e h)
      (λ e. rw e (record { grown = record { limit = refl; live = refl; unfinished = omega arith }; low = omega arith }))

  pub let_go_kept : (vs : List Value) {before after : Room} {b s : ℕ} → Kept before after (b + all_bytes vs) (s + all_strings vs)
      → Kept before (let_all_go vs after) b s
  let_go_kept vs {after = after} k = record { grown = let_go_lem vs k.grown; low = rw let_go_highest k.low }

  -- operands were worked out; now a result is made, and they are let go
  module _ (vs : List Value) {before after : Room} (k : Kept before after (all_bytes vs) (all_strings vs)) where
    pub answered_good : (x : Result ℕ Error) → Good before (answered x vs after)
    answered_good (Ok w) =
        let g = k.grown in
        let_go_kept vs (record { grown = record { limit = g.limit; live = omega arith; unfinished = omega arith }; low = k.low })
    answered_good (Err e) = k.low

    ranged_good : (t : Bool) (x : Outcome) → Good before x → Good before (ranged t after x)
    ranged_good true x h = h
    ranged_good false x h = k.low

    module _ (one : after.unfinished + 1 ≤ top) where
      pub produced_good : (b : List ℕ) → Good before (produced b vs after)
      unfolding produced make
      produced_good b =
          let g = k.grown in
          by_test (ltb longest_string (length b)) (λ e. rw e k.low) λ e. rw e
          (by_test (ltb after.limit (after.live + length b)) (λ f. rw f k.low) λ f. rw f
          (let_go_kept vs
          (record { grown = record { limit = g.limit; live = omega arith; unfinished = omega arith }; low = omega (arith, k.low) })))

      pub called_good : (f : Function) → Good before (called f vs after)
      called_good Len = answered_good (Ok (length (bytes vs 0)))
      called_good Asc = ranged_good (leb 1 (length (bytes vs 0))) _ (answered_good (Ok (get_or (bytes vs 0) 0 0)))
      called_good Chr = ranged_good (within 0 (word vs 0)) _ (produced_good (word vs 0 ∷ []))
      called_good Left = ranged_good (within 0 (word vs 1)) _ (produced_good (take (word vs 1) (bytes vs 0)))
      called_good Right =
          ranged_good (within 0 (word vs 1)) _ (produced_good (drop (length (bytes vs 0) - word vs 1) (bytes vs 0)))
      called_good Mid =
          ranged_good (within 1 (word vs 1) && within 0 (mid_length vs)) _
          (produced_good (take (mid_length vs) (drop (word vs 1 - 1) (bytes vs 0))))
      called_good Space = ranged_good (within 0 (word vs 0)) _ (produced_good (replicate (word vs 0) blank))
      called_good String =
          ranged_good (within 0 (word vs 0) && fill_right (argument vs 1)) _
          (produced_good (replicate (word vs 0) (fill_byte (argument vs 1))))
      called_good Instr =
          ranged_good (within 1 (instr_start vs)) _
          (answered_good (Ok (place_of (instr_start vs) (bytes vs (instr_texts vs)) (bytes vs (suc (instr_texts vs))))))
      called_good Str = produced_good (signed_numeral (word vs 0))
      called_good Hex = produced_good (hexadecimal (word vs 0))
      called_good Val = answered_good (val_of (bytes vs 0))
      called_good Abs = answered_good (magnitude (word vs 0))
      called_good Sgn = answered_good (Ok (signum (word vs 0)))
      called_good Fre = answered_good (fit (pos (after.limit - (let_all_go vs after).live)))
