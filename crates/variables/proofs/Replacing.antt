-- A string in the place of another, in the space where all stand joined.
use mathlib.Core.Path.{◌≡◌, sym, ap, ◌∙◌}
use mathlib.Core.List.{List, ◌++◌}
use Prim.Native.Nat.{ℕ, ◌+◌, ◌-◌, ◌≤◌, ◌<◌, min}
use native.Mathlib.Omega.{arith}
use native.Mathlib.Numerals.{add-one}
use lib.ListN.{length, take, drop, get_or, set, length-drop, length-append}
use lib.Seq.{length-take-le, take-suc, take-suc-set, take-append-add, get_or-drop}
use Rattle.space.specs.Moves.{overlaid, copied, moved}
use Rattle.space.proofs.Frames.{copied_lies, copied-length, moved_lies, moved_length, moved_nowhere}
use Rattle.space.proofs.Overlaid.{overlaid_front, overlaid_before}
use Rattle.variables.specs.bridge.Memory.{bytes_replaced, space_replaced}
use Rattle.variables.specs.Tables.{sum_of}
use Rattle.variables.specs.Variables.{most_variables}
use Rattle.variables.proofs.Lookups.{sum_within}

-- ---- the bytes that are kept while others move

-- one byte more is kept
pub kept_next : (bytes space : List ℕ) (from i : ℕ) → i < length bytes → from + i < length space
    → take i bytes ≡ take i (drop from space)
    → take (i + 1) (set bytes i (get_or space (from + i) 0)) ≡ take (i + 1) (drop from space)
kept_next bytes space from i h k e =
    let l : i < length (drop from space) = simp length-drop (omega arith) in
    rw (add-one i, take-suc-set bytes i (get_or space (from + i) 0) h, take-suc (drop from space) i 0 l, get_or-drop from space i 0, e)

-- as many as were asked for
pub kept_length : (bytes space : List ℕ) (from len : ℕ) → from + len ≤ length space → take len bytes ≡ take len (drop from space)
    → len ≡ length (take len bytes)
kept_length bytes space from len h e =
    let l : len ≤ length (drop from space) = simp length-drop (omega arith) in sym (ap length e ∙ length-take-le len (drop from space) l)

-- ---- the place of the string that goes

-- it ends where all do, or before
pub place_within : (ls : List ℕ) (i start old used : ℕ) → i < most_variables → start ≡ sum_of (take (min i most_variables) ls) → old ≡ get_or ls i 0
    → sum_of ls ≡ used → start + old ≤ used
place_within ls i start old used h s o a =
    let e : min i most_variables ≡ i = omega arith in let w = sum_within ls i in let p : start ≡ sum_of (take i ls) = rw e at s in omega arith

-- the space after it, by its place
pub place_replaced : (ls : List ℕ) (i start old used : ℕ) (space : List ℕ) (count len : ℕ) → i < most_variables → start ≡ sum_of (take (min i most_variables) ls)
    → old ≡ get_or ls i 0 → count ≡ len → bytes_replaced start old used space count ≡ space_replaced ls used i space len
place_replaced ls i start old used space count len h s o c =
    let e : min i most_variables ≡ i = omega arith in let p : start ≡ sum_of (take i ls) = rw e at s in rw (p, o, c)

-- ---- bytes of the same length

pub same_long : (space : List ℕ) (start len used : ℕ) → start + len ≤ used → used + len ≤ length space
    → moved space used start len ≡ bytes_replaced start len used space len
same_long space start len used h k =
    let l : length (take len (drop used space)) ≡ len = length-take-le len (drop used space) (simp length-drop (omega arith)) in
    moved_lies space used start len k (omega arith)
    ∙ sym (copied_lies space start (take len (drop used space)) (omega arith))
    ∙ ap (λ s. copied s start (take len (drop used space))) (sym (moved_nowhere space (start + len) (used - (start + len))))

-- ---- the space after it

module _ (space : List ℕ) (used start old len : ℕ) (h : start + old ≤ used) (k : used + len ≤ length space) where
  -- the new bytes, and those that move
  abbrev bytes : List ℕ
  bytes = take len (drop used space)

  abbrev rest : List ℕ
  rest = take (used - (start + old)) (drop (start + old) space)

  abbrev between : List ℕ
  between = moved space (start + old) (start + len) (used - (start + old))

  pub bytes-length : length bytes ≡ len
  bytes-length = length-take-le len (drop used space) (simp length-drop (omega arith))

  rest-length : length rest ≡ used - (start + old)
  rest-length = length-take-le (used - (start + old)) (drop (start + old) space) (simp length-drop (omega arith))

  -- both moves lay the bytes and the rest over the space
  laid : copied between start bytes ≡ overlaid space start (bytes ++ rest)
  laid =
      let b = bytes-length in
      let l = moved_length space (start + old) (start + len) (used - (start + old)) in
      let m : between ≡ overlaid space (start + length bytes) rest
      = moved_lies space (start + old) (start + len) (used - (start + old)) (omega arith) (omega arith)
      ∙ ap (λ n. overlaid space (start + n) rest) (sym b) in
      copied_lies between start bytes (omega arith) ∙ ap (λ s. overlaid s start bytes) m ∙ overlaid_before space start bytes rest (omega arith)

  laid_front : take (used - old + len) (overlaid space start (bytes ++ rest)) ≡ take start space ++ (bytes ++ rest)
  laid_front =
      let b = bytes-length in let r = rest-length in let a = length-append bytes rest in
      let e : used - old + len ≡ start + length (bytes ++ rest) = omega arith in
      ap (λ n. take n (overlaid space start (bytes ++ rest))) e ∙ overlaid_front space start (bytes ++ rest) (omega arith)

  -- the front of the space with the one string for the other
  other_front : take (used - old + len) (take start space ++ (bytes ++ drop (start + old) space)) ≡ take start space ++ (bytes ++ rest)
  other_front =
      let b = bytes-length in
      let f = length-take-le start space (omega arith) in
      let e : used - old + len ≡ length (take start space) + (length bytes + (used - (start + old))) = omega arith in
      ap (λ n. take n (take start space ++ (bytes ++ drop (start + old) space))) e
      ∙ take-append-add (take start space) (bytes ++ drop (start + old) space) (length bytes + (used - (start + old)))
      ∙ ap (λ r. take start space ++ r) (take-append-add bytes (drop (start + old) space) (used - (start + old)))

  -- what is live of it is that
  pub replaced_front : take (used - old + len) (copied between start bytes)
      ≡ take (used - old + len) (take start space ++ (bytes ++ drop (start + old) space))
  replaced_front = ap (take (used - old + len)) laid ∙ laid_front ∙ sym other_front

  -- and it is as long as it was
  pub replaced_length : length (copied between start bytes) ≡ length space
  replaced_length = copied-length between start bytes ∙ moved_length space (start + old) (start + len) (used - (start + old))
