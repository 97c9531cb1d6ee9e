-- Digits are stored from the last on: those left, laid over the line so far, make the line (`hex_turn`).
use mathlib.Core.Path.{◌≡◌, sym, ap, ◌∙◌}
use Prim.Native.Nat.{◌+◌, ◌-◌, ◌/◌}
use native.Mathlib.Omega.{arith}
use lib.ListN.{set, length-set}
use Rattle.space.specs.Moves.{overlaid}
use Rattle.space.proofs.Overlaid.{overlaid_none}
use Rattle.readings.specs.Lines.{hex_digits}
use Rattle.readings.proofs.Filled.{hex_none, hex_turn}
use Rattle.readings.proofs.lines.with_digits.Goals as goal

pub loop-i-preserved : goal.loop-i-preserved
loop-i-preserved c = let one_less : c.loop-i.i - 1 + 1 ≡ c.loop-i.i = omega arith in (
  omega arith,
  length-set c.loop-i.bytes (7 + (c.loop-i.i - 1)) c.hex_digit.result ∙ c.loop-i.invariant.1,
  ap (λ d. overlaid (set c.loop-i.bytes (7 + (c.loop-i.i - 1)) d) 7 (hex_digits (c.loop-i.i - 1) (c.loop-i.left / 16))) c.hex_digit.ensures
      ∙ hex_turn c.loop-i.bytes 7 (c.loop-i.i - 1) c.loop-i.left (omega arith)
      ∙ ap (λ n. overlaid c.loop-i.bytes 7 (hex_digits n c.loop-i.left)) one_less
      ∙ c.loop-i.invariant.2,
)

pub returns : goal.returns
returns c = let none : c.loop-i.i ≡ 0 = omega arith in
    sym (overlaid_none c.loop-i.bytes 7)
    ∙ ap (overlaid c.loop-i.bytes 7) (sym (hex_none c.loop-i.left) ∙ ap (λ n. hex_digits n c.loop-i.left) (sym none))
    ∙ c.loop-i.invariant.2
