use mathlib.Core.Path.{◌≡◌}
use Prim.Native.Nat.{◌^◌, ◌<◌}
use lib.ListN.{drop}
use Rattle.scanner.specs.Tokens.{hex_from}
use Rattle.scanner.proofs.tokens.hex_value.Given as goal

abbrev pub invariant-loop-digit : goal.invariant-loop-digit
invariant-loop-digit l = (l.value < 16 ^ l.digit-index) × (hex_from l.value (drop l.digit-index l.digits) ≡ hex_from 0 l.digits)
