-- An H stands within the line, so the digits' run begins there; it has its length and its value.
use mathlib.Core.Path.{◌≡◌, ap, ◌∙◌}
use mathlib.Core.Logic.{◌⊎◌, inl, inr, ⊎_elim}
use mathlib.Core.Bool.{false, ◌&&◌, and-false}
use mathlib.Core.List.{List}
use Prim.Native.Nat.{ℕ, ◌+◌, ◌-◌, ◌≤◌, ◌<◌}
use native.Mathlib.Omega.{arith}
use borrow.Author.Tests.{ne_eqb, le-leb, lt-leb}
use lib.Dec.{leb}
use lib.ListN.{length, get_or, take, drop}
use lib.Seq.{get_or-drop, drop-drop}
use Rattle.whole.specs.Bytes.{leading}
use Rattle.words.specs.Classes.{capital_of, is_hex}
use Rattle.words.proofs.Runs.{run_within, run_part, run_again}
use Rattle.scanner.specs.Tokens.{hex_from, hex_of, hex_token}
use Rattle.scanner.proofs.Hexadecimals.{h_in_line}
use Rattle.scanner.proofs.tokens.Start.hex.Goals as goal
use Rattle.scanner.proofs.tokens.Start.hex.Goals.{then-count-eq0-via-then-count-eq0, then-count-eq0-via-else-count-eq0+then-count-gt-MOST_HEX_DIGITS}

-- none, or more than four
not_few : (n : ℕ) → (n ≡ 0) ⊎ (4 < n) → leb 1 n && leb n 4 ≡ false
not_few n = ⊎_elim (λ e. rw e) (λ h. rw (lt-leb n 4 h) (and-false (leb 1 n)))

pub returns-then-capital-ne72 : goal.returns-then-capital-ne72
unfolding hex_token
returns-then-capital-ne72 c = rw (get_or-drop, ← c.byte_at.ensures, ← c.capital.ensures, ne_eqb _ _ c.if-capital-ne72.true) c.unreadable.ensures

pub returns-then-count-eq0 : goal.returns-then-count-eq0
unfolding hex_token
returns-then-count-eq0 c =
    let at : ℕ = c.args.self.at.0 in
    let line : List ℕ = c.args.self.line.now in
    let digits : List ℕ = leading is_hex (drop (at + 2) (line)) in
    let letter : capital_of (get_or line (at + 1) 0) ≡ 72 = rw (← c.byte_at.ensures, ← c.capital.ensures) c.if-capital-ne72.false in
    let token : hex_token (at) (drop (at) (line)) ≡ hex_of digits (at) = rw (get_or-drop, letter, drop-drop) in
    let count : ℕ = c.run_end-next.result.0 - (at + 2) in
    let counted : count ≡ length digits = omega (arith, c.run_end-next.ensures) in
    rw (
      token,
      ← (counted),
      not_few _ ((elim c.then-count-eq0.branch [
        | then-count-eq0-via-then-count-eq0 w ↦ inl w.if-count-eq0.true
        | then-count-eq0-via-else-count-eq0+then-count-gt-MOST_HEX_DIGITS w ↦ inr (w.if-count-gt-MOST_HEX_DIGITS.true)
      ])),
    ) c.unreadable-then-count-eq0.ensures

pub slice_bounds-hex_value-end : goal.slice_bounds-hex_value-end
slice_bounds-hex_value-end c =
    let line : List ℕ = c.args.self.line.now in
    let at : ℕ = c.args.self.at.0 in
    let letter : capital_of (get_or line (at + 1) 0) ≡ 72 = rw (← c.byte_at.ensures, ← c.capital.ensures) c.if-capital-ne72.false in
    let starts : at + 2 ≤ length line = omega (arith, h_in_line line (at + 1) letter) in
    let within : c.run_end-next.result.0 ≤ length (line) = run_within is_hex (line) (at + 2) c.run_end-next.ensures (starts) in
    omega (arith, within)

pub hex_value-value-requires : goal.hex_value-value-requires
hex_value-value-requires c =
    let at : ℕ = c.args.self.at.0 in
    let line : List ℕ = c.args.self.line.now in
    let digits : List ℕ = leading is_hex (drop (at + 2) (line)) in
    let count : ℕ = c.run_end-next.result.0 - (at + 2) in
    let part : take count (drop (at + 2) (line)) ≡ digits = run_part is_hex (line) (at + 2) c.run_end-next.ensures in
    let counted : count ≡ length digits = omega (arith, c.run_end-next.ensures) in
    rw (part) (rw (← (counted)) (c.if-count-gt-MOST_HEX_DIGITS.false), run_again is_hex _)

pub returns : goal.returns
unfolding hex_token
returns c =
    let at : ℕ = c.args.self.at.0 in
    let line : List ℕ = c.args.self.line.now in
    let digits : List ℕ = leading is_hex (drop (at + 2) (line)) in
    let letter : capital_of (get_or line (at + 1) 0) ≡ 72 = rw (← c.byte_at.ensures, ← c.capital.ensures) c.if-capital-ne72.false in
    let token : hex_token (at) (drop (at) (line)) ≡ hex_of digits (at) = rw (get_or-drop, letter, drop-drop) in
    let count : ℕ = c.run_end-next.result.0 - (at + 2) in
    let part : take count (drop (at + 2) (line)) ≡ digits = run_part is_hex (line) (at + 2) c.run_end-next.ensures in
    let counted : count ≡ length digits = omega (arith, c.run_end-next.ensures) in
    let v = c.hex_value-value.ensures ∙ ap (hex_from 0) (part) in
    let e : at + 2 + count ≡ c.run_end-next.result.0 = omega (arith, c.run_end-next.ensures) in
    rw (token, ← v, ← (counted), le-leb 1 (count) (omega arith), le-leb (count) 4 (c.if-count-gt-MOST_HEX_DIGITS.false), e) c.up_to.ensures
