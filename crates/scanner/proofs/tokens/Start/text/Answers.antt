-- The text is closed where the run between the quotes ends before the line does.
use mathlib.Core.Path.{◌≡◌}
use mathlib.Core.Bool.{and-false}
use mathlib.Core.List.{List}
use Prim.Native.Nat.{ℕ, ◌+◌, ◌-◌, ◌≤◌}
use native.Mathlib.Omega.{arith}
use borrow.Author.Tests.{lt-ltb, le-ltb, le-leb, lt-leb}
use lib.ListN.{length, drop, length-drop}
use lib.Seq.{drop-drop}
use Rattle.whole.specs.Bytes.{leading}
use Rattle.words.specs.Places.{furthest}
use Rattle.scanner.specs.Runs.{passes}
use Rattle.scanner.specs.Tokens.{text_token}
use Rattle.scanner.specs.declared.runs.Run.TheVariants.{Unquoted}
use Rattle.scanner.proofs.tokens.Start.text.Goals as goal
use Rattle.scanner.proofs.tokens.Start.text.Goals.{then-self-close-via-then-self-close, then-self-close-via-else-self-close+then-close-gt-FURTHEST}

pub returns-then-self-close : goal.returns-then-self-close
unfolding text_token
returns-then-self-close c =
    let at : ℕ = c.args.self.at.0 in
    let len : ℕ = c.run_end-close.result.0 - (at + 1) in
    let close : at + 1 + len ≡ c.run_end-close.result.0 = omega (arith, c.run_end-close.ensures) in
    let line : List ℕ = c.args.self.line.now in
    let inner : len ≡ length (leading (passes Unquoted) (drop (at + 1) line)) = omega (arith, c.run_end-close.ensures) in
    (elim c.then-self-close.branch [
      | then-self-close-via-then-self-close w ↦ rw (drop-drop, ← (inner), le-ltb (1 + len) (length (drop (at) (line))) (omega (arith, close, w.if-self-close.true, length-drop (at) (line))))
          c.unreadable.ensures
      | then-self-close-via-else-self-close+then-close-gt-FURTHEST w ↦ let f = w.if-close-gt-FURTHEST.true in
          rw (drop-drop, ← (inner), close, lt-leb c.run_end-close.result.0 furthest f, and-false) c.unreadable.ensures
    ])

pub returns : goal.returns
unfolding text_token
returns c =
    let near : c.run_end-close.result.0 ≤ furthest = c.if-close-gt-FURTHEST.false in
    let at : ℕ = c.args.self.at.0 in
    let len : ℕ = c.run_end-close.result.0 - (at + 1) in
    let close : at + 1 + len ≡ c.run_end-close.result.0 = omega (arith, c.run_end-close.ensures) in
    let line : List ℕ = c.args.self.line.now in
    let inner : len ≡ length (leading (passes Unquoted) (drop (at + 1) line)) = omega (arith, c.run_end-close.ensures) in
    rw (
      drop-drop,
      ← (inner),
      lt-ltb (1 + len) (length (drop (at) (line))) (omega (arith, close, c.if-self-close.false, length-drop (at) (line))),
      close,
      le-leb c.run_end-close.result.0 furthest (near),
    ) c.up_to.ensures
