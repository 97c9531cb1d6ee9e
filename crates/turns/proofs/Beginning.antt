-- An assignment that reads has what it needs; a line number or none.
use Rattle.std.specs.Prelude.{None, Some}
use mathlib.Core.Path.{◌≡◌, refl}
use mathlib.Core.List.{List}
use Prim.Native.Nat.{ℕ, ◌≤◌}
use lib.ListN.{length}
use Rattle.words.specs.declared.places.LineNumber.{LineNumber}
use Rattle.words.specs.declared.symbols.Scanned.{Scanned}
use Rattle.words.specs.declared.symbols.Token.{Token}
use Rattle.words.specs.Places.{longest_line}
use Rattle.grammar.specs.Tests.{on_line}
use Rattle.grammar.specs.Trees.{Variable}
use Rattle.grammar.specs.Formulas.{after}
use Rattle.grammar.specs.bridge.Answers.{line_of}
use native.Mathlib.Omega.{arith}
use Rattle.statements.specs.Parts.{deepest}
use Rattle.statements.specs.Statements.{Begun, assign_at}
use Rattle.statements.proofs.Findings.{by_line}
use Rattle.statements.proofs.Ways.{by_assign}
use Rattle.turns.specs.bridge.Turns.{Formed}
use Rattle.turns.specs.bridge.Doing.{Begins}

module _ (s : List ℕ) (short : length s ≤ longest_line) where
  pub assign_formed : (v : Variable) (t : Scanned) → Begins (assign_at s v t) → Formed s (after s t)
  unfolding deepest
  assign_formed v t =
      by_assign (λ b. Begins b → Formed s (after s t)) (λ x. absurd x) s t v
      (λ f u e h. record { short = short; scans = record { from = t.next; is = refl }; reads = record { of = f; next = u; is = e; shallow = omega (arith, h.1) } })

pub on_line_lem : (t : Token) (go : LineNumber → Begun) (other : Begun) {l : LineNumber} → line_of t ≡ Some l → on_line t go other ≡ go l
on_line_lem t go other {l} e =
    by_line (λ b. b ≡ go l) t go other (λ m f a. let same : m ≡ l = cc in rw same) (λ f. cc)

pub no_line : (t : Token) (go : LineNumber → Begun) (other : Begun) → line_of t ≡ None → on_line t go other ≡ other
no_line t go other e = by_line (λ b. b ≡ other) t go other (λ m f a. cc) (λ f. refl)
