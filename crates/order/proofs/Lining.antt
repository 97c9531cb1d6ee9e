-- A line that passes, and the step from one of its statements to the next.
use Rattle.std.specs.Prelude.{Option, Result, is_ok}
use Rattle.words.specs.declared.places.Place.{Place}
use mathlib.Core.Path.{◌≡◌, refl, sym}
use mathlib.Core.Bool.{Bool, true, false, not, false≢true}
use mathlib.Core.List.{List, [], ◌∷◌}
use Prim.Native.Nat.{ℕ}
use Rattle.grammar.specs.Trees.{Part}
use Rattle.words.specs.Places.{place}
use Rattle.scanner.specs.Tokens.{token_at}
use Rattle.statements.specs.Statements.{lead_of, begun_by, begun_at}
use Rattle.statements.specs.declared.leading.Lead.{Lead}
use Rattle.statements.specs.bridge.Answers.{begun_answer}
use Rattle.statements.specs.declared.reading.StatementRead.{StatementRead}
use Rattle.reader.specs.Lines.{Judgement, unreadable, too_deep, holds, judgement, judged_as}
use Rattle.reader.specs.bridge.Walking.{follow_of, start_of, Onto, StartsAs, Further}
use Rattle.reader.specs.declared.lines.LineFault.{LineFault}
use Rattle.reader.proofs.Visits.{visit, further}
use Rattle.machine.specs.Order.{parts_held}
use Rattle.order.specs.bridge.Walking.{Passes, PassesIf}

pub steps : (s : List ℕ) (p : ℕ) {read : Option StatementRead} {next : Option Place} → read ≡ begun_answer (begun_at s true p) → next ≡ start_of (follow_of read)
    → Further s p next × ((x : Part) (xs : List Part) → Onto s p (x ∷ xs) → StartsAs s next xs)
steps s p e i = (
  further s p e i,
  λ x xs o. let v = visit s p o e i in let l : v.left ≡ xs = cc v.all in rw l at v.on,
)

-- the statement that is led as the one at a place is the one there
pub led_there : (s : List ℕ) (p : ℕ) {l : Option Lead} → l ≡ lead_of s true (token_at s (place p)) → begun_by s l ≡ begun_at s true p
unfolding begun_at
led_there s p e = rw e

-- ---- a line that is judged

pub pass_judged : (s : List ℕ) (g : Judgement) → judgement s ≡ g → {j : Result Bool LineFault} → j ≡ judged_as g → PassesIf s (is_ok j)
pass_judged s unreadable q e = rw (e, q)
pass_judged s too_deep q e = rw (e, q)
pass_judged s (holds part) q e = rw e (record { part = part; is = q })

pub passes_told : (s : List ℕ) (b : Bool) {j : Result Bool LineFault} → j ≡ judged_as (judgement s) → is_ok j ≡ b → PassesIf s b
passes_told s b e i = rw i at (pass_judged s (judgement s) refl e)

pub fails_if : (s : List ℕ) (b : Bool) → not b ≡ true → PassesIf s b → parts_held (judgement s) ≡ []
fails_if s true e k = absurd (false≢true e)
fails_if s false e k = k

pub passes_if : (s : List ℕ) (b : Bool) → not b ≡ false → PassesIf s b → Passes s
passes_if s true e k = k
passes_if s false e k = absurd (false≢true (sym e))
