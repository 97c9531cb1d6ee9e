-- Bridge: the walk over a line, statement by statement in text order, beside the parts that the line reads as. Contracts between crates
-- cite it; no demand and no promise of `run`, `check_recipe` or `ask` rests on it.
use Rattle.std.specs.Prelude.{◌≡◌, Bool, true, false, cond, ◌&&◌, List, [], ◌++◌, ℕ, zero, suc, ◌+◌, ◌≤◌, max, ltb, None, Option, Some, Result, Ok, Err}
use Rattle.words.specs.Places.{place}
use Rattle.words.specs.declared.places.Place.{Place}
use Rattle.words.specs.declared.symbols.Scanned.{Scanned}
use Rattle.words.specs.declared.symbols.Sign.TheVariants.{Colon}
use Rattle.words.specs.declared.symbols.Word.TheVariants.{Else}
use Rattle.scanner.specs.Tokens.{token_at}
use Rattle.grammar.specs.Tests.{choose, is_symbol, is_keyword, ends_line}
use Rattle.grammar.specs.Trees.{Part}
use Rattle.expressions.specs.Types.{deepest_nesting}
use Rattle.skimming.specs.bridge.Remaining.{weight}
use Rattle.statements.specs.Parts.{parts_of}
use Rattle.statements.specs.Statements.{PartReading, bad_part, good_part, part_of}
use Rattle.statements.specs.bridge.Answers.{own_of}
use Rattle.statements.specs.declared.reading.Own.{Own}
use Rattle.statements.specs.declared.reading.StatementRead.{StatementRead}
use Rattle.statements.specs.declared.reading.StatementRead.TheVariants as statement
use Rattle.whole.specs.declared.errors.Error.{Error}
use Rattle.whole.specs.declared.errors.Error.TheVariants.{Syntax, FormulaTooComplex}
use Rattle.reader.specs.declared.lines.LineFault.{LineFault}
use Rattle.reader.specs.declared.lines.LineFault.TheVariants.{Unreadable, TooDeep}
use Rattle.reader.specs.declared.lines.Tally.{Tally}
use Rattle.reader.specs.declared.walking.Follow.{Follow}
use Rattle.reader.specs.declared.walking.Follow.TheVariants as follow
use Rattle.reader.specs.declared.walking.Onward.{Onward}
use Rattle.reader.specs.declared.walking.Onward.TheVariants as onward

-- ---- what follows a statement

-- by the token after one that is done
abbrev pub follows_done : Scanned → Option Follow
follows_done t =
    cond (is_symbol Colon t.token) (Some (follow.Statement t.next))
    (cond (is_keyword Else t.token) (Some (follow.Else t.next)) (cond (ends_line t.token) (Some follow.End) None))

abbrev pub follow_of : Option StatementRead → Option Follow
follow_of None = None
follow_of (Some (statement.Done own)) = follows_done own.ahead
follow_of (Some (statement.Choice own)) = Some (follow.Part own.ahead.next)

-- where the next statement begins, if there is one
abbrev pub start_of : Option Follow → Option Place
start_of (Some (follow.Statement q)) = Some q
start_of (Some (follow.Part q)) = Some q
start_of (Some (follow.Else q)) = Some q
start_of (Some follow.End) = None
start_of None = None

-- the walk after it, while so many IFs wait for an ELSE: a part waits for one more, an ELSE is the nearest waiting one's
abbrev pub onward_of : ℕ → Option Follow → Option Onward
onward_of k (Some (follow.Statement q)) = Some (onward.Statement (record { at = q; first = false; waiting = k }))
onward_of k (Some (follow.Part q)) = Some (onward.Statement (record { at = q; first = true; waiting = suc k }))
onward_of zero (Some (follow.Else q)) = Some (onward.Else q)
onward_of (suc k) (Some (follow.Else q)) = Some (onward.Statement (record { at = q; first = true; waiting = k }))
onward_of k (Some follow.End) = Some onward.End
onward_of k None = None

-- ---- what a walk comes to

-- the line is over, or an ELSE that no IF waits for leads to a place
pub data Ending : Type 0 where
  over : Ending
  stray : Place → Ending

-- it is stuck, where the line does not read on; or it visits the parts that the statements begin, and ends
pub data Visited : Type 0 where
  stuck : Visited
  visited : List Part → Ending → Visited

abbrev pub ahead : List Part → Visited → Visited
ahead xs stuck = stuck
ahead xs (visited ys e) = visited (xs ++ ys) e

abbrev pub with_part : PartReading → (Scanned → Visited) → Visited
with_part bad_part go = stuck
with_part (good_part p t) go = ahead (parts_of p) (go t)

-- at the token that ends a part, where no IF waits or no ELSE stands
abbrev pub end_at : Scanned → Visited
end_at t =
    choose (is_keyword Else t.token) (λ _. visited [] (stray t.next)) λ _.
    choose (ends_line t.token) (λ _. visited [] over) (λ _. stuck)

-- from the token that ends a part on, while so many IFs wait
unfoldable pub rest_at : List ℕ → ℕ → Scanned → Visited
rest_at s zero t = end_at t
rest_at s (suc k) t = choose (is_keyword Else t.token) (λ _. with_part (part_of s true t.next.0) (rest_at s k)) (λ _. end_at t)

-- from a part on, and from a place on
abbrev pub resume : List ℕ → ℕ → PartReading → Visited
resume s k r = with_part r (rest_at s k)

abbrev pub walk_from : List ℕ → Bool → ℕ → ℕ → Visited
walk_from s first k p = resume s k (part_of s first p)

abbrev pub walk_on : List ℕ → Option Onward → Visited
walk_on s (Some (onward.Statement w)) = walk_from s w.first w.waiting w.at.0
walk_on s (Some (onward.Else q)) = visited [] (stray q)
walk_on s (Some onward.End) = visited [] over
walk_on s None = stuck

-- ---- in a line that reads

-- from a place on the statements of the line begin these parts
pub record Onto (s : List ℕ) (p : ℕ) (xs : List Part) : Type 0 where
  pub waiting : ℕ
  pub visits : walk_from s true waiting p ≡ visited xs over

abbrev pub StartsAs : List ℕ → Option Place → List Part → Type 0
StartsAs s (Some q) xs = Onto s q.0 xs
StartsAs s None xs = xs ≡ []

-- less is left to read
abbrev pub Further : List ℕ → ℕ → Option Place → Type 0
Further s p (Some q) = weight s (token_at s (place q.0)) + 4 ≤ weight s (token_at s (place p))
Further s p None = Unit {0}

-- ---- judging

-- the error that a line without a part is refused for
abbrev pub error_of : LineFault → Error
error_of Unreadable = Syntax
error_of TooDeep = FormulaTooComplex

abbrev pub verdict_of : Tally → Result Bool LineFault
verdict_of t = cond (ltb deepest_nesting t.deepest) (Err TooDeep) (Ok t.typed)

-- one statement more
abbrev pub with_own : Tally → Own → Tally
with_own t own = record { deepest = max t.deepest own.deepest; typed = t.typed && own.typed }

abbrev pub tallied_of : Tally → Option StatementRead → Tally
tallied_of t None = t
tallied_of t (Some read) = with_own t (own_of read)
