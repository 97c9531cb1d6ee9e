-- Bridge: how many parentheses are open while a formula is skimmed, and that the marks have room for all that a line can open.
-- No demand and no promise of run, check_recipe or ask rests on it.
use Rattle.std.specs.Prelude.{List, [], ◌∷◌, ℕ, zero, suc, ◌≤◌, length, drop}
use Rattle.words.specs.Places.{longest_line}
use Rattle.words.specs.declared.places.Place.{Place}
use Rattle.words.specs.declared.symbols.Scanned.{Scanned}
use Rattle.scanner.specs.Tokens.{token_at}
use Rattle.skimming.specs.bridge.Steps.{step_of}
use Rattle.skimming.specs.declared.stepping.Phase.{Phase}
use Rattle.skimming.specs.declared.stepping.Phase.TheVariants as phase
use Rattle.skimming.specs.declared.stepping.Step.{Step}
use Rattle.skimming.specs.declared.stepping.Step.TheVariants.{Refused, Ends, Wants, Has, Opens, Renews, Closes}

-- where the reader stands: a mark for each parenthesis that is open, the one opened last in front, and the next token; or it is over
pub data Standing : Type 0 where
  over : Standing
  at : Phase → List ℕ → Scanned → Standing

abbrev pub moved : List ℕ → Step → Standing
moved marks Refused = over
moved marks Ends = over
moved marks (Wants t level) = at (phase.Wants level) marks t
moved marks (Has t) = at phase.Has marks t
moved marks (Opens t mark) = at (phase.Wants 0) (mark ∷ marks) t
moved marks (Renews t mark) = at (phase.Wants 0) (mark ∷ drop 1 marks) t
moved marks (Closes t) = at phase.Has (drop 1 marks) t

abbrev pub last_mark : List ℕ → ℕ
last_mark [] = 0
last_mark (mark ∷ marks) = mark

-- one token further
abbrev pub turned : List ℕ → Standing → Standing
turned line over = over
turned line (at p marks t) = moved marks (step_of line p (last_mark marks) t)

-- so many tokens after the one that a formula begins with
unfoldable pub stands_after : List ℕ → Scanned → ℕ → Standing
stands_after line first zero = at (phase.Wants 0) [] first
stands_after line first (suc n) = turned line (stands_after line first n)

abbrev pub open_in : Standing → ℕ
open_in over = 0
open_in (at p marks t) = length marks

-- on a line of at most 255 bytes, from any of its tokens on and however far, no more than the 255 that there are marks for are open
abbrev pub NeverFull : Type 0
NeverFull =
    (line : List ℕ) (from : Place) (n : ℕ) → length line ≤ longest_line → open_in (stands_after line (token_at line from) n) ≤ longest_line
