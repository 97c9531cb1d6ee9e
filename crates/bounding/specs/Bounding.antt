-- How long a recipe can take. A recipe is bounded whose every named jump goes to a higher line number than its own, and that has no FOR,
-- NEXT, GOSUB, RETURN, WHILE or WEND. Its bound is the number of statements in the text, an implied GOTO counted as one. Lines that don't
-- read count none, and their words are not looked at. A text that doesn't load is refused as in loading.
use Rattle.loader.specs.declared.refusals.RefusedAt.{RefusedAt}
use Rattle.std.specs.Prelude.{Bool, true, false, cond, ◌&&◌, List, [], ◌∷◌, ℕ, ltb, length, Err, Ok, Result, Option, Some, None}
use Rattle.whole.specs.Digits.{leading_value}
use Rattle.loader.specs.Lines.{Line, lines_of}
use Rattle.loader.specs.Loading.{load_of}
use Rattle.loader.specs.Refusals.{refusal_number}
use Rattle.grammar.specs.Trees.{Statement, empty, assign, print, if_then, if_else, goto, gosub, return, for, next, next_of, while, wend, line_input, data_of, read, restore, restore_to, end, stop, remark}
use Rattle.statements.specs.Parts.{head_of}
use Rattle.machine.specs.Order.{Stand, stands}

-- a statement of the line with the number n jumps on: it is no FOR, NEXT, GOSUB, RETURN, WHILE or WEND, and a line that it jumps to is higher; RESTORE is no jump.
-- THEN n, ELSE n and IF .. GOTO n hold the statement GOTO n; that of an IF itself names none
abbrev pub jumps_on : ℕ → Statement → Bool
jumps_on n empty = true
jumps_on n (assign v f) = true
jumps_on n (print is) = true
jumps_on n (if_then c p) = true
jumps_on n (if_else c p q) = true
jumps_on n (goto l) = ltb n l.0
jumps_on n (gosub l) = false
jumps_on n return = false
jumps_on n (for v from to by) = false
jumps_on n next = false
jumps_on n (next_of v) = false
jumps_on n (while c) = false
jumps_on n wend = false
jumps_on n (line_input t v) = true
jumps_on n (data_of l) = true
jumps_on n (read vs) = true
jumps_on n restore = true
jumps_on n (restore_to l) = true
jumps_on n end = true
jumps_on n stop = true
jumps_on n remark = true

-- the number of the first of some lines
abbrev pub own_number : List Line → ℕ
own_number [] = 0
own_number (l ∷ ls) = leading_value l.bytes

abbrev pub stand_jumps_on : Stand → Bool
stand_jumps_on s = jumps_on (own_number s.lines) (head_of s.part)

-- each of some statements jumps on
unfoldable pub all_jump_on : List Stand → Bool
all_jump_on [] = true
all_jump_on (s ∷ ss) = stand_jumps_on s && all_jump_on ss

-- `stands` has the statements of all lines that read, branches counted
abbrev pub is_bounded : List ℕ → Bool
is_bounded text = all_jump_on (stands (lines_of text))

abbrev pub statements_in : List ℕ → ℕ
statements_in text = length (stands (lines_of text))

abbrev pub if_loaded : Result (Unit {0}) RefusedAt → (Unit {0} → Result (Option ℕ) RefusedAt) → Result (Option ℕ) RefusedAt
if_loaded (Ok _) bound = bound tt
if_loaded (Err e) bound = Err e

unfoldable pub bound_of : List ℕ → Result (Option ℕ) RefusedAt
bound_of text = if_loaded (load_of text) (λ _. cond (is_bounded text) (Ok (Some (statements_in text))) (Ok None))

-- ---- what is answered: number and place of a refusal; what does not apply is 0

abbrev pub bound_number : Result (Option ℕ) RefusedAt → ℕ
bound_number (Ok b) = 0
bound_number (Err e) = refusal_number e.refusal

abbrev pub bound_place : Result (Option ℕ) RefusedAt → ℕ
bound_place (Ok b) = 0
bound_place (Err e) = e.place.0
