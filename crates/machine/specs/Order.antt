-- Text order: the statements of a text one after the other as they stand in it, branches of IF counted. Lines that don't read or nest
-- too deep hold none. Each stands with its line and the part that it begins, so with its place and with where a run goes on after it.
use Rattle.std.specs.Prelude.{Bool, true, false, cond, List, [], ◌∷◌, ◌++◌, ℕ, zero, suc, ltb, eqb}
use Rattle.words.specs.declared.symbols.Word.{Word}
use Rattle.words.specs.declared.symbols.Word.TheVariants as word
use Rattle.loader.specs.Lines.{Line, after_number, next_line}
use Rattle.grammar.specs.Tests.{word_rank}
use Rattle.grammar.specs.Trees.{Statement, empty, assign, print, if_then, if_else, goto, gosub, return, for, next, next_of, while, wend, line_input, data_of, read, restore, restore_to, end, stop, remark, Part}
use Rattle.statements.specs.Parts.{head_of, place_of, tail_of, parts_of}
use Rattle.reader.specs.Lines.{Judgement, unreadable, too_deep, holds, judgement}
use Rattle.machine.specs.Machine.{Position}

-- ---- the statements of a line

-- one in front of others, if it is kept
abbrev pub kept_if : {A : Type 0} → Bool → A → List A → List A
kept_if true x xs = x ∷ xs
kept_if false x xs = xs

-- those that begin after a place
unfoldable pub beyond : ℕ → List Part → List Part
beyond at [] = []
beyond at (p ∷ ps) = kept_if (ltb at (place_of p)) p (beyond at ps)

-- ---- the statements of a text

-- a statement of a text: the lines from its line on, and the part that it begins
pub record Stand : Type 0 where
  pub lines : List Line
  pub part : Part

-- some parts of the first of some lines
unfoldable pub placed : List Line → List Part → List Stand
placed lines [] = []
placed lines (p ∷ ps) = record { lines = lines; part = p } ∷ placed lines ps

-- none of a line that doesn't read or nests too deep
abbrev pub parts_held : Judgement → List Part
parts_held unreadable = []
parts_held too_deep = []
parts_held (holds p) = parts_of p

-- the parts that the statements of the first of some lines begin
abbrev pub parts_in : List Line → List Part
parts_in [] = []
parts_in (l ∷ ls) = parts_held (judgement (after_number l))

-- the statements of the first of some lines
abbrev pub stands_in : List Line → List Stand
stands_in lines = placed lines (parts_in lines)

-- those of all of them
unfoldable pub stands : List Line → List Stand
stands [] = []
stands (l ∷ ls) = stands_in (l ∷ ls) ++ stands ls

-- those that stand after a place of the first line: of that line those that begin after it, and those of the lines after it
unfoldable pub later : ℕ → List Line → List Stand
later at lines = placed lines (beyond at (parts_in lines)) ++ stands (next_line lines)

-- where a run goes on after a statement
abbrev pub past : Stand → Position
past s = record { lines = s.lines; rest = tail_of s.part }

-- ---- pairs by nesting

-- what a statement does to a pairing
pub data Bracket : Type 0 where
  opens : Bracket
  closes : Bracket
  neither : Bracket

pub data Partner : Type 0 where
  none : Partner
  some : Stand → Partner

-- one that opens waits for one more that closes; the one that closes while none waits is the partner
abbrev pub paired : Bracket → ℕ → Stand → (ℕ → Partner) → Partner
paired opens k s go = go (suc k)
paired closes zero s go = some s
paired closes (suc k) s go = go k
paired neither k s go = go k

-- the first of some statements that closes, once those that open before it have been paired; k wait already
unfoldable pub partner : (Statement → Bracket) → ℕ → List Stand → Partner
partner test k [] = none
partner test k (s ∷ ss) = paired (test (head_of s.part)) k s (λ n. partner test n ss)

-- the word that leads a statement, given or understood; ELSE stands for that of an empty one
abbrev pub word_of : Statement → Word
word_of empty = word.Else
word_of (assign v f) = word.Let
word_of (print is) = word.Print
word_of (if_then c p) = word.If
word_of (if_else c p q) = word.If
word_of (goto l) = word.Goto
word_of (gosub l) = word.Gosub
word_of return = word.Return
word_of (for v from to by) = word.For
word_of next = word.Next
word_of (next_of v) = word.Next
word_of (while c) = word.While
word_of wend = word.Wend
word_of (line_input t v) = word.Line
word_of (data_of l) = word.Data
word_of (read vs) = word.Read
word_of restore = word.Restore
word_of (restore_to l) = word.Restore
word_of end = word.End
word_of stop = word.Stop
word_of remark = word.Rem

abbrev pub is_led : Word → Statement → Bool
is_led w x = eqb (word_rank (word_of x)) (word_rank w)

-- two words, one that opens and one that closes
abbrev pub pairs_by : Word → Word → Statement → Bracket
pairs_by first second x = cond (is_led first x) opens (cond (is_led second x) closes neither)

-- the NEXT of a FOR that stands at a place of the first of some lines, whatever it names
abbrev pub next_for : ℕ → List Line → Partner
next_for at lines = partner (pairs_by word.For word.Next) 0 (later at lines)

-- the WEND of a WHILE that stands there
abbrev pub wend_for : ℕ → List Line → Partner
wend_for at lines = partner (pairs_by word.While word.Wend) 0 (later at lines)
