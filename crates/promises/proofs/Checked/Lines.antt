-- What the check has found of a recipe: of its lines, its statements, and so of each place where a run of it can stand.
use Rattle.checker.specs.declared.checking.Fault.{Fault}
use Rattle.std.specs.Prelude.{Err, Ok, Result}
use Rattle.whole.specs.declared.errors.Error.{Error}
use mathlib.Core.Path.{◌≡◌, refl, sym}
use mathlib.Core.Bool.{Bool, true, false, ◌||◌, false≢true}
use mathlib.Core.List.{List, [], ◌∷◌, ◌++◌}
use Rattle.words.specs.declared.places.LineNumber.{LineNumber}
use Rattle.words.proofs.Choices.{by_test, both}
use Rattle.loader.specs.Lines.{Line, after_number}
use Rattle.grammar.specs.Trees.{Statement, Part, last, more}
use Rattle.statements.specs.Parts.{rightly_typed, named_line, head_of, tail_of, Rest, nothing, part, parts_of, parts_within, heads, statements_of, all_typed}
use Rattle.reader.specs.Lines.{Judgement, unreadable, too_deep, holds, judgement}
use Rattle.statements.proofs.Depths.{heads_append}
use Rattle.checker.specs.Check.{missing, any_missing, fault_in, or_else, first_fault}
use Rattle.machine.specs.Machine.{Position, Record, back_of}
use Rattle.order.proofs.Laws.{Every, every_front, every_back, LinesThroughout}
use Rattle.runner.specs.Run.{Entered, over, faulty, opened, judged_line, enter}
use Rattle.promises.proofs.Records as records
use Rattle.promises.proofs.Checked.Operators.{Allowed}
use Rattle.whole.proofs.Never.{never}

-- neither of two
neither : (x y : Bool) → x || y ≡ false → (x ≡ false) × (y ≡ false)
neither true y e = absurd (false≢true (sym e))
neither false y e = (refl, e)

-- `all` are the lines of the recipe
module _ (all : List Line) where
  -- ---- statements

  -- a statement by itself: its types are right, and the line that it names is there
  pub record Checked (x : Statement) : Type 0 where
    pub typed : rightly_typed x ≡ true
    pub named : missing all (named_line x) ≡ false

  abbrev pub AllChecked : List Statement → Type 0
  AllChecked xs = Every Checked xs

  -- of a part, with all branches
  abbrev pub PartChecked : Part → Type 0
  PartChecked p = AllChecked (statements_of p)

  all_checked : (xs : List Statement) → all_typed xs ≡ true → any_missing all xs ≡ false → AllChecked xs
  unfolding all_typed any_missing
  all_checked [] t n = tt
  all_checked (x ∷ xs) t n =
      let typed = both (rightly_typed x) (all_typed xs) t in
      let named = neither (missing all (named_line x)) (any_missing all xs) n in
      (record { typed = typed.0; named = named.0 }, all_checked xs typed.1 named.1)

  pub parts_apart : (xs ys : List Part) → AllChecked (heads (xs ++ ys)) → AllChecked (heads xs) × AllChecked (heads ys)
  parts_apart xs ys h =
      let k = rw (heads_append xs ys) at h in (every_front Checked (heads xs) (heads ys) k, every_back Checked (heads xs) (heads ys) k)

  -- ---- places

  abbrev pub LinesChecked : List Line → Type 0
  LinesChecked [] = Unit {0}
  LinesChecked (l ∷ ls) = (fault_in all (judgement (after_number l)) ≡ Ok tt) × LinesChecked ls

  abbrev pub RestChecked : Rest → Type 0
  RestChecked nothing = Unit {0}
  RestChecked (part p) = PartChecked p

  abbrev pub PositionChecked : Position → Type 0
  PositionChecked p = LinesChecked p.lines × RestChecked p.rest

  abbrev pub RecordChecked : Record → Type 0
  RecordChecked r = PositionChecked (back_of r)

  abbrev pub RecordsChecked : List Record → Type 0
  RecordsChecked rs = records.Each RecordChecked rs

  -- the first statement of a part, its branches, and what is left then
  pub part_apart : (p : Part) → PartChecked p → Checked (head_of p) × AllChecked (heads (parts_within (head_of p))) × RestChecked (tail_of p)
  unfolding parts_of heads
  part_apart (last p x) h = (h.0, h.1, tt)
  part_apart (more p x rest) h = let t = parts_apart (parts_within x) (parts_of rest) h.1 in (h.0, t.0, t.1)

  -- ---- lines

  -- a recipe that passes has no faulty line
  sound_later : (s : Result (Unit {0}) Error) (n : LineNumber) (later : Unit {0} → Result (Unit {0}) Fault) → or_else s n later ≡ Ok tt → (s ≡ Ok tt) × (later tt ≡ Ok tt)
  sound_later (Ok _) n later e = (refl, e)
  sound_later (Err error) n later e = never (cc)

  pub passed_lines : (ls : List Line) → first_fault all ls ≡ Ok tt → LinesChecked ls
  unfolding first_fault
  passed_lines [] e = tt
  passed_lines (l ∷ ls) e =
      let h = sound_later (fault_in all (judgement (after_number l))) _ (λ _. first_fault all ls) e in
      (h.0, passed_lines ls h.1)

  -- a line that is sound opens, and its statements are as the check wants them
  abbrev pub EnteredChecked : Entered → Type 0
  EnteredChecked over = Unit {0}
  EnteredChecked (faulty e) = Allowed e
  EnteredChecked (opened p) = PartChecked p

  sound_reads : (g : Judgement) → fault_in all g ≡ Ok tt → EnteredChecked (judged_line g)
  sound_reads unreadable e = never (cc)
  sound_reads too_deep e = never (cc)
  sound_reads (holds p) e =
      let xs = statements_of p in
      by_test (all_typed xs)
      (λ t. by_test (any_missing all xs)
      (λ n. let f = rw (t, n) at e in never (cc))
      (λ n. all_checked xs t n))
      (λ t. let f = rw t at e in never (cc))

  pub lines_throughout : (ls : List Line) → LinesChecked ls → LinesThroughout Checked ls
  lines_throughout [] h = tt
  lines_throughout (l ∷ ls) h = (λ p e. rw e at (sound_reads (judgement (after_number l)) h.0), lines_throughout ls h.1)

  pub enter_checked : (ls : List Line) → LinesChecked ls → EnteredChecked (enter ls)
  unfolding enter
  enter_checked [] h = tt
  enter_checked (l ∷ ls) h = sound_reads (judgement (after_number l)) h.0
