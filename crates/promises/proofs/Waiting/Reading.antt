-- Every formula of a line that is let through is levelled and nests at most 8 deep.
use mathlib.Core.Path.{◌≡◌, refl}
use mathlib.Core.Bool.{Bool, true, false}
use mathlib.Core.List.{List, [], ◌∷◌, ◌++◌}
use Prim.Native.Nat.{ℕ, zero, suc, ◌≤◌}
use native.Mathlib.Omega.{arith}
use borrow.Author.Tests.{ltb-false}
use lib.Dec.{ltb}
use Rattle.words.specs.Places.{place}
use Rattle.words.specs.declared.symbols.Scanned.{Scanned}
use Rattle.words.specs.declared.symbols.Sign.TheVariants.{Comma, Semicolon, Colon}
use Rattle.words.specs.declared.symbols.Word.TheVariants.{Else, Step}
use Rattle.words.proofs.Choices.{by_test}
use Rattle.scanner.specs.Tokens.{token_at}
use Rattle.grammar.specs.Tests.{is_symbol, is_keyword, ends_statement, ends_line}
use Rattle.grammar.specs.Trees.{Formula, number, Item, comma, semicolon, shown, Statement, empty, assign, print, if_then, if_else, goto, gosub, return, for, next, next_of, while, wend, line_input, data_of, read, restore, restore_to, end, stop, remark, Part, last, more}
use Rattle.grammar.specs.Formulas as formulas
use Rattle.grammar.specs.Formulas.{Reading, good, after, enough, formula_of}
use Rattle.statements.specs.Statements.{Begun, bad, done, choice, Items, no_items, items, with_item, is_separator, after_shown, items_at, begun_at, PartReading, bad_part, good_part, mapped_part, following, branched, part_at, whole, read_line}
use Rattle.statements.specs.bridge.Answers.{items_of}
use Rattle.reader.specs.Lines.{judged_read, judgement}
use Rattle.statements.proofs.Depths.{heads_append}
use Rattle.statements.specs.Parts.{item_formulas, formulas_of, deepest, parts_of, parts_within, heads, statements_of, deepest_in}
use Rattle.expressions.proofs.Levelled.{Levelled, levelled}
use Rattle.statements.proofs.Standing.{step_of, Stands, Seen, begun_seen}
use Rattle.statements.proofs.Beginning.{Alone, begun_alone}
use Rattle.statements.proofs.Parts.{part_by}
use Rattle.order.proofs.Laws as laws
use Rattle.order.proofs.Laws.{every_join, every_front, every_back, LinesThroughout}
use Rattle.loader.specs.Lines.{Line, after_number}
use Rattle.runner.specs.Run.{Entered, over, faulty, opened, judged_line}
use Rattle.promises.proofs.Waiting.Nesting.{Fine}

-- ---- of all formulas of some statements

module _ (P : Formula → Type 0) where
  abbrev pub Each : List Formula → Type 0
  Each [] = Unit {0}
  Each (f ∷ fs) = P f × Each fs

  abbrev pub Every : List Statement → Type 0
  Every xs = laws.Every (λ x. Each (formulas_of x)) xs

  -- of parts one after the other
  parts_both : (xs ys : List Part) → Every (heads xs) → Every (heads ys) → Every (heads (xs ++ ys))
  parts_both xs ys h k = rw (heads_append xs ys) (every_join (λ x. Each (formulas_of x)) (heads xs) (heads ys) h k)

  pub parts_split : (xs ys : List Part) → Every (heads (xs ++ ys)) → Every (heads xs) × Every (heads ys)
  parts_split xs ys h =
      let P : Statement → Type 0 = λ x. Each (formulas_of x) in
      let k = rw (heads_append xs ys) at h in (every_front P (heads xs) (heads ys) k, every_back P (heads xs) (heads ys) k)

-- ---- what is read is levelled

abbrev Level : Formula → Type 0
Level f = Levelled 0 f

formula_level : (s : List ℕ) (t : Scanned) {f : Formula} {u : Scanned} → formula_of s t ≡ good f u → Level f
unfolding formula_of
formula_level s t e = levelled (enough s) s 0 t e

step_level : (s : List ℕ) (t : Scanned) {f : Formula} {u : Scanned} → step_of s t ≡ good f u → Level f
unfolding Levelled
step_level s t {f} {u} e =
    by_test (is_keyword Step t.token)
    (λ h. formula_level s (after s t) (rw h at e))
    (λ h. let k = rw h at e in let same : f ≡ number 1 = cc in rw same tt)

abbrev ItemsLevel : Items → Type 0
ItemsLevel no_items = Unit {0}
ItemsLevel (items is u) = Each Level (item_formulas is)

mark_level : (i : Item) (x : Items) → ((is : List Item) → item_formulas (i ∷ is) ≡ item_formulas is) → ItemsLevel x → ItemsLevel (with_item i x)
mark_level i no_items e h = tt
mark_level i (items is u) e h = rw (e is) h

shown_level : (f : Formula) (x : Items) → Level f → ItemsLevel x → ItemsLevel (with_item (shown f) x)
shown_level f no_items l h = tt
shown_level f (items is u) l h = (l, h)

after_level : (s : List ℕ) (t : Scanned) (x : Reading) (go : Scanned → Items) → formula_of s t ≡ x → ((u : Scanned) → ItemsLevel (go u))
    → ItemsLevel (after_shown x go)
after_level s t formulas.bad go e h = tt
after_level s t (formulas.good f u) go e h =
    let l = formula_level s t e in
    by_test (is_separator u.token) (λ a. rw a (shown_level f (go u) l (h u))) (λ a. rw a (l, tt))

items_level : (n : ℕ) (s : List ℕ) (t : Scanned) → ItemsLevel (items_at n s t)
unfolding items_at
items_level zero s t = tt
items_level (suc n) s t =
    by_test (is_symbol Comma t.token)
    (λ e. rw e (mark_level comma (items_at n s (after s t)) (λ is. refl) (items_level n s (after s t))))
    λ e. rw e
    (by_test (is_symbol Semicolon t.token)
    (λ f. rw f (mark_level semicolon (items_at n s (after s t)) (λ is. refl) (items_level n s (after s t))))
    λ f. rw f
    (by_test (ends_statement t.token) (λ g. rw g tt) λ g. rw g
    (after_level s t (formula_of s t) (λ u. items_at n s u) refl (λ u. items_level n s u))))

module _ (s : List ℕ) (first : Bool) (t : Scanned) where
  statement_level : (x : Statement) (u : Scanned) → Stands s first t x u → Each Level (formulas_of x)
  unfolding items_of
  statement_level empty u h = tt
  statement_level (assign v f) u h = (formula_level s _ h.value, tt)
  statement_level (print is) u h = rw h.shows at (items_level (enough s) s (after s t))
  statement_level (if_then c p) u h = absurd h
  statement_level (if_else c p q) u h = absurd h
  statement_level (goto l) u h = tt
  statement_level (gosub l) u h = tt
  statement_level return u h = tt
  statement_level (for v a b c) u h =
      let n = h.counts in
      (formula_level s _ n.from, (formula_level s _ n.limit, (step_level s n.steps n.by, tt)))
  statement_level next u h = tt
  statement_level (next_of v) u h = tt
  statement_level (while c) u h = (formula_level s _ h.condition, tt)
  statement_level wend u h = tt
  statement_level (line_input text v) u h = tt
  statement_level (data_of l) u h = tt
  statement_level (read vs) u h = tt
  statement_level restore u h = tt
  statement_level (restore_to l) u h = tt
  statement_level end u h = tt
  statement_level stop u h = tt
  statement_level remark u h = tt

-- ---- parts

abbrev PartLevel : PartReading → Type 0
PartLevel bad_part = Unit {0}
PartLevel (good_part p u) = Every Level (statements_of p)

module _ (p : ℕ) (go : Bool → ℕ → PartReading) (level : (f : Bool) (q : ℕ) → PartLevel (go f q)) where
  -- a statement that has no parts, and what follows it
  more_level : (x : Statement) (r : PartReading) → parts_within x ≡ [] → Each Level (formulas_of x) → PartLevel r
      → PartLevel (mapped_part (more p x) r)
  unfolding parts_of heads
  more_level x bad_part e l h = tt
  more_level x (good_part part u) e l h = rw e (l, h)

  done_level : (x : Statement) (t : Scanned) → parts_within x ≡ [] → Each Level (formulas_of x)
      → PartLevel (following p x t (λ q. go false q))
  unfolding parts_of heads
  done_level x t e l =
      by_test (is_symbol Colon t.token)
      (λ f. rw f (more_level x (go false t.next.0) e l (level false t.next.0)))
      λ f. rw f
      (by_test (ends_statement t.token) (λ g. rw g (rw e (l, tt))) (λ g. rw g tt))

  -- an IF and its parts
  else_level : (c : Formula) (part : Part) (r : PartReading) → Level c → Every Level (statements_of part) → PartLevel r
      → PartLevel (mapped_part (λ other. last p (if_else c part other)) r)
  unfolding parts_of heads
  else_level c part bad_part l h k = tt
  else_level c part (good_part other u) l h k = ((l, tt), parts_both Level (parts_of part) (parts_of other) h k)

  choice_level : (c : Formula) (r : PartReading) → Level c → PartLevel r → PartLevel (branched p c r (λ q. go true q))
  unfolding parts_of heads
  choice_level c bad_part l h = tt
  choice_level c (good_part part t) l h =
      by_test (is_keyword Else t.token)
      (λ e. rw e (else_level c part (go true t.next.0) l h (level true t.next.0)))
      (λ e. rw e ((l, tt), h))

  begun_level : (s : List ℕ) (first : Bool) (t : Scanned) (b : Begun) → Seen s first t b → Alone b → PartLevel (part_by p go b)
  begun_level s first t bad h a = tt
  begun_level s first t (done x u) h a = done_level x u a (statement_level s first t x u h)
  begun_level s first t (choice c u) h a =
      choice_level c (go true u.next.0) (formula_level s (after s t) h.condition) (level true u.next.0)

part_level : (n : ℕ) (s : List ℕ) (first : Bool) (p : ℕ) → PartLevel (part_at n s first p)
unfolding part_at
part_level zero s first p = tt
part_level (suc n) s first p =
    begun_level p (part_at n s) (λ f q. part_level n s f q) s first (token_at s (place p)) (begun_at s first p) (begun_seen s first p)
    (begun_alone s first p)

-- ---- and nests at most 8 deep where the line is let through

each_fine : (fs : List Formula) → Each Level fs → deepest fs ≤ 8 → Each Fine fs
unfolding deepest
each_fine [] l d = tt
each_fine (f ∷ fs) l d = (record { level = l.0; deep = omega arith }, each_fine fs l.1 (omega arith))

every_fine : (xs : List Statement) → Every Level xs → deepest_in xs ≤ 8 → Every Fine xs
unfolding deepest_in
every_fine [] l d = tt
every_fine (x ∷ xs) l d = (each_fine (formulas_of x) l.0 (omega arith), every_fine xs l.1 (omega arith))

abbrev pub PartFine : Part → Type 0
PartFine p = Every Fine (statements_of p)

abbrev pub EnteredFine : Entered → Type 0
EnteredFine over = Unit {0}
EnteredFine (faulty e) = Unit {0}
EnteredFine (opened p) = PartFine p

judged_fine : (r : PartReading) → PartLevel r → EnteredFine (judged_line (judged_read (whole r)))
judged_fine bad_part l = tt
judged_fine (good_part p u) l =
    by_test (ends_line u.token)
    (λ e. rw e
    (by_test (ltb 8 (deepest_in (statements_of p)))
    (λ d. rw d tt)
    (λ d. rw d (every_fine (statements_of p) l (ltb-false 8 (deepest_in (statements_of p)) d)))))
    (λ e. rw e tt)

pub line_fine : (s : List ℕ) → EnteredFine (judged_line (judgement s))
unfolding read_line
line_fine s = judged_fine (part_at (enough s) s false 0) (part_level (enough s) s false 0)

pub lines_fine : (ls : List Line) → LinesThroughout (λ x. Each Fine (formulas_of x)) ls
lines_fine [] = tt
lines_fine (l ∷ ls) = (λ p e. rw e at (line_fine (after_number l)), lines_fine ls)
