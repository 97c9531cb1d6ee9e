-- All formulas of a text that loads have proper numbers and texts.
use Rattle.std.specs.Prelude.{Err, None, Ok, Option, Result, Some}
use Rattle.words.specs.declared.places.LineNumber.{LineNumber}
use Rattle.loader.specs.declared.refusals.RefusedAt.{RefusedAt}
use mathlib.Core.Path.{◌≡◌, refl}
use mathlib.Core.Bool.{Bool}
use mathlib.Core.List.{List, [], ◌∷◌}
use Prim.Native.Nat.{ℕ, zero, suc, ◌+◌, ◌≤◌}
use native.Mathlib.Omega.{arith}
use lib.Dec.{ltb}
use lib.ListN.{length, take, drop, length-drop}
use Rattle.whole.specs.Digits.{leading_digits}
use Rattle.whole.specs.Texts.{longest_string}
use Rattle.whole.proofs.Never.{never}
use Rattle.words.specs.Places.{place}
use Rattle.words.specs.declared.symbols.Scanned.{Scanned}
use Rattle.words.specs.declared.symbols.Sign.TheVariants.{Comma, Semicolon}
use Rattle.words.specs.declared.symbols.Word.TheVariants.{Let, Step}
use Rattle.words.proofs.Choices.{by_test}
use Rattle.scanner.specs.Tokens.{token_at}
use Rattle.loader.specs.Lines.{Line, lines_of, after_number}
use Rattle.loader.specs.Loading.{judged, load_lines, load_of, longest_text}
use Rattle.loader.proofs.Rising as rising
use Rattle.loader.proofs.Rising.{judged_good}
use Rattle.items.specs.Items as item
use Rattle.items.specs.Items.{DataItems}
use Rattle.items.specs.declared.reading.Item.{Item as ReadItem}
use Rattle.grammar.specs.Tests.{is_symbol, is_keyword, ends_statement}
use Rattle.grammar.specs.Trees.{Formula, number, Item, comma, semicolon, shown, Statement, empty, assign, print, if_then, if_else, goto, gosub, return, for, next, next_of, while, wend, line_input, data_of, read, restore, restore_to, end, stop, remark, Part}
use Rattle.grammar.specs.Formulas as formulas
use Rattle.grammar.specs.Formulas.{Reading, good, after, enough, formula_of}
use Rattle.statements.specs.Parts.{item_formulas, formulas_of, head_of}
use Rattle.statements.specs.Statements.{Begun, bad, done, choice, Items, no_items, items, with_item, is_separator, after_shown, items_at, begun_at}
use Rattle.statements.specs.bridge.Answers.{items_of}
use Rattle.statements.proofs.Standing.{past, step_of, Stands, Seen, begun_seen}
use Rattle.reader.specs.Lines.{holds, judgement}
use Rattle.variables.specs.Strings as strings
use Rattle.machine.specs.Items as order
use Rattle.machine.specs.Items.{items_in}
use Rattle.machine.specs.Order.{Stand, stands}
use Rattle.order.proofs.Laws.{Every, every_join, Throughout, StandThroughout, LinesThroughout, stands_throughout}
use Rattle.laws.proofs.Positions.{head_throughout}
use Rattle.run_laws.proofs.Proper.{Bytes, take_bytes, drop_bytes, each_byte, Proper, ProperFormula}
use Rattle.run_laws.proofs.Reading.{ProperToken, token_proper, formula_proper}
use Rattle.run_laws.proofs.Throughout.{Begins, line_throughout}

abbrev pub ProperItem : List ℕ → Type 0
ProperItem b = Proper (strings.text b)

-- its formulas, and the items of DATA
abbrev pub ProperAll : List Formula → List (List ℕ) → Type 0
ProperAll fs [] = Every ProperFormula fs
ProperAll fs (b ∷ l) = ProperItem b × ProperAll fs l

abbrev pub ProperStatement : Statement → Type 0
ProperStatement x = ProperAll (formulas_of x) (items_in x)

all_items : (fs : List Formula) (l : List (List ℕ)) → ProperAll fs l → Every ProperItem l
all_items fs [] h = tt
all_items fs (b ∷ l) h = (h.0, all_items fs l h.1)

-- so those of some statements
pub items_throughout : (xs : List Stand) → Every (StandThroughout ProperStatement) xs → Every ProperItem (order.items_of xs)
unfolding order.items_of
items_throughout [] h = tt
items_throughout (x ∷ xs) h =
    let k = head_throughout ProperStatement x.part h.0 in
    every_join ProperItem (items_in (head_of x.part)) (order.items_of xs) (all_items (formulas_of (head_of x.part)) (items_in (head_of x.part)) k.0) (items_throughout xs h.1)

pub lines_items : (ls : List Line) → LinesThroughout ProperStatement ls → Every ProperItem (order.items_of (stands ls))
lines_items ls h = items_throughout (stands ls) (stands_throughout ProperStatement ls h)

take_within : (n : ℕ) (s : List ℕ) → length (take n s) ≤ length s
take_within zero s = omega arith
take_within (suc n) [] = omega arith
take_within (suc n) (b ∷ s) = omega (arith, take_within n s)

module _ (s : List ℕ) (short : length s ≤ longest_string) (plain : Bytes s) where
  -- the formula that begins with a token of the line
  formula_read : (t : Scanned) {f : Formula} {u : Scanned} → formula_of s (after s t) ≡ good f u → ProperFormula f
  formula_read t e = (formula_proper s short plain (after s t) (token_proper s t.next) e).0

  step_read : (t : Scanned) {f : Formula} {u : Scanned} → step_of s t ≡ good f u → ProperFormula f
  unfolding ProperFormula
  step_read t {f} {u} e =
      by_test (is_keyword Step t.token)
      (λ h. formula_read t (rw h at e))
      (λ h. let k = rw h at e in let same : f ≡ number 1 = cc in rw same (omega arith))

  -- PRINT's items
  abbrev ProperItems : Items → Type 0
  ProperItems no_items = Unit {0}
  ProperItems (items is u) = Every ProperFormula (item_formulas is)

  mark_read : (i : Item) (x : Items) → ((is : List Item) → item_formulas (i ∷ is) ≡ item_formulas is) → ProperItems x → ProperItems (with_item i x)
  mark_read i no_items e h = tt
  mark_read i (items is u) e h = rw (e is) h

  shown_read : (f : Formula) (x : Items) → ProperFormula f → ProperItems x → ProperItems (with_item (shown f) x)
  shown_read f no_items l h = tt
  shown_read f (items is u) l h = (l, h)

  after_read : (t : Scanned) (x : Reading) (go : Scanned → Items) → ProperToken t.token → formula_of s t ≡ x
      → ((u : Scanned) → ProperToken u.token → ProperItems (go u)) → ProperItems (after_shown x go)
  after_read t formulas.bad go p e h = tt
  after_read t (formulas.good f u) go p e h =
      let l = formula_proper s short plain t p e in
      by_test (is_separator u.token) (λ a. rw a (shown_read f (go u) l.0 (h u l.1))) (λ a. rw a (l.0, tt))

  items_read : (n : ℕ) (t : Scanned) → ProperToken t.token → ProperItems (items_at n s t)
  unfolding items_at
  items_read zero t p = tt
  items_read (suc n) t p =
      let onward = items_read n (after s t) (token_proper s t.next) in
      by_test (is_symbol Comma t.token)
      (λ e. rw e (mark_read comma (items_at n s (after s t)) (λ is. refl) onward))
      λ e. rw e
      (by_test (is_symbol Semicolon t.token)
      (λ f. rw f (mark_read semicolon (items_at n s (after s t)) (λ is. refl) onward))
      λ f. rw f
      (by_test (ends_statement t.token) (λ g. rw g tt) λ g. rw g
      (after_read t (formula_of s t) (λ u. items_at n s u) p refl (λ u k. items_read n u k))))

  -- DATA's items
  abbrev ProperData : DataItems → Type 0
  ProperData item.bad = Unit {0}
  ProperData (item.items l p) = ProperAll [] l

  part_read : (n i : ℕ) → ProperItem (take n (drop i s))
  part_read n i = (omega (arith, take_within n (drop i s), length-drop i s), take_bytes n (drop i s) (drop_bytes i s plain))

  item_read : (b : List ℕ) (x : DataItems) → ProperItem b → ProperData x → ProperData (item.with_item b x)
  item_read b item.bad h k = tt
  item_read b (item.items l p) h k = (h, k)

  more_read : (r : Option ReadItem) (go : ℕ → DataItems) → ((p : ℕ) → ProperData (go p)) → ProperData (item.and_more s r go)
  more_read None go h = tt
  more_read (Some i) go h =
      item_read (item.item_bytes s i) (item.if_more i.more i.end.0 go) (part_read i.len i.from.0)
      (by_test i.more (λ e. rw e (h (i.end.0 + 1))) (λ e. rw e tt))

  data_read : (n at : ℕ) → ProperData (item.items_at n s at)
  unfolding item.items_at
  data_read zero at = tt
  data_read (suc n) at = more_read (item.item_at s at) (item.items_at n s) (λ p. data_read n p)

  module _ (first : Bool) (t : Scanned) where
    stands_read : (x : Statement) (u : Scanned) → Stands s first t x u → ProperStatement x
    unfolding items_of
    stands_read empty u h = tt
    stands_read (assign v f) u h = (formula_read (after s (past Let s t)) h.value, tt)
    stands_read (print is) u h = rw h.shows at (items_read (enough s) (after s t) (token_proper s t.next))
    stands_read (if_then c p) u h = absurd h
    stands_read (if_else c p q) u h = absurd h
    stands_read (goto l) u h = tt
    stands_read (gosub l) u h = tt
    stands_read return u h = tt
    stands_read (for v a b c) u h =
        let n = h.counts in (formula_read (after s (after s t)) n.from, (formula_read n.upto n.limit, (step_read n.steps n.by, tt)))
    stands_read next u h = tt
    stands_read (next_of v) u h = tt
    stands_read (while c) u h = (formula_read t h.condition, tt)
    stands_read wend u h = tt
    stands_read (line_input text v) u h = tt
    stands_read (data_of l) u h = rw h.lists at (data_read (suc (length s)) t.next.0)
    stands_read (read vs) u h = tt
    stands_read restore u h = tt
    stands_read (restore_to l) u h = tt
    stands_read end u h = tt
    stands_read stop u h = tt
    stands_read remark u h = tt

    seen_read : (b : Begun) → Seen s first t b → Begins ProperStatement b
    seen_read bad h = tt
    seen_read (done x u) h = stands_read x u h
    seen_read (choice c u) h = let k = formula_read t h.condition in (λ p. (k, tt), λ p q. (k, tt))

  line_read : (first : Bool) (p : ℕ) → Begins ProperStatement (begun_at s first p)
  line_read first p = seen_read first (token_at s (place p)) (begun_at s first p) (begun_seen s first p)

-- ---- a text that loads

sound_throughout : (l : Line) → rising.Sound l.bytes → (p : Part) → judgement (after_number l) ≡ holds p → Throughout ProperStatement p
sound_throughout l h =
    let n = length (leading_digits l.bytes) in
    line_throughout ProperStatement (after_number l)
    (line_read (after_number l) (omega (arith, h.short, length-drop n l.bytes)) (drop_bytes n l.bytes (each_byte l.bytes (λ i k. omega (arith, (h.plain i k).1)))))

lines_proper : (before floor : ℕ) (ls : List Line) → load_lines before floor ls ≡ Ok tt → LinesThroughout ProperStatement ls
unfolding load_lines
lines_proper before floor [] e = tt
lines_proper before floor (l ∷ ls) e = by_judged (judged l.bytes before floor) refl (λ above h. lines_proper (before + 1) above ls h)
  where
    by_judged : (j : Result LineNumber RefusedAt) → judged l.bytes before floor ≡ j
        → ((above : ℕ) → load_lines (before + 1) above ls ≡ Ok tt → LinesThroughout ProperStatement ls) → LinesThroughout ProperStatement (l ∷ ls)
    by_judged (Ok n) f onward = (sound_throughout l (judged_good before floor l.bytes f).sound, onward (n.0 + 1) (rw f at e))
    by_judged (Err x) f onward = let g = rw f at e in never (cc)

pub loaded_proper : (text : List ℕ) → load_of text ≡ Ok tt → LinesThroughout ProperStatement (lines_of text)
unfolding load_of
loaded_proper text e =
    by_test (ltb longest_text (length text)) (λ t. let g = rw t at e in never (cc)) (λ t. lines_proper 0 0 (lines_of text) (rw t at e))
