-- What a statement leaves to read, by the tokens that stand there.
use mathlib.Core.Path.{◌≡◌, refl}
use mathlib.Core.Bool.{Bool, true, false≢true}
use mathlib.Core.List.{List, []}
use Prim.Native.Nat.{ℕ, zero, suc, ◌≤◌}
use native.Mathlib.Omega.{arith}
use Rattle.words.specs.Places.{place}
use Rattle.words.specs.declared.symbols.Scanned.{Scanned}
use Rattle.words.specs.declared.symbols.Token.TheVariants.{Keyword}
use Rattle.words.specs.declared.symbols.Sign.TheVariants.{Comma, Semicolon, Equal}
use Rattle.words.specs.declared.symbols.Word.{Word}
use Rattle.words.specs.declared.symbols.Word.TheVariants.{Let, Then, Goto, To, Step, Input, Data}
use Rattle.words.proofs.Choices.{by_test}
use Rattle.scanner.specs.Tokens.{◌upto◌, reads, token_at}
use Rattle.items.proofs.Listing.{items_onward}
use Rattle.grammar.specs.Tests.{choose, is_symbol, is_keyword, ends_statement}
use Rattle.grammar.specs.Trees.{Formula, Variable, Item, comma, semicolon, shown, Statement, empty, assign, print, if_then, if_else, goto, gosub, return, for, next, next_of, while, wend, line_input, data_of, read, restore, restore_to, end, stop, remark}
use Rattle.grammar.specs.Formulas as formulas
use Rattle.grammar.specs.Formulas.{Reading, good, after, enough, formula_of}
use Rattle.statements.specs.Statements.{Begun, bad, done, choice, Items, no_items, items, with_item, is_separator, after_shown, items_at, NameList, unlisted, listed, with_name, names_at, variable_of, begun_at}
use Rattle.statements.specs.bridge.Answers.{items_of}
use Rattle.statements.specs.Parts.{parts_within}
use Rattle.skimming.specs.bridge.Remaining.{weight}
use Rattle.skimming.proofs.Weights.{reads_if, after_lighter, symbol_reads, keyword_reads}
use Rattle.skimming.proofs.Grammar.{formula_lighter}
use Rattle.statements.proofs.Findings.{by_text, by_name_in, line_reads}
use Rattle.statements.proofs.Standing.{is_print, Target, step_of, past_text, past_text_lem, past_no_text, past, past_word, past_none, Asked, Held, Way, by_then, by_goto, Stands, Seen, begun_seen}

-- ---- what a statement leaves to read: no more than there was where it began

module _ (s : List ℕ) where
  past_within : (x : Word) (t : Scanned) → weight s (past x s t) ≤ weight s t
  past_within x t =
      by_test (is_keyword x t.token)
      (λ e. let l = after_lighter s t (keyword_reads x t.token e) in rw (past_word x s t e) (omega arith))
      (λ e. rw (past_none x s t e) (omega arith))

  -- the token after one that reads
  next_within : (t : Scanned) {u : Scanned} → reads t.token ≡ true → u ≡ after s t → weight s u ≤ weight s t
  next_within t r e = let l = after_lighter s t r in rw e (omega arith)

  -- a formula after an equals sign after a name
  name_within : (t : Scanned) {v : Variable} {f : Formula} {u : Scanned} → Target s t v → is_symbol Equal (after s t).token ≡ true
      → formula_of s (after s (after s t)) ≡ good f u → weight s u ≤ weight s t
  name_within t n e i =
      omega (
        arith,
        after_lighter s t (rw n.named),
        after_lighter s (after s t) (symbol_reads Equal (after s t).token e),
        (formula_lighter s (after s (after s t)) i).1,
      )

  step_within : (t : Scanned) {f : Formula} {u : Scanned} → step_of s t ≡ good f u → weight s u ≤ weight s t
  step_within t {f} {u} i =
      by_test (is_keyword Step t.token)
      (λ e. let l = after_lighter s t (keyword_reads Step t.token e) in
      let h = formula_lighter s (after s t) (rw e at i) in omega arith)
      (λ e. let h = rw e at i in let same : u ≡ t = cc in rw same (omega arith))

  -- ---- PRINT

  abbrev ItemsWithin : ℕ → Items → Type 0
  ItemsWithin w no_items = Unit {0}
  ItemsWithin w (items is t) = weight s t ≤ w

  with_within : (w : ℕ) (i : Item) (x : Items) → ItemsWithin w x → ItemsWithin w (with_item i x)
  with_within w i no_items h = tt
  with_within w i (items is t) h = h

  shown_within : (w : ℕ) (t : Scanned) (x : Reading) (go : Scanned → Items) → formula_of s t ≡ x → weight s t ≤ w
      → ((u : Scanned) → weight s u ≤ w → ItemsWithin w (go u)) → ItemsWithin w (after_shown x go)
  shown_within w t formulas.bad go e h k = tt
  shown_within w t (formulas.good f u) go e h k =
      let l = formula_lighter s t e in
      by_test (is_separator u.token) (λ a. rw a (with_within w (shown f) (go u) (k u (omega arith)))) (λ a. rw a (omega arith))

  items_within : (n w : ℕ) (t : Scanned) → weight s t ≤ w → ItemsWithin w (items_at n s t)
  unfolding items_at
  items_within zero w t h = tt
  items_within (suc n) w t h =
      by_test (is_symbol Comma t.token)
      (λ e.
      let l = after_lighter s t (symbol_reads Comma t.token e) in
      rw e (with_within w comma (items_at n s (after s t)) (items_within n w (after s t) (omega arith))))
      λ e. rw e
      (by_test (is_symbol Semicolon t.token)
      (λ f.
      let l = after_lighter s t (symbol_reads Semicolon t.token f) in
      rw f (with_within w semicolon (items_at n s (after s t)) (items_within n w (after s t) (omega arith))))
      λ f. rw f
      (by_test (ends_statement t.token) (λ g. rw g h) λ g. rw g
      (shown_within w t (formula_of s t) (λ u. items_at n s u) refl h (λ u k. items_within n w u k))))

  -- ---- DATA and READ

  data_within : (t : Scanned) {l : List (List ℕ)} {u : Scanned} → Held s t l u → weight s u ≤ weight s t
  unfolding weight
  data_within t {l} {u} h =
      let lighter = after_lighter s (Keyword Data upto h.end) refl in
      let onward = items_onward s t.next.0 l h.end h.lists in
      rw (h.next, h.word) (omega (arith, lighter, onward))

  abbrev NamesWithin : ℕ → NameList → Type 0
  NamesWithin w unlisted = Unit {0}
  NamesWithin w (listed vs t) = weight s t ≤ w

  name_within_list : (w : ℕ) (v : Variable) (x : NameList) → NamesWithin w x → NamesWithin w (with_name v x)
  name_within_list w v unlisted h = tt
  name_within_list w v (listed vs t) h = h

  names_within : (n w : ℕ) (t : Scanned) → weight s t ≤ w → NamesWithin w (names_at n s t)
  unfolding names_at
  names_within zero w t h = tt
  names_within (suc n) w t h =
      by_name_in (NamesWithin w) t.token _ _
      (λ v f r.
      let l = after_lighter s t (rw r) in
      name_within_list w (variable_of s v) (choose (is_symbol Comma (after s t).token) (λ _. names_at n s (after s (after s t))) (λ _. listed [] (after s t)))
      (by_test (is_symbol Comma (after s t).token)
      (λ e. let k = after_lighter s (after s t) (symbol_reads Comma (after s t).token e) in rw e (names_within n w (after s (after s t)) (omega arith)))
      (λ e. rw e (omega arith))))
      (λ f. tt)

  -- ---- each statement

  text_within : (t : Scanned) {text : List ℕ} {v : Variable} {u : Scanned} → Asked s t text v u → weight s u ≤ weight s t
  text_within t {text} {v} {u} a =
      let l = next_within (past_text s t) (rw a.target.named) a.next in
      by_text {A = ℕ} (λ b. weight s u ≤ weight s t) t.token (λ q. 0) 0
      (λ q e n.
      omega (
        arith,
        rw (past_text_lem s t q n) at l,
        after_lighter s t (rw n),
        after_lighter s (after s t) (symbol_reads Semicolon (after s t).token (a.mark e)),
      ))
      (λ e. rw (past_no_text s t e) at l)

  done_within : (first : Bool) (t : Scanned) (x : Statement) (u : Scanned) → Stands s first t x u → weight s u ≤ weight s t
  unfolding items_of
  done_within first t empty u h = rw h.1 (omega arith)
  done_within first t (assign v f) u h =
      omega (arith, past_within Let t, name_within (past Let s t) h.target h.equal h.value)
  done_within first t (print is) u h =
      omega (arith, after_lighter s t (reads_if (λ t. is_print t ≡ true) (λ e. false≢true e) (λ e. false≢true e) t.token h.word), rw h.shows at (items_within (enough s) (weight s (after s t)) (after s t) (omega arith)))
  done_within first t (if_then c p) u h = absurd h
  done_within first t (if_else c p q) u h = absurd h
  done_within first t (goto l) u h =
      omega (arith, past_within Goto t, next_within (past Goto s t) (line_reads (past Goto s t).token h.line) h.next)
  done_within first t (gosub l) u h =
      omega (arith, after_lighter s t (rw h.word), next_within (after s t) (line_reads (after s t).token h.line) h.next)
  done_within first t return u h = next_within t (rw h.word) h.next
  done_within first t (for v a b c) u h =
      let n = h.counts in
      omega (
        arith,
        after_lighter s t (rw h.word),
        name_within (after s t) n.target n.equal n.from,
        after_lighter s n.upto (keyword_reads To n.upto.token n.to),
        (formula_lighter s (after s n.upto) n.limit).1,
        step_within n.steps n.by,
      )
  done_within first t next u h = next_within t (rw h.word) h.next
  done_within first t (next_of v) u h =
      omega (arith, after_lighter s t (rw h.word), next_within (after s t) (rw h.target.named) h.next)
  done_within first t (while c) u h =
      let l = formula_lighter s (after s t) h.condition in omega (arith, after_lighter s t (rw h.word), l.1)
  done_within first t wend u h = next_within t (rw h.word) h.next
  done_within first t (line_input text v) u h =
      omega (
        arith,
        after_lighter s t (rw h.word),
        after_lighter s (after s t) (keyword_reads Input (after s t).token h.input),
        text_within (after s (after s t)) h.asks,
      )
  done_within first t (data_of l) u h = data_within t h
  done_within first t (read vs) u h =
      omega (arith, after_lighter s t (rw h.word), rw h.names at (names_within (enough s) (weight s (after s t)) (after s t) (omega arith)))
  done_within first t restore u h = next_within t (rw h.word) h.next
  done_within first t (restore_to l) u h =
      omega (arith, after_lighter s t (rw h.word), next_within (after s t) (line_reads (after s t).token h.line) h.next)
  done_within first t end u h = next_within t (rw h.word) h.next
  done_within first t stop u h = next_within t (rw h.word) h.next
  done_within first t remark u h = next_within t (rw h.word) h.next

  -- what a statement begins as weighs no more than so much, and an IF's part begins after a token that reads
  abbrev pub Within : ℕ → Begun → Type 0
  Within w bad = Unit {0}
  Within w (done x t) = weight s t ≤ w
  Within w (choice c t) = (reads t.token ≡ true) × (weight s t ≤ w)

  way_reads : {u : Scanned} → Way s u → reads u.token ≡ true
  way_reads {u} (by_then e) = keyword_reads Then u.token e
  way_reads {u} (by_goto l e n) = keyword_reads Goto u.token e

  seen_within : (first : Bool) (t : Scanned) (b : Begun) → Seen s first t b → Within (weight s t) b
  seen_within first t bad h = tt
  seen_within first t (done x u) h = done_within first t x u h
  seen_within first t (choice c u) h =
      let a = after_lighter s t (rw h.word) in
      let l = formula_lighter s (after s t) h.condition in
      (way_reads h.way, omega arith)

  pub begun_within : (first : Bool) (p : ℕ) → Within (weight s (token_at s (place p))) (begun_at s first p)
  begun_within first p = seen_within first (token_at s (place p)) (begun_at s first p) (begun_seen s first p)

-- ---- a statement that is done has no parts: only an IF does

abbrev pub Alone : Begun → Type 0
Alone bad = Unit {0}
Alone (done x t) = parts_within x ≡ []
Alone (choice c t) = Unit {0}

done_alone : (s : List ℕ) (first : Bool) (t : Scanned) (x : Statement) (u : Scanned) → Stands s first t x u → parts_within x ≡ []
unfolding parts_within
done_alone s first t empty u h = refl
done_alone s first t (assign v f) u h = refl
done_alone s first t (print is) u h = refl
done_alone s first t (if_then c p) u h = absurd h
done_alone s first t (if_else c p q) u h = absurd h
done_alone s first t (goto l) u h = refl
done_alone s first t (gosub l) u h = refl
done_alone s first t return u h = refl
done_alone s first t (for v a b c) u h = refl
done_alone s first t next u h = refl
done_alone s first t (next_of v) u h = refl
done_alone s first t (while c) u h = refl
done_alone s first t wend u h = refl
done_alone s first t (line_input text v) u h = refl
done_alone s first t (data_of l) u h = refl
done_alone s first t (read vs) u h = refl
done_alone s first t restore u h = refl
done_alone s first t (restore_to l) u h = refl
done_alone s first t end u h = refl
done_alone s first t stop u h = refl
done_alone s first t remark u h = refl

seen_alone : (s : List ℕ) (first : Bool) (t : Scanned) (b : Begun) → Seen s first t b → Alone b
seen_alone s first t bad h = tt
seen_alone s first t (done x u) h = done_alone s first t x u h
seen_alone s first t (choice c u) h = tt

pub begun_alone : (s : List ℕ) (first : Bool) (p : ℕ) → Alone (begun_at s first p)
begun_alone s first p = seen_alone s first (token_at s (place p)) (begun_at s first p) (begun_seen s first p)
