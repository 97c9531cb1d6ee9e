-- What reads, taken apart: a line into its part, a part into its first statement and the rest,
-- statements into their tokens.
use mathlib.Core.Path.{◌≡◌, refl, ◌∙◌}
use mathlib.Core.Bool.{Bool, true, false}
use mathlib.Core.List.{List, [], ◌∷◌, ◌++◌, append-nil}
use Prim.Native.Nat.{ℕ}
use Rattle.whole.proofs.Never.{never}
use Rattle.words.specs.Places.{place}
use Rattle.words.specs.declared.symbols.Scanned.{Scanned}
use Rattle.words.specs.declared.symbols.Sign.TheVariants.{Comma, Semicolon, Colon}
use Rattle.words.specs.declared.symbols.Word.TheVariants.{Else}
use Rattle.words.proofs.Choices.{by_test}
use Rattle.scanner.specs.Tokens.{token_at}
use Rattle.grammar.specs.Tests.{choose, is_symbol, is_keyword, ends_statement, ends_line}
use Rattle.grammar.specs.Trees.{Formula, Item, comma, semicolon, shown, Statement, if_then, if_else, Part, last, more}
use Rattle.grammar.specs.Formulas as formulas
use Rattle.grammar.specs.Formulas.{Reading, good, after, formula_of}
use Rattle.statements.specs.Statements.{Begun, bad, done, choice, Items, no_items, items, with_item, is_separator, after_shown, begun_at, PartReading, bad_part, good_part, mapped_part, branched, reads, whole, read_line, part_of}
use Rattle.statements.specs.bridge.Answers.{items_of}
use Rattle.statements.specs.Parts.{parts_of, parts_within}
use Rattle.statements.proofs.Fuel.{items_unrolled}
use Rattle.statements.proofs.Standing.{Stands, Chosen, begun_seen}
use Rattle.statements.proofs.Parts.{part_by, unrolled}

-- ---- a line

-- its part, and the token that ends it
pub record Lined (s : List ℕ) (part : Part) : Type 0 where
  pub end : Scanned
  pub from : part_of s false 0 ≡ good_part part end
  pub ends : ends_line end.token ≡ true

line_by : (s : List ℕ) (r : PartReading) {part : Part} → part_of s false 0 ≡ r → whole r ≡ reads part → Lined s part
line_by s bad_part i e = never (cc)
line_by s (good_part q t) i e =
    by_test (ends_line t.token)
    (λ f. let h = rw f at e in record { end = t; from = cc; ends = f })
    (λ f. let h = rw f at e in never (cc))

pub line_view : (s : List ℕ) {part : Part} → read_line s ≡ reads part → Lined s part
unfolding read_line part_of
line_view s e = line_by s (part_of s false 0) refl e

-- ---- a part

-- its first token
abbrev pub start : List ℕ → ℕ → Scanned
start s p = token_at s (place p)

-- it has a statement
has_some : (part : Part) (l : List Part) → parts_of part ++ l ≡ [] → ⊥
unfolding parts_of
has_some (last q x) l e = never (cc)
has_some (more q x rest) l e = never (cc)

module _ (s : List ℕ) (first : Bool) (p : ℕ) where
  -- a statement, a colon, and the rest
  pub record More (q : ℕ) (x : Statement) (rest : Part) (u : Scanned) : Type 0 where
    pub at : q ≡ p
    pub end : Scanned
    pub begun : begun_at s first p ≡ done x end
    pub colon : is_symbol Colon end.token ≡ true
    pub goes : part_of s false end.next.0 ≡ good_part rest u

  -- the last statement, no IF
  pub record Last (q : ℕ) (x : Statement) (u : Scanned) : Type 0 where
    pub at : q ≡ p
    pub begun : begun_at s first p ≡ done x u
    pub ends : ends_statement u.token ≡ true
    pub no_colon : is_symbol Colon u.token ≡ false

  -- an IF with no ELSE
  pub record Thens (q : ℕ) (c : Formula) (part : Part) (u : Scanned) : Type 0 where
    pub at : q ≡ p
    pub way : Scanned
    pub begun : begun_at s first p ≡ choice c way
    pub goes : part_of s true way.next.0 ≡ good_part part u
    pub no_else : is_keyword Else u.token ≡ false

  -- an IF with its ELSE
  pub record Elses (q : ℕ) (c : Formula) (part other : Part) (u : Scanned) : Type 0 where
    pub at : q ≡ p
    pub way : Scanned
    pub begun : begun_at s first p ≡ choice c way
    pub middle : Scanned
    pub goes : part_of s true way.next.0 ≡ good_part part middle
    pub is_else : is_keyword Else middle.token ≡ true
    pub other_goes : part_of s true middle.next.0 ≡ good_part other u

  -- the last statement, any
  pub data Final (q : ℕ) : Statement → Scanned → Type 0 where
    plain : {x : Statement} {u : Scanned} → Last q x u → Final q x u
    thens : {c : Formula} {part : Part} {u : Scanned} → Thens q c part u → Final q (if_then c part) u
    elses : {c : Formula} {part other : Part} {u : Scanned} → Elses q c part other u → Final q (if_else c part other) u

  abbrev View : PartReading → Type 0
  View bad_part = Unit {0}
  View (good_part (last q x) u) = Final q x u
  View (good_part (more q x rest) u) = More q x rest u

  more_by : (x : Statement) (t : Scanned) → begun_at s first p ≡ done x t → is_symbol Colon t.token ≡ true
      → (r : PartReading) → part_of s false t.next.0 ≡ r → View (mapped_part (more p x) r)
  more_by x t e c bad_part i = tt
  more_by x t e c (good_part rest u) i = record { at = refl; end = t; begun = e; colon = c; goes = i }

  module _ (c : Formula) (t : Scanned) (e : begun_at s first p ≡ choice c t) where
    else_by : (part : Part) (u : Scanned) → part_of s true t.next.0 ≡ good_part part u → is_keyword Else u.token ≡ true
        → (r : PartReading) → part_of s true u.next.0 ≡ r → View (mapped_part (λ other. last p (if_else c part other)) r)
    else_by part u i f bad_part j = tt
    else_by part u i f (good_part other v) j =
        elses (record { at = refl; way = t; begun = e; middle = u; goes = i; is_else = f; other_goes = j })

    branch_by : (r : PartReading) → part_of s true t.next.0 ≡ r → View (branched p c r (λ q. part_of s true q))
    branch_by bad_part i = tt
    branch_by (good_part part u) i =
        by_test (is_keyword Else u.token)
        (λ f. rw f (else_by part u i f (part_of s true u.next.0) refl))
        (λ f. rw f (thens (record { at = refl; way = t; begun = e; goes = i; no_else = f })))

  view_by : (b : Begun) → begun_at s first p ≡ b → View (part_by p (part_of s) b)
  view_by bad e = tt
  view_by (done x t) e =
      by_test (is_symbol Colon t.token)
      (λ c. rw c (more_by x t e c (part_of s false t.next.0) refl))
      λ c. rw c
      (by_test (ends_statement t.token)
      (λ f. rw f (plain (record { at = refl; begun = e; ends = f; no_colon = c })))
      (λ f. rw f tt))
  view_by (choice c t) e = branch_by c t e (part_of s true t.next.0) refl

  view : View (part_of s first p)
  view = rw (unrolled s first p) (view_by (begun_at s first p) refl)

  pub more_view : {q : ℕ} {x : Statement} {rest : Part} {u : Scanned} → part_of s first p ≡ good_part (more q x rest) u → More q x rest u
  more_view e = rw e at view

  pub final_view : {q : ℕ} {x : Statement} {u : Scanned} → part_of s first p ≡ good_part (last q x) u → Final q x u
  final_view e = rw e at view

  -- ---- a statement

  -- what stands there, by the statement
  pub done_view : {x : Statement} {u : Scanned} → begun_at s first p ≡ done x u → Stands s first (start s p) x u
  done_view e = rw e at (begun_seen s first p)

  pub choice_view : {c : Formula} {u : Scanned} → begun_at s first p ≡ choice c u → Chosen s (start s p) c u
  choice_view e = rw e at (begun_seen s first p)

  -- ---- the last statement, by what it is

  pub last_view : {q : ℕ} {x : Statement} {u : Scanned} → parts_within x ≡ [] → part_of s first p ≡ good_part (last q x) u → Last q x u
  unfolding parts_within
  last_view n e = by_final n (final_view e)
    where
      by_final : {q : ℕ} {x : Statement} {u : Scanned} → parts_within x ≡ [] → Final q x u → Last q x u
      by_final n (plain h) = h
      by_final n (thens {c} {part} h) = absurd (has_some part [] (append-nil (parts_of part) ∙ n))
      by_final n (elses {c} {part} {other} h) = absurd (has_some part (parts_of other) n)

  pub then_view : {q : ℕ} {c : Formula} {part : Part} {u : Scanned} → part_of s first p ≡ good_part (last q (if_then c part)) u
      → Thens q c part u
  then_view e = by_final (final_view e)
    where
      by_final : {q : ℕ} {c : Formula} {part : Part} {u : Scanned} → Final q (if_then c part) u → Thens q c part u
      by_final (plain h) = absurd (done_view h.begun)
      by_final (thens h) = h

  pub else_view : {q : ℕ} {c : Formula} {part other : Part} {u : Scanned}
      → part_of s first p ≡ good_part (last q (if_else c part other)) u → Elses q c part other u
  else_view e = by_final (final_view e)
    where
      by_final : {q : ℕ} {c : Formula} {part other : Part} {u : Scanned} → Final q (if_else c part other) u → Elses q c part other u
      by_final (plain h) = absurd (done_view h.begun)
      by_final (elses h) = h

-- ---- the items of a PRINT

-- one more before others
pub record Fronted (i : Item) (x : Items) (all : List Item) (u : Scanned) : Type 0 where
  pub of : List Item
  pub is : all ≡ i ∷ of
  pub from : x ≡ items of u

pub front_view : (i : Item) (x : Items) {is : List Item} {u : Scanned} → with_item i x ≡ items is u → Fronted i x is u
front_view i no_items e = never (cc)
front_view i (items is t) e = record { of = is; is = cc; from = cc }

-- a formula before others
pub record Shown (x : Reading) (go : Scanned → Items) (is : List Item) (u : Scanned) : Type 0 where
  pub of : Formula
  pub at : Scanned
  pub from : x ≡ good of at
  pub shows : Fronted (shown of) (choose (is_separator at.token) (λ _. go at) (λ _. items [] at)) is u

pub shown_view : (x : Reading) (go : Scanned → Items) {is : List Item} {u : Scanned} → after_shown x go ≡ items is u → Shown x go is u
shown_view formulas.bad go e = never (cc)
shown_view (formulas.good f t) go e =
    record { of = f; at = t; from = refl; shows = front_view (shown f) (choose (is_separator t.token) (λ _. go t) (λ _. items [] t)) e }

module _ (s : List ℕ) (t : Scanned) {is : List Item} {u : Scanned} (e : items_of s t ≡ items is u) where
  pub comma_view : is_symbol Comma t.token ≡ true → Fronted comma (items_of s (after s t)) is u
  comma_view a = front_view comma (items_of s (after s t)) (rw (items_unrolled s t, a) at e)

  module _ (a : is_symbol Comma t.token ≡ false) where
    pub semicolon_view : is_symbol Semicolon t.token ≡ true → Fronted semicolon (items_of s (after s t)) is u
    semicolon_view b = front_view semicolon (items_of s (after s t)) (rw (items_unrolled s t, a, b) at e)

    module _ (b : is_symbol Semicolon t.token ≡ false) where
      -- no more
      pub none_view : ends_statement t.token ≡ true → (is ≡ []) × (u ≡ t)
      none_view c = let h = rw (items_unrolled s t, a, b, c) at e in (cc, cc)

      pub show_view : ends_statement t.token ≡ false → Shown (formula_of s t) (λ v. items_of s v) is u
      show_view c = shown_view (formula_of s t) (λ v. items_of s v) (rw (items_unrolled s t, a, b, c) at e)
