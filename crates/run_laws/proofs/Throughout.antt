-- What holds of each statement as it is read holds of all statements of a line.
use mathlib.Core.Path.{◌≡◌}
use mathlib.Core.Bool.{Bool, true, false}
use mathlib.Core.List.{List, []}
use Prim.Native.Nat.{ℕ, zero, suc}
use Rattle.words.specs.declared.symbols.Scanned.{Scanned}
use Rattle.words.specs.declared.symbols.Sign.TheVariants.{Colon}
use Rattle.words.specs.declared.symbols.Word.TheVariants.{Else}
use Rattle.words.proofs.Choices.{by_test}
use Rattle.grammar.specs.Tests.{is_symbol, is_keyword, ends_statement, ends_line}
use Rattle.grammar.specs.Trees.{Formula, Statement, if_then, if_else, Part, last, more}
use Rattle.grammar.specs.Formulas.{enough}
use Rattle.statements.specs.Statements.{Begun, bad, done, choice, begun_at, PartReading, bad_part, good_part, mapped_part, following, branched, part_at, reads, whole, read_line}
use Rattle.statements.specs.Parts.{parts_of, parts_within, heads, statements_of}
use Rattle.statements.proofs.Beginning.{Alone, begun_alone}
use Rattle.statements.proofs.Depths.{heads_append}
use Rattle.statements.proofs.Parts.{part_by}
use Rattle.reader.specs.Lines.{holds, judgement}
use Rattle.reader.proofs.Judging.{held}
use Rattle.order.proofs.Laws.{every_join, Throughout}
use Rattle.whole.proofs.Never.{never}

module _ (Q : Statement → Type 0) where
  -- of what a statement begins as; of an IF, whatever its parts are
  abbrev pub Begins : Begun → Type 0
  Begins bad = Unit {0}
  Begins (done x u) = Q x
  Begins (choice c u) = ((p : Part) → Q (if_then c p)) × ((p q : Part) → Q (if_else c p q))

  abbrev PartRead : PartReading → Type 0
  PartRead bad_part = Unit {0}
  PartRead (good_part p u) = Throughout Q p

  module _ (p : ℕ) (go : Bool → ℕ → PartReading) (each : (f : Bool) (q : ℕ) → PartRead (go f q)) where
    -- a statement that has no parts, and what follows it
    more_read : (x : Statement) (r : PartReading) → parts_within x ≡ [] → Q x → PartRead r → PartRead (mapped_part (more p x) r)
    unfolding parts_of heads
    more_read x bad_part e q h = tt
    more_read x (good_part part u) e q h = rw e (q, h)

    done_read : (x : Statement) (t : Scanned) → parts_within x ≡ [] → Q x → PartRead (following p x t (λ q. go false q))
    unfolding parts_of heads
    done_read x t e q =
        by_test (is_symbol Colon t.token)
        (λ f. rw f (more_read x (go false t.next.0) e q (each false t.next.0)))
        (λ f. rw f (by_test (ends_statement t.token) (λ g. rw g (rw e (q, tt))) (λ g. rw g tt)))

    -- an IF and its parts
    else_read : (c : Formula) (part : Part) (r : PartReading) → ((x y : Part) → Q (if_else c x y)) → Throughout Q part → PartRead r
        → PartRead (mapped_part (λ other. last p (if_else c part other)) r)
    unfolding parts_of heads
    else_read c part bad_part q h k = tt
    else_read c part (good_part other u) q h k =
        (q part other, rw (heads_append (parts_of part) (parts_of other)) (every_join Q (statements_of part) (statements_of other) h k))

    choice_read : (c : Formula) (r : PartReading) → ((x : Part) → Q (if_then c x)) → ((x y : Part) → Q (if_else c x y)) → PartRead r
        → PartRead (branched p c r (λ q. go true q))
    unfolding parts_of heads
    choice_read c bad_part q₁ q₂ h = tt
    choice_read c (good_part part t) q₁ q₂ h =
        by_test (is_keyword Else t.token)
        (λ e. rw e (else_read c part (go true t.next.0) q₂ h (each true t.next.0)))
        (λ e. rw e (q₁ part, h))

    begun_read : (b : Begun) → Begins b → Alone b → PartRead (part_by p go b)
    begun_read bad h a = tt
    begun_read (done x u) h a = done_read x u a h
    begun_read (choice c u) h a = choice_read c (go true u.next.0) h.0 h.1 (each true u.next.0)

  module _ (s : List ℕ) (each : (first : Bool) (p : ℕ) → Begins (begun_at s first p)) where
    part_read : (n : ℕ) (first : Bool) (p : ℕ) → PartRead (part_at n s first p)
    unfolding part_at
    part_read zero first p = tt
    part_read (suc n) first p = begun_read p (part_at n s) (λ f q. part_read n f q) (begun_at s first p) (each first p) (begun_alone s first p)

    whole_read : (r : PartReading) (p : Part) → PartRead r → whole r ≡ reads p → Throughout Q p
    whole_read bad_part p h e = never (cc)
    whole_read (good_part part u) p h e =
        by_test (ends_line u.token)
        (λ f. let g : reads part ≡ reads p = rw f at e in let same : part ≡ p = cc in rw (← same) h)
        (λ f. let g = rw f at e in never (cc))

    pub line_throughout : (p : Part) → judgement s ≡ holds p → Throughout Q p
    unfolding read_line
    line_throughout p e = whole_read (part_at (enough s) s false 0) p (part_read (enough s) false 0) (held s e)
