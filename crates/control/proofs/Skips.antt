-- A body that is skipped: the NEXT of its FOR, what that names, and where the run goes on.
use Rattle.std.specs.Prelude.{None, Some, Option}
use mathlib.Core.Path.{◌≡◌, refl}
use mathlib.Core.Bool.{true, false, false≢true}
use mathlib.Core.List.{List, ◌∷◌}
use Prim.Native.Nat.{ℕ}
use Rattle.whole.proofs.Never.{never}
use Rattle.whole.specs.declared.errors.Error.TheVariants.{ForWithoutNext}
use Rattle.words.specs.Names.{Telling}
use Rattle.words.specs.declared.symbols.Scanned.{Scanned}
use Rattle.words.specs.declared.symbols.Token.{Token}
use Rattle.words.specs.declared.symbols.Token.TheVariants.{EndOfLine, Keyword, Not, Infix, Call, Named, Number, Hexadecimal, LineOnly, Quoted, Symbol, Unreadable}
use Rattle.words.specs.declared.symbols.Word.{Word}
use Rattle.words.specs.declared.symbols.Word.TheVariants.{For, Next}
use Rattle.words.proofs.Choices.{by_test}
use Rattle.loader.specs.Lines.{Line}
use Rattle.grammar.specs.Formulas.{after}
use Rattle.grammar.specs.Tests.{on_name}
use Rattle.grammar.specs.Trees as tree
use Rattle.grammar.specs.Trees.{Statement, Part, last, more}
use Rattle.statements.specs.Parts.{head_of}
use Rattle.statements.specs.Statements.{done, variable_of, by_word, begun_by, begun_at, good_part, part_of, led_by}
use Rattle.statements.specs.declared.leading.Lead.{Lead}
use Rattle.statements.proofs.Views.{Final, plain, thens, elses, more_view, final_view}
use Rattle.machine.specs.Machine as spec
use Rattle.machine.specs.bridge.Holding.{body_of}
use Rattle.machine.specs.declared.positions.Next as code
use Rattle.machine.specs.declared.positions.Next.TheVariants as next
use Rattle.machine.specs.Order.{Stand, later, Partner, none, some, closes, word_of, is_led, pairs_by, next_for}
use Rattle.order.specs.bridge.Walking.{lines_from, Ahead, lead_at, PartnerAs}
use Rattle.order.specs.declared.texts.Spot.{Spot}
use Rattle.order.proofs.Laws.{stand_here, partner-closes}
use Rattle.order.proofs.Words.{WordedAs, part_led}
use Rattle.turns.specs.Steps.{names_other, skipped}
use Rattle.turns.specs.bridge.Turns.{Comes}
use Rattle.control.specs.bridge.Skipping.{other_named, other_led, PastNext, Skips}

-- ---- what a NEXT names, by how it is led

module _ (s : List ℕ) (name : Telling) where
  module _ (t : Scanned) {x : Statement} {u : Scanned} where
    by_token : (k : Token) → on_name k (λ v. done (tree.next_of (variable_of s v)) (after s t)) (done tree.next t) ≡ done x u
        → on_name k (λ v. other_named s name v) false ≡ names_other name x
    by_token (Named v) e = let f : tree.next_of (variable_of s v) ≡ x = cc in rw (← f)
    by_token EndOfLine e = let f : tree.next ≡ x = cc in rw (← f)
    by_token (Keyword w) e = let f : tree.next ≡ x = cc in rw (← f)
    by_token Not e = let f : tree.next ≡ x = cc in rw (← f)
    by_token (Infix op) e = let f : tree.next ≡ x = cc in rw (← f)
    by_token (Call g) e = let f : tree.next ≡ x = cc in rw (← f)
    by_token (Number n) e = let f : tree.next ≡ x = cc in rw (← f)
    by_token (Hexadecimal n) e = let f : tree.next ≡ x = cc in rw (← f)
    by_token (LineOnly l) e = let f : tree.next ≡ x = cc in rw (← f)
    by_token (Quoted q) e = let f : tree.next ≡ x = cc in rw (← f)
    by_token (Symbol g) e = let f : tree.next ≡ x = cc in rw (← f)
    by_token Unreadable e = let f : tree.next ≡ x = cc in rw (← f)

    next_names : by_word s Next t ≡ done x u → other_led s name (led_by Next t) ≡ names_other name x
    next_names e = by_token t.token e

  by_statement : (x : Statement) {w : Word} (t : Scanned) {u : Scanned} → word_of x ≡ w → by_word s w t ≡ done x u → is_led Next x ≡ true
      → other_led s name (led_by w t) ≡ names_other name x
  by_statement tree.next t e b n = next_names t (rw (← e) at b)
  by_statement (tree.next_of v) t e b n = next_names t (rw (← e) at b)
  by_statement tree.empty t e b n = absurd (false≢true n)
  by_statement (tree.assign v f) t e b n = absurd (false≢true n)
  by_statement (tree.print is) t e b n = absurd (false≢true n)
  by_statement (tree.if_then c p) t e b n = absurd (false≢true n)
  by_statement (tree.if_else c p q) t e b n = absurd (false≢true n)
  by_statement (tree.goto l) t e b n = absurd (false≢true n)
  by_statement (tree.gosub l) t e b n = absurd (false≢true n)
  by_statement tree.return t e b n = absurd (false≢true n)
  by_statement (tree.for v from to by) t e b n = absurd (false≢true n)
  by_statement (tree.while c) t e b n = absurd (false≢true n)
  by_statement tree.wend t e b n = absurd (false≢true n)
  by_statement (tree.line_input text v) t e b n = absurd (false≢true n)
  by_statement (tree.data_of l) t e b n = absurd (false≢true n)
  by_statement (tree.read vs) t e b n = absurd (false≢true n)
  by_statement tree.restore t e b n = absurd (false≢true n)
  by_statement (tree.restore_to l) t e b n = absurd (false≢true n)
  by_statement tree.end t e b n = absurd (false≢true n)
  by_statement tree.stop t e b n = absurd (false≢true n)
  by_statement tree.remark t e b n = absurd (false≢true n)

  by_lead : (l : Option Lead) (q : Part) {u : Scanned} → WordedAs l q → begun_by s l ≡ done (head_of q) u → is_led Next (head_of q) ≡ true
      → other_led s name l ≡ names_other name (head_of q)
  by_lead None q w b n = absurd w
  by_lead (Some lead) q e b n = by_statement (head_of q) lead.ahead e b n

-- a part that a NEXT begins has it first
record Led (s : List ℕ) (p : ℕ) (x : Statement) : Type 0 where
  end : Scanned
  is : begun_at s true p ≡ done x end

module _ (s : List ℕ) (p : ℕ) where
  led_last : {q : ℕ} {x : Statement} {u : Scanned} → Final s true p q x u → is_led Next x ≡ true → Led s p x
  led_last {u = u} (plain f) n = record { end = u; is = f.begun }
  led_last (thens f) n = absurd (false≢true n)
  led_last (elses f) n = absurd (false≢true n)

  led_part : (q : Part) {u : Scanned} → part_of s true p ≡ good_part q u → is_led Next (head_of q) ≡ true → Led s p (head_of q)
  led_part (last q x) e n = led_last (final_view s true p e) n
  led_part (more q x rest) e n = let f = more_view s true p e in record { end = f.end; is = f.begun }

pub spot_names : {text : List ℕ} {spot : Spot} {x : Stand} {xs : List Stand} (name : Telling) → Ahead text spot (x ∷ xs)
    → is_led Next (head_of x.part) ≡ true
    → other_led (body_of (lines_from text spot)) name (lead_at text spot) ≡ names_other name (head_of x.part)
unfolding begun_at
spot_names {text} {spot} {x} name a n =
    let h = stand_here a in
    let s = body_of (lines_from text spot) in
    let l = led_part s spot.at.0 x.part h.reads n in
    by_lead s name (lead_at text spot) x.part (part_led s spot.at.0 x.part h.end h.reads) l.is n

-- ---- the partner of a FOR

closes_next : (x : Statement) → pairs_by For Next x ≡ closes → is_led Next x ≡ true
closes_next x e =
    by_test (is_led For x) (λ f. let g = rw f at e in never (cc)) λ f.
    by_test (is_led Next x) (λ n. n) (λ n. let g = rw (f, n) at e in never (cc))

module _ (text : List ℕ) (name : Telling) where
  pub skips_none : (p : Partner) → PartnerAs text None p → Skips text name (next.Fails ForWithoutNext) p
  skips_none none h = refl
  skips_none (some x) h = absurd h

  pub skips_past : (r : code.Next) {spot : Spot} (at : ℕ) (lines : List Line) (p : Partner) → next_for at lines ≡ p → PartnerAs text (Some spot) p
      → ((x : Stand) (xs : List Stand) → Ahead text spot (x ∷ xs) → is_led Next (head_of x.part) ≡ true → PastNext text name r x)
      → Skips text name r p
  skips_past r at lines none e h k = absurd h
  skips_past r at lines (some x) e h k =
      k x h.rest h.ahead (closes_next (head_of x.part) (partner-closes (pairs_by For Next) 0 (later at lines) x e))

  -- so the run goes on where the definition does
  past_comes : (x : Stand) (r : code.Next) {n : spec.Machine} (same : spec.Machine → Type 0) → PastNext text name r x → same n
      → Comes text r (skipped name (some x) n) same
  past_comes x r {n} same h s =
      by_test (names_other name (head_of x.part))
      (λ o. let e = rw o at h in rw (o, e) (refl, s))
      (λ o. let g = rw o at h in rw (o, g.is) (g.placed, (g.there, s)))

  pub skip_comes : (p : Partner) (r : code.Next) {n : spec.Machine} (same : spec.Machine → Type 0) → Skips text name r p → same n
      → Comes text r (skipped name p n) same
  skip_comes none r same h s = rw h (refl, s)
  skip_comes (some x) r same h s = past_comes x r same h s
