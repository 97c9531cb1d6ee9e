-- Pairs by nesting: one statement more, and what a walk has ahead.
use Rattle.std.specs.Prelude.{None, Option, Some, ℕ}
use mathlib.Core.Path.{◌≡◌, sym, ◌∙◌, ap}
use mathlib.Core.List.{List, [], ◌∷◌}
use Prim.Native.Nat.{ℕ, zero, suc, ◌+◌, ◌-◌, ◌≤◌}
use native.Mathlib.Numerals.{add-one}
use native.Mathlib.Omega.{arith}
use Rattle.whole.proofs.Never.{never}
use Rattle.words.specs.declared.symbols.Token.TheVariants.{Keyword}
use Rattle.words.specs.declared.symbols.Word.{Word}
use Rattle.words.proofs.Choices.{by_test}
use Rattle.loader.proofs.Rising.{recipe}
use Rattle.grammar.specs.Tests.{is_keyword}
use Rattle.grammar.specs.Trees.{Statement, Part}
use Rattle.machine.specs.bridge.Holding.{body_of}
use Rattle.statements.specs.declared.leading.Lead.{Lead}
use Rattle.statements.specs.Parts.{head_of}
use Rattle.machine.specs.Order as order
use Rattle.machine.specs.Order.{Stand, Partner, some, partner, pairs_by}
use Rattle.order.specs.bridge.Walking.{lines_from, Ahead, lead_at, Walks, Walking, left_of, bracket_of, marked_by, counted_by, PartnerAs}
use Rattle.order.specs.declared.partners.Bracket.{Bracket}
use Rattle.order.specs.declared.partners.Bracket.TheVariants.{Opens, Closes, Neither}
use Rattle.order.specs.declared.texts.Spot.{Spot}
use Rattle.order.proofs.Texting.{here_ahead, told, left_here, not_over, parting}
use Rattle.order.proofs.Words.{WordedAs, part_led}

-- ---- one statement more

-- it is the partner, or so many wait and the others decide
abbrev Decided : (Statement → order.Bracket) → Option ℕ → ℕ → Stand → List Stand → Type 0
Decided test None k x xs = partner test k (x ∷ xs) ≡ some x
Decided test (Some n) k x xs = partner test n xs ≡ partner test k (x ∷ xs)

decided_by : (test : Statement → order.Bracket) (b : Bracket) (k : ℕ) (x : Stand) (xs : List Stand) → bracket_of b ≡ test (head_of x.part)
    → Decided test (counted_by b k) k x xs
unfolding partner
decided_by test Opens k x xs e = rw (← e, add-one)
decided_by test Closes zero x xs e = rw (← e)
decided_by test Closes (suc k) x xs e = rw (← e)
decided_by test Neither k x xs e = rw (← e)

-- the search so far: from where the walk is, with so many waiting, the partner is this
pub record Seeking (text : List ℕ) (test : Statement → order.Bracket) (w : Option Spot) (k : ℕ) (goal : Partner) : Type 0 where
  pub xs : List Stand
  pub walks : Walks text w xs
  pub same : partner test k xs ≡ goal

pub seeking_over : {text : List ℕ} {test : Statement → order.Bracket} {k : ℕ} {goal : Partner} → Seeking text test None k goal → PartnerAs text None goal
unfolding partner
seeking_over {text} {test} {k} s = rw (sym s.same ∙ ap (partner test k) s.walks) tt

-- the statement at a spot, and the others
pub record Met (text : List ℕ) (test : Statement → order.Bracket) (spot : Spot) (k : ℕ) (goal : Partner) : Type 0 where
  pub x : Stand
  pub xs : List Stand
  pub ahead : Ahead text spot (x ∷ xs)
  pub same : partner test k (x ∷ xs) ≡ goal

met_by : {text : List ℕ} {test : Statement → order.Bracket} {spot : Spot} {k : ℕ} {goal : Partner} (xs : List Stand) → Ahead text spot xs
    → partner test k xs ≡ goal → Met text test spot k goal
met_by [] a e = absurd (not_over a)
met_by (x ∷ xs) a e = record { x = x; xs = xs; ahead = a; same = e }

pub met : {text : List ℕ} {test : Statement → order.Bracket} {spot : Spot} {k : ℕ} {goal : Partner} → Seeking text test (Some spot) k goal
    → Met text test spot k goal
met s = met_by s.xs s.walks s.same

module _ {text : List ℕ} {test : Statement → order.Bracket} {spot : Spot} {k : ℕ} {goal : Partner} (m : Met text test spot k goal)
    (b : Bracket) (is : bracket_of b ≡ test (head_of m.x.part)) where
  pub met_here : None ≡ counted_by b k → PartnerAs text (Some spot) goal
  met_here e =
      let d : partner test k (m.x ∷ m.xs) ≡ some m.x = rw (← e) at (decided_by test b k m.x m.xs is) in
      rw (sym m.same ∙ d) (record { rest = m.xs; ahead = m.ahead })

  pub met_still : {n : ℕ} {w : Option Spot} → Some n ≡ counted_by b k → Walks text w m.xs → Seeking text test w n goal
  met_still {n} e w =
      let d : partner test n m.xs ≡ partner test k (m.x ∷ m.xs) = rw (← e) at (decided_by test b k m.x m.xs is) in
      record { xs = m.xs; walks = w; same = d ∙ m.same }

-- ---- what a walk has ahead

-- at a spot there is one
pub record Whereat (text : List ℕ) (spot : Spot) : Type 0 where
  pub x : Stand
  pub xs : List Stand
  pub ahead : Ahead text spot (x ∷ xs)

whereat_by : {text : List ℕ} {spot : Spot} (xs : List Stand) → Ahead text spot xs → Whereat text spot
whereat_by [] a = absurd (not_over a)
whereat_by (x ∷ xs) a = record { x = x; xs = xs; ahead = a }

pub whereat : {text : List ℕ} {spot : Spot} → Walking text (Some spot) → Whereat text spot
whereat w = whereat_by w.xs w.walks

-- where some wait, one that closes leaves one less
pub closes_some : (k : ℕ) → 1 ≤ k → Some (k - 1) ≡ counted_by Closes k
closes_some zero h = absurd (omega arith)
closes_some (suc k) h = let e : suc k - 1 ≡ k = omega arith in rw e

-- one more waits at most
pub still_few : (b : Bracket) (k n : ℕ) → Some n ≡ counted_by b k → n ≤ k + 1
still_few Opens k n e = let h : n ≡ k + 1 = cc in omega (arith, h)
still_few Closes zero n e = never (cc)
still_few Closes (suc k) n e = let h : n ≡ k = cc in omega (arith, h)
still_few Neither k n e = let h : n ≡ k = cc in omega (arith, h)

-- little is left of a text that loads
pub left_few : (text : List ℕ) (w : Option Spot) (xs : List Stand) → Walks text w xs → left_of text w ≤ 16909312
left_few text (Some spot) xs a =
    let l = left_here (here_ahead a) spot.at in
    let r = recipe text a.loads in
    omega (arith, l, r.short)
left_few text None xs a = omega arith

-- so two words mark the statements that they lead
marks_by : (first second : Word) (l : Option Lead) (q : Part) → WordedAs l q → bracket_of (marked_by first second l) ≡ pairs_by first second (head_of q)
marks_by first second None q h = absurd h
marks_by first second (Some lead) q h =
    by_test (is_keyword first (Keyword lead.word)) (λ f. rw (h, f)) λ f.
    by_test (is_keyword second (Keyword lead.word)) (λ g. rw (h, f, g)) (λ g. rw (h, f, g))

pub spot_marked : {text : List ℕ} {spot : Spot} {x : Stand} {xs : List Stand} (first second : Word) → Ahead text spot (x ∷ xs)
    → bracket_of (marked_by first second (lead_at text spot)) ≡ pairs_by first second (head_of x.part)
spot_marked {text} {spot} {x} first second a =
    let p = parting a in
    let t = told (here_ahead a) in
    let l = part_led (body_of (lines_from text spot)) spot.at.0 p.first p.end (rw t.body at p.reads) in
    rw p.is (marks_by first second (lead_at text spot) p.first l)
