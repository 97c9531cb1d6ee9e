-- Laws of text order for those who reason about runs: places rise, what holds of all statements of a line holds of all statements of
-- each part that begins in it, a partner is one of the statements searched, and pairs nest.
use Rattle.std.specs.Prelude.{Some}
use mathlib.Core.Path.{◌≡◌, refl, sym, ◌∙◌, ap}
use mathlib.Core.Bool.{true}
use mathlib.Core.List.{List, [], ◌∷◌, ◌++◌}
use Prim.Native.Nat.{ℕ, zero, suc, ◌+◌}
use native.Mathlib.Omega.{arith}
use lib.Dec.{ltb}
use Rattle.whole.proofs.Never.{never}
use Rattle.words.specs.declared.symbols.Scanned.{Scanned}
use Rattle.words.proofs.Choices.{by_test}
use Rattle.loader.specs.Lines.{Line, after_number, next_line}
use Rattle.grammar.specs.Trees.{Statement, empty, assign, print, if_then, if_else, goto, gosub, return, for, next, next_of, while, wend, line_input, data_of, read, restore, restore_to, end, stop, remark, Part, last, more}
use Rattle.statements.specs.Parts.{head_of, place_of, parts_of, parts_within, heads, statements_of}
use Rattle.statements.specs.Statements.{good_part, part_of}
use Rattle.statements.proofs.Depths.{heads_append}
use Rattle.reader.specs.Lines.{Judgement, unreadable, too_deep, holds, judgement}
use Rattle.reader.proofs.Judging.{held}
use Rattle.reader.proofs.Visits.{line_onto, visit}
use Rattle.machine.specs.bridge.Holding.{lines_at, body_of}
use Rattle.machine.specs.Order.{beyond, Stand, placed, parts_held, parts_in, stands_in, stands, later, Bracket, opens, closes, neither, Partner, none, some, paired, partner}
use Rattle.order.specs.bridge.Walking.{lines_from, Ahead, Spotted, PartnerAs}
use Rattle.order.specs.declared.texts.Spot.{Spot}
use Rattle.order.proofs.Rising.{Rises, rises, beyond_one, held_rises}
use Rattle.order.proofs.Texting.{body_at, here_ahead, told, later_here, parting}

-- ---- places rise in text order

pub places_rise : (s : List ℕ) (part : Part) → judgement s ≡ holds part → Rises s 0 (parts_of part)
places_rise s part e = rises s (parts_of part) 0 (line_onto s part (held s e))

-- ---- each of some

abbrev pub Every : {A : Type 0} → (A → Type 0) → List A → Type 0
Every P [] = Unit {0}
Every P (x ∷ xs) = P x × Every P xs

module _ {A : Type 0} (P : A → Type 0) where
  pub every_join : (xs ys : List A) → Every P xs → Every P ys → Every P (xs ++ ys)
  every_join [] ys a b = b
  every_join (x ∷ xs) ys a b = (a.0, every_join xs ys a.1 b)

  pub every_front : (xs ys : List A) → Every P (xs ++ ys) → Every P xs
  every_front [] ys a = tt
  every_front (x ∷ xs) ys a = (a.0, every_front xs ys a.1)

  pub every_back : (xs ys : List A) → Every P (xs ++ ys) → Every P ys
  every_back [] ys a = a
  every_back (x ∷ xs) ys a = every_back xs ys a.1

-- ---- what holds of all statements of a part holds of all of each part in it

module _ (P : Statement → Type 0) where
  abbrev pub Throughout : Part → Type 0
  Throughout p = Every P (statements_of p)

  -- of parts one after the other
  front : (xs ys : List Part) → Every P (heads (xs ++ ys)) → Every P (heads xs)
  front xs ys a = every_front P (heads xs) (heads ys) (rw (heads_append xs ys) at a)

  back : (xs ys : List Part) → Every P (heads (xs ++ ys)) → Every P (heads ys)
  back xs ys a = every_back P (heads xs) (heads ys) (rw (heads_append xs ys) at a)

  mutual
    unfolding parts_of heads

    pub throughout : (p : Part) → Throughout p → Every Throughout (parts_of p)
    throughout (last q x) a = (a, throughout_within x a.1)
    throughout (more q x r) a = (
      a,
      every_join Throughout (parts_within x) (parts_of r)
          (throughout_within x (front (parts_within x) (parts_of r) a.1))
          (throughout r (back (parts_within x) (parts_of r) a.1)),
    )

    throughout_within : (x : Statement) → Every P (heads (parts_within x)) → Every Throughout (parts_within x)
    throughout_within empty a = tt
    throughout_within (assign v f) a = tt
    throughout_within (print is) a = tt
    throughout_within (if_then c p) a = throughout p a
    throughout_within (if_else c p q) a =
        every_join Throughout (parts_of p) (parts_of q)
        (throughout p (front (parts_of p) (parts_of q) a))
        (throughout q (back (parts_of p) (parts_of q) a))
    throughout_within (goto l) a = tt
    throughout_within (gosub l) a = tt
    throughout_within return a = tt
    throughout_within (for v from to by) a = tt
    throughout_within next a = tt
    throughout_within (next_of v) a = tt
    throughout_within (while c) a = tt
    throughout_within wend a = tt
    throughout_within (line_input t v) a = tt
    throughout_within (data_of l) a = tt
    throughout_within (read vs) a = tt
    throughout_within restore a = tt
    throughout_within (restore_to l) a = tt
    throughout_within end a = tt
    throughout_within stop a = tt
    throughout_within remark a = tt

-- ---- so what holds of all statements of the lines that read holds of all statements of each that stands in them

module _ (P : Statement → Type 0) where
  abbrev pub StandThroughout : Stand → Type 0
  StandThroughout x = Throughout P x.part

  -- of each of some lines that reads and does not nest too deep
  abbrev pub LinesThroughout : List Line → Type 0
  LinesThroughout [] = Unit {0}
  LinesThroughout (l ∷ ls) = ((part : Part) → judgement (after_number l) ≡ holds part → Throughout P part) × LinesThroughout ls

  held_throughout : (g : Judgement) → ((part : Part) → g ≡ holds part → Throughout P part) → Every (Throughout P) (parts_held g)
  held_throughout unreadable h = tt
  held_throughout too_deep h = tt
  held_throughout (holds part) h = throughout P part (h part refl)

  in_throughout : (ls : List Line) → LinesThroughout ls → Every (Throughout P) (parts_in ls)
  in_throughout [] h = tt
  in_throughout (l ∷ ls) h = held_throughout (judgement (after_number l)) h.0

  placed_throughout : (ls : List Line) (ps : List Part) → Every (Throughout P) ps → Every StandThroughout (placed ls ps)
  unfolding placed
  placed_throughout ls [] h = tt
  placed_throughout ls (p ∷ ps) h = (h.0, placed_throughout ls ps h.1)

  beyond_throughout : (at : ℕ) (ps : List Part) → Every (Throughout P) ps → Every (Throughout P) (beyond at ps)
  unfolding beyond
  beyond_throughout at [] h = tt
  beyond_throughout at (p ∷ ps) h =
      by_test (ltb at (place_of p)) (λ t. rw t (h.0, beyond_throughout at ps h.1)) (λ t. rw t (beyond_throughout at ps h.1))

  pub stands_throughout : (ls : List Line) → LinesThroughout ls → Every StandThroughout (stands ls)
  unfolding stands
  stands_throughout [] h = tt
  stands_throughout (l ∷ ls) h =
      every_join StandThroughout (stands_in (l ∷ ls)) (stands ls)
      (placed_throughout (l ∷ ls) (parts_in (l ∷ ls)) (in_throughout (l ∷ ls) h)) (stands_throughout ls h.1)

  next_throughout : (ls : List Line) → LinesThroughout ls → Every StandThroughout (stands (next_line ls))
  unfolding stands
  next_throughout [] h = tt
  next_throughout (l ∷ ls) h = stands_throughout ls h.1

  pub later_throughout : (at : ℕ) (ls : List Line) → LinesThroughout ls → Every StandThroughout (later at ls)
  unfolding later
  later_throughout at ls h =
      every_join StandThroughout (placed ls (beyond at (parts_in ls))) (stands (next_line ls))
      (placed_throughout ls (beyond at (parts_in ls)) (beyond_throughout at (parts_in ls) (in_throughout ls h))) (next_throughout ls h)

-- ---- and what holds of some lines and of all after each of them holds of the lines of each that stands in them

module _ (P : List Line → Type 0) (after : (l : Line) (ls : List Line) → P (l ∷ ls) → P ls) where
  placed_lines : (ls : List Line) (ps : List Part) → P ls → Every (λ x. P x.lines) (placed ls ps)
  unfolding placed
  placed_lines ls [] h = tt
  placed_lines ls (p ∷ ps) h = (h, placed_lines ls ps h)

  stands_lines : (ls : List Line) → P ls → Every (λ x. P x.lines) (stands ls)
  unfolding stands
  stands_lines [] h = tt
  stands_lines (l ∷ ls) h =
      every_join (λ x. P x.lines) (stands_in (l ∷ ls)) (stands ls) (placed_lines (l ∷ ls) (parts_in (l ∷ ls)) h) (stands_lines ls (after l ls h))

  next_lines : (ls : List Line) → P ls → Every (λ x. P x.lines) (stands (next_line ls))
  unfolding stands
  next_lines [] h = tt
  next_lines (l ∷ ls) h = stands_lines ls (after l ls h)

  pub later_lines : (at : ℕ) (ls : List Line) → P ls → Every (λ x. P x.lines) (later at ls)
  unfolding later
  later_lines at ls h =
      every_join (λ x. P x.lines) (placed ls (beyond at (parts_in ls))) (stands (next_line ls))
      (placed_lines ls (beyond at (parts_in ls)) h) (next_lines ls h)

-- ---- a partner is one of the statements searched

one_by : (P : Stand → Type 0) (y x : Stand) (go : ℕ → Partner) → P y → ((n : ℕ) → go n ≡ some x → P x) → (b : Bracket) (k : ℕ)
    → paired b k y go ≡ some x → P x
one_by P y x go own others opens k e = others (suc k) e
one_by P y x go own others closes zero e = let f : y ≡ x = cc in rw (← f) own
one_by P y x go own others closes (suc k) e = others k e
one_by P y x go own others neither k e = others k e

module _ (P : Stand → Type 0) (test : Statement → Bracket) where
  pub partner_one : (k : ℕ) (xs : List Stand) → Every P xs → (x : Stand) → partner test k xs ≡ some x → P x
  unfolding partner
  partner_one k [] a x e = never (cc)
  partner_one k (y ∷ ys) a x e =
      one_by P y x (λ n. partner test n ys) a.0 (λ n f. partner_one n ys a.1 x f) (test (head_of y.part)) k e

-- and closes

closes_by : (test : Statement → Bracket) (y x : Stand) (go : ℕ → Partner) → ((n : ℕ) → go n ≡ some x → test (head_of x.part) ≡ closes)
    → (b : Bracket) (k : ℕ) → test (head_of y.part) ≡ b → paired b k y go ≡ some x → test (head_of x.part) ≡ closes
closes_by test y x go others opens k b e = others (suc k) e
closes_by test y x go others closes zero b e = let f : y ≡ x = cc in rw (← f) b
closes_by test y x go others closes (suc k) b e = others k e
closes_by test y x go others neither k b e = others k e

pub partner-closes : (test : Statement → Bracket) (k : ℕ) (xs : List Stand) (x : Stand) → partner test k xs ≡ some x → test (head_of x.part) ≡ closes
unfolding partner
partner-closes test k [] x e = never (cc)
partner-closes test k (y ∷ ys) x e =
    closes_by test y x (λ n. partner test n ys) (λ n f. partner-closes test n ys x f) (test (head_of y.part)) k refl e

-- ---- pairs nest

abbrev paired_past : Bracket → ℕ → List Stand → (ℕ → List Stand) → List Stand
paired_past opens k xs go = go (suc k)
paired_past closes zero xs go = xs
paired_past closes (suc k) xs go = go k
paired_past neither k xs go = go k

-- those after the partner
unfoldable pub past_partner : (Statement → Bracket) → ℕ → List Stand → List Stand
past_partner test k [] = []
past_partner test k (x ∷ xs) = paired_past (test (head_of x.part)) k xs (λ n. past_partner test n xs)

nests_by : (x : Stand) (xs : List Stand) (go : ℕ → Partner) (past : ℕ → List Stand) (find : List Stand → Partner) (k : ℕ)
    → ((m : ℕ) → m ≡ k → go m ≡ find xs) → ((n m : ℕ) → m ≡ n + k + 1 → go m ≡ find (past n)) → (b : Bracket) (n m : ℕ)
    → m ≡ n + k + 1 → paired b m x go ≡ find (paired_past b n xs past)
nests_by x xs go past find k here on opens n m e = on (suc n) (suc m) (omega arith)
nests_by x xs go past find k here on closes n zero e = absurd (omega arith)
nests_by x xs go past find k here on closes zero (suc m) e = here m (omega arith)
nests_by x xs go past find k here on closes (suc n) (suc m) e = on n m (omega arith)
nests_by x xs go past find k here on neither n m e = on n m e

-- what waits longer is closed by a statement past the one that closes what waits less long: so no two that open have one partner
pub pairs_nest : (test : Statement → Bracket) (k : ℕ) (xs : List Stand) (n m : ℕ) → m ≡ n + k + 1
    → partner test m xs ≡ partner test k (past_partner test n xs)
unfolding partner past_partner
pairs_nest test k [] n m e = refl
pairs_nest test k (x ∷ xs) n m e =
    nests_by x xs (λ i. partner test i xs) (λ i. past_partner test i xs) (partner test k) k (λ i f. ap (λ j. partner test j xs) f)
    (λ i j f. pairs_nest test k xs i j f) (test (head_of x.part)) n m e

-- ---- past a spot are those later than its place

pub ahead_later : {text : List ℕ} {spot : Spot} {x : Stand} {xs : List Stand} → Ahead text spot (x ∷ xs) → xs ≡ later spot.at.0 (lines_from text spot)
ahead_later {text} {spot} a =
    let p = parting a in
    let s = body_at text spot.line in
    let v = visit s spot.at.0 p.onto refl refl in
    let e : v.own ≡ p.first = cc v.all in
    let q : place_of p.first ≡ spot.at.0 = sym (ap place_of e) ∙ v.at in
    let r = rw p.whole at (held_rises s (judgement s) refl) in
    let b = rw q at (beyond_one s 0 p.before p.first p.others r) in
    p.rest
    ∙ sym (later_here (here_ahead a) spot.at.0
    ∙ ap (λ ys. placed (lines_from text spot) ys ++ stands (lines_at text spot.line.next.0)) (ap (beyond spot.at.0) p.whole ∙ b))

-- ---- a stand by its spot

-- its line, its place, and the part that reads there
pub record StandHere (text : List ℕ) (spot : Spot) (x : Stand) : Type 0 where
  pub lines : x.lines ≡ lines_from text spot
  pub at : place_of x.part ≡ spot.at.0
  pub end : Scanned
  pub reads : part_of (body_of (lines_from text spot)) true spot.at.0 ≡ good_part x.part end

pub stand_here : {text : List ℕ} {spot : Spot} {x : Stand} {xs : List Stand} → Ahead text spot (x ∷ xs) → StandHere text spot x
stand_here {text} {spot} a =
    let p = parting a in
    let t = told (here_ahead a) in
    let v = visit (body_at text spot.line) spot.at.0 p.onto refl refl in
    let e : v.own ≡ p.first = cc v.all in
    rw p.is (record { lines = refl; at = sym (ap place_of e) ∙ v.at; end = p.end; reads = rw t.body at p.reads })

-- ---- from a spot on there are just these

pub ahead_unique : {text : List ℕ} {spot : Spot} {x y : Stand} {xs ys : List Stand} → Ahead text spot (x ∷ xs) → Ahead text spot (y ∷ ys)
    → (x ≡ y) × (xs ≡ ys)
ahead_unique {text} {spot} a b =
    let p = parting a in
    let q = parting b in
    let e : p.first ≡ q.first = cc (sym p.reads ∙ q.reads) in
    (p.is ∙ ap (λ f. record { lines = lines_from text spot; part = f }) e ∙ sym q.is, ahead_later a ∙ sym (ahead_later b))

-- ---- a partner that was found is a statement of the text

pub spot_of : {text : List ℕ} {spot : Spot} (p : Partner) → PartnerAs text (Some spot) p → Spotted text spot
spot_of none h = absurd h
spot_of (some x) h = record { xs = x ∷ h.rest; ahead = h.ahead }
