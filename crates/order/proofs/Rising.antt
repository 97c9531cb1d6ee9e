-- Places rise in text order, so those beyond a place are the last of a line.
use Rattle.std.specs.Prelude.{None, Option, Some}
use mathlib.Core.Path.{◌≡◌, refl, sym, ◌∙◌, ap}
use mathlib.Core.Logic.{⊎_elim}
use mathlib.Core.Bool.{true}
use mathlib.Core.List.{List, [], ◌∷◌, ◌++◌}
use Prim.Native.Nat.{ℕ, ◌+◌, ◌≤◌, ◌<◌}
use native.Mathlib.Omega.{arith}
use borrow.Author.Tests.{lt-ltb, le-ltb}
use Rattle.whole.proofs.Numbers.{less}
use Rattle.words.specs.Places.{place}
use Rattle.words.specs.declared.symbols.Scanned.{Scanned}
use Rattle.words.specs.declared.symbols.Sign.TheVariants.{Colon}
use Rattle.words.specs.declared.symbols.Word.TheVariants.{Else}
use Rattle.words.proofs.Choices.{by_test}
use Rattle.scanner.specs.Tokens as scan
use Rattle.scanner.specs.Tokens.{token_at}
use Rattle.scanner.proofs.Ends.{token_ends}
use Rattle.grammar.specs.Tests.{is_symbol, is_keyword, ends_line}
use Rattle.grammar.specs.Trees.{Part}
use Rattle.skimming.specs.bridge.Remaining.{weight}
use Rattle.skimming.proofs.Weights.{symbol_reads, keyword_reads}
use Rattle.statements.specs.Statements.{Begun, bad, done, choice, begun_at}
use Rattle.statements.specs.bridge.Answers.{begun_answer}
use Rattle.statements.specs.Parts.{place_of, parts_of}
use Rattle.statements.proofs.Beginning as beginning
use Rattle.statements.proofs.Beginning.{begun_within}
use Rattle.statements.proofs.Parts.{weight_at}
use Rattle.reader.specs.Lines.{Judgement, unreadable, too_deep, holds, judgement}
use Rattle.reader.specs.bridge.Walking.{follows_done, follow_of, start_of, Onto, StartsAs}
use Rattle.reader.specs.declared.walking.Follow.{Follow}
use Rattle.reader.specs.declared.walking.Follow.TheVariants as follow
use Rattle.machine.specs.Order.{beyond, parts_held}
use Rattle.reader.proofs.Judging.{held}
use Rattle.reader.proofs.Visits.{visit, line_onto}

module _ (s : List ℕ) where
  -- ---- places rise

  -- what follows a statement stands after it
  abbrev Beyond : ℕ → Option Follow → Type 0
  Beyond p (Some (follow.Statement q)) = p < q.0
  Beyond p (Some (follow.Part q)) = p < q.0
  Beyond p (Some (follow.Else q)) = p < q.0
  Beyond p (Some follow.End) = Unit {0}
  Beyond p None = Unit {0}

  token_beyond : (p : ℕ) (t : Scanned) → scan.reads t.token ≡ true → weight s t ≤ weight_at s p → p < t.next.0
  unfolding weight
  token_beyond p t r h =
      let e = token_ends s (place p) in
      by_test (scan.reads (token_at s (place p)).token)
      (λ f. let k = rw (r, f) at h in omega (arith, e.past f, e.within, k))
      (λ f. let k = rw (r, f) at h in absurd (omega (arith, k)))

  done_beyond : (p : ℕ) (t : Scanned) → weight s t ≤ weight_at s p → Beyond p (follows_done t)
  done_beyond p t h =
      by_test (is_symbol Colon t.token) (λ e. rw e (token_beyond p t (symbol_reads Colon t.token e) h)) λ e.
      by_test (is_keyword Else t.token) (λ f. rw (e, f) (token_beyond p t (keyword_reads Else t.token f) h)) λ f.
      by_test (ends_line t.token) (λ g. rw (e, f, g) tt) (λ g. rw (e, f, g) tt)

  beyond_by : (p : ℕ) (b : Begun) → beginning.Within s (weight_at s p) b → Beyond p (follow_of (begun_answer b))
  beyond_by p bad h = tt
  beyond_by p (done x t) h = done_beyond p t h
  beyond_by p (choice c t) h = token_beyond p t h.0 h.1

  -- rising places, the first not below one
  abbrev pub Rises : ℕ → List Part → Type 0
  Rises low [] = Unit {0}
  Rises low (x ∷ xs) = (low ≤ place_of x) × Rises (place_of x + 1) xs

  rises_lower : (low high : ℕ) (xs : List Part) → low ≤ high → Rises high xs → Rises low xs
  rises_lower low high [] h r = tt
  rises_lower low high (x ∷ xs) h r = (omega (arith, r.0), r.1)

  next_rises : (p : ℕ) (f : Option Follow) (xs : List Part) → ((q : ℕ) → Onto s q xs → Rises q xs) → Beyond p f → StartsAs s (start_of f) xs → Rises (p + 1) xs
  next_rises p (Some (follow.Statement q)) xs go b o = rises_lower (p + 1) q.0 xs (omega (arith, b)) (go q.0 o)
  next_rises p (Some (follow.Part q)) xs go b o = rises_lower (p + 1) q.0 xs (omega (arith, b)) (go q.0 o)
  next_rises p (Some (follow.Else q)) xs go b o = rises_lower (p + 1) q.0 xs (omega (arith, b)) (go q.0 o)
  next_rises p (Some follow.End) xs go b o = rw o tt
  next_rises p None xs go b o = rw o tt

  -- the statements from a place on rise from it
  pub rises : (xs : List Part) (p : ℕ) → Onto s p xs → Rises p xs
  rises [] p o = tt
  rises (x ∷ xs) p o =
      let v = visit s p o refl refl in
      let e : v.own ≡ x = cc v.all in
      let l : v.left ≡ xs = cc v.all in
      let a : place_of x ≡ p = sym (ap place_of e) ∙ v.at in
      rw a
      (omega arith, next_rises p (follow_of (begun_answer (begun_at s true p))) xs (λ q. rises xs q) (beyond_by p (begun_at s true p) (begun_within s true p)) (rw l at v.on))

  -- ---- those beyond a place

  pub beyond_all : (at low : ℕ) (xs : List Part) → at < low → Rises low xs → beyond at xs ≡ xs
  unfolding beyond
  beyond_all at low [] h r = refl
  beyond_all at low (x ∷ xs) h r =
      rw (lt-ltb at (place_of x) (omega (arith, r.0)), beyond_all at (place_of x + 1) xs (omega (arith, r.0)) r.1)

  beyond_skip : (at : ℕ) (x : Part) (xs : List Part) → place_of x ≤ at → beyond at (x ∷ xs) ≡ beyond at xs
  unfolding beyond
  beyond_skip at x xs h = rw (le-ltb at (place_of x) h)

  -- so they are the last of them
  pub record Last (at : ℕ) (xs : List Part) : Type 0 where
    pub front : List Part
    pub is : xs ≡ front ++ beyond at xs

  pub beyond_last : (at low : ℕ) (xs : List Part) → Rises low xs → Last at xs
  unfolding beyond
  beyond_last at low [] r = record { front = []; is = refl }
  beyond_last at low (x ∷ xs) r =
      ⊎_elim
      (λ h. record { front = []; is = sym (beyond_all at (place_of x) (x ∷ xs) h (omega arith, r.1)) })
      (λ h. let l = beyond_last at (place_of x + 1) xs r.1 in
      record { front = x ∷ l.front; is = ap (λ ys. x ∷ ys) l.is ∙ ap (λ ys. (x ∷ l.front) ++ ys) (sym (beyond_skip at x xs h)) })
      (less at (place_of x))

  -- past some of them they are no lower
  rises_past : (low : ℕ) (front : List Part) (x : Part) (xs : List Part) → Rises low (front ++ (x ∷ xs)) → low ≤ place_of x
  rises_past low [] x xs r = r.0
  rises_past low (y ∷ ys) x xs r = let h = rises_past (place_of y + 1) ys x xs r.1 in omega (arith, r.0, h)

  -- beyond the place of one of them are those after it
  pub beyond_one : (low : ℕ) (front : List Part) (x : Part) (xs : List Part) → Rises low (front ++ (x ∷ xs)) → beyond (place_of x) (front ++ (x ∷ xs)) ≡ xs
  beyond_one low [] x xs r =
      beyond_skip (place_of x) x xs (omega arith) ∙ beyond_all (place_of x) (place_of x + 1) xs (omega arith) r.1
  beyond_one low (y ∷ ys) x xs r =
      let h = rises_past (place_of y + 1) ys x xs r.1 in
      beyond_skip (place_of x) y (ys ++ (x ∷ xs)) (omega (arith, h)) ∙ beyond_one (place_of y + 1) ys x xs r.1

  pub held_rises : (g : Judgement) → judgement s ≡ g → Rises 0 (parts_held g)
  held_rises unreadable e = tt
  held_rises too_deep e = tt
  held_rises (holds part) e = rises (parts_of part) 0 (line_onto s part (held s e))

  -- the search for the first of them: of those from a place on these are beyond the one that is sought
  pub record Seeks (at p : ℕ) (goal : List Part) : Type 0 where
    xs : List Part
    onto : Onto s p xs
    same : beyond at xs ≡ goal

  pub seeks_first : (at : ℕ) (part : Part) → judgement s ≡ holds part → Seeks at 0 (beyond at (parts_of part))
  seeks_first at part e = record { xs = parts_of part; onto = line_onto s part (held s e); same = refl }

  pub seeks_here : {at p : ℕ} {goal : List Part} → Seeks at p goal → at < p → Onto s p goal
  seeks_here {at} {p} {goal} k h =
      let e = beyond_all at p k.xs h (rises k.xs p k.onto) in
      rw (sym e ∙ k.same) at k.onto

  -- of those past the first the same are beyond a place that is not before it
  pub record SeeksOn (at p : ℕ) (goal : List Part) : Type 0 where
    pub first : Part
    pub others : List Part
    pub onto : Onto s p (first ∷ others)
    pub same : beyond at others ≡ goal

  pub seeks_on : {at p : ℕ} {goal : List Part} → Seeks at p goal → p ≤ at → SeeksOn at p goal
  seeks_on {at} {p} k h =
      let v = visit s p k.onto refl refl in
      record {
        first = v.own;
        others = v.left;
        onto = rw v.all at k.onto;
        same = sym (beyond_skip at v.own v.left (omega (arith, v.at))) ∙ ap (beyond at) (sym v.all) ∙ k.same;
      }

  pub seeks_end : {at p : ℕ} {goal : List Part} (k : SeeksOn at p goal) → k.others ≡ [] → goal ≡ []
  unfolding beyond
  seeks_end {at} k e = sym k.same ∙ ap (beyond at) e

  pub seeks_next : {at p q : ℕ} {goal : List Part} (k : SeeksOn at p goal) → Onto s q k.others → Seeks at q goal
  seeks_next k o = record { xs = k.others; onto = o; same = k.same }
