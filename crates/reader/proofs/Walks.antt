-- The walk over a line, statement by statement in text order, visits just the parts that the statements of the line begin. One law, over
-- any line, read or not, and whatever IFs wait; who walks asks of each statement what it needs.
use Rattle.std.specs.Prelude.{None, Option, Some}
use mathlib.Core.Path.{◌≡◌, refl, sym, ◌∙◌, ap}
use mathlib.Core.Bool.{Bool, true, false}
use mathlib.Core.List.{List, [], ◌∷◌, ◌++◌, append_assoc}
use Prim.Native.Nat.{ℕ, zero, suc, ◌+◌, ◌-◌, ◌*◌, ◌≤◌}
use native.Mathlib.Omega.{arith}
use Rattle.words.specs.declared.places.Place.{Place}
use Rattle.words.specs.declared.symbols.Scanned.{Scanned}
use Rattle.words.specs.declared.symbols.Sign.TheVariants.{Colon}
use Rattle.words.specs.declared.symbols.Word.TheVariants.{Else}
use Rattle.words.proofs.Choices.{by_test}
use Rattle.grammar.specs.Tests.{is_symbol, is_keyword, ends_line}
use Rattle.grammar.specs.Trees.{Formula, Statement, empty, if_then, if_else, Part, last, more}
use Rattle.grammar.proofs.Endings.{statement_ends, else_goes_on}
use Rattle.expressions.specs.Types.{is_whole, sort_of}
use Rattle.skimming.specs.bridge.Remaining.{weight}
use Rattle.skimming.proofs.Weights.{symbol_reads, keyword_reads}
use Rattle.statements.specs.Parts.{formulas_of, rightly_typed, named_line, head_of, place_of, parts_of, parts_within}
use Rattle.statements.specs.Statements.{Begun, bad, done, choice, begun_at, PartReading, bad_part, good_part, mapped_part, following, branched, part_of}
use Rattle.statements.specs.bridge.Answers.{begun_answer}
use Rattle.statements.specs.declared.reading.StatementRead.{StatementRead}
use Rattle.statements.proofs.Parts.{weight_at, next_lighter, part_by, unrolled}
use Rattle.statements.proofs.Beginning.{Within, begun_within, Alone, begun_alone}
use Rattle.reader.specs.bridge.Walking.{follows_done, follow_of, onward_of, Visited, stuck, visited, ahead, end_at, rest_at, resume, walk_from, walk_on}
use Rattle.reader.specs.declared.walking.Follow.{Follow}
use Rattle.reader.specs.declared.walking.Follow.TheVariants as follow
use Rattle.reader.specs.declared.walking.Onward.{Onward}
use Rattle.reader.specs.declared.walking.Onward.TheVariants as onward

pub ahead_twice : (xs ys : List Part) (v : Visited) → ahead (xs ++ ys) v ≡ ahead xs (ahead ys v)
ahead_twice xs ys stuck = refl
ahead_twice xs ys (visited zs e) = ap (λ l. visited l e) (append_assoc xs ys zs)

-- what the statement that a walk comes to is by itself
abbrev pub Itself : Begun → Statement → Type 0
Itself bad x = Unit {0}
Itself (done y t) x = x ≡ y
Itself (choice c t) x = (formulas_of x ≡ c ∷ []) × ((rightly_typed x ≡ is_whole (sort_of c)) × (named_line x ≡ None))

-- a walk over what was read comes to one part, and goes on
record Fronted (p : ℕ) (b : Begun) (from onto : Visited) : Type 0 where
  own : Part
  is : from ≡ ahead (own ∷ []) onto
  at : place_of own ≡ p
  itself : Itself b (head_of own)

-- the token that ends a part: ELSE, or the line's end
rest_else : (s : List ℕ) (k : ℕ) (t : Scanned) → is_keyword Else t.token ≡ true → rest_at s k t ≡ walk_on s (onward_of k (Some (follow.Else t.next)))
unfolding rest_at
rest_else s zero t e = rw e
rest_else s (suc k) t e = rw e

rest_ends : (s : List ℕ) (k : ℕ) (t : Scanned) → is_keyword Else t.token ≡ false → rest_at s k t ≡ end_at t
unfolding rest_at
rest_ends s zero t e = refl
rest_ends s (suc k) t e = rw e

module _ (s : List ℕ) (k : ℕ) where
  -- one that is done, and what follows it
  module _ (p : ℕ) (x : Statement) (alone : parts_within x ≡ []) where
    more_fronted : (t : Scanned) (r : PartReading) → Fronted p (done x t) (resume s k (mapped_part (more p x) r)) (resume s k r)
    unfolding parts_of
    more_fronted t bad_part = record { own = last p x; is = refl; at = refl; itself = refl }
    more_fronted t (good_part rest u) =
        record { own = more p x rest; is = rw alone (ahead_twice (more p x rest ∷ []) (parts_of rest) (rest_at s k u)); at = refl; itself = refl }

    last_fronted : (t : Scanned) {v : Visited} → rest_at s k t ≡ v → Fronted p (done x t) (resume s k (good_part (last p x) t)) v
    unfolding parts_of
    last_fronted t e = record { own = last p x; is = rw alone (ap (ahead (last p x ∷ [])) e); at = refl; itself = refl }

    done_fronted : (t : Scanned) → Fronted p (done x t) (resume s k (following p x t (λ q. part_of s false q))) (walk_on s (onward_of k (follows_done t)))
    done_fronted t =
        by_test (is_symbol Colon t.token) (λ e. rw e (more_fronted t (part_of s false t.next.0))) λ e.
        by_test (is_keyword Else t.token)
        (λ f. rw (statement_ends, e, else_goes_on t.token f, f) (last_fronted t (rest_else s k t f)))
        λ f.
        by_test (ends_line t.token)
        (λ g. rw (statement_ends, e, f, g) (last_fronted t (rest_ends s k t f ∙ rw (f, g))))
        (λ g. rw (statement_ends, e, f, g) (record { own = last p x; is = refl; at = refl; itself = refl }))

  -- an IF: one more waits for its ELSE
  module _ (p : ℕ) (c : Formula) (t : Scanned) where
    else_fronted : (r : Part) (o : PartReading)
        → Fronted p (choice c t) (resume s k (mapped_part (λ other. last p (if_else c r other)) o)) (ahead (parts_of r) (resume s k o))
    unfolding parts_of
    else_fronted r bad_part = record { own = last p (if_then c r); is = refl; at = refl; itself = (refl, (refl, refl)) }
    else_fronted r (good_part other v) =
        let own = last p (if_else c r other) in
        record {
          own = own;
          is = ahead_twice (own ∷ []) (parts_of r ++ parts_of other) (rest_at s k v)
              ∙ ap (ahead (own ∷ [])) (ahead_twice (parts_of r) (parts_of other) (rest_at s k v));
          at = refl;
          itself = (refl, (refl, refl));
        }

    then_fronted : (r : Part) (u : Scanned) {v : Visited} → rest_at s k u ≡ v
        → Fronted p (choice c t) (resume s k (good_part (last p (if_then c r)) u)) (ahead (parts_of r) v)
    unfolding parts_of
    then_fronted r u {v} e =
        let own = last p (if_then c r) in
        record { own = own; is = ap (ahead (own ∷ parts_of r)) e ∙ ahead_twice (own ∷ []) (parts_of r) v; at = refl; itself = (refl, (refl, refl)) }

    choice_fronted : (r : PartReading) → Fronted p (choice c t) (resume s k (branched p c r (λ q. part_of s true q))) (resume s (suc k) r)
    choice_fronted bad_part = record { own = last p (if_then c (last p empty)); is = refl; at = refl; itself = (refl, (refl, refl)) }
    choice_fronted (good_part r u) =
        by_test (is_keyword Else u.token)
        (λ e. rw (e, rest_else s (suc k) u e) (else_fronted r (part_of s true u.next.0)))
        (λ e. rw e (then_fronted r u (rest_ends s k u e ∙ sym (rest_ends s (suc k) u e))))

  fronted_by : (p : ℕ) (b : Begun) → Alone b → Fronted p b (resume s k (part_by p (part_of s) b)) (walk_on s (onward_of k (follow_of (begun_answer b))))
  fronted_by p bad a = record { own = last p empty; is = refl; at = refl; itself = tt }
  fronted_by p (done x t) a = done_fronted p x a t
  fronted_by p (choice c t) a = choice_fronted p c t (part_of s true t.next.0)

-- from a statement that was read to what the walk comes to after it
pub record Stepped (s : List ℕ) (first : Bool) (k p : ℕ) (o : Option Onward) : Type 0 where
  pub own : Part
  pub is : walk_from s first k p ≡ ahead (own ∷ []) (walk_on s o)
  pub at : place_of own ≡ p
  pub itself : Itself (begun_at s first p) (head_of own)

pub stepped : (s : List ℕ) (first : Bool) (k p : ℕ) {read : Option StatementRead} {o : Option Onward} → read ≡ begun_answer (begun_at s first p)
    → o ≡ onward_of k (follow_of read) → Stepped s first k p o
stepped s first k p e i =
    let f = fronted_by s k p (begun_at s first p) (begun_alone s first p) in
    record { own = f.own; is = rw (i, e) (ap (resume s k) (unrolled s first p) ∙ f.is); at = f.at; itself = f.itself }

-- ---- the walk ends, and few IFs wait

-- what follows weighs less
abbrev pub Lighter : List ℕ → ℕ → Option Follow → Type 0
Lighter s w (Some (follow.Statement q)) = weight_at s q.0 + 4 ≤ w
Lighter s w (Some (follow.Part q)) = weight_at s q.0 + 4 ≤ w
Lighter s w (Some (follow.Else q)) = weight_at s q.0 + 4 ≤ w
Lighter s w (Some follow.End) = Unit {0}
Lighter s w None = Unit {0}

done_lighter : (s : List ℕ) (w : ℕ) (t : Scanned) → weight s t ≤ w → Lighter s w (follows_done t)
done_lighter s w t h =
    by_test (is_symbol Colon t.token) (λ e. rw e (omega (arith, next_lighter s t (symbol_reads Colon t.token e)))) λ e.
    by_test (is_keyword Else t.token) (λ f. rw (e, f) (omega (arith, next_lighter s t (keyword_reads Else t.token f)))) λ f.
    by_test (ends_line t.token) (λ g. rw (e, f, g) tt) (λ g. rw (e, f, g) tt)

lighter_by : (s : List ℕ) (w : ℕ) (b : Begun) → Within s w b → Lighter s w (follow_of (begun_answer b))
lighter_by s w bad h = tt
lighter_by s w (done x t) h = done_lighter s w t h
lighter_by s w (choice c t) h = omega (arith, h.1, next_lighter s t h.0)

pub follow_lighter : (s : List ℕ) (first : Bool) (p : ℕ) → Lighter s (weight_at s p) (follow_of (begun_answer (begun_at s first p)))
follow_lighter s first p = lighter_by s (weight_at s p) (begun_at s first p) (begun_within s first p)

-- and with four for each IF that waits it weighs no more
abbrev pub Fewer : List ℕ → ℕ → ℕ → Option Onward → Type 0
Fewer s k w (Some (onward.Statement o)) = (weight_at s o.at.0 + 4 ≤ w) × (4 * o.waiting + weight_at s o.at.0 ≤ 4 * k + w)
Fewer s k w (Some (onward.Else q)) = Unit {0}
Fewer s k w (Some onward.End) = Unit {0}
Fewer s k w None = Unit {0}

fewer_by : (s : List ℕ) (k w : ℕ) (f : Option Follow) → Lighter s w f → Fewer s k w (onward_of k f)
fewer_by s k w (Some (follow.Statement q)) h = (h, omega arith)
fewer_by s k w (Some (follow.Part q)) h = (h, omega arith)
fewer_by s zero w (Some (follow.Else q)) h = tt
fewer_by s (suc k) w (Some (follow.Else q)) h = (h, omega arith)
fewer_by s k w (Some follow.End) h = tt
fewer_by s k w None h = tt

pub fewer : (s : List ℕ) (first : Bool) (k p : ℕ) {read : Option StatementRead} {o : Option Onward} → read ≡ begun_answer (begun_at s first p)
    → o ≡ onward_of k (follow_of read) → Fewer s k (weight_at s p) o
fewer s first k p e i =
    rw (i, e) (fewer_by s k (weight_at s p) (follow_of (begun_answer (begun_at s first p))) (follow_lighter s first p))

-- ---- the code's count of those that wait

pub else_none : (k : ℕ) (q : Place) → k ≡ 0 → Some (onward.Else q) ≡ onward_of k (Some (follow.Else q))
else_none k q e = rw e

pub else_some : (k : ℕ) (q : Place) → 1 ≤ k → Some (onward.Statement (record { at = q; first = true; waiting = k - 1 })) ≡ onward_of k (Some (follow.Else q))
else_some zero q h = absurd (omega arith)
else_some (suc k) q h = let e : suc k - 1 ≡ k = omega arith in rw e
