-- The statements of a line that reads, one after the other in text order.
use Rattle.std.specs.Prelude.{Option, None, Some}
use Rattle.words.specs.declared.places.Place.{Place}
use mathlib.Core.Path.{◌≡◌, refl, sym, ◌∙◌, ap}
use mathlib.Core.Bool.{true, false, false≢true}
use mathlib.Core.List.{List, [], ◌∷◌, ◌++◌, append-nil}
use Prim.Native.Nat.{ℕ, zero, suc}
use Rattle.whole.proofs.Never.{never}
use Rattle.words.specs.declared.symbols.Scanned.{Scanned}
use Rattle.words.specs.declared.symbols.Word.TheVariants.{Else}
use Rattle.words.proofs.Choices.{by_test}
use Rattle.grammar.specs.Tests.{is_keyword, ends_line}
use Rattle.grammar.specs.Trees.{Part, last, more}
use Rattle.grammar.proofs.Endings.{else_goes_on}
use Rattle.statements.specs.Parts.{head_of, place_of, parts_of, parts_within}
use Rattle.statements.specs.Statements.{begun_at, PartReading, bad_part, good_part, reads, read_line, part_of}
use Rattle.statements.specs.bridge.Answers.{begun_answer}
use Rattle.statements.specs.declared.reading.StatementRead.{StatementRead}
use Rattle.statements.proofs.Firsts.{true_part}
use Rattle.statements.proofs.Parts.{weight_at}
use Rattle.statements.proofs.Views.{line_view}
use Rattle.reader.specs.bridge.Walking.{follow_of, start_of, onward_of, over, Visited, stuck, visited, ahead, rest_at, resume, walk_from, walk_on, Onto, StartsAs, Further}
use Rattle.reader.specs.declared.walking.Follow.{Follow}
use Rattle.reader.specs.declared.walking.Follow.TheVariants as follow
use Rattle.reader.proofs.Walks.{Itself, stepped, Lighter, follow_lighter}

-- ---- a line, from its start on

line_ends : (s : List ℕ) (p : Part) (t : Scanned) → ends_line t.token ≡ true → resume s 0 (good_part p t) ≡ visited (parts_of p) over
unfolding rest_at
line_ends s p t e =
    by_test (is_keyword Else t.token)
    (λ f. absurd (false≢true (sym (else_goes_on t.token f) ∙ e)))
    (λ f. rw (f, e, append-nil))

pub line_onto : (s : List ℕ) (p : Part) → read_line s ≡ reads p → Onto s 0 (parts_of p)
line_onto s p e =
    let v = line_view s e in
    record { waiting = 0; visits = ap (resume s 0) (true_part s 0 v.from) ∙ line_ends s p v.end v.ends }

-- ---- one statement

-- a part is the first of those that its statements begin
record First (p : Part) : Type 0 where
  others : List Part
  is : parts_of p ≡ p ∷ others

first : (p : Part) → First p
unfolding parts_of
first (last q x) = record { others = parts_within x; is = refl }
first (more q x r) = record { others = parts_within x ++ parts_of r; is = refl }

-- what a walk has, after the first
record Behind (own : Part) (xs : List Part) (v : Visited) : Type 0 where
  left : List Part
  is : v ≡ visited left over
  all : xs ≡ own ∷ left

behind : (own : Part) (xs : List Part) (v : Visited) → ahead (own ∷ []) v ≡ visited xs over → Behind own xs v
behind own xs stuck e = never (cc)
behind own xs (visited ys f) e = record { left = ys; is = cc; all = cc }

-- where it reads on, a line number may begin the statement or not
true_walk : (s : List ℕ) (k q : ℕ) {xs : List Part} (r : PartReading) → part_of s false q ≡ r → resume s k r ≡ visited xs over → Onto s q xs
true_walk s k q bad_part e h = never (cc)
true_walk s k q (good_part p t) e h = record { waiting = k; visits = ap (resume s k) (true_part s q e) ∙ h }

starts_by : (s : List ℕ) (k : ℕ) (f : Option Follow) {xs : List Part} → walk_on s (onward_of k f) ≡ visited xs over → StartsAs s (start_of f) xs
starts_by s k (Some (follow.Statement q)) e = true_walk s k q.0 (part_of s false q.0) refl e
starts_by s k (Some (follow.Part q)) e = record { waiting = suc k; visits = e }
starts_by s zero (Some (follow.Else q)) e = never (cc)
starts_by s (suc k) (Some (follow.Else q)) e = record { waiting = k; visits = e }
starts_by s k (Some follow.End) e = cc
starts_by s k None e = never (cc)

-- the part that the statement at a place begins, and those after it
pub record Visit (s : List ℕ) (p : ℕ) (next : Option Place) (xs : List Part) : Type 0 where
  pub own : Part
  pub left : List Part
  pub all : xs ≡ own ∷ left
  pub at : place_of own ≡ p
  pub end : Scanned
  pub reads : part_of s true p ≡ good_part own end
  pub itself : Itself (begun_at s true p) (head_of own)
  pub on : StartsAs s next left

module _ (s : List ℕ) (p k : ℕ) {xs : List Part} where
  read_as : (own : Part) (left : List Part) (r : PartReading) → part_of s true p ≡ r → resume s k r ≡ visited xs over → xs ≡ own ∷ left
      → (end : Scanned) × (part_of s true p ≡ good_part own end)
  read_as own left bad_part e h i = never (cc)
  read_as own left (good_part q t) e h i = (t, e ∙ ap (λ x. good_part x t) (same (rest_at s k t) h))
    where
      same : (v : Visited) → ahead (parts_of q) v ≡ visited xs over → q ≡ own
      same stuck h = never (cc)
      same (visited ys f) h = let g : xs ≡ parts_of q ++ ys = cc in let z = rw (first q).is at g in cc

  visit_by : walk_from s true k p ≡ visited xs over → Visit s p (start_of (follow_of (begun_answer (begun_at s true p)))) xs
  visit_by h =
      let f = follow_of (begun_answer (begun_at s true p)) in
      let w = stepped s true k p refl refl in
      let b = behind w.own xs (walk_on s (onward_of k f)) (sym w.is ∙ h) in
      let r = read_as w.own b.left (part_of s true p) refl h b.all in
      record {
        own = w.own;
        left = b.left;
        all = b.all;
        at = w.at;
        end = r.0;
        reads = r.1;
        itself = w.itself;
        on = starts_by s k f b.is;
      }

pub visit : (s : List ℕ) (p : ℕ) {xs : List Part} {read : Option StatementRead} {next : Option Place} → Onto s p xs → read ≡ begun_answer (begun_at s true p)
    → next ≡ start_of (follow_of read) → Visit s p next xs
visit s p o e i = rw (i, e) (visit_by s p o.waiting o.visits)

-- less is left to read
further_by : (s : List ℕ) (p : ℕ) (f : Option Follow) → Lighter s (weight_at s p) f → Further s p (start_of f)
further_by s p (Some (follow.Statement q)) h = h
further_by s p (Some (follow.Part q)) h = h
further_by s p (Some (follow.Else q)) h = h
further_by s p (Some follow.End) h = tt
further_by s p None h = tt

pub further : (s : List ℕ) (p : ℕ) {read : Option StatementRead} {next : Option Place} → read ≡ begun_answer (begun_at s true p) → next ≡ start_of (follow_of read)
    → Further s p next
further s p e i = rw (i, e) (further_by s p (follow_of (begun_answer (begun_at s true p))) (follow_lighter s true p))
