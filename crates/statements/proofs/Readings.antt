-- What the answers to formulas make of the statements that hold them: assignment, IF, FOR and LINE INPUT.
use Rattle.std.specs.Prelude.{Option, Some, None}
use mathlib.Core.Path.{◌≡◌, refl, sym, ap}
use mathlib.Core.Bool.{Bool, true, false, ◌&&◌, and-true}
use mathlib.Core.List.{List, []}
use Prim.Native.Nat.{ℕ, max}
use native.Mathlib.Nat.{max-zero}
use Rattle.whole.proofs.Never.{never}
use Rattle.words.specs.declared.symbols.Scanned.{Scanned}
use Rattle.words.specs.declared.symbols.Sign.TheVariants.{Semicolon}
use Rattle.grammar.specs.Tests.{is_symbol}
use Rattle.grammar.specs.Trees.{Formula, number, Variable, assign, for, while}
use Rattle.grammar.specs.Formulas as formulas
use Rattle.grammar.specs.Formulas.{Reading, after, quoted_bytes}
use Rattle.expressions.specs.Types.{sort_of, depth_of}
use Rattle.statements.specs.Statements.{done, choice, target_at, input_at}
use Rattle.expressions.specs.Types.{is_whole, is_of}
use Rattle.statements.specs.Parts.{is_number, deepest}
use Rattle.statements.specs.bridge.Answers.{fits, known_sort, is_quoted, formed_read, bound_by, bound_of, begun_answer}
use Rattle.expressions.specs.bridge.Answers.{capped_depth}
use Rattle.expressions.specs.declared.sorts.Sort.{Sort}
use Rattle.statements.specs.declared.reading.Bound.{Bound}
use Rattle.statements.specs.declared.reading.StatementRead.{StatementRead}
use Rattle.statements.specs.declared.reading.StatementRead.TheVariants as statement
use Rattle.expressions.proofs.Answering.{capped_max, max_assoc}
use Rattle.statements.proofs.Findings.{by_text}
use Rattle.statements.proofs.Known.{known, wrong_kind, fits-max, three_apart}

-- ---- what each statement makes of a formula that was read

module _ (f : Formula) (t : Scanned) {k : Sort} {d : ℕ} (sort : k ≡ known_sort f) (deep : d ≡ capped_depth (depth_of f)) where
  pub assigned : (v : Variable) {typed : Bool} → typed ≡ is_of v.kind k → Some (formed_read t d typed) ≡ begun_answer (done (assign v f) t)
  unfolding deepest
  assigned v h = rw (max-zero (depth_of f), deep, h, sort, known (is_of v.kind) (wrong_kind v.kind) f)

  pub repeated : {typed : Bool} → typed ≡ is_whole k → Some (formed_read t d typed) ≡ begun_answer (done (while f) t)
  unfolding deepest
  repeated h = rw (max-zero (depth_of f), deep, h, sort, known is_whole refl f)

  pub chosen : {typed : Bool} → typed ≡ is_whole k
      → Some (statement.Choice (record { ahead = t; deepest = d; typed = typed; names = None })) ≡ begun_answer (choice f t)
  chosen h = rw (deep, h, sort, known is_whole refl f)

  pub bound_good : (depth : ℕ) (before : Bool) {e : ℕ} {here typed : Bool} → e ≡ max depth d → here ≡ is_whole k → typed ≡ (before && here)
      → Some (bound_by t e typed) ≡ bound_of (formulas.good f t) depth before
  bound_good depth before g h l = rw (g, l, h, deep, sort)

-- ---- the formulas of a FOR

pub record Bounded (x : Reading) (depth : ℕ) (typed : Bool) (t : Scanned) (d : ℕ) (k : Bool) : Type 0 where
  pub f : Formula
  pub is : x ≡ formulas.good f t
  pub deep : d ≡ max depth (capped_depth (depth_of f))
  pub whole : k ≡ (typed && is_whole (known_sort f))

pub bounded : (x : Reading) (depth : ℕ) (typed : Bool) {a : Option Bound} {b : Bound}
    → a ≡ bound_of x depth typed → a ≡ Some b → Bounded x depth typed b.ahead b.deepest b.typed
bounded formulas.bad depth typed e g = never (cc)
bounded (formulas.good f u) depth typed {b = b} e g =
    let h : bound_by u (max depth (capped_depth (depth_of f))) (typed && is_whole (known_sort f)) ≡ b = cc in
    record {
      f = f;
      is = ap (λ (q : Bound). formulas.good f q.ahead) h;
      deep = sym (ap (λ (q : Bound). q.deepest) h);
      whole = sym (ap (λ (q : Bound). q.typed) h);
    }

pub not_bounded : (x : Reading) (depth : ℕ) (typed : Bool) {a : Option Bound} → a ≡ bound_of x depth typed → a ≡ None → x ≡ formulas.bad
not_bounded formulas.bad depth typed e g = refl
not_bounded (formulas.good f u) depth typed e g = cc

-- depths and types come together one after the other
three_deep : (a b c : ℕ) → capped_depth (max a (max b (max c 0))) ≡ max (max (capped_depth a) (capped_depth b)) (capped_depth c)
three_deep a b c = rw (max-zero c, capped_max a (max b c), capped_max b c) (max_assoc (capped_depth a) (capped_depth b) (capped_depth c))

pub bound_same : (x : Reading) {b : Option Bound} {d e : ℕ} {k l : Bool} → d ≡ e → k ≡ l → b ≡ bound_of x d k → b ≡ bound_of x e l
bound_same x p q h = rw (← p, ← q) h

for_typed : (v : Variable) (from to by : Formula)
    → (((is_number v && is_whole (known_sort from)) && is_whole (known_sort to)) && is_whole (known_sort by))
    ≡ (fits (max (depth_of from) (max (depth_of to) (max (depth_of by) 0)))
    && (is_number v && (is_whole (sort_of from) && (is_whole (sort_of to) && is_whole (sort_of by)))))
for_typed v from to by =
    rw (max-zero (depth_of by), fits-max (depth_of from) (max (depth_of to) (depth_of by)), fits-max (depth_of to) (depth_of by), known is_whole refl from, known is_whole refl to, known is_whole refl by)
    (three_apart (is_number v) (fits (depth_of from)) (fits (depth_of to)) (fits (depth_of by)) (is_whole (sort_of from)) (is_whole (sort_of to)) (is_whole (sort_of by)))

module _ (v : Variable) (from to : Formula) (t : Scanned) {d : ℕ} {k : Bool}
    (deep : d ≡ max (capped_depth (depth_of from)) (capped_depth (depth_of to)))
    (whole : k ≡ ((is_number v && is_whole (known_sort from)) && is_whole (known_sort to))) where
  pub stepped : (by : Formula) {e : ℕ} {l : Bool} → e ≡ max d (capped_depth (depth_of by)) → l ≡ (k && is_whole (known_sort by))
      → Some (formed_read t e l) ≡ begun_answer (done (for v from to by) t)
  unfolding deepest
  stepped by g h =
      rw (three_deep (depth_of from) (depth_of to) (depth_of by), g, h, deep, whole) (ap (λ k. Some (formed_read t (max (max (capped_depth (depth_of from)) (capped_depth (depth_of to))) (capped_depth (depth_of by))) k)) (for_typed v from to by))

  -- by 1 where no step stands
  pub stepless : Some (formed_read t d k) ≡ begun_answer (done (for v from to (number 1)) t)
  unfolding depth_of sort_of
  stepless = stepped (number 1) (sym (max-zero d)) (sym (and-true k))

-- ---- LINE INPUT

module _ (s : List ℕ) (t : Scanned) where
  pub input_bare : {r : Option StatementRead} → is_quoted t.token ≡ false → r ≡ begun_answer (target_at s [] t) → r ≡ begun_answer (input_at s t)
  unfolding input_at
  input_bare {r} e h = by_text (λ b. r ≡ begun_answer b) t.token _ _ (λ q f a. cc) (λ f. h)

  pub input_stops : is_quoted t.token ≡ true → is_symbol Semicolon (after s t).token ≡ false → None ≡ begun_answer (input_at s t)
  unfolding input_at
  input_stops e g = by_text (λ b. None ≡ begun_answer b) t.token _ _ (λ q f a. rw g) (λ f. cc)

  -- whichever text it prints first
  pub input_text : {r : Option StatementRead} → is_quoted t.token ≡ true → is_symbol Semicolon (after s t).token ≡ true
      → ((text : List ℕ) → r ≡ begun_answer (target_at s text (after s (after s t)))) → r ≡ begun_answer (input_at s t)
  unfolding input_at
  input_text {r} e g h = by_text (λ b. r ≡ begun_answer b) t.token _ _ (λ q f a. rw g (h (quoted_bytes s q))) (λ f. cc)

-- ---- any statement, by its first token
