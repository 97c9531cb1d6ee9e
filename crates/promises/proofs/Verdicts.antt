-- The check's verdict is its first faulty line's.
use Rattle.std.specs.Prelude.{Err, Ok, Result}
use Rattle.loader.specs.declared.refusals.RefusedAt.{RefusedAt}
use Rattle.loader.specs.Refusals.{refused_at}
use mathlib.Core.Path.{◌≡◌, refl, sym, ap, ◌∙◌}
use mathlib.Core.Bool.{Bool, true, false, cond}
use mathlib.Core.List.{List, [], ◌∷◌, ◌++◌}
use mathlib.Core.Logic.{◌↔◌}
use Prim.Native.Nat.{ℕ}
use Rattle.whole.specs.Digits.{leading_value}
use Rattle.whole.specs.declared.errors.Error.{Error}
use Rattle.whole.specs.declared.errors.Error.TheVariants.{TypeMismatch, UndefinedLine}
use Rattle.words.specs.Places.{line_number}
use Rattle.words.specs.declared.places.LineNumber.{LineNumber}
use Rattle.words.specs.declared.places.Place.{Place}
use Rattle.loader.specs.Lines.{Line, lines_of, after_number}
use Rattle.loader.specs.Loading.{load_of}
use Rattle.loader.specs.declared.refusals.Refusal.{Refusal}
use Rattle.grammar.specs.Trees.{Part}
use Rattle.statements.specs.Parts.{statements_of, all_typed}
use Rattle.reader.specs.Lines as lines
use Rattle.reader.specs.Lines.{Judgement, holds, judgement}
use Rattle.checker.specs.Check.{any_missing, fault_in, or_else, first_fault, check_of}
use Rattle.checker.specs.declared.checking.Fault.{Fault}
use Rattle.checker.specs.declared.checking.Fault.TheVariants.{Refused, Faulty}
use Rattle.promises.specs.Faults.{HasFault, unreadable, too_deep, wrongly_typed, names_missing, Faultless, AllFaultless, FirstFault}
use Rattle.whole.proofs.Never.{never}

-- ---- a line

module _ (all : List Line) (l : Line) where
  -- the fault that the check finds is there,
  same_fault : {d e : Error} → ◌≡◌ {A = Result (Unit {0}) Error} (Err d) (Err e) → HasFault all l d → HasFault all l e
  same_fault {d} {e} h f = let g : e ≡ d = cc in rw g f

  found_in : (p : Part) (typed missing : Bool) → judgement (after_number l) ≡ holds p
      → all_typed (statements_of p) ≡ typed → any_missing all (statements_of p) ≡ missing
      → (e : Error) → ◌≡◌ {A = Result (Unit {0}) Error} (cond typed (cond missing (Err UndefinedLine) (Ok tt)) (Err TypeMismatch)) (Err e)
      → HasFault all l e
  found_in p false missing r t m e h = same_fault h (wrongly_typed r t)
  found_in p true true r t m e h = same_fault h (names_missing r t m)
  found_in p true false r t m e h = never (cc)

  found_fault : (g : Judgement) → judgement (after_number l) ≡ g → (e : Error) → fault_in all g ≡ Err e → HasFault all l e
  found_fault lines.unreadable r e h = same_fault h (unreadable r)
  found_fault lines.too_deep r e h = same_fault h (too_deep r)
  found_fault (holds p) r e h = found_in p _ _ r refl refl e h

  -- and the one that is there is found
  fault_found : (e : Error) → HasFault all l e → fault_in all (judgement (after_number l)) ≡ Err e
  fault_found e (unreadable r) = rw r
  fault_found e (too_deep r) = rw r
  fault_found e (wrongly_typed r t) = rw (r, t)
  fault_found e (names_missing r t m) = rw (r, t, m)

  -- a line without one is sound
  sound_line : (x : Result (Unit {0}) Error) → fault_in all (judgement (after_number l)) ≡ x → Faultless all l → x ≡ Ok tt
  sound_line (Ok _) e h = refl
  sound_line (Err d) e h = absurd (h d (found_fault _ refl d e))

  faultless : fault_in all (judgement (after_number l)) ≡ Ok tt → Faultless all l
  faultless h e f = let g = fault_found e f in never (cc)

-- ---- the lines of a recipe, from one on

-- the first of some lines that has a fault
record First (all ls : List Line) (e : Error) (n : LineNumber) : Type 0 where
  before : List Line
  line : Line
  after : List Line
  lines : ls ≡ before ++ (line ∷ after)
  earlier : AllFaultless all before
  fault : HasFault all line e
  number : line_number (leading_value line.bytes) ≡ n

module _ (all : List Line) where
  first_here : (l : Line) (ls : List Line) {d e : Error} {n : LineNumber} → HasFault all l d
      → ◌≡◌ {A = Result (Unit {0}) Fault} (Err (Faulty d (line_number (leading_value l.bytes)))) (Err (Faulty e n)) → First all (l ∷ ls) e n
  unfolding AllFaultless
  first_here l ls {d} {e} f h =
      let g : e ≡ d = cc in
      record { before = []; line = l; after = ls; lines = refl; earlier = tt; fault = rw g f; number = cc }

  first_later : (l : Line) (ls : List Line) {e : Error} {n : LineNumber} → Faultless all l → First all ls e n → First all (l ∷ ls) e n
  unfolding AllFaultless
  first_later l ls h f =
      record {
        before = l ∷ f.before;
        line = f.line;
        after = f.after;
        lines = ap (l ∷◌) f.lines;
        earlier = (h, f.earlier);
        fault = f.fault;
        number = f.number;
      }

  -- a fault that the check gives is the first,
  gives_first : (ls : List Line) (e : Error) (n : LineNumber) → first_fault all ls ≡ Err (Faulty e n) → First all ls e n
  unfolding first_fault
  gives_first [] e n h = never (cc)
  gives_first (l ∷ ls) e n h = go (fault_in all (judgement (after_number l))) refl h (gives_first ls e n)
    where
      go : (x : Result (Unit {0}) Error) → fault_in all (judgement (after_number l)) ≡ x
          → or_else x (line_number (leading_value l.bytes)) (λ _. first_fault all ls) ≡ Err (Faulty e n)
          → (first_fault all ls ≡ Err (Faulty e n) → First all ls e n) → First all (l ∷ ls) e n
      go (Ok _) r k later = first_later l ls (faultless all l r) (later k)
      go (Err d) r k later = first_here l ls (found_fault all l _ refl d r) k

  -- and the first is given
  first_given : (before : List Line) (l : Line) (after : List Line) (e : Error) → AllFaultless all before → HasFault all l e
      → first_fault all (before ++ (l ∷ after)) ≡ Err (Faulty e (line_number (leading_value l.bytes)))
  unfolding first_fault AllFaultless
  first_given [] l after e h f = rw (fault_found all l e f)
  first_given (b ∷ before) l after e h f = rw (sound_line all b _ refl h.0) (first_given before l after e h.1 f)

  -- none passes, and what passes has none
  passes : (ls : List Line) → first_fault all ls ≡ Ok tt → AllFaultless all ls
  unfolding first_fault AllFaultless
  passes [] h = tt
  passes (l ∷ ls) h = go (fault_in all (judgement (after_number l))) refl h (passes ls)
    where
      go : (x : Result (Unit {0}) Error) → fault_in all (judgement (after_number l)) ≡ x
          → or_else x (line_number (leading_value l.bytes)) (λ _. first_fault all ls) ≡ Ok tt
          → (first_fault all ls ≡ Ok tt → AllFaultless all ls) → Faultless all l × AllFaultless all ls
      go (Ok _) r k later = (faultless all l r, later k)
      go (Err d) r k later = never (cc)

  passed : (ls : List Line) → AllFaultless all ls → first_fault all ls ≡ Ok tt
  unfolding first_fault AllFaultless
  passed [] h = refl
  passed (l ∷ ls) h = rw (sound_line all l _ refl h.0) (passed ls h.1)

  -- it never refuses as loading does
  never_refused : (ls : List Line) (r : Refusal) (p : Place) → first_fault all ls ≡ Err (Refused r p) → ⊥
  unfolding first_fault
  never_refused [] r p h = never (cc)
  never_refused (l ∷ ls) r p h = go (fault_in all (judgement (after_number l))) h (never_refused ls r p)
    where
      go : (x : Result (Unit {0}) Error) → or_else x (line_number (leading_value l.bytes)) (λ _. first_fault all ls) ≡ Err (Refused r p)
          → (first_fault all ls ≡ Err (Refused r p) → ⊥) → ⊥
      go (Ok _) k later = later k
      go (Err d) k later = never (cc)

-- ---- the check

module _ (recipe : List ℕ) where
  pub data CheckView : Type 0 where
    unloaded : (r : Refusal) (p : Place) → load_of recipe ≡ refused_at r p → check_of recipe ≡ Err (Refused r p) → CheckView
    judged : load_of recipe ≡ Ok tt → check_of recipe ≡ first_fault (lines_of recipe) (lines_of recipe) → CheckView

  check_view : CheckView
  unfolding check_of
  check_view = go (load_of recipe) refl
    where
      go : (x : Result (Unit {0}) RefusedAt) → load_of recipe ≡ x → CheckView
      go (Ok _) e = judged e (rw e)
      go (Err x) e = unloaded x.refusal x.place e (rw e)

  faulty_view : (e : Error) (n : LineNumber) → check_of recipe ≡ Err (Faulty e n) → CheckView → (load_of recipe ≡ Ok tt) × FirstFault recipe e n
  faulty_view e n h (unloaded r p l c) = never (cc)
  faulty_view e n h (judged l c) =
      let f = gives_first (lines_of recipe) (lines_of recipe) e n (sym c ∙ h) in (
        l,
        record {
          before = f.before;
          line = f.line;
          after = f.after;
          lines = f.lines;
          earlier = f.earlier;
          fault = f.fault;
          number = f.number;
        },
      )

  -- a fault and a line
  pub faulty_exactly : (e : Error) (n : LineNumber) → (check_of recipe ≡ Err (Faulty e n)) ↔ ((load_of recipe ≡ Ok tt) × FirstFault recipe e n)
  unfolding check_of
  faulty_exactly e n = (
    (λ h. faulty_view e n h check_view),
    (λ h. let f = h.1 in rw (h.0, ← f.number)
        (ap (first_fault (lines_of recipe)) f.lines
        ∙ first_given (lines_of recipe) f.before f.line f.after e f.earlier f.fault)),
  )

  refused_view : (r : Refusal) (p : Place) → check_of recipe ≡ Err (Refused r p) → CheckView → load_of recipe ≡ refused_at r p
  refused_view r p h (unloaded s q l c) = cc
  refused_view r p h (judged l c) = absurd (never_refused (lines_of recipe) (lines_of recipe) r p (sym c ∙ h))

  -- as loading refuses it
  pub refused_exactly : (r : Refusal) (p : Place) → (check_of recipe ≡ Err (Refused r p)) ↔ (load_of recipe ≡ refused_at r p)
  unfolding check_of
  refused_exactly r p = ((λ h. refused_view r p h check_view), (λ h. rw h))

  passed_view : check_of recipe ≡ Ok tt → CheckView → (load_of recipe ≡ Ok tt) × AllFaultless (lines_of recipe) (lines_of recipe)
  passed_view h (unloaded s q l c) = never (cc)
  passed_view h (judged l c) = (l, passes (lines_of recipe) (lines_of recipe) (sym c ∙ h))

  -- or not at all
  pub passed_exactly : (check_of recipe ≡ Ok tt) ↔ ((load_of recipe ≡ Ok tt) × AllFaultless (lines_of recipe) (lines_of recipe))
  unfolding check_of
  passed_exactly = ((λ h. passed_view h check_view), (λ h. rw h.0 (passed (lines_of recipe) (lines_of recipe) h.1)))
