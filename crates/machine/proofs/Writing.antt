-- What is printed: the column after some bytes, and the room that they are written to.
use Rattle.std.specs.Prelude.{Option, Some, None}
use Rattle.std.specs.Option.{unwrap_or}
use mathlib.Core.Path.{◌≡◌, refl, ap, subst, ◌∙◌}
use mathlib.Core.Bool.{cond}
use mathlib.Core.List.{List, [], ◌∷◌}
use Prim.Native.Nat.{ℕ, zero, suc, ◌+◌, ◌≤◌, ◌<◌}
use native.Mathlib.Numerals.{add-one}
use native.Mathlib.Omega.{arith}
use borrow.Author.Tests.{eq-eqb, ne_eqb, le-leb, lt-leb, le-ltb, lt-ltb}
use lib.Dec.{eqb}
use lib.Seq.{length-take-le}
use lib.ListN.{length, take, drop, get_or, replicate, drop_of_length-le}
use Rattle.whole.proofs.Reading.{drop_next}
use Rattle.whole.proofs.Never.{never}
use Rattle.words.proofs.Choices.{by_test}
use Rattle.space.specs.Moves.{copied}
use Rattle.space.proofs.Bounds.{by_bound}
use Rattle.space.proofs.Frames.{copied_lies, copied_past, copied-length, copied_above}
use Rattle.space.proofs.Overlaid.{overlaid_front}
use Rattle.machine.specs.Machine as spec
use Rattle.machine.specs.Machine.{column_after, full, printed, with_output}
use Rattle.machine.specs.bridge.Holding.{printed_as, Fitting}
use Rattle.machine.specs.declared.state.Printer.{Printer}

-- ---- the column

-- after the next byte
column_on : (c : ℕ) (s : List ℕ) (i : ℕ) → i < length s
    → column_after c (drop i s) ≡ column_after (cond (eqb (get_or s i 0) 10) 0 (suc c)) (drop (i + 1) s)
unfolding column_after
column_on c s i h = rw (drop_next s i h)

module _ (c : ℕ) (s : List ℕ) (i : ℕ) where
  -- a byte 10 begins a line,
  pub column_feed : i < length s → get_or s i 0 ≡ 10 → column_after 0 (drop (i + 1) s) ≡ column_after c (drop i s)
  column_feed h e = rw (column_on c s i h, eq-eqb _ _ e)

  -- and any other goes on with it
  pub column_byte : i < length s → (get_or s i 0 ≡ 10 → ⊥) → column_after (c + 1) (drop (i + 1) s) ≡ column_after c (drop i s)
  column_byte h e = rw (column_on c s i h, ne_eqb _ _ e, add-one c)

  pub column_out : length s ≤ i → column_after c (drop i s) ≡ c
  unfolding column_after
  column_out h = rw (drop_of_length-le s h)

-- no byte brings it on by more than one
pub column_within : (c : ℕ) (s : List ℕ) → column_after c s ≤ c + length s
unfolding column_after
column_within c [] = omega arith
column_within c (b ∷ s) =
    by_test (eqb b 10) (λ e. rw e (omega (arith, column_within 0 s))) (λ e. rw e (omega (arith, column_within (suc c) s)))

-- the first of some that are alike
pub take-replicate : (b n m : ℕ) → n ≤ m → take n (replicate m b) ≡ replicate n b
take-replicate b zero m h = refl
take-replicate b (suc n) zero h = absurd (omega arith)
take-replicate b (suc n) (suc m) h = ap (◌∷◌ b) (take-replicate b n m (omega arith))

-- ---- what is printed

-- what holds of any printer that is answered, and where none is, holds
pub by_printed : (P : Option Printer → Type 0) (o : Option Printer) → ((q : Printer) → o ≡ Some q → P (Some q)) → (o ≡ None → P None) → P o
by_printed P (Some q) y n = y q refl
by_printed P None y n = n refl

module _ (p : Printer) (room bytes : List ℕ) where
  -- where there is no room, nothing,
  pub printed_full : length room < p.written + length bytes → None ≡ printed_as p (length room) bytes
  printed_full h = rw (lt-leb _ _ h)

  -- and otherwise all
  pub printed_all : p.written + length bytes ≤ length room
      → Some (record { column = column_after p.column bytes; written = p.written + length bytes })
      ≡ printed_as p (length room) bytes
  printed_all h = rw (le-leb _ _ h)

  -- the answer tells which
  pub not_printed : printed_as p (length room) bytes ≡ None → length room < p.written + length bytes
  not_printed e =
      by_bound (p.written + length bytes) (length room) (λ h. let z = printed_all h ∙ e in never (cc)) (λ h. h)

  pub is_printed : {q : Printer} → printed_as p (length room) bytes ≡ Some q → p.written + length bytes ≤ length room
  is_printed e =
      by_bound (p.written + length bytes) (length room) (λ h. h) (λ h. let z = printed_full h ∙ e in never (cc))

-- the room and the printer afterwards
module _ {p : Printer} {room : List ℕ} (fit : Fitting p room) (bytes : List ℕ) where
  -- what holds in both cases holds
  either : (P : Printer → Type 0)
      → (p.written + length bytes ≤ length room → P (record { column = column_after p.column bytes; written = p.written + length bytes }))
      → (length room < p.written + length bytes → P p)
      → P (unwrap_or (printed_as p (length room) bytes) p)
  either P y n =
      by_bound (p.written + length bytes) (length room)
      (λ h. subst P (ap (λ (x : Option Printer). unwrap_or x p) (printed_all p room bytes h)) (y h))
      (λ h. subst P (ap (λ (x : Option Printer). unwrap_or x p) (printed_full p room bytes h)) (n h))

  -- the room is as long as it was
  pub room_length : length (copied room p.written bytes) ≡ length room
  room_length = copied-length room p.written bytes

  -- no less of it is written
  pub written_grows : p.written ≤ (unwrap_or (printed_as p (length room) bytes) p).written
  written_grows = either (λ q. p.written ≤ q.written) (λ h. omega arith) (λ h. omega arith)

  -- what stands above what is written is kept
  pub room_above : drop (unwrap_or (printed_as p (length room) bytes) p).written (copied room p.written bytes)
      ≡ drop (unwrap_or (printed_as p (length room) bytes) p).written room
  room_above =
      either (λ q. drop q.written (copied room p.written bytes) ≡ drop q.written room)
      (λ h. copied_above room p.written bytes (p.written + length bytes) (omega arith))
      (λ h. rw (copied_past room p.written bytes h))

  pub fitting_after : Fitting (unwrap_or (printed_as p (length room) bytes) p) (copied room p.written bytes)
  fitting_after =
      let l = room_length in
      either (λ q. Fitting q (copied room p.written bytes))
      (λ h. record { narrow = omega (arith, fit.narrow, column_within p.column bytes); within = omega arith })
      (λ h. record { narrow = fit.narrow; within = omega (arith, fit.within) })

  -- ---- what the definition prints

  module _ (n : spec.Machine) (column : n.column ≡ p.column) (output : n.output ≡ take p.written room)
      (long : n.output_room ≡ length room) where
    wrote : length n.output ≡ p.written
    wrote = ap length output ∙ length-take-le p.written room fit.within

    pub write-full : printed_as p (length room) bytes ≡ None → spec.write n bytes ≡ full
    unfolding spec.write
    write-full e =
        let w = wrote in let h = not_printed p room bytes e in
        rw (lt-ltb n.output_room (length n.output + length bytes) (omega arith))

    pub write-printed : {q : Printer} → printed_as p (length room) bytes ≡ Some q
        → spec.write n bytes ≡ printed (with_output n (take q.written (copied room p.written bytes)) q.column)
    unfolding spec.write
    write-printed {q} e =
        let w = wrote in let h = is_printed p room bytes e in
        let after : record { column = column_after p.column bytes; written = p.written + length bytes } ≡ q =
        ap (λ (o : Option Printer). unwrap_or o p) (printed_all p room bytes h ∙ e) in
        rw (
          le-ltb n.output_room (length n.output + length bytes) (omega arith),
          ← after,
          copied_lies room p.written bytes h,
          overlaid_front room p.written bytes fit.within,
          output,
          column,
        )
