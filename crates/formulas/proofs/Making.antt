-- Operands that are made: numbers, and strings that are copied to where the live bytes end.
use Rattle.std.specs.Prelude.{Some, Ok, Err}
use mathlib.Core.Path.{◌≡◌, refl, sym, ◌∙◌}
use mathlib.Core.List.{List, []}
use Prim.Native.Nat.{ℕ, ◌+◌, ◌≤◌, ◌<◌, min}
use native.Mathlib.Omega.{arith}
use lib.ListN.{length, take, drop, get_or}
use Rattle.whole.specs.declared.errors.Error.TheVariants.{OutOfStringSpace}
use Rattle.whole.specs.Texts.{longest_string}
use Rattle.space.specs.Moves.{copied, moved}
use Rattle.space.proofs.Frames.{copied_bytes, moved_bytes}
use Rattle.space.proofs.Kept.{Kept, copied_kept, moved_kept}
use Rattle.words.specs.declared.symbols.Scanned.{Scanned}
use Rattle.variables.specs.Strings.{value, whole, make}
use Rattle.variables.specs.bridge.Memory.{bytes_at, Made}
use Rattle.variables.specs.Tables.{sum_of}
use Rattle.variables.specs.declared.values.Worked.TheVariants as worked
use Rattle.variables.proofs.Bytewise.{part_length}
use Rattle.variables.proofs.Agreements.{make_agrees, make_refused}
use Rattle.variables.proofs.Lookups.{sum_within}
use Rattle.variables.specs.Variables.{most_variables}

module _ (before : List ℕ) (used : ℕ) (t : Scanned) where
  -- a number leaves the space as it is
  pub number_made : {w v : ℕ} → used ≤ length before → w ≡ v → Made before used used (value (whole v)) t (Ok (worked.Whole w t)) before
  number_made h e = record {
    framed = record { long = refl; kept = refl; fits = omega arith; short = omega arith };
    agrees = λ room k. (e, k);
    goes = refl;
  }

  module _ (bytes : List ℕ) {n : ℕ} (e : length bytes ≡ n) where
    -- there is no room for a string
    pub refused_made : used ≤ length before → length before < used + n
        → Made before used used (make bytes) t (Err OutOfStringSpace) before
    refused_made h l = record {
      framed = record { long = refl; kept = refl; fits = omega arith; short = omega arith };
      agrees = λ room k. make_refused before bytes used t room k (omega arith);
      goes = tt;
    }

    -- there is, and it stands above what is kept
    string_made : {after : List ℕ} → n ≤ longest_string → used + n ≤ length before → Kept before used n after
        → take n (drop used after) ≡ bytes → Made before used used (make bytes) t (Ok (worked.Text n t)) after
    string_made {after} s l k b = record {
      framed = record { long = k.long; kept = k.below used (omega arith); fits = omega (arith, k.long); short = s };
      agrees = λ room h.
          rw (← e)
          (make_agrees after bytes used t room
          (record { limit = h.limit ∙ sym k.long; lives = h.lives }) (omega (arith, k.long)) (rw (← e) at b));
      goes = refl;
    }

    -- since it was copied in
    pub copied_made : {after : List ℕ} → n ≤ longest_string → used + n ≤ length before → after ≡ copied before used bytes
        → Made before used used (make bytes) t (Ok (worked.Text n t)) after
    copied_made s l c =
        string_made s l (rw e at (copied_kept bytes c)) (rw (c, ← e) (copied_bytes before used bytes (omega arith)))

  -- an empty string needs no room
  pub empty_made : used ≤ length before → Made before used used (make []) t (Ok (worked.Text 0 t)) before
  empty_made h = string_made [] refl (omega arith) (omega arith) (record { long = refl; below = λ n l. refl; above = λ n l. refl }) refl

-- ---- the string of a variable, in its entry

module _ (lengths before : List ℕ) (used : ℕ) (t : Scanned) (i : ℕ) {len : ℕ} (e : len ≡ get_or lengths i 0) (v : sum_of lengths ≤ used)
    (h : used ≤ length before) where
  lies_below : sum_of (take i lengths) + len ≤ used
  lies_below = let w = sum_within lengths i in omega arith

  string_long : length (bytes_at (Some i) lengths before) ≡ len
  string_long = let l = lies_below in rw (← e) (part_length before (sum_of (take i lengths)) len (omega arith))

  pub variable_refused : length before < used + len
      → Made before used used (make (bytes_at (Some i) lengths before)) t (Err OutOfStringSpace) before
  variable_refused l = refused_made before used t (bytes_at (Some i) lengths before) string_long h l

  pub variable_made : {after : List ℕ} → len < 256 → i < most_variables → used + len ≤ length before
      → after ≡ moved before (sum_of (take (min i most_variables) lengths)) used len
      → Made before used used (make (bytes_at (Some i) lengths before)) t (Ok (worked.Text len t)) after
  variable_made s b l m =
      let w = lies_below in
      let z : min i most_variables ≡ i = omega arith in
      let k = rw z at m in
      string_made before used t (bytes_at (Some i) lengths before) string_long (omega arith) l (moved_kept (sum_of (take i lengths)) k)
      (rw (k, moved_bytes before (sum_of (take i lengths)) used len (omega arith) l, e))
