-- The answers of comparing, in the order of the tests.
use Rattle.std.specs.Prelude.{Err, Ok, Result}
use Rattle.loader.specs.declared.refusals.RefusedAt.{RefusedAt}
use mathlib.Core.Path.{◌≡◌, refl, ap}
use mathlib.Core.Bool.{Bool, true, false, cond}
use mathlib.Core.List.{List, ◌++◌}
use Prim.Native.Nat.{ℕ, ◌+◌}
use native.Mathlib.Omega.{arith}
use lib.Dec.{leb}
use lib.ListN.{length, drop}
use Rattle.whole.proofs.Never.{never}
use Rattle.loader.specs.Loading.{load_of}
use Rattle.space.specs.Moves.{overlaid}
use Rattle.compare.specs.Records.{report_of}
use Rattle.compare.specs.Comparing.{no_room, by_loading, compared_of, out_after}
use Rattle.compare.specs.declared.comparing.Rejected.{Rejected}
use Rattle.compare.specs.declared.comparing.Rejected.TheVariants.{Old, New}

module _ (old new room : List ℕ) where
  pub old_refused : {r : RefusedAt} → load_of old ≡ Err r
      → (Err (Old r) ≡ compared_of old new (length room)) × (room ≡ out_after old new room)
  unfolding compared_of out_after
  old_refused e = rw e (refl, refl)

  pub new_refused : {r : RefusedAt} → load_of old ≡ Ok tt → load_of new ≡ Err r
      → (Err (New r) ≡ compared_of old new (length room)) × (room ≡ out_after old new room)
  unfolding compared_of out_after
  new_refused e f = rw (e, f) (refl, refl)

  pub too_short : load_of old ≡ Ok tt → load_of new ≡ Ok tt → leb (length (report_of old new)) (length room) ≡ false
      → (Err no_room ≡ compared_of old new (length room)) × (room ≡ out_after old new room)
  unfolding compared_of out_after
  too_short e f t = rw (e, f, t) (refl, refl)

  pub all_fits : load_of old ≡ Ok tt → load_of new ≡ Ok tt → leb (length (report_of old new)) (length room) ≡ true
      → (Ok (length (report_of old new)) ≡ compared_of old new (length room)) × (overlaid room 0 (report_of old new) ≡ out_after old new room)
  unfolding compared_of out_after overlaid
  all_fits e f t =
      let z : 0 + length (report_of old new) ≡ length (report_of old new) = omega arith in
      rw (e, f, t) (refl, ap (λ n. report_of old new ++ drop n room) z)

-- what is done is the whole report
done_by : (a b : Result (Unit {0}) RefusedAt) (t : Bool) {n size : ℕ}
    → ◌≡◌ {A = Result ℕ Rejected} (Ok n) (by_loading a b (λ _. cond t (Ok size) (Err no_room))) → n ≡ size
done_by (Err x) b t e = never (cc)
done_by (Ok _) (Err x) t e = never (cc)
done_by (Ok _) (Ok _) true e = cc
done_by (Ok _) (Ok _) false e = never (cc)

pub done_whole : (old new : List ℕ) (room : ℕ) {n : ℕ} → Ok n ≡ compared_of old new room → n ≡ length (report_of old new)
unfolding compared_of
done_whole old new room e = done_by (load_of old) (load_of new) (leb (length (report_of old new)) room) e
