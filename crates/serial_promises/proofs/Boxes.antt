-- What a box keeps means what is held, so what is proved of the calls beneath holds of a box's.
use Rattle.std.specs.Prelude.{Err, Ok, Result, Option}
use Rattle.loader.specs.declared.refusals.RefusedAt.{RefusedAt}
use mathlib.Core.Path.{◌≡◌, refl, sym, ap, ap₂, subst, ◌∙◌}
use mathlib.Core.List.{List, [], map}
use Prim.Native.Nat.{ℕ, ◌<◌}
use native.Mathlib.Omega.{arith}
use borrow.Author.Tests.{le-ltb, lt-ltb}
use lib.ListN.{length, get_or}
use Rattle.whole.proofs.Never.{never}
use Rattle.words.specs.Places.{place}
use Rattle.space.proofs.Bounds.{by_bound}
use Rattle.loader.specs.Loading.{longest_text}
use Rattle.loader.specs.declared.refusals.Refusal.TheVariants.{NoRoom}
use Rattle.checker.specs.declared.checking.Fault.TheVariants as verdict
use Rattle.serial.specs.Receiving.{Held, held, Ended, begun_of, taken, finished}
use Rattle.serial.specs.Received.{all_taken}
use Rattle.serial.proofs.Steps.{begun_short, begun_ready}
use Rattle.serial.proofs.Lengths.{buffers_stay_as_long}
use Rattle.host.specs.Answers.{verdict_in}
use Rattle.host.specs.Receipts.{receipt_in, first_receipt, begun_as}
use Rattle.host.proofs.ReadAgain.{receipt_read_again}
use Rattle.serial_promises.specs.Calls.{Kept, BeginBox, TakeBox, FinishBox, buffer_in, kept_begun, begun_word, kept_before, kept_after, part_in, kept_at_end}
use Rattle.serial_promises.specs.Cuttings.{Follow}
use Rattle.serial_promises.specs.Boxes.{ToldEnd, BoxesReceiveAlways, BoxesReceive, BoxShortRefused, BoxShortUntouched, BoxBuffersStayAsLong}
use Rattle.serial_promises.proofs.Following.{follow_taken}
use Rattle.serial_promises.proofs.Cuttings.{ready_received, short_received}

-- what is held by what a box keeps
abbrev meant : Kept → Held
meant k = held (receipt_in k.words) k.buffer

-- what was written as a receipt and is read again
box_takes : (c : TakeBox) → meant (kept_after c) ≡ taken (meant (kept_before c)) (part_in c)
box_takes c =
    ap₂ held (ap receipt_in c.allowed.receipted ∙ receipt_read_again _) c.allowed.buffered

box_follows : (cs : List TakeBox) (k e : Kept) → Follow kept_before kept_after k cs e → meant e ≡ all_taken (meant k) (map part_in cs)
box_follows = follow_taken kept_before kept_after part_in meant box_takes

-- a box is told what is finished by what it keeps
told_end : (f : FinishBox) (end : Ended) → finished (meant (kept_at_end f)) ≡ end → ToldEnd f end
told_end f end e = subst (ToldEnd f) e (record { verdict = f.allowed.judged; buffer = f.allowed.buffered })

-- ---- to begin

ready_of : (b : Result (Option ℕ) RefusedAt) → get_or (verdict_in (begun_as b)) 0 0 ≡ 0 → b ≡ Ok (first_receipt b)
ready_of (Ok receipt) e = refl
ready_of (Err x) e = absurd (omega arith)

module _ (b : BeginBox) where
  begun_told : (i : ℕ) → begun_word b i ≡ get_or (verdict_in (begun_as (begun_of (buffer_in b)))) i 0
  begun_told i = ap (λ (x : List ℕ). get_or x i 0) b.allowed.judged

  -- the words that a ready box begins with
  first_meant : meant (kept_begun b) ≡ held (first_receipt (begun_of (buffer_in b))) (buffer_in b)
  first_meant = ap (λ r. held r (buffer_in b)) (ap receipt_in b.allowed.receipted ∙ receipt_read_again _)

  refused_short : begun_word b 0 ≡ 1 → length (buffer_in b) < longest_text
  refused_short r =
      by_bound longest_text (length (buffer_in b))
      (λ h. let e : begun_word b 0 ≡ 0 = begun_told 0 ∙ ap (λ x. get_or (verdict_in (begun_as x)) 0 0) (begun_ready (buffer_in b) (le-ltb _ _ h)) in
      never (sym e ∙ r))
      (λ h. h)

  short_told : (i : ℕ) → length (buffer_in b) < longest_text → begun_word b i ≡ get_or (verdict_in (Err (verdict.Refused NoRoom (place 0)))) i 0
  short_told i h = begun_told i ∙ ap (λ x. get_or (verdict_in (begun_as x)) i 0) (begun_short (buffer_in b) (lt-ltb _ _ h))

-- ---- what is promised

pub boxes_receive_always : BoxesReceiveAlways
boxes_receive_always =
    record {
      begin = λ lifetimes passed. (_, (tt, (_, (_, tt))), record { receipted = refl; judged = refl });
      take = λ lifetimes passed. (_, (_, (_, (tt, tt))), record { buffered = refl; receipted = refl });
      finish = λ lifetimes passed. (_, (_, (tt, (_, tt))), record { buffered = refl; judged = refl });
    }

pub boxes_receive : BoxesReceive
boxes_receive b cs f z w =
    let buffer = buffer_in b in
    let ready = ready_of (begun_of buffer) (sym (begun_told b 0) ∙ z) in
    told_end f _
    (ap finished (box_follows cs (kept_begun b) (kept_at_end f) w ∙ ap (λ h. all_taken h (map part_in cs)) (first_meant b))
    ∙ ready_received buffer _ (map part_in cs) ready)

pub box_short_refused : BoxShortRefused
box_short_refused b = (
  (λ r. refused_short b r.refused),
  (λ h. record { refused = short_told b 0 h; numbered = short_told b 1 h; placed = short_told b 3 h }),
)

pub box_short_untouched : BoxShortUntouched
box_short_untouched k cs f l w =
    told_end f _ (ap finished (box_follows cs k (kept_at_end f) w) ∙ short_received (meant k) (map part_in cs) l)

pub box_buffers_stay_as_long : BoxBuffersStayAsLong
box_buffers_stay_as_long =
    record {
      taken = λ c. ap length c.allowed.buffered ∙ (buffers_stay_as_long (meant (kept_before c)) (part_in c)).0;
      finished = λ f. ap length f.allowed.buffered ∙ (buffers_stay_as_long (meant (kept_at_end f)) []).1;
    }
