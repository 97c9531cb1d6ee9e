-- What the contracts of the three calls say, one after the other, is what `serial` proves of its definitions.
use Rattle.std.specs.Prelude.{Err, Ok, Result, Option}
use Rattle.loader.specs.declared.refusals.RefusedAt.{RefusedAt}
use mathlib.Core.Path.{◌≡◌, refl, sym, ap, ◌∙◌}
use mathlib.Core.List.{List, map}
use Prim.Native.Nat.{ℕ, ◌≤◌, ◌<◌}
use borrow.Author.Tests.{le-ltb, lt-ltb}
use lib.ListN.{length}
use Rattle.whole.proofs.Never.{never}
use Rattle.space.proofs.Bounds.{by_bound}
use Rattle.loader.specs.Loading.{longest_text, load_of}
use Rattle.serial.specs.Receiving.{Held, held, begun_of, settled, untouched, finished}
use Rattle.serial.specs.Received.{joined, all_taken, since_begun, received_of}
use Rattle.serial.proofs.Steps.{begun_short, begun_ready}
use Rattle.serial.proofs.Received.{received_is_loaded, short_is_never_touched}
use Rattle.serial_promises.specs.Calls.{TakeCall, FinishCall, buffer_begun, held_before, held_after, part_of, held_at_end, end_of}
use Rattle.serial_promises.specs.Cuttings.{Follow, ReceivesAlways, CallsReceive, ShortRefused, ShortUntouched}
use Rattle.serial_promises.proofs.Following.{follow_taken}

-- ---- of the definitions

refused_word : Result (Option ℕ) RefusedAt → ℕ
refused_word (Ok receipt) = 0
refused_word (Err e) = 1

-- what is not refused is long enough
pub ready_wide : (buffer : List ℕ) (receipt : Option ℕ) → begun_of buffer ≡ Ok receipt → longest_text ≤ length buffer
unfolding refused_word
ready_wide buffer receipt e =
    by_bound longest_text (length buffer) (λ h. h)
    (λ h. never (ap refused_word (sym e ∙ begun_short buffer (lt-ltb _ _ h))))

-- and what is long enough is not refused
wide_not_refused : (buffer : List ℕ) (b : Result (Option ℕ) RefusedAt) → refused_word b ≡ 1 → begun_of buffer ≡ b → length buffer < longest_text
unfolding refused_word
wide_not_refused buffer b r e =
    by_bound longest_text (length buffer)
    (λ h. never (ap refused_word (sym (begun_ready buffer (le-ltb _ _ h)) ∙ e) ∙ r))
    (λ h. h)

-- a buffer that is long enough receives as loading answers
wide_received : (buffer text : List ℕ) → longest_text ≤ length buffer → received_of buffer text ≡ settled (load_of text) text (length buffer)
unfolding received_of
wide_received buffer text h = rw (le-ltb _ _ h)

-- the parts that are taken from the receipt to begin with, and the end
pub ready_received : (buffer : List ℕ) (receipt : Option ℕ) (parts : List (List ℕ)) → begun_of buffer ≡ Ok receipt
    → finished (all_taken (held receipt buffer) parts) ≡ settled (load_of (joined parts)) (joined parts) (length buffer)
ready_received buffer receipt parts e =
    ap (λ x. since_begun x buffer parts) (sym e)
    ∙ received_is_loaded buffer parts
    ∙ wide_received buffer (joined parts) (ready_wide buffer receipt e)

-- and of a short buffer
pub short_received : (h : Held) (parts : List (List ℕ)) → length h.buffer < longest_text
    → finished (all_taken h parts) ≡ untouched h.buffer
short_received h parts l =
    let s = short_is_never_touched h parts l in
    ap finished s.0 ∙ s.1

-- ---- of the calls

follow_finished : (cs : List TakeCall) (f : FinishCall) (h : Held) → Follow held_before held_after h cs (held_at_end f)
    → end_of f ≡ finished (all_taken h (map part_of cs))
follow_finished cs f h w =
    f.allowed ∙ ap finished (follow_taken held_before held_after part_of (λ x. x) (λ c. c.allowed) cs h (held_at_end f) w)

pub receives_always : ReceivesAlways
receives_always =
    record {
      begin = λ lifetimes passed. (_, (tt, tt), refl);
      take = λ lifetimes passed. (_, (tt, (_, (tt, tt))), refl);
      finish = λ lifetimes passed. (_, (tt, (_, tt)), refl);
    }

pub calls_receive : CallsReceive
calls_receive b cs f receipt e w =
    let buffer = buffer_begun b in
    follow_finished cs f (held receipt buffer) w ∙ ready_received buffer receipt (map part_of cs) (sym b.allowed ∙ e)

pub short_refused : ShortRefused
unfolding refused_word
short_refused b =
    let buffer = buffer_begun b in (
      (λ e. wide_not_refused buffer _ refl (sym b.allowed ∙ e)),
      (λ h. b.allowed ∙ begun_short buffer (lt-ltb _ _ h)),
    )

pub short_untouched : ShortUntouched
short_untouched h cs f l w = follow_finished cs f h w ∙ short_received h (map part_of cs) l
