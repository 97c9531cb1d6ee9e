-- However a text is cut, the parts taken are the text, or too much; and the end is that of loading the whole.
use Rattle.std.specs.Prelude.{None, Some}
use Rattle.loader.specs.Refusals.{refused_at}
use mathlib.Core.Path.{◌≡◌, refl, sym, ap, ◌∙◌}
use mathlib.Core.Bool.{true, false}
use mathlib.Core.List.{List, [], ◌∷◌, ◌++◌, append-nil, append_assoc}
use Prim.Native.Nat.{ℕ, ◌+◌, ◌≤◌, ◌<◌}
use native.Mathlib.Omega.{arith}
use borrow.Author.Tests.{le-ltb, lt-ltb}
use lib.ListN.{length, take, length-append}
use Rattle.space.specs.Moves.{copied}
use Rattle.space.proofs.Bounds.{by_bound}
use Rattle.space.proofs.Overlaid.{overlaid_front}
use Rattle.space.proofs.Frames.{copied_lies, copied-length}
use Rattle.loader.specs.Loading.{longest_text, load_of}
use Rattle.loader.specs.declared.refusals.Refusal.TheVariants.{TextTooLong}
use Rattle.words.specs.Places.{place}
use Rattle.serial.specs.Receiving.{Held, held, too_short, taken, settled, finished}
use Rattle.serial.specs.Received.{joined, all_taken, since_begun, received_of, ReceivedIsLoaded, ShortIsNeverTouched}
use Rattle.serial.proofs.Steps.{begun_short, begun_ready, placed_past, placed_lies, taken_short, taken_much, taken-placed, loaded_as, finished_short, finished_much, finished_loaded}

-- what is held of a text in a buffer of so many bytes
record Carries (room : ℕ) (text : List ℕ) (h : Held) : Type 0 where
  -- the buffer is as long as it was
  long : length h.buffer ≡ room
  -- the receipt says how long the text is, and the buffer begins with it
  counted : length text ≤ longest_text → h.receipt ≡ Some (length text)
  front : length text ≤ longest_text → take (length text) h.buffer ≡ text
  -- or more came than a text may have
  much : longest_text < length text → h.receipt ≡ None

-- more than a text may have is refused first
long_refused : (text : List ℕ) → longest_text < length text → load_of text ≡ refused_at TextTooLong (place 0)
unfolding load_of
long_refused text h = rw (lt-ltb _ _ h)

module _ (room : ℕ) (wide : longest_text ≤ room) where
  -- a buffer that is as long as it was is not short
  not_short : (buffer : List ℕ) → length buffer ≡ room → too_short buffer ≡ false
  not_short buffer e = le-ltb (length buffer) longest_text (omega arith)

  module _ (text : List ℕ) (h : Held) (c : Carries room text h) (part : List ℕ) where
    -- a part for which a text has room
    part_fits : length (text ++ part) ≤ longest_text
        → taken h part ≡ held (Some (length text + length part)) (copied h.buffer (length text) part)
    part_fits u =
        let l = length-append text part in
        let v : length text ≤ longest_text = omega arith in
        let w : length text + length part ≤ longest_text = omega arith in
        let k : longest_text ≤ length h.buffer = omega (arith, c.long) in
        taken-placed h.receipt h.buffer part (not_short h.buffer c.long) (length text) (c.counted v)
        ∙ placed_lies (length text) h.buffer part w k

    -- and one for which it has none
    part_past : longest_text < length (text ++ part) → taken h part ≡ held None h.buffer
    part_past u =
        let l = length-append text part in
        let s = not_short h.buffer c.long in
        by_bound (length text) longest_text
        (λ v. taken-placed h.receipt h.buffer part s (length text) (c.counted v)
        ∙ placed_past (length text) h.buffer part (omega arith))
        (λ v. taken_much h.receipt h.buffer part s (c.much v))

    -- the text so far, and the part
    carries_fitting : length (text ++ part) ≤ longest_text → Carries room (text ++ part) (taken h part)
    carries_fitting u =
        let l = length-append text part in
        let v : length text ≤ longest_text = omega arith in
        let b : length text ≤ length h.buffer = omega (arith, c.long) in
        let w : length text + length part ≤ length h.buffer = omega (arith, c.long) in
        rw (part_fits u)
        (record {
          long = copied-length h.buffer (length text) part ∙ c.long;
          counted = λ _. ap Some (sym l);
          front = λ _. ap (λ n. take n (copied h.buffer (length text) part)) l
              ∙ ap (take (length text + length part)) (copied_lies h.buffer (length text) part w)
              ∙ overlaid_front h.buffer (length text) part b
              ∙ ap (λ t. t ++ part) (c.front v);
          much = λ x. absurd (omega arith);
        })

    carries_past : longest_text < length (text ++ part) → Carries room (text ++ part) (taken h part)
    carries_past u =
        rw (part_past u)
        (record { long = c.long; counted = λ x. absurd (omega arith); front = λ x. absurd (omega arith); much = λ _. refl })

    carries_part : Carries room (text ++ part) (taken h part)
    carries_part = by_bound (length (text ++ part)) longest_text carries_fitting carries_past

  -- and all parts
  carries_all : (parts : List (List ℕ)) (text : List ℕ) (h : Held) → Carries room text h
      → Carries room (text ++ joined parts) (all_taken h parts)
  unfolding joined all_taken
  carries_all [] text h c = rw append-nil c
  carries_all (part ∷ parts) text h c =
      rw (← append_assoc text part (joined parts))
      (carries_all parts (text ++ part) (taken h part) (carries_part text h c part))

  -- the end of what is held
  ends_as : (text : List ℕ) (h : Held) → Carries room text h → finished h ≡ settled (load_of text) text room
  ends_as text h c =
      let s = not_short h.buffer c.long in
      by_bound (length text) longest_text
      (λ v. finished_loaded h.receipt h.buffer s (length text) (c.counted v)
      ∙ loaded_as (length text) h.buffer v (load_of text) (ap load_of (c.front v))
      ∙ rw (c.front v, c.long))
      (λ v. finished_much h.receipt h.buffer s (c.much v) ∙ rw (long_refused text v, c.long))

-- before the first part nothing is held
carries_none : (buffer : List ℕ) → Carries (length buffer) [] (held (Some 0) buffer)
carries_none buffer =
    record { long = refl; counted = λ _. refl; front = λ _. refl; much = λ x. absurd (omega arith) }

pub received_is_loaded : ReceivedIsLoaded
unfolding received_of
received_is_loaded buffer parts =
    by_bound longest_text (length buffer)
    (λ h. let s = le-ltb (length buffer) longest_text h in
    ap (λ b. since_begun b buffer parts) (begun_ready buffer s)
    ∙ ends_as (length buffer) h (joined parts) _ (carries_all (length buffer) h parts [] _ (carries_none buffer))
    ∙ rw s)
    (λ h. let s = lt-ltb (length buffer) longest_text h in
    ap (λ b. since_begun b buffer parts) (begun_short buffer s) ∙ rw s)

-- a short buffer is as it was after any parts
short_kept : (h : Held) (parts : List (List ℕ)) → too_short h.buffer ≡ true → all_taken h parts ≡ h
unfolding all_taken
short_kept h [] e = refl
short_kept h (part ∷ parts) e =
    ap (λ g. all_taken g parts) (taken_short h.receipt h.buffer part e) ∙ short_kept h parts e

pub short_is_never_touched : ShortIsNeverTouched
short_is_never_touched h parts l =
    let s = lt-ltb (length h.buffer) longest_text l in
    (short_kept h parts s, finished_short h.receipt h.buffer s)
