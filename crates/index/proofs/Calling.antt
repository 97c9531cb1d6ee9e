-- The lines that name a line, put one after the other to the front of a room.
use mathlib.Core.Path.{◌≡◌, refl, sym, ap, ap₂, ◌∙◌}
use mathlib.Core.Bool.{Bool, true, false}
use mathlib.Core.List.{List, [], ◌∷◌, ◌++◌, append_assoc, append-nil}
use Prim.Native.Nat.{ℕ, zero, suc, ◌+◌, ◌*◌, ◌-◌, ◌≤◌, ◌<◌, min, zero-le}
use native.Mathlib.Omega.{arith}
use lib.Dec.{eqb}
use lib.ListN.{length, get_or, take, drop, length-append, length-take}
use lib.Seq.{take_all}
use Rattle.loader.specs.Lines.{Line, after_number}
use Rattle.loader.specs.Loading.{most_lines}
use Rattle.reader.specs.Lines.{judgement}
use Rattle.whole.specs.Digits.{leading_value}
use Rattle.space.specs.Moves.{overlaid}
use Rattle.space.proofs.Overlaid.{overlaid_none, overlaid_after}
use Rattle.words.specs.declared.places.LineNumber.{LineNumber}
use Rattle.index.specs.Callers.{line_names, in_front_if, callers_among}
use Rattle.index.specs.Asking.{naming_among, callers_in}
use Rattle.index.specs.bridge.Asking.{fitting}
use Rattle.index.proofs.Strides.{naming_next, naming_none}

-- ---- the first of some, and of those after them

front_of_both : (n : ℕ) (a b : List ℕ) → take n (a ++ b) ≡ take n a ++ take (n - length (take n a)) b
front_of_both zero a b = refl
front_of_both (suc n) [] b = let e : suc n ≡ suc n - 0 = omega arith in ap (λ k. take k b) e
front_of_both (suc n) (x ∷ a) b =
    let e : n - length (take n a) ≡ suc n - suc (length (take n a)) = omega arith in
    ap (λ l. x ∷ l) (front_of_both n a b ∙ ap (λ k. take n a ++ take k b) e)

-- those so far, and what the pairs from one on tell; the room holds the first of them
pub record Called (index : List ℕ) (n pairs : ℕ) (room callers : List ℕ) (count i : ℕ) : Type 0 where
  pub done : List ℕ
  pub whole : done ++ naming_among n (pairs - i) (drop (3074 + 2 * i) index) ≡ naming_among n pairs (drop 3074 index)
  pub counts : count ≡ length (take most_lines done)
  pub holds : callers ≡ overlaid room 0 (take most_lines done)

pub none_called : (index : List ℕ) (n pairs : ℕ) (room : List ℕ) → Called index n pairs room room 0 0
none_called index n pairs room =
    let z : pairs - 0 ≡ pairs = omega arith in
    record { done = []; whole = ap (λ k. naming_among n k (drop 3074 index)) z; counts = refl; holds = sym (overlaid_none room 0) }

-- all pairs
pub callers_all : (index : List ℕ) (n : LineNumber) (k : ℕ) → k ≡ min (get_or index 3073 0) 1024
    → take most_lines (naming_among n.0 k (drop 3074 index)) ≡ callers_in index n
callers_all index n k e = ap (λ m. take most_lines (naming_among n.0 m (drop 3074 index))) e

module _ {index : List ℕ} {n pairs : ℕ} {room callers : List ℕ} {count i : ℕ} (c : Called index n pairs room callers count i) where
  abbrev calls : Bool
  calls = eqb (get_or index (3074 + 2 * i) 0) n

  abbrev line : ℕ
  line = get_or index (3074 + 2 * i + 1) 0

  abbrev held : List ℕ
  held = take most_lines c.done

  pub called_more : {after : List ℕ} {next : ℕ} (long : ℕ) → long ≡ most_lines → i < pairs → after ≡ overlaid callers count (fitting (long - count) calls line)
      → next ≡ count + length (fitting (long - count) calls line) → Called index n pairs room after next (i + 1)
  called_more long b h e f =
      let found = in_front_if calls line [] in
      let put = fitting (most_lines - length held) calls line in
      let start : count ≡ 0 + length held = omega (arith, c.counts) in
      let k : long - count ≡ most_lines - length held = omega (arith, b, c.counts) in
      let both : held ++ put ≡ take most_lines (c.done ++ found) = sym (front_of_both most_lines c.done found) in
      record {
        done = c.done ++ found;
        whole = append_assoc c.done found _ ∙ ap (λ l. c.done ++ l) (sym (naming_next n pairs i index h)) ∙ c.whole;
        counts = f ∙ ap₂ (λ (x y : ℕ). x + length (fitting y calls line)) c.counts k ∙ sym (length-append held put) ∙ ap length both;
        holds =
            e
            ∙ ap₂ (λ (s : List ℕ) (y : ℕ). overlaid s count (fitting y calls line)) c.holds k
            ∙ ap (λ x. overlaid (overlaid room 0 held) x put) start
            ∙ overlaid_after room 0 held put zero-le
            ∙ ap (overlaid room 0) both;
      }

  pub all_called : pairs ≤ i → {goal : List ℕ} → take most_lines (naming_among n pairs (drop 3074 index)) ≡ goal
      → (count ≡ length goal) × (callers ≡ overlaid room 0 goal)
  all_called h g =
      let e = ap (take most_lines) (sym (append-nil c.done) ∙ ap (λ l. c.done ++ l) (sym (naming_none n pairs i index h)) ∙ c.whole) ∙ g in
      (c.counts ∙ ap length e, c.holds ∙ ap (overlaid room 0) e)

-- ---- they are no more than a text has lines

pub callers_few : (index : List ℕ) (n : LineNumber) → length (callers_in index n) ≤ most_lines
callers_few index n =
    let l = naming_among n.0 (min (get_or index 3073 0) 1024) (drop 3074 index) in omega (arith, length-take most_lines l)

few_in_front : (b : Bool) (n : ℕ) (ns : List ℕ) → length (in_front_if b n ns) ≤ length ns + 1
few_in_front true n ns = omega arith
few_in_front false n ns = omega arith

callers_short : (n : ℕ) (ls : List Line) → length (callers_among n ls) ≤ length ls
unfolding callers_among
callers_short n [] = omega arith
callers_short n (l ∷ ls) =
    omega (arith, callers_short n ls, few_in_front (line_names n (judgement (after_number l))) (leading_value l.bytes) (callers_among n ls))

pub callers_within : (n : ℕ) (ls : List Line) → length ls ≤ most_lines → take most_lines (callers_among n ls) ≡ callers_among n ls
callers_within n ls h = take_all most_lines (callers_among n ls) (omega (arith, callers_short n ls))
