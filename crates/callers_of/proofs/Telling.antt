-- Lines written one after the other, and what an index tells of its text.
use mathlib.Core.Path.{◌≡◌, sym, ap, ap₂, ◌∙◌}
use mathlib.Core.List.{List, [], ◌++◌}
use Prim.Native.Nat.{ℕ, ◌+◌, ◌≤◌, ◌<◌, zero-le}
use native.Mathlib.Omega.{arith}
use lib.ListN.{length, get_or, take, drop, length-append, drop_of_length-le}
use Rattle.whole.specs.Texts.{held}
use Rattle.whole.specs.declared.texts.Text.{Text}
use Rattle.whole.proofs.Numerals.{held_front, held_count}
use Rattle.whole.proofs.Reading.{drop_next}
use Rattle.words.specs.declared.places.LineNumber.{LineNumber}
use Rattle.words.specs.declared.places.Place.{Place}
use Rattle.loader.specs.Refusals.{refusal_number}
use Rattle.loader.specs.declared.refusals.RefusedAt.{RefusedAt}
use Rattle.console.specs.Lines.{refused_line}
use Rattle.space.specs.Moves.{overlaid, copied}
use Rattle.space.proofs.Frames.{copied_lies}
use Rattle.space.proofs.Overlaid.{overlaid-length, overlaid_front, overlaid_after}
use Rattle.index.specs.Index.{indexed_of, index_after, held_after}
use Rattle.index.proofs.Answering.{answers_as_the_text}
use Rattle.std.specs.Prelude.{Ok, Err}
use Rattle.callers_of.specs.Answers.{start_line, caller_line, caller_lines, told, answer_to}
use Rattle.callers_of.specs.bridge.Telling.{told_by}

-- ---- a line

pub line_laid : (out : List ℕ) (at : ℕ) {after : List ℕ} {t : Text} (said : List ℕ) → t ≡ held said → at + t.len ≤ length out → after ≡ copied out at (take t.len t.bytes)
    → (at + t.len ≡ at + length said) × (after ≡ overlaid out at said)
line_laid out at said e h a =
    let n = held_count said e in
    (ap (λ k. at + k) n, a ∙ ap (copied out at) (held_front said e) ∙ copied_lies out at said (omega (arith, n)))

-- ---- the callers

-- a line of the next, and those of the others after it
pub callers_next : (out callers : List ℕ) (end i : ℕ) → i < length callers → end ≤ length out
    → (overlaid (overlaid out end (caller_line (get_or callers i 0))) (end + length (caller_line (get_or callers i 0))) (caller_lines (drop (i + 1) callers))
    ≡ overlaid out end (caller_lines (drop i callers)))
    × (end + length (caller_line (get_or callers i 0)) + length (caller_lines (drop (i + 1) callers)) ≡ end + length (caller_lines (drop i callers)))
unfolding caller_lines
callers_next out callers end i h w =
    let l = caller_line (get_or callers i 0) in
    let rest = caller_lines (drop (i + 1) callers) in
    let e : caller_lines (drop i callers) ≡ l ++ rest = ap caller_lines (drop_next callers i h) in
    (overlaid_after out end l rest w ∙ ap (overlaid out end) (sym e), omega (arith, ap length e, length-append l rest))

pub callers_none : (callers : List ℕ) (i : ℕ) → length callers ≤ i → caller_lines (drop i callers) ≡ []
unfolding caller_lines
callers_none callers i h = ap caller_lines (drop_of_length-le callers h)

-- ---- the index of a text

pub told_text : (text before : List ℕ) (n : LineNumber) {own : List ℕ} → indexed_of text ≡ Ok tt → own ≡ index_after text before → told_by own n ≡ answer_to text n
told_text text before n e o =
    let a = answers_as_the_text text n e in
    ap (λ l. told_by l n) (o ∙ ap (held_after text before) e)
    ∙ ap₂ (λ s c. start_line n s ++ caller_lines c) a.0 a.1
    ∙ sym (ap (told text n) e)

-- ---- a line and the callers after it

pub front_callers : (room said : List ℕ) {callers : List ℕ} {count : ℕ} → count ≡ length said → callers ≡ overlaid room 0 said → take count callers ≡ said
front_callers room said n e = let k : length said ≡ 0 + length said = omega arith in ap₂ take (n ∙ k) e ∙ overlaid_front room 0 said zero-le

pub callers_long : (room said : List ℕ) {callers : List ℕ} → length room ≡ 512 → length said ≤ 512 → callers ≡ overlaid room 0 said → length callers ≡ 512
callers_long room said n h e = ap length e ∙ overlaid-length room 0 said (omega arith) ∙ n

pub all_told : (out first callers : List ℕ) {one two said : List ℕ} {end count : ℕ} → end ≡ 0 + length first → one ≡ overlaid out 0 first → said ≡ callers
    → count ≡ end + length (caller_lines said) → two ≡ overlaid one end (caller_lines said)
    → (count ≡ length (first ++ caller_lines callers)) × (two ≡ overlaid out 0 (first ++ caller_lines callers))
all_told out first callers {one} {end = end} e o s c t =
    let l = ap caller_lines s in (
      omega (arith, c, e, ap length l, length-append first (caller_lines callers)),
      t
          ∙ ap (overlaid one end) l
          ∙ ap₂ (λ (a : List ℕ) (b : ℕ). overlaid a b (caller_lines callers)) o e
          ∙ overlaid_after out 0 first (caller_lines callers) zero-le,
    )

pub refused_text : (text : List ℕ) (n : LineNumber) {e : RefusedAt} {number : ℕ} {line : Text} → indexed_of text ≡ Err e → number ≡ refusal_number e.refusal
    → line ≡ held (refused_line number e.place.0) → line ≡ held (answer_to text n)
refused_text text n {e = e} r k l = l ∙ ap (λ m. held (refused_line m e.place.0)) k ∙ ap held (sym (ap (told text n) r))
