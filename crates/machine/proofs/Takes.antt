-- The line of input from a place on goes as far as the code walks.
use Rattle.std.specs.Prelude.{Err, Ok}
use mathlib.Core.Path.{◌≡◌, refl, ◌∙◌}
use mathlib.Core.Logic.{⊎_elim}
use mathlib.Core.Bool.{cond}
use mathlib.Core.List.{List}
use Prim.Native.Nat.{ℕ, ◌-◌, ◌≤◌, ◌<◌}
use native.Mathlib.Omega.{arith}
use borrow.Author.Tests.{le-ltb, lt-ltb, ltb-true, ltb-false}
use lib.Dec.{ltb}
use lib.ListN.{length, drop}
use Rattle.whole.specs.declared.errors.Error.{Error}
use Rattle.whole.specs.declared.errors.Error.TheVariants.{LineBufferOverflow, InputPastEnd}
use Rattle.whole.proofs.Numbers.{less}
use Rattle.whole.proofs.Never.{never}
use Rattle.words.proofs.Choices.{by_test}
use Rattle.loader.specs.Lines.{extent_at}
use Rattle.loader.specs.declared.lines.Extent.{Extent}
use Rattle.loader.proofs.Extents.{passed, lines_out, walked, walked_size}
use Rattle.machine.specs.bridge.Taking.{taken_at}
use Rattle.machine.specs.Machine.{longest_input_line}

module _ (input : List ℕ) (p : ℕ) where
  -- no bytes are left
  pub taken_none : length input ≤ p → taken_at input p ≡ Err InputPastEnd
  taken_none h = rw (lines_out input p h)

  -- some are
  module _ {e : Extent} (h : p < length input) (q : e ≡ extent_at p (drop p input)) where
    taken_some : taken_at input p ≡ cond (ltb longest_input_line (e.end.0 - p)) (Err LineBufferOverflow) (Ok e)
    taken_some =
        let w = walked input p h q in
        let s = walked_size input p w in
        let k : length (passed input p e).bytes ≡ e.end.0 - p = omega arith in
        rw (w.lines, s, k)

    pub taken_long : longest_input_line < e.end.0 - p → taken_at input p ≡ Err LineBufferOverflow
    taken_long b = taken_some ∙ rw (lt-ltb longest_input_line (e.end.0 - p) b)

    pub taken_line : e.end.0 - p ≤ longest_input_line → taken_at input p ≡ Ok e
    taken_line b = taken_some ∙ rw (le-ltb longest_input_line (e.end.0 - p) b)

  -- ---- what was taken tells

  -- a line,
  pub record Took (e : Extent) : Type 0 where
    pub some : p < length input
    pub is : e ≡ extent_at p (drop p input)
    pub low : p ≤ e.end.0
    pub inside : e.end.0 ≤ length input
    pub short : e.end.0 - p ≤ longest_input_line

  pub took : {e : Extent} → taken_at input p ≡ Ok e → Took e
  took {e} t =
      ⊎_elim
      (λ h.
      let x = extent_at p (drop p input) in
      by_test (ltb longest_input_line (x.end.0 - p))
      (λ b. let f = taken_long h refl (ltb-true longest_input_line (x.end.0 - p) b) in never (cc))
      (λ b.
      let s = ltb-false longest_input_line (x.end.0 - p) b in
      let f = taken_line {e = x} h refl s in
      let g : e ≡ x = cc in
      let w = walked input p h g in
      record { some = h; is = g; low = w.low; inside = omega (arith, w.mid, w.inside); short = rw g s }))
      (λ h. let f = taken_none h in never (cc))
      (less p (length input))

  -- or why there is none
  pub untaken : (P : Error → Type 0) {x : Error} → taken_at input p ≡ Err x → (length input ≤ p → P InputPastEnd)
      → (p < length input → longest_input_line < (extent_at p (drop p input)).end.0 - p → P LineBufferOverflow) → P x
  untaken P {x} t none long =
      ⊎_elim
      (λ h.
      let w = extent_at p (drop p input) in
      by_test (ltb longest_input_line (w.end.0 - p))
      (λ b.
      let s = ltb-true longest_input_line (w.end.0 - p) b in
      let f = taken_long {e = w} h refl s in
      let g : x ≡ LineBufferOverflow = cc in rw g (long h s))
      (λ b.
      let f = taken_line {e = w} h refl (ltb-false longest_input_line (w.end.0 - p) b) in
      never (cc)))
      (λ h. let f = taken_none h in let g : x ≡ InputPastEnd = cc in rw g (none h))
      (less p (length input))
