-- The parts of a block, laid side by side.
use mathlib.Core.Path.{◌≡◌, sym, ap, ◌∙◌}
use mathlib.Core.List.{List, ◌++◌, append_assoc, append-nil}
use Prim.Native.Nat.{ℕ, ◌+◌, ◌*◌, ◌≤◌}
use native.Mathlib.Omega.{arith}
use lib.ListN.{length, length-append, drop_of_length-le}
use Rattle.space.specs.Moves.{copied, overlaid}
use Rattle.space.proofs.Frames.{copied_lies}
use Rattle.space.proofs.Overlaid.{overlaid-length, overlaid_after}
use Rattle.variables.specs.Tables.{names_long}
use Rattle.variables.specs.Variables.{most_variables}
use Rattle.blocks.specs.Blocks.{words_at, labels_at, lengths_at, counts_at}

-- bytes copied over as many others
pub copied_whole : (space bytes : List ℕ) → length bytes ≡ length space → copied space 0 bytes ≡ bytes
unfolding overlaid
copied_whole space bytes e =
    copied_lies space 0 bytes (omega arith)
    ∙ ap (λ l. bytes ++ l) (drop_of_length-le space {i = 0 + length bytes} (omega arith))
    ∙ append-nil bytes

-- bytes copied in after those at the front
copied_after : (space a b : List ℕ) (at : ℕ) → length a ≡ at → at + length b ≤ length space
    → copied (copied space 0 a) at b ≡ copied space 0 (a ++ b)
copied_after space a b at e h =
    let k : 0 + length a ≡ at = omega arith in
    let n : length (overlaid space 0 a) ≡ length space = overlaid-length space 0 a (omega arith) in
    let m : 0 + length (a ++ b) ≤ length space = simp length-append (omega arith) in
    ap (λ l. copied l at b) (copied_lies space 0 a (omega arith))
    ∙ copied_lies (overlaid space 0 a) at b (omega arith)
    ∙ ap (λ j. overlaid (overlaid space 0 a) j b) (sym k)
    ∙ overlaid_after space 0 a b (omega arith)
    ∙ sym (copied_lies space 0 (a ++ b) m)

module _ (space a b s l c : List ℕ) (whole : length space ≡ counts_at + 2) where
  -- five parts that fill a block
  pub laid_out : length a ≡ words_at → length b ≡ 2 * most_variables → length s ≡ names_long → length l ≡ most_variables → length c ≡ 2
      → copied (copied (copied (copied (copied space 0 a) words_at b) labels_at s) lengths_at l) counts_at c ≡ a ++ (b ++ (s ++ (l ++ c)))
  laid_out ea eb es el ec =
      let e2 : length (a ++ b) ≡ labels_at = simp length-append (omega arith) in
      let e3 : length ((a ++ b) ++ s) ≡ lengths_at = simp length-append (omega arith) in
      let e4 : length (((a ++ b) ++ s) ++ l) ≡ counts_at = simp length-append (omega arith) in
      let e5 : length ((((a ++ b) ++ s) ++ l) ++ c) ≡ length space = simp length-append (omega arith) in
      ap (λ x. copied (copied (copied x labels_at s) lengths_at l) counts_at c) (copied_after space a b words_at ea (omega arith))
      ∙ ap (λ x. copied (copied x lengths_at l) counts_at c) (copied_after space (a ++ b) s labels_at e2 (omega arith))
      ∙ ap (λ x. copied x counts_at c) (copied_after space ((a ++ b) ++ s) l lengths_at e3 (omega arith))
      ∙ copied_after space (((a ++ b) ++ s) ++ l) c counts_at e4 (omega arith)
      ∙ copied_whole space ((((a ++ b) ++ s) ++ l) ++ c) e5
      ∙ simp append_assoc
