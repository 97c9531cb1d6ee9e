-- Where the offset lies in the slice, what stands from it on is filled with zeros.
use Rattle.std.proofs.Common.{◌≡◌, refl, sym, ap, ◌∙◌, ◌-◌, length, take, drop, replicate, length-drop, arith}
use Rattle.std.proofs.Math.Seq.{paste, length-take-le}
use Rattle.std.proofs.lemmas.Slice.{put_mid-paste}
use Rattle.std.proofs.lemmas.List.{length-replicate}
use Rattle.space.proofs.Overlaid.{overlaid-paste}
use Rattle.space.proofs.Frames.{cleared_lies, cleared_past}
use Rattle.space.proofs.moves.clear_from.Goals as goal

pub returns-then-from-space : goal.returns-then-from-space
returns-then-from-space c =
    let space = c.args.space.now in
    let from = c.args.from.0 in
    let n = length space - from in
    let l : length (take n (drop from space)) ≡ n = length-take-le n (drop from space) (simp length-drop (omega arith)) in
    let zeros = rw l at (c.fill.ensures.after (λ y e. e)) in
    put_mid-paste from n space _ (replicate n 0) n zeros refl (sym (length-replicate n 0))
    ∙ ap (paste space from (replicate n 0)) (sym (length-replicate n 0))
    ∙ sym (overlaid-paste space from (replicate n 0)) ∙ sym (cleared_lies _ _ (omega arith))

pub returns-else-from-space : goal.returns-else-from-space
returns-else-from-space c = sym (cleared_past _ _ c.if-from-space.false)
