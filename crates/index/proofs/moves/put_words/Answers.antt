-- A part of the slice is overlaid.
use Rattle.std.proofs.Common.{refl, sym, ◌∙◌, length, arith}
use Rattle.std.proofs.lemmas.Slice.{put_mid-paste}
use Rattle.space.proofs.Overlaid.{overlaid-paste}
use Rattle.index.proofs.moves.put_words.Goals as goal

pub returns : goal.returns
returns c =
    let words = c.args.words.now in
    let room = c.args.room.now in
    put_mid-paste _ _ room _ words (length words) c.copy_from_slice.ensures.after (omega arith) refl ∙ sym (overlaid-paste room c.args.to words)
