-- The loop keeps that the characters so far that tell stand at the front, and zeros after them.
use mathlib.Core.Path.{◌≡◌, sym, ◌∙◌}
use mathlib.Core.List.{List, ◌++◌, map}
use Prim.Native.Nat.{ℕ, suc, ◌+◌, ◌-◌}
use native.Mathlib.Omega.{arith}
use lib.ListN.{length, get_or, take, replicate}
use lib.Seq.{take_all}
use Rattle.words.specs.Classes.{capital_of}
use Rattle.words.specs.Names.{name_width, name_bytes, telling, telling_of, entry_of}
use Rattle.words.proofs.Tellings.{told_again, told_length, told_more, told_get, told_over, put_next, capital_at}
use Rattle.words.proofs.names.telling_of.Goals as goal

-- where the name is over all of it stands there
all_told : (s : List ℕ) (i : ℕ) → i ≡ length (telling (map capital_of s))
    → take i (telling (map capital_of s)) ++ replicate (name_width - i) 0 ≡ entry_of (telling_of s)
unfolding telling_of
all_told s i e = let t = telling (map capital_of s) in rw (told_again (map capital_of s), e, take_all (length t) t (omega arith))

pub returns-then-letter-eq0 : goal.returns-then-letter-eq0
returns-then-letter-eq0 c =
    let bytes : List ℕ = name_bytes c.args.line.now c.args.name in
    let letter : c.character-letter.result ≡ get_or (map capital_of bytes) c.loop-count.count 0 = c.character-letter.ensures ∙ sym (capital_at bytes c.loop-count.count) in
    let over = told_over (map capital_of (bytes)) c.loop-count.count (sym (letter) ∙ c.if-letter-eq0.true) in
    c.loop-count.invariant.1 ∙ all_told (bytes) c.loop-count.count (omega (arith, c.loop-count.invariant.0))

pub loop-count-preserved : goal.loop-count-preserved
loop-count-preserved c =
    let bytes : List ℕ = name_bytes c.args.line.now c.args.name in
    let letter : c.character-letter.result ≡ get_or (map capital_of bytes) c.loop-count.count 0 = c.character-letter.ensures ∙ sym (capital_at bytes c.loop-count.count) in
    let t = telling (map capital_of (bytes)) in
    let more = told_more (map capital_of (bytes)) c.loop-count.count (omega arith) c.loop-count.invariant.0 (λ e. c.if-letter-eq0.false (letter ∙ e)) in
    let z : name_width - c.loop-count.count ≡ suc (name_width - (c.loop-count.count + 1)) = omega arith in (
      omega arith,
      rw (c.loop-count.invariant.1, z)
          (put_next t c.loop-count.count (name_width - (c.loop-count.count + 1)) c.character-letter.result more
          (told_get (map capital_of (bytes)) c.loop-count.count more ∙ sym (letter))),
    )

pub returns : goal.returns
returns c = let s = name_bytes c.args.line.now c.args.name in
    c.loop-count.invariant.1 ∙ all_told s c.loop-count.count (omega (arith, c.loop-count.invariant.0, told_length (map capital_of s)))
