-- The buffer's first bytes are filled, and the others stay zeros.
use Rattle.std.proofs.Common.{◌≡◌, List, ◌++◌, ℕ, ◌≤◌, sym, length, take, drop, replicate}
use Rattle.std.proofs.Math.Seq.{length-take-le}
use Rattle.std.proofs.lemmas.List.{length-replicate, drop-replicate}
use Rattle.whole.specs.Texts.{held, longest_string}
use Rattle.strings.proofs.making.repeated.Goals as goal

filled : (n b : ℕ) (front : List ℕ) → n ≤ longest_string → front ≡ replicate (length {A = ℕ} (take n (replicate longest_string 0))) b
    → held (replicate n b) ≡ record { bytes = front ++ drop n (replicate longest_string 0); len = n }
unfolding held
filled n b front h e =
    let l : length {A = ℕ} (take n (replicate longest_string 0)) ≡ n = length-take-le n (replicate longest_string 0) h in
    rw (e, l, length-replicate n b, drop-replicate {X = ℕ} n longest_string 0)

pub returns : goal.returns
returns c = sym (filled c.args.count c.args.byte _ c.requires (c.fill.ensures.after (λ y e. e)))
