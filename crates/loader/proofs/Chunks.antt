-- Numbers cut into groups of one size, as `as_chunks` cuts them.
use mathlib.Core.Path.{◌≡◌, refl, ap, ◌∙◌}
use mathlib.Core.List.{List, []}
use Prim.Native.Nat.{ℕ, zero, suc, ◌+◌, ◌*◌, ◌/◌, ◌<◌}
use native.Mathlib.Omega.{arith}
use lib.ListN.{length, get_or, drop}
use lib.Seq.{get_or-take, get_or-drop}
use Rattle.std.specs.Simd.{first_chunks}

-- how many there are
pub chunks_long : (n k : ℕ) (l : List ℕ) → length (first_chunks n k l) ≡ k
chunks_long n zero l = refl
chunks_long n (suc k) l = ap suc (chunks_long n k (drop n l))

-- a number of one of them
pub chunk_at : (n k i j : ℕ) (l : List ℕ) → i < k → j < n → get_or (get_or (first_chunks n k l) i []) j 0 ≡ get_or l (n * i + j) 0
chunk_at n zero i j l h b = absurd (omega arith)
chunk_at n (suc k) zero j l h b = let z : j ≡ n * 0 + j = omega arith in get_or-take n l j 0 b ∙ ap (λ x. get_or l x 0) z
chunk_at n (suc k) (suc i) j l h b =
    let s : n + (n * i + j) ≡ n * suc i + j = omega arith in
    chunk_at n k i j (drop n l) (omega arith) b ∙ get_or-drop n l (n * i + j) 0 ∙ ap (λ x. get_or l x 0) s

-- all that stands behind the first
pub cut_behind : (n : ℕ) {part whole : List ℕ} {table : List (List ℕ)} → table ≡ first_chunks n (length part / n) part → part ≡ whole
    → table ≡ first_chunks n (length whole / n) whole
cut_behind n q e = rw (← e) q
