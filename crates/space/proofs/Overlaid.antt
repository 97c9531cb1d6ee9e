-- Bytes laid over a slice: what stands there then, and what laying them part by part makes.
use mathlib.Core.Path.{◌≡◌, sym, ap, ◌∙◌}
use mathlib.Core.List.{List, [], ◌∷◌, ◌++◌, append_assoc}
use Prim.Native.Nat.{ℕ, ◌+◌, ◌≤◌, ◌<◌}
use native.Mathlib.Nat.{le_refl}
use native.Mathlib.Numerals.{add-one}
use native.Mathlib.Omega.{arith}
use lib.ListN.{length, take, drop, set, length-append}
use lib.Seq.{paste, paste-zero, length-paste, take-paste, drop-paste, take-length, take-append_seam, take_at, drop_at, length-take-le, set_split}
use Rattle.space.specs.Moves.{overlaid}
use Rattle.space.proofs.Parts.{front_less, end_less}

module _ (space : List ℕ) (to : ℕ) (bytes : List ℕ) where
  -- bytes laid over are `lib.Seq`'s paste of all of them
  pub overlaid-paste : overlaid space to bytes ≡ paste space to bytes (length bytes)
  unfolding overlaid
  overlaid-paste = rw (take-length bytes, append_assoc)

  -- and a paste of so many of them is the front laid over
  pub paste-overlaid : (n : ℕ) → n ≤ length bytes → paste space to bytes n ≡ overlaid space to (take n bytes)
  unfolding overlaid
  paste-overlaid n h = rw (length-take-le n bytes h, append_assoc)

  -- the slice is as long as it was
  pub overlaid-length : to + length bytes ≤ length space → length (overlaid space to bytes) ≡ length space
  overlaid-length h = ap length overlaid-paste ∙ length-paste space to bytes (length bytes) h (le_refl _)

  module _ (h : to ≤ length space) where
    -- it begins with what stood below the bytes, and the bytes
    pub overlaid_front : take (to + length bytes) (overlaid space to bytes) ≡ take to space ++ bytes
    overlaid_front =
        ap (take (to + length bytes)) overlaid-paste ∙ take-paste space to bytes (length bytes) h (le_refl _) ∙ rw take-length

    -- and ends with the bytes, and what stood above them
    pub overlaid_back : drop to (overlaid space to bytes) ≡ bytes ++ drop (to + length bytes) space
    unfolding overlaid
    overlaid_back = drop_at (take to space) (bytes ++ drop (to + length bytes) space) to (length-take-le to space h)

    -- the bytes stand at the offset
    pub overlaid_bytes : take (length bytes) (drop to (overlaid space to bytes)) ≡ bytes
    overlaid_bytes = ap (take (length bytes)) overlaid_back ∙ take-append_seam bytes (drop (to + length bytes) space)

    -- what stands below them is kept
    pub overlaid_below : (n : ℕ) → n ≤ to → take n (overlaid space to bytes) ≡ take n space
    unfolding overlaid
    overlaid_below n b =
        front_less _ space to n b (take_at (take to space) (bytes ++ drop (to + length bytes) space) to (length-take-le to space h))

    -- and what stands above them
    pub overlaid_above : (n : ℕ) → to + length bytes ≤ n → drop n (overlaid space to bytes) ≡ drop n space
    overlaid_above n a =
        end_less (overlaid space to bytes) space (to + length bytes) n a
        (ap (drop (to + length bytes)) overlaid-paste ∙ drop-paste space to bytes (length bytes) h (le_refl _))

module _ (space : List ℕ) (to : ℕ) where
  -- to lay no bytes changes nothing
  pub overlaid_none : overlaid space to [] ≡ space
  overlaid_none = overlaid-paste space to [] ∙ sym (paste-zero space to [])

  -- to lay one is to store it
  pub overlaid_one : (b : ℕ) → to < length space → overlaid space to (b ∷ []) ≡ set space to b
  unfolding overlaid
  overlaid_one b h = sym (set_split space to b h ∙ rw add-one)

  -- it has what stood below the bytes, the bytes, and what stood above them
  between : (bytes front end : List ℕ) → take to space ≡ front → drop (to + length bytes) space ≡ end
      → overlaid space to bytes ≡ front ++ (bytes ++ end)
  unfolding overlaid
  between bytes front end f e = rw (f, e)

module _ (space : List ℕ) (to : ℕ) (a b : List ℕ) where
  -- two parts, one after the other, are the bytes of both
  joined : (s : List ℕ) → s ≡ take to space ++ (a ++ (b ++ drop (to + length a + length b) space)) → s ≡ overlaid space to (a ++ b)
  unfolding overlaid
  joined s e =
      let k : to + (length a + length b) ≡ to + length a + length b = omega arith in
      e ∙ rw (length-append a b, k, append_assoc)

  -- a part, and then the one after it: both are laid
  pub overlaid_after : to ≤ length space → overlaid (overlaid space to a) (to + length a) b ≡ overlaid space to (a ++ b)
  overlaid_after h =
      let n = to + length a + length b in
      joined _
      (between (overlaid space to a) (to + length a) b _ _ (overlaid_front space to a h) (overlaid_above space to a h n (omega arith))
      ∙ append_assoc (take to space) a (b ++ drop n space))

  -- a part, and then the one before it: both are laid
  pub overlaid_before : to + length a ≤ length space → overlaid (overlaid space (to + length a) b) to a ≡ overlaid space to (a ++ b)
  overlaid_before h =
      joined _
      (between (overlaid space (to + length a) b) to a _ _ (overlaid_below space (to + length a) b h to (omega arith))
      (overlaid_back space (to + length a) b h))
