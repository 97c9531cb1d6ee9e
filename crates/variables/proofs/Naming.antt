-- A name more in a table, and a value more beside it.
use mathlib.Core.Path.{◌≡◌, refl, sym, ap, ◌∙◌}
use mathlib.Core.Bool.{true}
use mathlib.Core.List.{List, [], ◌∷◌, ◌++◌, append_assoc, append-nil}
use Prim.Native.Nat.{ℕ, zero, suc, ◌+◌, ◌-◌, ◌*◌, ◌≤◌, ◌<◌}
use native.Mathlib.Omega.{arith}
use lib.ListN.{length, take, drop, get_or, set, replicate}
use lib.Seq.{take-add, drop_at, drop-set-lt}
use Rattle.words.specs.Names.{Telling, name_width, telling, alike, entry_of}
use Rattle.variables.specs.bridge.Memory.{Tells, name_at, with_name}
use Rattle.variables.specs.Tables.{name_bytes, names_from}
use Rattle.words.proofs.Tellings.{told_again, told_cut, entry_length, entry_told, entry_alone, same_self}
use Rattle.space.proofs.Frames.{copied-length, copied_below, copied_above, copied_bytes}
use Rattle.variables.proofs.Names.{name_is}
use Rattle.variables.proofs.Lookups.{part_kept}
use Rattle.variables.proofs.Ways.{names_split}
use Rattle.variables.proofs.Holding.{blank_after}

-- as many names as the bytes at the front hold
names_same : (n : ℕ) (a b : List ℕ) → take (name_width * n) a ≡ take (name_width * n) b → names_from n a ≡ names_from n b
unfolding names_from
names_same zero a b e = refl
names_same (suc n) a b e =
    let z : name_width * suc n ≡ name_width + name_width * n = omega arith in
    let f : take (name_width + name_width * n) a ≡ take (name_width + name_width * n) b = rw z at e in
    let first : telling a ≡ telling b =
    sym (told_cut (name_width + name_width * n) a (omega arith)) ∙ ap telling f ∙ told_cut (name_width + name_width * n) b (omega arith) in
    let others = names_same n (drop name_width a) (drop name_width b) (part_kept b a name_width (name_width * n) f) in
    rw (first, others)

-- the first of the names whose bytes are laid side by side, and the others
pub names_laid : (n : ℕ) (name : Telling) (ns : List Telling) (rest : List ℕ)
    → names_from (suc n) (name_bytes (name ∷ ns) ++ rest) ≡ telling name ∷ names_from n (name_bytes ns ++ rest)
unfolding names_from name_bytes
names_laid n name ns rest =
    rw (append_assoc (entry_of name) (name_bytes ns) rest, entry_told name (name_bytes ns ++ rest), drop_at (entry_of name) (name_bytes ns ++ rest) name_width (entry_length name))

bytes_more : (ns : List Telling) (name : Telling) → name_bytes (ns ++ (name ∷ [])) ≡ name_bytes ns ++ entry_of name
unfolding name_bytes
bytes_more [] name = append-nil (entry_of name)
bytes_more (n ∷ ns) name = ap (λ l. entry_of n ++ l) (bytes_more ns name) ∙ sym (append_assoc (entry_of n) (name_bytes ns) (entry_of name))

module _ (names : List ℕ) (count : ℕ) (name : Telling) (room : name_width * count + name_width ≤ length names) where
  abbrev named : List ℕ
  named = with_name names count name

  lies : name_width * count + length (entry_of name) ≤ length names
  lies = omega (arith, entry_length name)

  pub named-length : length named ≡ length names
  named-length = copied-length names (name_width * count) (entry_of name)

  -- those before it are kept
  front_kept : take (name_width * count) named ≡ take (name_width * count) names
  front_kept = copied_below names (name_width * count) (entry_of name) (name_width * count) (omega arith)

  names_before : names_from count named ≡ names_from count names
  names_before = names_same count named names front_kept

  entry_put : take name_width (drop (name_width * count) named) ≡ entry_of name
  entry_put = rw (entry_length name) at (copied_bytes names (name_width * count) (entry_of name) lies)

  name_told : telling (drop (name_width * count) named) ≡ telling name
  name_told =
      sym (told_cut name_width (drop (name_width * count) named) (omega arith)) ∙ ap telling entry_put ∙ entry_alone name

  -- the entries before it keep their names, and it has its own
  pub names_kept : (i : ℕ) → i < count → name_at named i ≡ name_at names i
  names_kept i h = sym (name_is count named i [] h) ∙ ap (λ ns. get_or ns i []) names_before ∙ name_is count names i [] h

  pub name_put : alike (name_at named count) name ≡ true
  name_put = rw (name_told, told_again name) (same_self (telling name))

  -- zeros come after it
  pub names_after : (n : ℕ) → drop (name_width * count) names ≡ replicate (n - name_width * count) 0
      → drop (name_width * (count + 1)) named ≡ replicate (n - name_width * (count + 1)) 0
  names_after n e =
      let f : name_width * (count + 1) ≡ name_width * count + name_width = omega arith in
      let g : n - (name_width * count + name_width) ≡ n - name_width * count - name_width = omega arith in
      copied_above names (name_width * count) (entry_of name) (name_width * (count + 1)) (omega (arith, entry_length name))
      ∙ rw (f, g) (blank_after names (name_width * count) (n - name_width * count) name_width e)

  module _ (own : Tells name) where
    name_here : names_from 1 (drop (name_width * count) named) ≡ name ∷ []
    unfolding names_from
    name_here = ap (λ n. n ∷ []) (name_told ∙ own)

    -- it comes after them
    pub names_more : names_from (count + 1) named ≡ names_from count names ++ (name ∷ [])
    names_more = names_split count 1 named ∙ rw (names_before, name_here)

    -- with zeros up to its width
    pub names_filled : name_bytes (names_from count names) ≡ take (name_width * count) names
        → name_bytes (names_from (count + 1) named) ≡ take (name_width * (count + 1)) named
    names_filled e =
        let f : name_width * (count + 1) ≡ name_width * count + name_width = omega arith in
        ap name_bytes names_more
        ∙ bytes_more (names_from count names) name
        ∙ rw (e, f, take-add (name_width * count) name_width named, front_kept, entry_put)

-- a value more: zeros come after it
module _ (l : List ℕ) (n count v : ℕ) (e : drop count l ≡ replicate (n - count) 0) where
  pub values_after : drop (count + 1) (set l count v) ≡ replicate (n - (count + 1)) 0
  values_after =
      let g : n - (count + 1) ≡ n - count - 1 = omega arith in
      drop-set-lt (count + 1) l count v (omega arith) ∙ rw g (blank_after l count (n - count) 1 e)

  -- and after one that is set
  pub values_behind : (i : ℕ) → i < count → drop count (set l i v) ≡ replicate (n - count) 0
  values_behind i h = drop-set-lt count l i v h ∙ e
