-- A part of a text, as LEFT$, RIGHT$ and MID$ take it: as far as the text goes.
use mathlib.Core.Path.{◌≡◌, sym, ap, ◌∙◌}
use mathlib.Core.Logic.{⊎_elim}
use mathlib.Core.List.{List}
use Prim.Native.Nat.{ℕ, ◌+◌, ◌-◌, ◌≤◌, min}
use native.Mathlib.Nat.{le_refl}
use native.Mathlib.Omega.{arith}
use lib.ListN.{length, take, drop, length-take, length-drop, drop_of_length-le}
use lib.Seq.{take_all, take-take, drop-drop}
use Rattle.whole.proofs.Numbers.{less}
use Rattle.space.proofs.Parts.{part_below}
use Rattle.variables.proofs.Bytewise.{part_length}

-- fewer bytes are taken where there are fewer
take_most : (most : ℕ) (l : List ℕ) → take (min most (length l)) l ≡ take most l
take_most most l =
    ⊎_elim
    (λ h. let e : min most (length l) ≡ most = omega arith in rw e)
    (λ h. let e : min most (length l) ≡ length l = omega arith in
    take_all (min most (length l)) l (omega arith) ∙ sym (take_all most l h))
    (less most (length l))

-- and they begin at the end where there are not so many
drop_most : (from : ℕ) (l : List ℕ) → drop (min from (length l)) l ≡ drop from l
drop_most from l =
    ⊎_elim
    (λ h. let e : min from (length l) ≡ from = omega arith in rw e)
    (λ h. let e : length l ≤ min from (length l) = omega arith in drop_of_length-le l e ∙ sym (drop_of_length-le l h))
    (less from (length l))

-- the bytes that the code moves are those of the part
module _ (space : List ℕ) (used all from most start len : ℕ) (h : used + all ≤ length space)
    (s : start ≡ min from all) (n : len ≡ min most (all - start)) where
  abbrev text : List ℕ
  text = take all (drop used space)

  long : length text ≡ all
  long = part_length space used all h

  pub part_is : take len (drop (used + start) space) ≡ take most (drop from text)
  part_is =
      let d = length-drop start text in
      let m : len ≡ min most (length (drop start text)) = omega (arith, long) in
      let f : start ≡ min from (length text) = omega (arith, long) in
      rw (← drop-drop start used space)
      (sym (part_below text (drop used space) all start len (omega arith) (take-take all all (drop used space) (le_refl all)))
      ∙ ap (λ k. take k (drop start text)) m
      ∙ take_most most (drop start text)
      ∙ ap (take most) (ap (λ k. drop k text) f ∙ drop_most from text))

  pub part_long : length (take most (drop from text)) ≡ len
  part_long =
      let d = length-drop from text in let t = length-take most (drop from text) in omega (arith, long)

-- RIGHT$: so many of the last bytes are all from there on
pub last_bytes : (text : List ℕ) (len n from : ℕ) → length text ≡ len → from ≡ len - min n len
    → take n (drop from text) ≡ drop (length text - n) text
last_bytes text len n from l e =
    let f : from ≡ length text - n = omega arith in
    let d = length-drop from text in
    take_all n (drop from text) (omega arith) ∙ ap (λ k. drop k text) f
