-- What a token is read from: the first byte that is no blank, and the run that it begins.
use mathlib.Core.Path.{◌≡◌, sym, ap}
use mathlib.Core.Logic.{⊎_elim}
use mathlib.Core.List.{List, [], ◌∷◌}
use Prim.Native.Nat.{ℕ, ◌+◌, ◌-◌, ◌≤◌, ◌<◌}
use native.Mathlib.Omega.{arith}
use lib.ListN.{length, get_or, take, drop, length-take, drop_of_length-le, get_or-eq_default}
use lib.Seq.{drop-drop}
use Rattle.whole.specs.Bytes.{leading}
use Rattle.whole.specs.Digits.{blanks_of}
use Rattle.whole.proofs.Numbers.{less}
use Rattle.whole.proofs.Reading.{drop_next}
use Rattle.words.specs.Classes.{class_of}
use Rattle.words.specs.Vocabulary.{word_of}
use Rattle.words.specs.declared.places.Place.{Place}
use Rattle.words.specs.declared.classes.ByteClass.{ByteClass}
use Rattle.words.specs.declared.vocabulary.WordFound.{WordFound}
use Rattle.words.specs.declared.vocabulary.WordFound.TheVariants.{Free}
use Rattle.words.specs.declared.symbols.Token.TheVariants.{EndOfLine}
use Rattle.words.proofs.Packing.{short_word}
use Rattle.words.proofs.Runs.{run_part}
use Rattle.scanner.specs.Runs.{passes}
use Rattle.scanner.specs.Tokens.{◌upto◌, mark_of, marked, word_token, begun, token_at}
use Rattle.scanner.specs.declared.runs.Run.TheVariants.{Word}
use Rattle.scanner.specs.declared.tokens.Mark.{Mark}

-- past the end stands a 0, which is no mark
pub mark_here : (s : List ℕ) (i : ℕ) → mark_of (drop i s) ≡ mark_of (get_or s i 0 ∷ [])
unfolding mark_of
mark_here s i =
    ⊎_elim (λ h. ap mark_of (drop_next s i h)) (λ h. rw (drop_of_length-le s h, get_or-eq_default s 0 h)) (less i (length s))

-- a word is its run, looked up, with the mark after it
pub word_here : (s : List ℕ) (i end : ℕ) (f : WordFound) (m : Mark) → end ≡ i + length (leading (passes Word) (drop i s))
    → f ≡ word_of (take (end - i) (drop i s)) → m ≡ mark_of (drop end s) → word_token (length s) i (drop i s) ≡ marked f m i (end - i) (length s)
unfolding word_token
word_here s i end f m e p q =
    let z : end - i ≡ length (leading (passes Word) (drop i s)) = omega arith in
    rw (p, q, run_part (passes Word) s i e, z, e, drop-drop)

-- one of one letter is a name
pub name_here : (s : List ℕ) (i end : ℕ) (m : Mark) → end ≡ i + length (leading (passes Word) (drop i s)) → end ≡ i + 1
    → m ≡ mark_of (drop end s) → word_token (length s) i (drop i s) ≡ marked Free m i (end - i) (length s)
name_here s i end m e o q =
    let w = take (end - i) (drop i s) in
    word_here s i end Free m e (sym (short_word w (omega (arith, length-take (end - i) (drop i s))))) q

module _ (line : List ℕ) (at : Place) (i : ℕ) (first : i ≡ at.0 + blanks_of (drop at.0 line)) where
  -- where only blanks are left, the line ends
  pub ends_here : length line ≤ i → token_at line at ≡ (EndOfLine upto length line)
  unfolding token_at
  ends_here h = rw (← first, drop_of_length-le line h)

  -- anywhere else a token begins by the class of its first byte
  pub begins_here : i < length line → token_at line at ≡ begun (class_of (get_or line i 0)) (length line) i (drop i line)
  unfolding token_at
  begins_here h = rw (← first, drop_next line i h)

  -- which a look into the table tells
  pub begun_here : (k : ByteClass) → i < length line → k ≡ class_of (get_or line i 0) → token_at line at ≡ begun k (length line) i (drop i line)
  begun_here k h e = rw e (begins_here h)
