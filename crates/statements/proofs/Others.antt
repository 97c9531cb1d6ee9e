-- What an arm of a `match` that stands for several cases tells of each of them.
use Rattle.std.specs.Prelude.{Some}
use mathlib.Core.Path.{◌≡◌, refl, sym, ap, ◌∙◌}
use mathlib.Core.Bool.{true}
use mathlib.Core.List.{List, [], ◌∷◌, map}
use mathlib.Core.Logic.{inl, inr}
use Prim.Native.Nat.{ℕ, zero, suc}
use denote.Enum.Declared.{tag_of}
use types.Run.{OneOf}
use Rattle.words.specs.declared.symbols.Scanned.{Scanned}
use Rattle.words.specs.declared.symbols.Word.{Word}
use Rattle.words.specs.declared.symbols.Word.TheVariants.{Let, Print, If, Then, Else, Goto, Gosub, Return, For, To, Step, Next, Line, Input, End, Stop, Rem, While, Wend, Data, Read, Restore}
use Rattle.grammar.specs.Formulas.{after}
use Rattle.statements.specs.Statements.{bad, by_word}
use Rattle.statements.specs.Parts.{deepest}
use Rattle.statements.specs.bridge.Answers.{formed_read, begun_answer}
use Rattle.statements.proofs.Findings.{jump_same}

-- ---- words

abbrev word_tag : Word → ℕ
word_tag w = tag_of Rattle.words.specs.contracts.symbols.Word.the_type w

abbrev nth : List Word → ℕ → Word
nth [] k = Restore
nth (w ∷ l) zero = w
nth (w ∷ l) (suc k) = nth l k

abbrev word_at : ℕ → Word
word_at k = nth (Let ∷ Print ∷ If ∷ Then ∷ Else ∷ Goto ∷ Gosub ∷ Return ∷ For ∷ To ∷ Step ∷ Next ∷ Line ∷ Input ∷ End ∷ Stop ∷ Rem ∷ While ∷ Wend ∷ Data ∷ Read ∷ []) k

-- a word is told by its place in the list
told : (w : Word) → word_at (word_tag w) ≡ w
told Let = refl
told Print = refl
told If = refl
told Then = refl
told Else = refl
told Goto = refl
told Gosub = refl
told Return = refl
told For = refl
told To = refl
told Step = refl
told Next = refl
told Line = refl
told Input = refl
told End = refl
told Stop = refl
told Rem = refl
told While = refl
told Wend = refl
told Data = refl
told Read = refl
told Restore = refl

-- what is r of each of some words is r of a word that is one of them
module _ {A : Type 0} (g : Word → A) (r : A) where
  same : (w x : Word) → r ≡ g w → word_tag x ≡ word_tag w → r ≡ g x
  same w x e t = e ∙ ap g (sym (told w) ∙ ap word_at (sym t) ∙ told x)

  of_words : (l : List Word) → map (λ w. r) l ≡ map g l → (x : Word) → OneOf (map word_tag l) (word_tag x) → r ≡ g x
  of_words [] e x t = absurd t
  of_words (w ∷ []) e x t = same w x (cc) t
  of_words (w ∷ w' ∷ l) e x (inl t) = same w x (cc) t
  of_words (w ∷ w' ∷ l) e x (inr t) = of_words (w' ∷ l) (cc) x t

module _ (s : List ℕ) (x : Word) (t : Scanned) where
  -- GOTO and GOSUB
  pub word_jumps : OneOf (5 ∷ 6 ∷ []) (word_tag x) → begun_answer (by_word s Goto t) ≡ begun_answer (by_word s x t)
  word_jumps h =
      let e = jump_same t.token (after s t) in
      of_words (λ w. begun_answer (by_word s w t)) (begun_answer (by_word s Goto t)) (Goto ∷ Gosub ∷ []) (cc) x h

  -- a word alone, and the empty statement
  pub word_alone : OneOf (4 ∷ 7 ∷ 14 ∷ 15 ∷ 16 ∷ 18 ∷ []) (word_tag x) → Some (formed_read t 0 true) ≡ begun_answer (by_word s x t)
  unfolding deepest
  word_alone h =
      of_words (λ w. begun_answer (by_word s w t)) (Some (formed_read t 0 true)) (Else ∷ Return ∷ End ∷ Stop ∷ Rem ∷ Wend ∷ []) refl x h

  -- a word that begins no statement
  pub no_word : OneOf (3 ∷ 9 ∷ 10 ∷ 13 ∷ []) (word_tag x) → bad ≡ by_word s x t
  no_word h =
      of_words (λ w. by_word s w t) bad (Then ∷ To ∷ Step ∷ Input ∷ []) refl x h
