-- How a statement is led tells whether it jumps on.
use Rattle.std.specs.Prelude.{Some, None, Option}
use mathlib.Core.Path.{◌≡◌, refl, sym, ◌∙◌, ap}
use mathlib.Core.Bool.{true, false}
use mathlib.Core.List.{List, [], ◌∷◌}
use Prim.Native.Nat.{ℕ}
use denote.Enum.Declared.{tag_of}
use types.Run.{OneOf, miss}
use Rattle.whole.proofs.Never.{never}
use Rattle.words.specs.Places.{place}
use Rattle.words.specs.declared.places.LineNumber.{LineNumber}
use Rattle.words.specs.declared.symbols.Scanned.{Scanned}
use Rattle.words.specs.declared.symbols.Word.{Word}
use Rattle.words.specs.declared.symbols.Word.TheVariants.{Let, Print, If, Then, Else, Goto, Gosub, Return, For, To, Step, Next, Line, Input, End, Stop, Rem, While, Wend, Data, Read, Restore}
use Rattle.scanner.specs.Tokens.{token_at}
use Rattle.grammar.specs.Trees.{Statement, empty, assign, print, if_then, if_else, goto, gosub, return, for, next, next_of, while, wend, line_input, data_of, read, restore, restore_to, end, stop, remark, Part, last, more}
use Rattle.grammar.specs.bridge.Answers.{line_of}
use Rattle.statements.specs.Parts.{head_of}
use Rattle.statements.specs.Statements.{done, by_word, lead_of, begun_by, begun_at, good_part, part_of}
use Rattle.statements.specs.declared.leading.Lead.{Lead}
use Rattle.statements.proofs.Findings.{by_line}
use Rattle.statements.proofs.Views.{Final, plain, thens, elses, more_view, final_view}
use Rattle.machine.specs.Order.{Stand, word_of}
use Rattle.machine.specs.bridge.Holding.{body_of}
use Rattle.order.specs.bridge.Walking.{lines_from, Ahead, lead_at}
use Rattle.order.specs.declared.texts.Spot.{Spot}
use Rattle.order.proofs.Texting.{here_ahead, told, parting}
use Rattle.order.proofs.Words.{WordedAs, part_led}
use Rattle.bounding.specs.Bounding.{jumps_on, own_number}
use Rattle.bounding.specs.bridge.Leading.{word_leads_on, leads_on}

-- ---- what the arms of the `match` on a word tell

abbrev word_tag : Word → ℕ
word_tag w = tag_of Rattle.words.specs.contracts.symbols.Word.the_type w

abbrev back_words : List ℕ
back_words = 8 ∷ 11 ∷ 6 ∷ 7 ∷ 17 ∷ 18 ∷ []

pub leads_back : (n : ℕ) (w : Word) (t : Scanned) → OneOf back_words (word_tag w) → false ≡ word_leads_on n w t
leads_back n Let t h = absurd (miss back_words 0 tt h)
leads_back n Print t h = absurd (miss back_words 1 tt h)
leads_back n If t h = absurd (miss back_words 2 tt h)
leads_back n Then t h = absurd (miss back_words 3 tt h)
leads_back n Else t h = absurd (miss back_words 4 tt h)
leads_back n Goto t h = absurd (miss back_words 5 tt h)
leads_back n Gosub t h = refl
leads_back n Return t h = refl
leads_back n For t h = refl
leads_back n To t h = absurd (miss back_words 9 tt h)
leads_back n Step t h = absurd (miss back_words 10 tt h)
leads_back n Next t h = refl
leads_back n Line t h = absurd (miss back_words 12 tt h)
leads_back n Input t h = absurd (miss back_words 13 tt h)
leads_back n End t h = absurd (miss back_words 14 tt h)
leads_back n Stop t h = absurd (miss back_words 15 tt h)
leads_back n Rem t h = absurd (miss back_words 16 tt h)
leads_back n While t h = refl
leads_back n Wend t h = refl
leads_back n Data t h = absurd (miss back_words 19 tt h)
leads_back n Read t h = absurd (miss back_words 20 tt h)
leads_back n Restore t h = absurd (miss back_words 21 tt h)

abbrev other_words : List ℕ
other_words = 0 ∷ 1 ∷ 2 ∷ 3 ∷ 4 ∷ 9 ∷ 10 ∷ 12 ∷ 13 ∷ 14 ∷ 15 ∷ 16 ∷ 19 ∷ 20 ∷ 21 ∷ []

pub leads_other : (n : ℕ) (w : Word) (t : Scanned) → OneOf other_words (word_tag w) → true ≡ word_leads_on n w t
leads_other n Let t h = refl
leads_other n Print t h = refl
leads_other n If t h = refl
leads_other n Then t h = refl
leads_other n Else t h = refl
leads_other n Goto t h = absurd (miss other_words 5 tt h)
leads_other n Gosub t h = absurd (miss other_words 6 tt h)
leads_other n Return t h = absurd (miss other_words 7 tt h)
leads_other n For t h = absurd (miss other_words 8 tt h)
leads_other n To t h = refl
leads_other n Step t h = refl
leads_other n Next t h = absurd (miss other_words 11 tt h)
leads_other n Line t h = refl
leads_other n Input t h = refl
leads_other n End t h = refl
leads_other n Stop t h = refl
leads_other n Rem t h = refl
leads_other n While t h = absurd (miss other_words 17 tt h)
leads_other n Wend t h = absurd (miss other_words 18 tt h)
leads_other n Data t h = refl
leads_other n Read t h = refl
leads_other n Restore t h = refl

-- ---- the statement that a part begins

-- the word that leads a statement, and of GOTO the line, say whether it jumps on
word_jumps : (n : ℕ) (w : Word) (t : Scanned) (x : Statement) → word_of x ≡ w → ((l : LineNumber) → x ≡ goto l → line_of t.token ≡ Some l)
    → word_leads_on n w t ≡ jumps_on n x
word_jumps n w t empty e h = rw (← e)
word_jumps n w t (assign v f) e h = rw (← e)
word_jumps n w t (print is) e h = rw (← e)
word_jumps n w t (if_then c p) e h = rw (← e)
word_jumps n w t (if_else c p q) e h = rw (← e)
word_jumps n w t (goto l) e h = rw (← e, h l refl)
word_jumps n w t (gosub l) e h = rw (← e)
word_jumps n w t return e h = rw (← e)
word_jumps n w t (for v from to by) e h = rw (← e)
word_jumps n w t next e h = rw (← e)
word_jumps n w t (next_of v) e h = rw (← e)
word_jumps n w t (while c) e h = rw (← e)
word_jumps n w t wend e h = rw (← e)
word_jumps n w t (line_input b v) e h = rw (← e)
word_jumps n w t (data_of l) e h = rw (← e)
word_jumps n w t (read vs) e h = rw (← e)
word_jumps n w t restore e h = rw (← e)
word_jumps n w t (restore_to l) e h = rw (← e)
word_jumps n w t end e h = rw (← e)
word_jumps n w t stop e h = rw (← e)
word_jumps n w t remark e h = rw (← e)

-- the line that a GOTO names is in the token after it
goto_line : (s : List ℕ) (w : Word) (t : Scanned) (l : LineNumber) (u : Scanned) → w ≡ Goto → by_word s w t ≡ done (goto l) u → line_of t.token ≡ Some l
goto_line s w t l u g =
    rw g
    (by_line (λ b. b ≡ done (goto l) u → line_of t.token ≡ Some l) t.token _ _
    (λ k n r e. let f : k ≡ l = cc in n ∙ ap Some f) (λ n e. never (cc)))

module _ (s : List ℕ) (p : ℕ) where
  record BegunAs (x : Statement) : Type 0 where
    end : Scanned
    begun : begun_at s true p ≡ done x end

  goto_begun : (q : Part) (u : Scanned) → part_of s true p ≡ good_part q u → (l : LineNumber) → head_of q ≡ goto l → BegunAs (goto l)
  goto_begun (more q x r) u e l h = let v = more_view s true p e in record { end = v.end; begun = v.begun ∙ ap (λ y. done y v.end) h }
  goto_begun (last q x) u e l h = by_final (final_view s true p e) h
    where
      by_final : {y : Statement} → Final s true p q y u → y ≡ goto l → BegunAs (goto l)
      by_final (plain f) h = record { end = u; begun = f.begun ∙ ap (λ y. done y u) h }
      by_final (thens f) h = never (cc)
      by_final (elses f) h = never (cc)

  leads_by : (n : ℕ) (k : Option Lead) → begun_by s k ≡ begun_at s true p → (q : Part) (u : Scanned) → part_of s true p ≡ good_part q u → WordedAs k q
      → leads_on n k ≡ jumps_on n (head_of q)
  leads_by n None b q u e h = absurd h
  leads_by n (Some lead) b q u e h =
      word_jumps n lead.word lead.ahead (head_of q) h (λ l i.
      let f = goto_begun q u e l i in
      goto_line s lead.word lead.ahead l f.end (sym h ∙ ap word_of i) (b ∙ f.begun))

  part_leads : (n : ℕ) (q : Part) (u : Scanned) → part_of s true p ≡ good_part q u
      → leads_on n (lead_of s true (token_at s (place p))) ≡ jumps_on n (head_of q)
  unfolding begun_at
  part_leads n q u e = leads_by n (lead_of s true (token_at s (place p))) refl q u e (part_led s p q u e)

-- ---- the statement at a spot

pub spot_leads : {text : List ℕ} {spot : Spot} {x : Stand} {xs : List Stand} (n : ℕ) → Ahead text spot (x ∷ xs)
    → leads_on n (lead_at text spot) ≡ jumps_on n (head_of x.part)
spot_leads {text} {spot} n a =
    let p = parting a in
    let t = told (here_ahead a) in
    rw p.is (part_leads (body_of (lines_from text spot)) spot.at.0 n p.first p.end (rw t.body at p.reads))

-- and its own line's number
pub spot_number : {text : List ℕ} {spot : Spot} {x : Stand} {xs : List Stand} → Ahead text spot (x ∷ xs) → spot.line.number.0 ≡ own_number x.lines
spot_number a =
    let p = parting a in
    let t = told (here_ahead a) in
    rw (p.is, t.here) (ap (λ (l : LineNumber). l.0) t.number)
