-- The word that leads a statement is the one that the definition says.
use Rattle.std.specs.Prelude.{None, Option, Some}
use mathlib.Core.Path.{◌≡◌, refl, sym, ◌∙◌}
use mathlib.Core.Bool.{true}
use mathlib.Core.List.{List}
use Prim.Native.Nat.{ℕ}
use Rattle.whole.proofs.Never.{never}
use Rattle.words.specs.Places.{place}
use Rattle.words.specs.declared.symbols.Scanned.{Scanned}
use Rattle.words.specs.declared.symbols.Word.{Word}
use Rattle.words.specs.declared.symbols.Word.TheVariants.{Let, Print, If, Then, Else, Goto, Gosub, Return, For, To, Step, Next, Line, Input, End, Stop, Rem, While, Wend, Data, Read, Restore}
use Rattle.scanner.specs.Tokens.{token_at}
use Rattle.grammar.specs.Tests.{is_keyword}
use Rattle.grammar.specs.Trees.{Part, last, more}
use Rattle.statements.specs.Parts.{head_of}
use Rattle.statements.specs.Statements.{Begun, bad, done, choice, variable_of, by_word, lead_of, begun_by, begun_at, good_part, part_of}
use Rattle.statements.specs.declared.leading.Lead.{Lead}
use Rattle.grammar.specs.Formulas.{after}
use Rattle.statements.proofs.Findings.{by_name, by_line}
use Rattle.statements.proofs.Parts.{unrolled}
use Rattle.statements.proofs.Views.{Final, plain, thens, elses, more_view, final_view}
use Rattle.statements.proofs.Ways.{if_so, by_assign, by_items, by_condition, by_for, by_repeat, by_data, by_read, by_input}
use Rattle.machine.specs.Order.{word_of}

-- what a word leads is a statement of that word
abbrev Worded : Word → Begun → Type 0
Worded w bad = Unit {0}
Worded w (done x u) = word_of x ≡ w
Worded w (choice c u) = If ≡ w

module _ (s : List ℕ) (t : Scanned) where
  worded : (w : Word) → Worded w (by_word s w t)
  worded Let = by_name (Worded Let) t.token _ _ (λ v f n. by_assign (Worded Let) tt s (after s t) (variable_of s v) (λ g u e. refl)) (λ n. tt)
  worded Print = by_items (Worded Print) tt s t (λ is u e. refl)
  worded If = by_condition (Worded If) tt s t (λ c u e. refl)
  worded Then = tt
  worded Else = refl
  worded Goto = by_line (Worded Goto) t.token _ _ (λ l n r. refl) (λ n. tt)
  worded Gosub = by_line (Worded Gosub) t.token _ _ (λ l n r. refl) (λ n. tt)
  worded Return = refl
  worded For = by_name (Worded For) t.token _ _ (λ v f n. by_for (Worded For) tt s (after s t) (variable_of s v) (λ a b c u e. refl)) (λ n. tt)
  worded To = tt
  worded Step = tt
  worded Next = by_name (Worded Next) t.token _ _ (λ v f n. refl) (λ n. refl)
  worded Line = if_so (Worded Line) tt (is_keyword Input t.token) _ (by_input (Worded Line) tt s (after s t) (λ text v u e. refl))
  worded Input = tt
  worded End = refl
  worded Stop = refl
  worded Rem = refl
  worded While = by_repeat (Worded While) tt s t (λ c u e. refl)
  worded Wend = refl
  worded Data = by_data (Worded Data) tt s t (λ l p e. refl)
  worded Read = by_read (Worded Read) tt s t (λ vs u e. refl)
  worded Restore = by_line (Worded Restore) t.token _ _ (λ l n r. refl) (λ n. refl)

abbrev LedAs : Option Lead → Begun → Type 0
LedAs (Some lead) b = Worded lead.word b
LedAs None b = b ≡ bad

led_as : (s : List ℕ) (l : Option Lead) → LedAs l (begun_by s l)
led_as s (Some lead) = worded s lead.ahead lead.word
led_as s None = refl

begun_led : (s : List ℕ) (p : ℕ) → LedAs (lead_of s true (token_at s (place p))) (begun_at s true p)
unfolding begun_at
begun_led s p = led_as s (lead_of s true (token_at s (place p)))

-- the statement that begins a part is of the word that leads it
abbrev pub WordedAs : Option Lead → Part → Type 0
WordedAs (Some lead) q = word_of (head_of q) ≡ lead.word
WordedAs None q = ⊥

module _ (s : List ℕ) (p : ℕ) where
  bad_not : {q : Part} {u : Scanned} → part_of s true p ≡ good_part q u → begun_at s true p ≡ bad → ⊥
  bad_not e b = let f = sym (unrolled s true p) ∙ e in let g = rw b at f in never (cc)

  part_by : (l : Option Lead) → LedAs l (begun_at s true p) → (q : Part) (u : Scanned) → part_of s true p ≡ good_part q u → WordedAs l q
  part_by None h q u e = bad_not e h
  part_by (Some lead) h (more q x r) u e = rw (more_view s true p e).begun at h
  part_by (Some lead) h (last q x) u e = by_final (final_view s true p e)
    where
      by_final : {y : _} → Final s true p q y u → word_of y ≡ lead.word
      by_final (plain f) = rw f.begun at h
      by_final (thens f) = rw f.begun at h
      by_final (elses f) = rw f.begun at h

  pub part_led : (q : Part) (u : Scanned) → part_of s true p ≡ good_part q u → WordedAs (lead_of s true (token_at s (place p))) q
  part_led q u e = part_by (lead_of s true (token_at s (place p))) (begun_led s p) q u e
