-- Each parenthesis that is open took a byte of its own, so a line opens no more of them than it has bytes.
use mathlib.Core.List.{List}
use Prim.Native.Nat.{ℕ, zero, suc, ◌+◌, ◌-◌, ◌*◌, ◌/◌, ◌%◌, ◌≤◌}
use native.Mathlib.Omega.{arith}
use lib.ListN.{length, length-drop}
use lib.Dec.{eqb}
use Rattle.words.specs.declared.places.Place.{Place}
use Rattle.words.specs.declared.symbols.Scanned.{Scanned}
use Rattle.words.specs.declared.symbols.Sign.TheVariants.{Open, Close, Comma, Semicolon, Colon, Question, Equal, Minus}
use Rattle.words.specs.declared.symbols.Token.{Token}
use Rattle.words.specs.declared.symbols.Token.TheVariants.{EndOfLine, Keyword, Not, Infix, Call, Named, Number, Hexadecimal, LineOnly, Quoted, Symbol, Unreadable}
use Rattle.words.proofs.Choices.{by_test}
use Rattle.scanner.specs.Tokens.{reads, token_at}
use Rattle.scanner.proofs.Ends.{token_ends}
use Rattle.grammar.specs.Tests.{is_symbol}
use Rattle.grammar.specs.Formulas.{minus_stands, not_stands, tight_operator}
use Rattle.skimming.specs.bridge.Full.{Standing, over, at, moved, last_mark, turned, stands_after, open_in, NeverFull}
use Rattle.skimming.specs.bridge.Remaining.{weight}
use Rattle.skimming.specs.bridge.Steps.{want_step, end_step, step_of}
use Rattle.skimming.specs.declared.stepping.Phase.{Phase}
use Rattle.skimming.specs.declared.stepping.Phase.TheVariants as phase
use Rattle.skimming.specs.declared.stepping.Step.{Step}
use Rattle.skimming.specs.declared.stepping.Step.TheVariants.{Refused, Ends, Wants, Has, Opens, Renews, Closes}
use Rattle.skimming.proofs.Grammar.{by_found}
use Rattle.skimming.proofs.Lightness.{Lightens, step_lightens}
use Rattle.skimming.proofs.Weights.{token_weight}

module _ (s : List ℕ) where
  -- ---- what a step goes on to is a token of the line, and ends within it

  abbrev Within : Scanned → Type 0
  Within t = t.next.0 ≤ length s

  abbrev Onto : Step → Type 0
  Onto Refused = Unit {0}
  Onto Ends = Unit {0}
  Onto (Wants u level) = Within u
  Onto (Has u) = Within u
  Onto (Opens u m) = Within u
  Onto (Renews u m) = Within u
  Onto (Closes u) = Within u

  want_onto : (level : ℕ) (token : Token) (next : Place) → Onto (want_step s level token next)
  want_onto level (Number w) next = (token_ends s next).within
  want_onto level (Hexadecimal w) next = (token_ends s next).within
  want_onto level (Named v) next = (token_ends s next).within
  want_onto level (Quoted q) next = (token_ends s next).within
  want_onto level (Symbol Open) next = (token_ends s next).within
  want_onto level (Symbol Minus) next = by_test (minus_stands level) (λ e. rw e (token_ends s next).within) (λ e. rw e tt)
  want_onto level (Symbol Close) next = tt
  want_onto level (Symbol Comma) next = tt
  want_onto level (Symbol Semicolon) next = tt
  want_onto level (Symbol Colon) next = tt
  want_onto level (Symbol Question) next = tt
  want_onto level (Symbol Equal) next = tt
  want_onto level Not next = by_test (not_stands level) (λ e. rw e (token_ends s next).within) (λ e. rw e tt)
  want_onto level (Call f) next =
      let u = token_at s next in
      by_test (is_symbol Open u.token) (λ e. rw e (token_ends s u.next).within) (λ e. rw e tt)
  want_onto level EndOfLine next = tt
  want_onto level (Keyword w) next = tt
  want_onto level (Infix op) next = tt
  want_onto level (LineOnly l) next = tt
  want_onto level Unreadable next = tt

  end_onto : (m : ℕ) (t : Scanned) → Onto (end_step s m t.token t.next)
  end_onto m t =
      let l = (token_ends s t.next).within in
      by_test (eqb m 0) (λ e. rw e tt) λ e. rw e
      (by_test (is_symbol Comma t.token)
      (λ g. rw g (by_test (eqb (m / 2) 0) (λ h. rw h tt) (λ h. rw h l)))
      (λ g. rw g (by_test (is_symbol Close t.token)
      (λ h. rw h (by_test (eqb (m % 2) 1) (λ i. rw i l) (λ i. rw i tt)))
      (λ h. rw h tt))))

  step_onto : (p : Phase) (m : ℕ) (t : Scanned) → Onto (step_of s p m t)
  step_onto (phase.Wants level) m t = want_onto level t.token t.next
  step_onto phase.Has m t =
      by_found (tight_operator 0 t.token) (λ op e. rw e (token_ends s t.next).within) (λ e. rw e (end_onto m t))

  -- ---- the bytes that remain, and those that are open

  abbrev Fits : Standing → Type 0
  Fits over = Unit {0}
  Fits (at p marks t) = (4 * length marks + (weight s t - 4) ≤ 4 * length s) × Within t

  -- a token that reads has a byte
  byte : (t : Scanned) (w : ℕ) → Within t → w + 4 ≤ weight s t → (w - 4) + 4 ≤ weight s t - 4
  unfolding weight
  byte t w h l = by_test (reads t.token) (λ e. rw e (omega (arith, rw e at l))) (λ e. absurd (omega (arith, rw e at l)))

  fits_moved : (p : Phase) (marks : List ℕ) (t : Scanned) (step : Step) → Fits (at p marks t) → Lightens s (weight s t) (last_mark marks) step
      → Onto step → Fits (moved marks step)
  fits_moved p marks t Refused f l o = tt
  fits_moved p marks t Ends f l o = tt
  fits_moved p marks t (Wants u level) f l o = (omega (arith, f.0, byte t (weight s u) f.1 l), o)
  fits_moved p marks t (Has u) f l o = (omega (arith, f.0, byte t (weight s u) f.1 l), o)
  fits_moved p marks t (Opens u m) f l o = (omega (arith, f.0, byte t (weight s u) f.1 l.0), o)
  fits_moved p marks t (Renews u m) f l o =
      (rw (length-drop 1 marks) (omega (arith, f.0, byte t (weight s u) f.1 l.0)), o)
  fits_moved p marks t (Closes u) f l o =
      (rw (length-drop 1 marks) (omega (arith, f.0, byte t (weight s u) f.1 l.0)), o)

  fits_turned : (x : Standing) → Fits x → Fits (turned s x)
  fits_turned over f = tt
  fits_turned (at p marks t) f =
      fits_moved p marks t (step_of s p (last_mark marks) t) f (step_lightens s p (last_mark marks) t) (step_onto p (last_mark marks) t)

  fits_after : (from : Place) (n : ℕ) → Fits (stands_after s (token_at s from) n)
  unfolding stands_after
  fits_after from zero = (omega (arith, token_weight s from), (token_ends s from).within)
  fits_after from (suc n) = fits_turned (stands_after s (token_at s from) n) (fits_after from n)

  fits_open : (x : Standing) → Fits x → open_in x ≤ length s
  fits_open over f = omega arith
  fits_open (at p marks t) f = omega (arith, f.0)

pub never_full : NeverFull
never_full s from n h = omega (arith, fits_open s (stands_after s (token_at s from) n) (fits_after s from n))
