-- A call of INSTR has a third argument just where a comma follows the second.
use Rattle.std.specs.Prelude.{None, Some}
use mathlib.Core.Path.{◌≡◌, refl, sym, ap, ◌∙◌}
use mathlib.Core.Bool.{true, false≢true}
use mathlib.Core.List.{List}
use Prim.Native.Nat.{ℕ, ◌<◌}
use native.Mathlib.Omega.{arith}
use lib.Dec.{eqb}
use Rattle.words.specs.declared.symbols.Function.TheVariants.{Instr}
use Rattle.words.specs.declared.symbols.Scanned.{Scanned}
use Rattle.words.specs.declared.symbols.Sign.TheVariants.{Comma}
use Rattle.words.proofs.Choices.{by_test}
use Rattle.grammar.specs.Tests.{is_symbol}
use Rattle.grammar.specs.Trees.{Formula, call, Arguments, none, also}
use Rattle.grammar.specs.Functions.{any_for, takes}
use Rattle.grammar.specs.Formulas.{good, after, count_of, formula_of}
use Rattle.skimming.specs.bridge.Remaining.{formula_in, arguments_of}
use Rattle.skimming.specs.bridge.Flat.{skimmed_of}
use Rattle.skimming.proofs.Fuel.{formula_level}
use Rattle.expressions.proofs.Views.{list_view, list_goes, list_ends}
use Rattle.formulas.proofs.Faults.{arguments_call}
use Rattle.formulas.proofs.Wants.{if_either}
use Rattle.whole.proofs.Never.{never}

-- INSTR takes two arguments or three
not_one : takes Instr 1 ≡ true → ⊥
unfolding any_for
not_one t = false≢true t

past_two : (n : ℕ) → takes Instr n ≡ true → 2 < n → eqb n 3 ≡ true
unfolding any_for
past_two n t h =
    if_either (λ m p. 2 < m → eqb m 3 ≡ true) n 2 h
    (λ l. absurd (omega arith)) (λ l. absurd (omega arith)) (λ l. refl) (λ l. refl) (λ l. refl) t h

module _ (s : List ℕ) (t : Scanned) {a : Arguments} {u : Scanned} (e : arguments_of s Instr none (formula_in s 0 t) ≡ good (call Instr a) u) where
  -- the first two, and what follows each
  record Parted : Type 0 where
    one : Formula
    comma : Scanned
    first : formula_in s 0 t ≡ good one comma
    two : Formula
    follow : Scanned
    second : formula_in s 0 (after s comma) ≡ good two follow
    third : is_symbol Comma follow.token ≡ eqb (count_of a) 3

  parted : Parted
  unfolding count_of
  parted =
      let l = list_view s Instr none (formula_in s 0 t) e in
      by_test (is_symbol Comma l.at.token)
      (λ c.
      let m = list_goes s Instr none l.of l.at c l.lists in
      let b = also none l.of in
      record {
        one = l.of;
        comma = l.at;
        first = l.from;
        two = m.of;
        follow = m.at;
        second = m.from;
        third = by_test (is_symbol Comma m.at.token)
            (λ d.
            let n = list_goes s Instr b m.of m.at d m.lists in
            let k = arguments_call s Instr (also b m.of) (good n.of n.at) n.lists in
            let i = k.is in
            let j : a ≡ k.b = cc in
            d ∙ sym (rw j (past_two (count_of k.b) k.takes_them (omega (arith, k.longer)))))
            (λ d.
            let i = (list_ends s Instr b m.of m.at d m.lists).applied.is in
            let j : a ≡ also b m.of = cc in
            d ∙ rw j refl);
      })
      (λ c. absurd (not_one (list_ends s Instr none l.of l.at c l.lists).applied.takes_them))

  -- so both read
  pub first_reads : None ≡ skimmed_of (formula_of s t) → ⊥
  first_reads h =
      let p = parted in let f = rw (formula_level s t, p.first) at h in never (cc)

  module _ {comma : Scanned} (h : Some comma ≡ skimmed_of (formula_of s t)) where
    comma_is : comma ≡ parted.comma
    comma_is = let p = parted in let f = rw (formula_level s t, p.first) at h in cc

    second_is : skimmed_of (formula_of s (after s comma)) ≡ Some parted.follow
    second_is = ap skimmed_of (formula_level s (after s comma) ∙ ap (λ v. formula_in s 0 (after s v)) comma_is ∙ parted.second)

    pub second_reads : None ≡ skimmed_of (formula_of s (after s comma)) → ⊥
    second_reads g = let f = g ∙ second_is in never (cc)

    -- and what follows the second tells
    pub third_told : {follow : Scanned} → Some follow ≡ skimmed_of (formula_of s (after s comma)) → is_symbol Comma follow.token ≡ eqb (count_of a) 3
    third_told {follow} g =
        let f = g ∙ second_is in let i : follow ≡ parted.follow = cc in rw i parted.third
