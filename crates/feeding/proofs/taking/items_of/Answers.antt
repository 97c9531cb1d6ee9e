use borrow.Enum.Refused.{opened as unsealed}
use Rattle.std.specs.Prelude.{None, Some}
use mathlib.Core.Path.{◌≡◌, refl, ap, ◌∙◌}
use mathlib.Core.List.{List, [], ◌∷◌}
use Prim.Native.Nat.{ℕ}
use types.Run.{miss}
use Rattle.whole.proofs.Never.{never}
use Rattle.words.specs.declared.symbols.Word.TheVariants.{Data}
use Rattle.statements.specs.declared.leading.Lead.{Lead}
use Rattle.feeding.proofs.taking.items_of.Goals as goal

-- all words but DATA
abbrev others : List ℕ
others = 0 ∷ 1 ∷ 2 ∷ 3 ∷ 4 ∷ 5 ∷ 6 ∷ 7 ∷ 8 ∷ 9 ∷ 10 ∷ 11 ∷ 12 ∷ 13 ∷ 14 ∷ 15 ∷ 16 ∷ 17 ∷ 18 ∷ 20 ∷ 21 ∷ []

pub returns-in_err-lead : goal.returns-in_err-lead
returns-in_err-lead c = rw c.from_residual.ensures (λ t e. let none : c.args.lead ≡ None = c.in_err-lead.was in never (cc))

pub returns-in-Data : goal.returns-in-Data
returns-in-Data c = record { token = c.in_ok-lead.lead.ahead; is = c.in_ok-lead.was ∙ rw c.in-Data.is; ends = refl }

pub returns-in_default : goal.returns-in_default
returns-in_default c = λ t e. let was : c.args.lead ≡ Some c.in_ok-lead.lead = c.in_ok-lead.was in let h : c.in_ok-lead.lead ≡ record { word = Data; ahead = t } = cc in let d : c.in_ok-lead.lead.word ≡ Data = ap (λ (l : Lead). l.word) h in absurd (miss others 19 tt (rw d at (unsealed c.in_default.in_default-own.keys2)))
