-- What the contracts of the three calls say, one after the other, is what `sheet` proves of its definitions.
use mathlib.Core.Path.{◌≡◌, refl, sym, ap, ◌∙◌}
use mathlib.Core.List.{List, [], ◌∷◌, map}
use Rattle.sheet.specs.bridge.Taking.{taken, finished, all_taken}
use Rattle.sheet.specs.Reports.{report}
use Rattle.sheet.specs.declared.taking.Sheet.{Sheet}
use Rattle.sheet.proofs.Cuttings.{cut_anywhere}
use Rattle.sheet_promises.specs.Calls.{TakeCall, part_of, sheet_at_end}
use Rattle.sheet_promises.specs.Totals.{Follow, CallsTotal, TotalsAlways}

-- what calls answer, one after the other
follow_taken : (cs : List TakeCall) (s e : Sheet) → Follow s cs e → e ≡ all_taken s (map part_of cs)
unfolding Follow all_taken
follow_taken [] s e f = sym f
follow_taken (c ∷ cs) s e f =
    follow_taken cs c.answer e f.1
    ∙ ap (λ x. all_taken x (map part_of cs)) (c.allowed ∙ ap (λ x. taken x (part_of c)) f.0)

pub calls_total : CallsTotal
calls_total b cs f w =
    f.allowed
    ∙ ap (λ s. report (finished s)) (follow_taken cs b.answer (sheet_at_end f) w)
    ∙ ap (λ s. report (finished (all_taken s (map part_of cs)))) b.allowed
    ∙ ap report (cut_anywhere (map part_of cs))

pub totals_always : TotalsAlways
totals_always =
    record {
      begin = λ lifetimes passed. (_, tt, refl);
      take = λ lifetimes passed. (_, (tt, (tt, tt)), refl);
      finish = λ lifetimes passed. (_, (tt, tt), refl);
    }
