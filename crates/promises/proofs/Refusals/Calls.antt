-- What `run` and `check_recipe` refuse is the paper's table.
use mathlib.Core.Path.{◌≡◌, sym, ap, ◌∙◌}
use mathlib.Core.Bool.{false≢true}
use mathlib.Core.List.{List}
use Prim.Native.Nat.{ℕ}
use borrow.Author.Tests.{lt-ltb, le-ltb}
use Rattle.words.specs.declared.places.Place.{Place}
use Rattle.loader.specs.Lines.{lines_of}
use Rattle.loader.specs.declared.refusals.Refusal.{Refusal}
use Rattle.variables.specs.Strings.{longest_space}
use Rattle.machine.specs.Items.{fresh}
use Rattle.machine.specs.Machine.{Lent, most_records}
use Rattle.runner.specs.Run.{entering, is_refused, run_of}
use Rattle.runner.specs.declared.running.Outcome.TheVariants.{Refused}
use Rattle.runner.specs.declared.running.Ran.{Ran}
use Rattle.promises.specs.Calls.{text_of, input_of, lent_of, budget_of, recipe_of}
use Rattle.promises.specs.Refusals.{RunRefused, space_too_long, stack_too_long, by_text, CallsRefuseByTable}
use Rattle.promises.proofs.Limits.Bounds.{RunView, long, tall, unloaded, runs, run_view}
use Rattle.promises.proofs.Limits.Refusals.{entering_begun, running_begun}
use Rattle.promises.proofs.Verdicts as verdicts
use Rattle.promises.proofs.Refusals.Loading.{refused_row, row_refused}

module _ (text input : List ℕ) (lent : Lent) (budget : ℕ) where
  same_refusal : {r s : Refusal} {p q : Place} → Refused s q ≡ Refused r p → RunRefused text lent s q → RunRefused text lent r p
  same_refusal {r} {s} {p} {q} e h = let f : r ≡ s = cc in let g : p ≡ q = cc in rw (f, g) h

  refused_view : RunView text input lent budget → (r : Refusal) (p : Place) → (run_of text input lent budget).ending ≡ Refused r p
      → RunRefused text lent r p
  refused_view (long h e) r p o = same_refusal (rw e at o) (space_too_long h)
  refused_view (tall h k e) r p o = same_refusal (rw e at o) (stack_too_long h k)
  refused_view (unloaded s q h k l e) r p o = same_refusal (rw e at o) (by_text h k (refused_row text s q l))
  refused_view (runs h k l e) r p o =
      let b = running_begun budget text (entering (fresh text input lent) (lines_of text)) (entering_begun (fresh text input lent) (lines_of text)) in
      absurd (false≢true (sym b ∙ ap is_refused (rw e at o)))

  view_refused : (r : Refusal) (p : Place) → RunRefused text lent r p → (run_of text input lent budget).ending ≡ Refused r p
  unfolding run_of
  view_refused r p (space_too_long h) = rw (lt-ltb longest_space lent.space h)
  view_refused r p (stack_too_long h k) = rw (le-ltb longest_space lent.space h, lt-ltb most_records lent.records k)
  view_refused r p (by_text h k t) = rw (le-ltb longest_space lent.space h, le-ltb most_records lent.records k, row_refused text r p t)

pub calls_refuse_by_table : CallsRefuseByTable
calls_refuse_by_table =
    record {
      runs = λ c r p.
          let e = ap (λ (y : Ran). y.outcome) c.allowed.0 in (
            (λ h. refused_view (text_of c) (input_of c) (lent_of c) (budget_of c) (run_view (text_of c) (input_of c) (lent_of c) (budget_of c)) r p (sym e ∙ h)),
            (λ h. e ∙ view_refused (text_of c) (input_of c) (lent_of c) (budget_of c) r p h),
          );
      checks = λ c r p.
          let v = verdicts.refused_exactly (recipe_of c) r p in (
            (λ h. refused_row (recipe_of c) r p (v.0 (sym c.allowed ∙ h))),
            (λ h. c.allowed ∙ v.1 (row_refused (recipe_of c) r p h)),
          );
    }
