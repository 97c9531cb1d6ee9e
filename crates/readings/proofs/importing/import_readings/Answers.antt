-- The answers in the order of the tests (`short`, `done`, `no_room`).
use Rattle.std.specs.Prelude.{Ok}
use mathlib.Core.Path.{sym, ap, ◌∙◌}
use mathlib.Core.List.{List, ◌++◌}
use Prim.Native.Nat.{ℕ}
use lib.Dec.{leb}
use lib.ListN.{length, drop}
use Rattle.readings.proofs.Groups.{lines_of_groups_lem, short, done, no_room}
use Rattle.readings.proofs.importing.import_readings.Goals as goal

pub returns-then-short-ne0-clause-out_after : goal.returns-then-short-ne0-clause-out_after
returns-then-short-ne0-clause-out_after c = (short c.args.file.now c.args.out.now c.if-short-ne0.true).1

pub returns-then-short-ne0-clause-value : goal.returns-then-short-ne0-clause-value
returns-then-short-ne0-clause-value c = (short c.args.file.now c.args.out.now c.if-short-ne0.true).0

pub returns-then-lines_fit-clause-out_after : goal.returns-then-lines_fit-clause-out_after
returns-then-lines_fit-clause-out_after c = let lines = lines_of_groups_lem c.args.file.now in
    let d = done c.args.file.now c.args.out.now c.if-short-ne0.false
    (ap (λ l. leb (length l) (length c.args.out.now)) (sym lines) ∙ sym c.lines_fit.ensures ∙ c.if-lines_fit.true) in c.write_lines-written.ensures.out_after ∙ ap (λ (l : List ℕ). l ++ drop (length l) c.args.out.now) lines ∙ d.1

pub returns-then-lines_fit-clause-value : goal.returns-then-lines_fit-clause-value
returns-then-lines_fit-clause-value c = let lines = lines_of_groups_lem c.args.file.now in
    let d = done c.args.file.now c.args.out.now c.if-short-ne0.false
    (ap (λ l. leb (length l) (length c.args.out.now)) (sym lines) ∙ sym c.lines_fit.ensures ∙ c.if-lines_fit.true) in ap Ok (c.write_lines-written.ensures.value ∙ ap length lines) ∙ d.0

pub returns-clause-out_after : goal.returns-clause-out_after
returns-clause-out_after c = (no_room c.args.file.now c.args.out.now c.if-short-ne0.false
    (ap (λ l. leb (length l) (length c.args.out.now)) (sym (lines_of_groups_lem c.args.file.now)) ∙ sym c.lines_fit.ensures ∙ c.if-lines_fit.false)).1

pub returns-clause-value : goal.returns-clause-value
returns-clause-value c = (no_room c.args.file.now c.args.out.now c.if-short-ne0.false
    (ap (λ l. leb (length l) (length c.args.out.now)) (sym (lines_of_groups_lem c.args.file.now)) ∙ sym c.lines_fit.ensures ∙ c.if-lines_fit.false)).0
