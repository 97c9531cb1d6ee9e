-- What the program writes follows from what importing answers.
use Rattle.std.specs.Prelude.{Ok, Result, ℕ}
use Rattle.loader.specs.declared.refusals.RefusedAt.{RefusedAt}
use Rattle.loader.specs.Refusals.{refused_at}
use mathlib.Core.Path.{◌≡◌, refl, sym, ◌∙◌, subst}
use mathlib.Core.List.{List, []}
use Prim.Native.Nat.{ℕ}
use lib.ListN.{length, drop}
use Rattle.whole.specs.Texts.{held}
use Rattle.whole.specs.declared.texts.Text.{Text}
use Rattle.words.specs.declared.places.Place.{Place}
use Rattle.loader.specs.Refusals.{refusal_number}
use Rattle.loader.specs.declared.refusals.Refusal.{Refusal}
use Rattle.readings.specs.Lines.{lines_of}
use Rattle.readings.specs.Importing.{imported_of, out_after}
use Rattle.readings.proofs.Groups.{done_whole}
use Rattle.console.specs.Lines.{refused_line}
use Rattle.console.specs.Answers.{Tells}
use Rattle.console.proofs.Telling.{tells_front, tells_line}
use Rattle.import_readings.specs.Answers.{told_of}

module _ (file room : List ℕ) {answer : Result ℕ RefusedAt} (is : answer ≡ imported_of file (length room)) where
  pub tells_lines : {n : ℕ} {line : Text} {out : List ℕ} → answer ≡ Ok n → line ≡ held [] → out ≡ out_after file room
      → Tells (told_of file (imported_of file (length room))) (record { written = n; line = line }) out
  unfolding out_after
  tells_lines {n} {line} {out} e l o =
      let c : imported_of file (length room) ≡ Ok n = sym is ∙ e in
      subst (λ (x : Result ℕ RefusedAt). Tells (told_of file x) (record { written = n; line = line }) out) (sym c)
      (tells_front (lines_of file) (drop n room) (done_whole file (length room) n (sym c)) (o ∙ rw c) l)

  pub tells_refused : {refusal : Refusal} {at : Place} {line : Text} {out : List ℕ} → answer ≡ refused_at refusal at
      → line ≡ held (refused_line (refusal_number refusal) at.0)
      → Tells (told_of file (imported_of file (length room))) (record { written = 0; line = line }) out
  tells_refused {refusal} {at} {line} {out} e l =
      subst (λ (x : Result ℕ RefusedAt). Tells (told_of file x) (record { written = 0; line = line }) out) (sym (sym is ∙ e))
      (tells_line (refused_line (refusal_number refusal) at.0) refl refl l)
