-- What the program writes follows from what comparing answers.
use mathlib.Core.Path.{◌≡◌, sym, ap, ◌∙◌, subst}
use mathlib.Core.List.{List, [], ◌∷◌, ◌++◌, append_assoc}
use Prim.Native.Nat.{ℕ, ◌≤◌}
use native.Mathlib.Omega.{arith}
use lib.ListN.{length, drop, length-append}
use Rattle.whole.specs.Texts.{held, with_byte, with_bytes}
use Rattle.whole.specs.declared.texts.Text.{Text}
use Rattle.whole.proofs.Numerals.{held_put, held_bytes, numeral-length}
use Rattle.compare.specs.Records.{report_of}
use Rattle.compare.specs.Comparing.{compared_of, out_after}
use Rattle.std.specs.Prelude.{Ok, Result}
use Rattle.compare.specs.declared.comparing.Rejected.{Rejected}
use Rattle.compare.proofs.Answered.{done_whole}
use Rattle.console.specs.Lines.{field, fields}
use Rattle.console.specs.Answers.{Tells}
use Rattle.console.specs.declared.answers.Answer.{Answer}
use Rattle.console.proofs.Telling.{tells_front, tells_line}
use Rattle.compare_recipes.specs.Answers.{told_of}

-- ---- the line of a refusal

-- a word, two fields, more bytes and an end, put one after the other
pub line_put : (word more : List ℕ) (n p : ℕ) → length word ≤ 7 → length more ≤ 4
    → with_byte (with_bytes (with_bytes (with_bytes (with_bytes (held []) word) (field n)) (field p)) more) 10
    ≡ held (word ++ (fields (n ∷ p ∷ []) ++ (more ++ (10 ∷ []))))
line_put word more n p h k =
    let a = word ++ field n in
    let b = a ++ field p in
    let rest = more ++ (10 ∷ []) in
    let i = numeral-length 10 20 n in
    let j = numeral-length 10 20 p in
    let la = length-append word (field n) in
    let lb = length-append a (field p) in
    let lc = length-append b more in
    ap (λ t. with_byte (with_bytes (with_bytes (with_bytes t (field n)) (field p)) more) 10) (held_bytes [] word (omega arith))
    ∙ ap (λ t. with_byte (with_bytes (with_bytes t (field p)) more) 10) (held_bytes word (field n) (omega arith))
    ∙ ap (λ t. with_byte (with_bytes t more) 10) (held_bytes a (field p) (omega arith))
    ∙ ap (λ t. with_byte t 10) (held_bytes b more (omega arith))
    ∙ held_put (b ++ more) 10 (omega arith)
    ∙ ap held
    (append_assoc b more (10 ∷ [])
    ∙ append_assoc a (field p) rest
    ∙ append_assoc word (field n) (field p ++ rest)
    ∙ ap (λ l. word ++ l) (sym (append_assoc (field n) (field p ++ []) rest ∙ ap (λ l. field n ++ l) (append_assoc (field p) [] rest))))

-- ---- what is to be written

module _ (old new room : List ℕ) {answer : Result ℕ Rejected} (is : answer ≡ compared_of old new (length room)) where
  -- the records
  pub tells_records : {n : ℕ} {line : Text} {out : List ℕ} → answer ≡ Ok n → line ≡ held [] → out ≡ out_after old new room
      → Tells (told_of old new (compared_of old new (length room))) (record { written = n; line = line }) out
  unfolding out_after
  tells_records {n} {line} {out} e l o =
      let c : compared_of old new (length room) ≡ Ok n = sym is ∙ e in
      subst (λ (x : Result ℕ Rejected). Tells (told_of old new x) (record { written = n; line = line }) out) (sym c)
      (tells_front (report_of old new) (drop n room) (done_whole old new (length room) (sym c)) (o ∙ rw c) l)

  -- a line alone
  pub tells_refused : {a : Answer} {line : Text} (l : List ℕ) {out : List ℕ} → a.written ≡ 0 → a.line ≡ line → line ≡ held l
      → l ≡ told_of old new answer → Tells (told_of old new (compared_of old new (length room))) a out
  tells_refused l w i e t = tells_line (told_of old new (compared_of old new (length room))) w i (e ∙ ap held (t ∙ ap (told_of old new) is))
