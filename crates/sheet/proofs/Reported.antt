-- A report that grows line by line in its buffer, and how long its lines can be.
use mathlib.Core.Path.{◌≡◌, refl, sym, ap, ap₂, ◌∙◌}
use mathlib.Core.Bool.{true}
use mathlib.Core.List.{List, [], ◌∷◌, ◌++◌, append_assoc, append-nil}
use Prim.Native.Nat.{ℕ, ◌+◌, ◌-◌, ◌*◌, ◌≤◌, ◌<◌, zero-le}
use native.Mathlib.Omega.{arith}
use borrow.Author.Tests.{le-leb}
use lib.Dec.{eqb, leb}
use lib.ListN.{length, get_or, take, drop, replicate, length-append, length-replicate, drop_of_length-le}
use lib.Seq.{take-append_seam, drop-append-add}
use Rattle.std.proofs.lemmas.List.{drop-replicate}
use Rattle.whole.specs.Bytes.{bytes}
use Rattle.whole.specs.Texts.{held}
use Rattle.whole.specs.declared.texts.Text.{Text}
use Rattle.whole.proofs.Numerals.{numeral-length}
use Rattle.whole.proofs.Reading.{drop_next}
use Rattle.words.proofs.Choices.{by_test}
use Rattle.space.specs.Moves.{overlaid, copied}
use Rattle.space.proofs.Frames.{copied_lies}
use Rattle.console.specs.Lines.{field, fields, line}
use Rattle.tallies.specs.declared.counting.Tally.{Tally}
use Rattle.sheet.specs.Printed.{code_line, code_lines, outcome_lines}
use Rattle.sheet.specs.Reports.{room, report, Lengthens}
use Rattle.sheet.specs.declared.reports.Report.{Report}

-- ---- a line more

laid : (l m : List ℕ) (k : ℕ) → overlaid (l ++ replicate k 0) (length l) m ≡ (l ++ m) ++ replicate (k - length m) 0
unfolding overlaid
laid l m k =
    ap₂ (λ x y. x ++ (m ++ y)) (take-append_seam l (replicate k 0)) (drop-append-add l (replicate k 0) (length m) ∙ drop-replicate (length m) k 0)
    ∙ sym (append_assoc l m (replicate (k - length m) 0))

report_alike : {b b' : List ℕ} {n n' : ℕ} → b ≡ b' → n ≡ n' → ◌≡◌ {A = Report} (record { bytes = b; len = n }) (record { bytes = b'; len = n' })
report_alike p q = λ i. record { bytes = p i; len = q i }

module _ (l m : List ℕ) (fits : length l + length m ≤ room) where
  -- the line's bytes behind those of the lines before
  lined_held : ◌≡◌ {A = Report}
      (record {
        bytes = copied (report l).bytes (report l).len (take (held m).len (held m).bytes);
        len = (report l).len + length (take (held m).len (held m).bytes);
      })
      (report (l ++ m))
  unfolding report held
  lined_held =
      let k = room - length l in
      let w : length l + length m ≤ length (l ++ replicate k 0) = omega (arith, length-append l (replicate k 0), length-replicate {A = ℕ} k 0) in
      let z : k - length m ≡ room - length (l ++ m) = omega (arith, length-append l m) in
      report_alike
      (ap (copied (l ++ replicate k 0) (length l)) (take-append_seam m _)
      ∙ copied_lies (l ++ replicate k 0) (length l) m w
      ∙ laid l m k
      ∙ ap (λ n. (l ++ m) ++ replicate n 0) z)
      (ap (λ x. length l + length x) (take-append_seam m _) ∙ sym (length-append l m))

  pub lined : {lines : Report} {text : Text} → lines ≡ report l → text ≡ held m
      → ◌≡◌ {A = Report}
      (record { bytes = copied lines.bytes lines.len (take text.len text.bytes); len = lines.len + length (take text.len text.bytes) })
      (report (l ++ m))
  lined e f = rw (e, f) lined_held

  -- there is room for it
  pub has_room : {lines : Report} {text : Text} → lines ≡ report l → text ≡ held m
      → leb (lines.len + length (take text.len text.bytes)) room ≡ true
  unfolding report held
  has_room e f = rw (e, f) (le-leb _ _ (rw (take-append_seam m (replicate (255 - length m) 0)) fits))

-- ---- how long lines are

fields_length : (numbers : List ℕ) → length (fields numbers) ≤ 21 * length numbers
fields_length [] = zero-le
fields_length (n ∷ ns) = omega (arith, numeral-length 10 20 n, length-append (field n) (fields ns), fields_length ns)

-- most bytes of a line of a word and so many numbers
abbrev pub line_most : ℕ → ℕ → ℕ
line_most word numbers = word + 21 * numbers + 1

pub line_length : (word numbers : List ℕ) → length (line word numbers) ≤ line_most (length word) (length numbers)
line_length word numbers =
    omega (arith, length-append word (fields numbers ++ (10 ∷ [])), length-append (fields numbers) (10 ∷ []), fields_length numbers)

-- a report of some lines, and that they have at most so many bytes
pub record Filled (r : Report) (l : List ℕ) (n : ℕ) : Type 0 where
  pub is : r ≡ report l
  pub most : length l ≤ n

-- a line more, as `put_line` puts it
pub lengthened : {old new : Report} {l : List ℕ} {n : ℕ} (word numbers : List ℕ)
    → Lengthens old new (line word numbers) (line_most (length word) (length numbers))
    → Filled old l n → n + line_most (length word) (length numbers) ≤ room
    → Filled new (l ++ line word numbers) (n + line_most (length word) (length numbers))
lengthened {l = l} word numbers put f w =
    record {
      is = put l f.is (omega (arith, f.most));
      most = omega (arith, f.most, length-append l (line word numbers), line_length word numbers);
    }

-- lines put one after the other
pub in_order : (a b c d e : List ℕ) → (((([] ++ a) ++ b) ++ c) ++ d) ++ e ≡ a ++ (b ++ (c ++ (d ++ e)))
in_order a b c d e = simp append_assoc

-- ---- the lines of error numbers, one by one

-- the lines so far, and that those to come make up the whole
pub record Lined (l codes : List ℕ) (longer : Report) (code : ℕ) : Type 0 where
  pub so : List ℕ
  pub is : longer ≡ report so
  pub most : length so + 47 * (256 - code) ≤ room
  pub rest : so ++ code_lines code (drop code codes) ≡ l ++ code_lines 0 codes

code_length : (c n : ℕ) → length (code_line c n) ≤ 47
unfolding bytes
code_length c n = by_test (eqb n 0) (λ t. rw t zero-le) (λ t. rw t (line_length (bytes "code") (c ∷ n ∷ [])))

module _ (l codes : List ℕ) where
  pub lined_first : {lines : Report} → lines ≡ report l → length l + 47 * 256 ≤ room → Lined l codes lines 0
  lined_first e h = record { so = l; is = e; most = omega arith; rest = refl }

  pub lined_next : {longer next : Report} {code : ℕ} → code < 256 → code < length codes
      → ((m : List ℕ) → longer ≡ report m → length m + 47 ≤ room → next ≡ report (m ++ code_line code (get_or codes code 0)))
      → Lined l codes longer code → Lined l codes next (code + 1)
  unfolding code_lines
  lined_next {code = code} h k put v =
      let n = get_or codes code 0 in
      record {
        so = v.so ++ code_line code n;
        is = put v.so v.is (omega (arith, v.most));
        most = omega (arith, v.most, length-append v.so (code_line code n), code_length code n);
        rest = append_assoc v.so (code_line code n) _ ∙ ap (λ s. v.so ++ code_lines code s) (sym (drop_next codes code k)) ∙ v.rest;
      }

  pub lined_last : {longer : Report} {code : ℕ} → length codes ≤ code → Lined l codes longer code → longer ≡ report (l ++ code_lines 0 codes)
  unfolding code_lines
  lined_last {code = code} h v =
      let e : v.so ++ code_lines code [] ≡ l ++ code_lines 0 codes = ap (λ s. v.so ++ code_lines code s) (sym (drop_of_length-le codes h)) ∙ v.rest in
      v.is ∙ ap report (sym (append-nil v.so) ∙ e)

-- ---- the whole

pub codes_most : (c : ℕ) (codes : List ℕ) → length (code_lines c codes) ≤ 47 * length codes
unfolding code_lines
codes_most c [] = zero-le
codes_most c (n ∷ ns) = omega (arith, length-append (code_line c n) (code_lines (c + 1) ns), code_length c n, codes_most (c + 1) ns)

pub outcomes_most : (t : Tally) → length (outcome_lines t) ≤ 134
unfolding outcome_lines bytes
outcomes_most t =
    let runs = line (bytes "runs") (t.runs ∷ []) in
    let ended = line (bytes "ended") (t.ended ∷ []) in
    let stopped = line (bytes "stopped") (t.stopped ∷ []) in
    let out = line (bytes "out") (t.out ∷ []) in
    let error = line (bytes "error") (t.error ∷ []) in
    omega (
      arith,
      length-append runs (ended ++ (stopped ++ (out ++ error))),
      length-append ended (stopped ++ (out ++ error)),
      length-append stopped (out ++ error),
      length-append out error,
      line_length (bytes "runs") (t.runs ∷ []),
      line_length (bytes "ended") (t.ended ∷ []),
      line_length (bytes "stopped") (t.stopped ∷ []),
      line_length (bytes "out") (t.out ∷ []),
      line_length (bytes "error") (t.error ∷ []),
    )
