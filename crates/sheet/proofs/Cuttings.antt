-- However a sheet is cut, what comes out is the sheet of all its bytes.
use mathlib.Core.Path.{◌≡◌, refl, sym, ap, ◌∙◌}
use mathlib.Core.Bool.{true, false}
use mathlib.Core.List.{List, [], ◌∷◌, ◌++◌, append_assoc, append-nil}
use Prim.Native.Nat.{ℕ}
use native.Mathlib.Omega.{arith}
use borrow.Author.Tests.{eqb-true, ne_eqb}
use lib.Dec.{eqb}
use lib.ListN.{length, take}
use Rattle.whole.specs.Texts.{held, with_byte}
use Rattle.whole.specs.declared.texts.Text.{Text}
use Rattle.words.proofs.Choices.{by_test}
use Rattle.loader.specs.Lines.{ends_line}
use Rattle.records.specs.Records.{record_of}
use Rattle.records.specs.declared.reading.Run.{Run}
use Rattle.tallies.specs.Totals.{totals_of}
use Rattle.tallies.specs.bridge.Counting.{refused, good, with_record}
use Rattle.tallies.specs.declared.counting.Count.{Count}
use Rattle.tallies.proofs.Totals.{Few, few_none, totals_none}
use Rattle.sheet.specs.Printed.{printed_of}
use Rattle.sheet.specs.Sheet.{read_from, refused_line, told, sheet_of, joined}
use Rattle.sheet.specs.bridge.Taking.{contents, kept, ended_line, sheet, after_byte, begun, taken, last_counted, lines, finished, all_taken, CutAnywhere}
use Rattle.sheet.specs.declared.taking.Sheet.{Sheet}
use Rattle.sheet.proofs.Lines.{line_bytes, line_bytes_lem, NoEnd, no_end_more, line_ended, line_last}
use Rattle.sheet.proofs.Nexts.{after, after_none, Next, stops, goes, next, refused_stays, kept-held, last_held, byte_held}

-- ---- a byte more

module _ (line : Text) (count : Count) (b : ℕ) where
  ends : ends_line b ≡ true → after_byte (sheet line count) b ≡ sheet (held []) (ended_line count line)
  ends t = rw t

  goes_on : ends_line b ≡ false → after_byte (sheet line count) b ≡ sheet (with_byte line b) count
  goes_on t = rw t

-- ---- behind a record that is refused

refused_ended : (count : Count) (line : Text) (n : ℕ) → count.standing ≡ refused n → ended_line count line ≡ count
unfolding ended_line
refused_ended count line n e = refused_stays count n e (record_of (kept (contents line)))

refused_last : (s : Sheet) (n : ℕ) → s.count.standing ≡ refused n → last_counted s ≡ s.count
unfolding last_counted
refused_last s n e =
    by_test (eqb s.line.len 0) (λ t. rw t) (λ t. rw t (refused_stays s.count n e (record_of (contents s.line))))

refused_told : (t : List ℕ) (line : Text) (count : Count) (n : ℕ) → count.standing ≡ refused n
    → finished (taken (sheet line count) t) ≡ refused_line n
unfolding taken finished
refused_told [] line count n e = ap (λ (c : Count). lines c.standing c.tally) (refused_last (sheet line count) n e) ∙ rw e
refused_told (b ∷ t) line count n e =
    by_test (ends_line b)
    (λ d. ap (λ s. finished (taken s t)) (ends line count b d ∙ ap (sheet (held [])) (refused_ended count line n e))
    ∙ refused_told t (held []) count n e)
    (λ d. ap (λ s. finished (taken s t)) (goes_on line count b d) ∙ refused_told t (with_byte line b) count n e)

-- ---- what is held after whole lines and the front of one

-- the runs of the lines so far, and the front of the next, as much of it as a text holds
abbrev holding : List Run → List ℕ → Sheet
holding rs l = sheet (held (take 255 l)) (good (totals_of rs))

-- what the definition says, with so many runs read and the rest to come
abbrev reads : List Run → List ℕ → List ℕ
reads rs rest = told (after rs (read_from (length rs) (line_bytes rest)))

-- at the end
last_none : (rs : List Run) → finished (holding rs []) ≡ reads rs []
unfolding finished last_counted held line_bytes read_from
last_none rs = ap (λ qs. printed_of (totals_of qs)) (sym (append-nil rs))

held_some : (b : ℕ) (l : List ℕ) → (held (take 255 (b ∷ l))).len ≡ 0 → ⊥
unfolding held
held_some b l e = omega (arith, e)

last_some : (rs : List Run) (b : ℕ) (l : List ℕ) → last_counted (holding rs (b ∷ l)) ≡ with_record (good (totals_of rs)) (record_of (b ∷ l))
unfolding last_counted
last_some rs b l = rw (ne_eqb (held (take 255 (b ∷ l))).len 0 (held_some b l), last_held (b ∷ l))

told_last : (rs : List Run) (b : ℕ) (l : List ℕ) (c : Count) → last_counted (holding rs (b ∷ l)) ≡ c → NoEnd (b ∷ l) → Next rs (b ∷ l) c
    → finished (holding rs (b ∷ l)) ≡ reads rs (b ∷ l)
unfolding finished read_from
told_last rs b l c e h (stops n s w) =
    ap (λ (c : Count). lines c.standing c.tally) e ∙ rw s (sym (ap (λ ls. told (after rs (read_from (length rs) ls))) (line_last b l h) ∙ ap told (w [])))
told_last rs b l c e h (goes run s f w) =
    ap (λ (c : Count). lines c.standing c.tally) (e ∙ s)
    ∙ ap (λ qs. printed_of (totals_of qs)) (sym (append-nil (rs ++ (run ∷ []))))
    ∙ sym (ap (λ ls. told (after rs (read_from (length rs) ls))) (line_last b l h) ∙ ap told (w []))

told_end : (rs : List Run) (l : List ℕ) → Few rs → NoEnd l → finished (holding rs l) ≡ reads rs l
told_end rs [] f h = last_none rs
told_end rs (b ∷ l) f h = told_last rs b l _ (last_some rs b l) h (next rs (b ∷ l) f)

-- a line that ends is its record
line_counted : (rs : List Run) (l : List ℕ) → ended_line (good (totals_of rs)) (held (take 255 l)) ≡ with_record (good (totals_of rs)) (record_of (kept l))
unfolding ended_line
line_counted rs l = ap (with_record (good (totals_of rs))) (kept-held l)

-- behind it: refused, or one run more and no line begun
past : (rs : List Run) (x t : List ℕ) (c : Count)
    → ((qs : List Run) → Few qs → finished (taken (holding qs []) t) ≡ reads qs t)
    → Next rs x c → finished (taken (sheet (held []) c) t) ≡ told (after rs (read_from (length rs) (x ∷ line_bytes t)))
past rs x t c more (stops n s w) = refused_told t (held []) c n s ∙ sym (ap told (w (line_bytes t)))
past rs x t c more (goes run s f w) =
    ap (λ k. finished (taken (sheet (held []) k) t)) s ∙ more (rs ++ (run ∷ [])) f ∙ sym (ap told (w (line_bytes t)))

-- byte by byte
onward : (t : List ℕ) (rs : List Run) (l : List ℕ) → Few rs → NoEnd l → finished (taken (holding rs l) t) ≡ reads rs (l ++ t)
unfolding taken
onward [] rs l f h = told_end rs l f h ∙ ap (reads rs) (sym (append-nil l))
onward (b ∷ t) rs l f h =
    by_test (ends_line b)
    (λ d. let ten : b ≡ 10 = eqb-true b 10 d in
    ap (λ s. finished (taken s t)) (ends (held (take 255 l)) (good (totals_of rs)) b d ∙ ap (sheet (held [])) (line_counted rs l))
    ∙ past rs (kept l) t _ (λ qs g. onward t qs [] g tt) (next rs (kept l) f)
    ∙ sym (ap (λ c. reads rs (l ++ (c ∷ t))) ten ∙ ap (λ ls. told (after rs (read_from (length rs) ls))) (line_ended l t h)))
    (λ d. ap (λ s. finished (taken s t)) (goes_on (held (take 255 l)) (good (totals_of rs)) b d ∙ ap (λ x. sheet x (good (totals_of rs))) (byte_held l b))
    ∙ onward t rs (l ++ (b ∷ [])) f (no_end_more l b h d)
    ∙ ap (reads rs) (append_assoc l (b ∷ []) t))

-- ---- all parts

taken_joined : (s : Sheet) (a b : List ℕ) → taken (taken s a) b ≡ taken s (a ++ b)
unfolding taken
taken_joined s [] b = refl
taken_joined s (x ∷ a) b = taken_joined (after_byte s x) a b

all_taken_lem : (s : Sheet) (parts : List (List ℕ)) → all_taken s parts ≡ taken s (joined parts)
unfolding all_taken joined taken
all_taken_lem s [] = refl
all_taken_lem s (part ∷ parts) = all_taken_lem (taken s part) parts ∙ taken_joined s part (joined parts)

begun-holding : begun ≡ holding [] []
unfolding begun
begun-holding = ap (λ t. sheet (held []) (good t)) (sym totals_none)

whole_sheet : (text : List ℕ) → reads [] text ≡ sheet_of text
unfolding sheet_of
whole_sheet text =
    ap told (after_none (read_from 0 (line_bytes text))) ∙ ap (λ ls. told (read_from 0 ls)) (sym (line_bytes_lem 0 text))

pub cut_anywhere : CutAnywhere
cut_anywhere parts =
    ap finished (all_taken_lem begun parts ∙ ap (λ s. taken s (joined parts)) begun-holding)
    ∙ onward (joined parts) [] [] few_none tt
    ∙ whole_sheet (joined parts)
