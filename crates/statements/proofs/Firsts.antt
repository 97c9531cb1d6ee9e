-- A part that begins where no line number may begin one reads the same where one may.
use mathlib.Core.Path.{◌≡◌, refl, sym, ap, ◌∙◌}
use mathlib.Core.Bool.{true, false}
use mathlib.Core.List.{List}
use Prim.Native.Nat.{ℕ}
use Rattle.whole.proofs.Never.{never}
use Rattle.words.specs.Places.{place}
use Rattle.words.specs.declared.symbols.Scanned.{Scanned}
use Rattle.words.specs.declared.symbols.Token.{Token}
use Rattle.words.specs.declared.symbols.Token.TheVariants.{EndOfLine, Keyword, Not, Infix, Call, Named, Number, Hexadecimal, LineOnly, Quoted, Symbol, Unreadable}
use Rattle.scanner.specs.Tokens.{token_at}
use Rattle.grammar.specs.Trees.{Part}
use Rattle.statements.specs.Statements.{bad, led_by_token, lead_of, begun_by, begun_at, bad_part, good_part, part_of}
use Rattle.statements.proofs.Parts.{part_by, unrolled}

-- so does its first statement
begun_true : (s : List ℕ) (token : Token) (t : Scanned) → (begun_by s (led_by_token s false token t) ≡ bad → ⊥) → begun_by s (led_by_token s true token t) ≡ begun_by s (led_by_token s false token t)
begun_true s EndOfLine t h = refl
begun_true s (Keyword w) t h = refl
begun_true s Not t h = refl
begun_true s (Infix op) t h = refl
begun_true s (Call f) t h = refl
begun_true s (Named v) t h = refl
begun_true s (Number n) t h = absurd (h refl)
begun_true s (Hexadecimal n) t h = refl
begun_true s (LineOnly l) t h = absurd (h refl)
begun_true s (Quoted q) t h = refl
begun_true s (Symbol sign) t h = refl
begun_true s Unreadable t h = refl

not_good : {P : Type 0} {q : Part} {u : Scanned} → bad_part ≡ good_part q u → P
not_good e = never (cc)

pub true_part : (s : List ℕ) (p : ℕ) {q : Part} {u : Scanned} → part_of s false p ≡ good_part q u → part_of s true p ≡ good_part q u
unfolding begun_at
true_part s p {q} {u} e =
    let t = token_at s (place p) in
    let go = part_by p (part_of s) in
    let f : go (begun_by s (lead_of s false t)) ≡ good_part q u = sym (unrolled s false p) ∙ e in
    let g = begun_true s t.token t (λ b. not_good (sym (ap go b) ∙ f)) in
    unrolled s true p ∙ ap go g ∙ f
