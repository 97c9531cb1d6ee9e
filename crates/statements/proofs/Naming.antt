-- The variables of a READ and the items of a DATA: the code's loops go from one to the next.
use Rattle.std.specs.Prelude.{None, Option, Some}
use mathlib.Core.Path.{◌≡◌, refl, sym, ap, ◌∙◌}
use mathlib.Core.Bool.{true, false}
use mathlib.Core.List.{List, []}
use Prim.Native.Nat.{ℕ, zero, suc, ◌+◌, ◌<◌}
use native.Mathlib.Omega.{arith}
use Rattle.whole.proofs.Never.{never}
use Rattle.words.specs.Places.{place}
use Rattle.words.specs.declared.names.Name.{Name}
use Rattle.words.specs.declared.symbols.Scanned.{Scanned}
use Rattle.words.specs.declared.symbols.Sign.TheVariants.{Comma}
use Rattle.words.specs.declared.symbols.Token.{Token}
use Rattle.words.specs.declared.symbols.Token.TheVariants.{Named}
use Rattle.words.proofs.Choices.{by_test}
use Rattle.scanner.specs.Tokens.{token_at}
use Rattle.items.specs.Items as item
use Rattle.items.specs.Items.{DataItems, with_item, item_bytes, item_at, items_from}
use Rattle.items.specs.declared.reading.Item.{Item}
use Rattle.items.proofs.Listing.{items_turn}
use Rattle.grammar.specs.Tests.{choose, is_symbol, on_name}
use Rattle.grammar.specs.Trees.{Variable}
use Rattle.grammar.specs.Formulas.{after, enough}
use Rattle.statements.specs.Parts.{deepest}
use Rattle.statements.specs.Statements.{variable_of, held, data_at, NameList, unlisted, listed, with_name, names_at, filled_by, read_at}
use Rattle.statements.specs.bridge.Answers.{name_of, formed_read, begun_answer}
use Rattle.statements.specs.declared.reading.StatementRead.{StatementRead}
use Rattle.skimming.specs.bridge.Remaining.{weight}
use Rattle.skimming.proofs.Weights.{symbol_reads, after_lighter, weight-enough}
use Rattle.statements.proofs.Findings.{by_name_in}

-- ---- READ

-- the token that is a name
pub name_token : (t : Token) {v : Name} → name_of t ≡ Some v → t ≡ Named v
name_token t {v} e = by_name_in (λ n. n ≡ Some v → t ≡ Named v) t Some None (λ w f a i. let same : w ≡ v = cc in rw (← same) a) (λ f i. never (cc)) e

abbrev pub names_read : NameList → Option StatementRead
names_read unlisted = None
names_read (listed vs t) = Some (formed_read t 0 true)

pub read_begins : (s : List ℕ) (t : Scanned) → begun_answer (read_at s t) ≡ names_read (names_at (enough s) s t)
unfolding read_at deepest
read_begins s t = begins (names_at (enough s) s t)
  where
    begins : (x : NameList) → begun_answer (filled_by x) ≡ names_read x
    begins unlisted = refl
    begins (listed vs u) = refl

with_name_lem : (v : Variable) (x : NameList) → names_read (with_name v x) ≡ names_read x
with_name_lem v unlisted = refl
with_name_lem v (listed vs t) = refl

-- the others after a comma
abbrev pub others_at : List ℕ → Scanned → (Scanned → NameList) → NameList
others_at s t go = choose (is_symbol Comma t.token) (λ _. go (after s t)) (λ _. listed [] t)

-- every bound above what is left to read gives the same
names_same : (m n : ℕ) (s : List ℕ) (t : Scanned) → weight s t < m → weight s t < n → names_at m s t ≡ names_at n s t
unfolding names_at
names_same zero n s t h k = absurd (omega arith)
names_same (suc m) zero s t h k = absurd (omega arith)
names_same (suc m) (suc n) s t h k =
    by_name_in (λ x. x ≡ on_name t.token (λ v. with_name (variable_of s v) (others_at s (after s t) (names_at n s))) unlisted) t.token _ _
    (λ v f r.
    let l = after_lighter s t (rw r) in
    rw r
    (by_test (is_symbol Comma (after s t).token)
    (λ e.
    let w = after_lighter s (after s t) (symbol_reads Comma (after s t).token e) in
    rw e (ap (with_name (variable_of s v)) (names_same m n s (after s (after s t)) (omega arith) (omega arith))))
    (λ e. rw e)))
    (λ f. sym (by_name_in (λ x. x ≡ unlisted) t.token _ _ (λ v g r. never (cc)) (λ g. refl)))

-- so one turn leads to the same bound again
pub names_turn : (s : List ℕ) (t : Scanned)
    → names_at (enough s) s t ≡ on_name t.token (λ v. with_name (variable_of s v) (others_at s (after s t) (names_at (enough s) s))) unlisted
unfolding names_at
names_turn s t = let w = weight-enough s t in names_same (enough s) (suc (enough s)) s t (omega arith) (omega arith)

module _ (s : List ℕ) (t : Scanned) where
  pub names_none : name_of t.token ≡ None → names_at (enough s) s t ≡ unlisted
  names_none e = names_turn s t ∙ by_name_in (λ x. x ≡ unlisted) t.token _ _ (λ v f r. never (cc)) (λ f. refl)

  pub names_some : (v : Name) → t.token ≡ Named v
      → names_at (enough s) s t ≡ with_name (variable_of s v) (others_at s (after s t) (names_at (enough s) s))
  names_some v e = names_turn s t ∙ rw e

module _ (s : List ℕ) (t : Scanned) {r : Option StatementRead} (so_far : r ≡ names_read (names_at (enough s) s t)) where
  pub read_stops : name_of t.token ≡ None → r ≡ None
  read_stops e = so_far ∙ ap names_read (names_none s t e)

  module _ {v : Name} (name : name_of t.token ≡ Some v) where
    here : r ≡ names_read (others_at s (after s t) (names_at (enough s) s))
    here = so_far ∙ ap names_read (names_some s t v (name_token t.token name)) ∙ with_name_lem (variable_of s v) (others_at s (after s t) (names_at (enough s) s))

    pub read_last : is_symbol Comma (after s t).token ≡ false → r ≡ Some (formed_read (after s t) 0 true)
    read_last e = here ∙ rw e

    pub read_more : is_symbol Comma (after s t).token ≡ true → r ≡ names_read (names_at (enough s) s (after s (after s t)))
    read_more e = here ∙ rw e

-- ---- DATA

abbrev pub held_read : List ℕ → DataItems → Option StatementRead
held_read s item.bad = None
held_read s (item.items l p) = Some (formed_read (token_at s (place p)) 0 true)

pub data_begins : (s : List ℕ) (t : Scanned) → begun_answer (data_at s t) ≡ held_read s (items_from s t.next.0)
unfolding data_at deepest
data_begins s t = begins (items_from s t.next.0)
  where
    begins : (x : DataItems) → begun_answer (held s x) ≡ held_read s x
    begins item.bad = refl
    begins (item.items l p) = refl

with_item_lem : (s b : List ℕ) (x : DataItems) → held_read s (with_item b x) ≡ held_read s x
with_item_lem s b item.bad = refl
with_item_lem s b (item.items l p) = refl

module _ (s : List ℕ) (at : ℕ) {r : Option StatementRead} (so_far : r ≡ held_read s (items_from s at)) where
  pub data_stops : item_at s at ≡ None → r ≡ None
  data_stops e = so_far ∙ ap (held_read s) (items_turn s at) ∙ rw e

  pub data_last : (i : Item) → item_at s at ≡ Some i → i.more ≡ false → r ≡ Some (formed_read (token_at s i.end) 0 true)
  data_last i e m = so_far ∙ ap (held_read s) (items_turn s at) ∙ rw (e, m)

  pub data_more : (i : Item) → item_at s at ≡ Some i → i.more ≡ true → r ≡ held_read s (items_from s (i.end.0 + 1))
  data_more i e m =
      so_far ∙ ap (held_read s) (items_turn s at) ∙ rw (e, m) (with_item_lem s (item_bytes s i) (items_from s (i.end.0 + 1)))
