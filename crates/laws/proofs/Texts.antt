-- The laws of strings: what LEFT$, MID$ and `+` come to, in whatever room.
use Rattle.std.specs.Prelude.{Ok}
use mathlib.Core.Path.{◌≡◌, refl}
use mathlib.Core.Bool.{true}
use mathlib.Core.List.{List, [], ◌∷◌, ◌++◌, append_assoc}
use Prim.Native.Nat.{ℕ, ◌+◌, ◌-◌, ◌≤◌}
use native.Mathlib.Omega.{arith}
use borrow.Author.Tests.{le-ltb, le-leb}
use lib.Dec.{ltb}
use lib.IntN.{pos}
use lib.ListN.{length, take, drop, length-append, length-take, length-drop, take-append-drop}
use lib.Seq.{take_all}
use Rattle.whole.specs.Texts.{longest_string}
use Rattle.whole.specs.Whole.{applied}
use Rattle.whole.specs.declared.arithmetic.Operator.TheVariants.{Add}
use Rattle.whole.proofs.Numbers.{num_low, fit_in}
use Rattle.words.specs.declared.symbols.Function.{Function}
use Rattle.words.specs.declared.symbols.Function.TheVariants.{Left, Mid}
use Rattle.words.proofs.Choices.{by_test}
use Rattle.grammar.specs.Trees as tree
use Rattle.grammar.specs.Trees.{Formula}
use Rattle.grammar.specs.Functions.{wants, form_for}
use Rattle.grammar.specs.Formulas.{count_of}
use Rattle.grammar.specs.declared.wanting.Want.TheVariants as want
use Rattle.variables.specs.Strings.{Value, whole, text, Room, Outcome, value, then, make, let_all_go, produced}
use Rattle.variables.specs.Variables.{Variables}
use Rattle.strings.specs.Functions.{argument, largest_argument, within, called}
use Rattle.operators.specs.Values.{want_at, tested, further, result, value_of}
use Rattle.laws.specs.Laws.{Gives, FourteenOr, fourteen, comes, last_part, PartsJoinAgain, BracketsDoNotMatter}
use Rattle.laws.proofs.Rooms.{values, on_right, AgreeBarFourteen, same_in_any_room}

-- ---- a value that a formula gives, it gives in every room, or 14

-- in whatever room
pub record Always (vars : Variables) (f : Formula) (v : Value) : Type 0 where
  pub inside : (room : Room) → FourteenOr v (value_of f vars room)

agrees : {v : Value} {room : Room} {o : Outcome} → AgreeBarFourteen (value v room) o → FourteenOr v o
agrees (values v n) = comes
agrees (on_right x) = rw x fourteen

pub gives_always : {vars : Variables} {room : Room} {f : Formula} {v : Value} → Gives vars room f v → Always vars f v
gives_always {vars} {room} {f} g =
    record { inside = λ s. agrees (rw g.is at (same_in_any_room f vars room s g.free)) }

-- ---- strings

then_fourteen : {v w : Value} {o : Outcome} (go : Value → Room → Outcome) → FourteenOr v o → ((room : Room) → FourteenOr w (go v room))
    → FourteenOr w (then o go)
then_fourteen go fourteen h = fourteen
then_fourteen go (comes {room}) h = h room

made_always : (b : List ℕ) (room : Room) → FourteenOr (text b) (make b room)
unfolding make
made_always b room = by_test (ltb room.limit (room.live + length b)) (λ e. rw e fourteen) (λ e. rw e comes)

produced_always : (b : List ℕ) (vs : List Value) (room : Room) → length b ≤ longest_string → FourteenOr (text b) (produced b vs room)
unfolding produced
produced_always b vs room h =
    rw (le-ltb longest_string (length b) h)
    (then_fourteen (λ v after. value v (let_all_go vs after)) (made_always b room) (λ after. comes))

module _ (vars : Variables) where
  joined_always : {f g : Formula} {a b : List ℕ} → Always vars f (text a) → Always vars g (text b) → length (a ++ b) ≤ longest_string
      → Always vars (tree.two_sided Add f g) (text (a ++ b))
  unfolding value_of
  joined_always {a = a} {b = b} hf hg short = record {
    inside = λ room.
        then_fourteen _ (hf.inside room) (λ after.
        then_fourteen _ (hg.inside after) (λ last. produced_always (a ++ b) (text a ∷ text b ∷ []) last short));
  }

  -- a function of a text and a whole number
  part_always : (f : Function) {x n : Formula} {b c : List ℕ} {w : ℕ} → wants f 2 ≡ want.Text ∷ want.Whole ∷ [] → Always vars x (text b)
      → Always vars n (whole w) → ((room : Room) → FourteenOr (text c) (called f (text b ∷ whole w ∷ []) room))
      → Always vars (tree.call f (tree.also (tree.also tree.none x) n)) (text c)
  unfolding value_of want_at form_for count_of
  part_always f {x} {n} {b} {c} {w} e hx hn h = record { inside = λ room. rw e (with_text (hx.inside room)) }
    where
      with_number : {o : Outcome} → FourteenOr (whole w) o
          → FourteenOr (text c) (result (tested want.Whole (text b ∷ []) o) (λ vs after. called f vs after))
      with_number fourteen = fourteen
      with_number (comes {room = after}) = h after

      with_text : {o : Outcome} → FourteenOr (text b) o
          → FourteenOr (text c) (result (further (tested want.Text [] o) (λ vs after. tested want.Whole vs (value_of n vars after))) (λ vs after. called f vs after))
      with_text fourteen = fourteen
      with_text (comes {room = after}) = with_number (hn.inside after)

-- N+1
next_number : (n : ℕ) → n ≤ last_part → applied Add n 1 ≡ Ok (n + 1)
next_number n h = rw (num_low n (omega arith), num_low 1 (omega arith)) (fit_in (pos (n + 1)) (omega arith))

whole_part : (x : List ℕ) (n : ℕ) → length x ≤ longest_string → take n x ++ take longest_string (drop n x) ≡ x
whole_part x n h = rw (take_all longest_string (drop n x) (omega (arith, length-drop n x))) (take-append-drop n x)

-- LEFT$ and MID$ in their ranges
in_range : (low w : ℕ) → low ≤ w → w ≤ largest_argument → within low w ≡ true
in_range low w h k = rw (le-leb low w h, le-leb w largest_argument k)

left_always : (x : List ℕ) (n : ℕ) → length x ≤ longest_string → n ≤ last_part → (room : Room)
    → FourteenOr (text (take n x)) (called Left (text x ∷ whole n ∷ []) room)
unfolding argument
left_always x n short h room =
    rw (in_range 0 n (omega arith) (omega arith))
    (produced_always (take n x) (text x ∷ whole n ∷ []) room (omega (arith, length-take n x)))

mid_always : (x : List ℕ) (n : ℕ) → n ≤ last_part → (room : Room)
    → FourteenOr (text (take longest_string (drop n x))) (called Mid (text x ∷ whole (n + 1) ∷ []) room)
unfolding argument
mid_always x n h room =
    let back : n + 1 - 1 ≡ n = omega arith in
    rw (in_range 1 (n + 1) (omega arith) (omega arith), back)
    (produced_always (take longest_string (drop n x)) (text x ∷ whole (n + 1) ∷ []) room (omega (arith, length-take longest_string (drop n x))))

pub parts_join_again : PartsJoinAgain
unfolding value_of form_for
parts_join_again vars room X N x n gx gn h =
    let hx = gives_always gx.gives in
    let hn = gives_always gn in
    let next : Always vars (tree.two_sided Add N (tree.number 1)) (whole (n + 1)) = record {
      inside = λ r. then_fourteen _ (hn.inside r) (λ after. rw (next_number n h) comes);
    } in
    let left = part_always vars Left refl hx hn (left_always x n gx.short h) in
    let right = part_always vars Mid refl hx next (mid_always x n h) in
    let again = whole_part x n gx.short in
    rw again at ((joined_always vars left right (rw again gx.short)).inside room)

pub brackets_do_not_matter : BracketsDoNotMatter
unfolding value_of
brackets_do_not_matter vars room A B C a b c ga gb gc short =
    let ha = gives_always ga.gives in
    let hb = gives_always gb.gives in
    let hc = gives_always gc.gives in
    let ab : length (a ++ b) ≤ longest_string = omega (arith, length-append a b, length-append a (b ++ c), length-append b c) in
    let bc : length (b ++ c) ≤ longest_string = omega (arith, length-append a (b ++ c)) in
    let same = append_assoc a b c in
    record {
      left = rw same at ((joined_always vars (joined_always vars ha hb ab) hc (rw same short)).inside room);
      right = (joined_always vars ha (joined_always vars hb hc bc) short).inside room;
    }
