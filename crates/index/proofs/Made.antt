-- A table and pairs that were made of a text: what of them goes into its index.
use mathlib.Core.Path.{◌≡◌, ap, ◌∙◌}
use mathlib.Core.List.{List}
use Prim.Native.Nat.{ℕ, ◌+◌, ◌*◌, ◌≤◌}
use native.Mathlib.Omega.{arith}
use lib.ListN.{length, take}
use lib.Seq.{length-take-le}
use Rattle.loader.specs.Lines.{lines_of}
use Rattle.rows.specs.bridge.Rows.{count_of, cells, Tabled}
use Rattle.rows.proofs.Ordering.{ordered}
use Rattle.index.specs.Pairs.{pairs_of}
use Rattle.index.specs.Index.{line_table}
use Rattle.index.specs.bridge.Noting.{Held}
use Rattle.index.proofs.Noting.{held_long}
use Rattle.index.proofs.Tabling.{table_words}

-- of the table so many words are used
pub record Made (text rows pairs : List ℕ) (count used : ℕ) : Type 0 where
  pub tabled : Tabled text rows
  pub keeps : Held pairs count (pairs_of text)
  pub long : length rows ≡ cells
  pub uses : used ≡ 1 + 6 * count_of rows

module _ {text rows pairs : List ℕ} {count used : ℕ} (m : Made text rows pairs count used) where
  pub short : used ≤ length rows
  short = omega (arith, m.uses, m.long, (ordered m.tabled).few)

  pub front_long : length (take used rows) ≡ used
  front_long = length-take-le used rows short

  pub table : take used rows ≡ line_table (lines_of text)
  table = ap (λ n. take n rows) m.uses ∙ table_words m.tabled m.long

  pub few : count ≤ 1024
  few = omega (arith, m.keeps.counts, m.keeps.few)

  pub within : 2 * count ≤ length pairs
  within = omega (arith, few, held_long m.keeps)

  pub pairs_long : length (take (2 * count) pairs) ≡ 2 * count
  pairs_long = length-take-le (2 * count) pairs within
