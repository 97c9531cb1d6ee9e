-- By its verdict a row's line reads or not (`row_reads`), and what it names are its pairs (`row_noted`).
use mathlib.Core.Path.{sym, ◌∙◌}
use native.Mathlib.Omega.{arith}
use Rattle.loader.proofs.Spans.{body_at, Spanned}
use Rattle.reader.specs.Lines.{judgement}
use Rattle.rows.specs.bridge.Rows.{cell}
use Rattle.rows.proofs.Ordering.{ordered}
use Rattle.index.proofs.Rowing.{Reads, row_unread, row_there, row_reads, row_noted}
use Rattle.index.proofs.pairs.note_row.Goals as goal

pub verdict_in-requires : goal.verdict_in-requires
verdict_in-requires c = omega (arith, c.requires.1, (ordered c.requires.0).few)

pub returns-then-verdict_in-ne-READS : goal.returns-then-verdict_in-ne-READS
returns-then-verdict_in-ne-READS c = record { within = c.requires.2; noted_as = λ done h. row_unread c.requires.0 c.args.row.0 c.requires.1 (λ z. c.if-verdict_in-ne-READS.true (c.verdict_in.ensures ∙ z)) done h }

pub span_in-span-requires : goal.span_in-span-requires
span_in-span-requires c = omega (arith, c.requires.1, (ordered c.requires.0).few)

pub slice_bounds-note_line-count : goal.slice_bounds-note_line-count
slice_bounds-note_line-count c =
    let at_line : Spanned c.args.text.now (cell c.args.rows.now c.args.row.0 1) c.span_in-span.result = row_there c.requires.0 c.args.row.0 c.requires.1 c.span_in-span.ensures in
    (at_line).low

pub slice_bounds-note_line-start : goal.slice_bounds-note_line-start
slice_bounds-note_line-start c =
    let at_line : Spanned c.args.text.now (cell c.args.rows.now c.args.row.0 1) c.span_in-span.result = row_there c.requires.0 c.args.row.0 c.requires.1 c.span_in-span.ensures in
    (at_line).low

pub slice_bounds-note_line-end : goal.slice_bounds-note_line-end
slice_bounds-note_line-end c =
    let at_line : Spanned c.args.text.now (cell c.args.rows.now c.args.row.0 1) c.span_in-span.result = row_there c.requires.0 c.args.row.0 c.requires.1 c.span_in-span.ensures in
    (at_line).high

pub returns : goal.returns
returns c =
    let reads : Reads (judgement (body_at c.args.text.now c.span_in-span.result)) = row_reads c.requires.0 c.args.row.0 c.requires.1 c.span_in-span.ensures (sym c.verdict_in.ensures ∙ c.if-verdict_in-ne-READS.false) in
    record {
      within = c.note_line.ensures.within;
      noted_as = λ done h.
          row_noted c.requires.0 c.args.row.0 c.requires.1 c.span_in-span.ensures reads c.note_line.result _ done
          (c.note_line.ensures.noted_as reads.part done reads.is h);
    }
