-- The line is laid, and the callers' lines after it (`all_told`).
use Rattle.std.proofs.Common.{◌≡◌, ◌≤◌, refl, sym, ap, ◌∙◌, length, take, length-take-le, rules, arith}
use Rattle.whole.specs.Texts.{held}
use Rattle.index.specs.Asking.{line_in, callers_in}
use Rattle.index.proofs.Calling.{callers_few}
use Rattle.callers_of.specs.Answers.{start_line}
use Rattle.callers_of.proofs.Telling.{front_callers, callers_long, all_told}
use Rattle.callers_of.proofs.answers.told.Goals as goal

pub slice_bounds-callers-end : goal.slice_bounds-callers-end
slice_bounds-callers-end c =
    let few : c.callers_in-count.result ≤ 512 = omega (arith, c.callers_in-count.ensures.value, callers_few c.args.index.now c.args.number) in
    let long : length c.callers_in-count.new.callers ≡ 512
    = callers_long _ (callers_in c.args.index.now c.args.number) refl (callers_few c.args.index.now c.args.number) c.callers_in-count.ensures.callers_after in
    omega (arith, long, few)

pub slice_bounds-put_callers-end : goal.slice_bounds-put_callers-end
slice_bounds-put_callers-end c =
    let few : c.callers_in-count.result ≤ 512 = omega (arith, c.callers_in-count.ensures.value, callers_few c.args.index.now c.args.number) in
    let long : length c.callers_in-count.new.callers ≡ 512
    = callers_long _ (callers_in c.args.index.now c.args.number) refl (callers_few c.args.index.now c.args.number) c.callers_in-count.ensures.callers_after in
    let within : c.callers_in-count.result ≤ length c.callers_in-count.new.callers = omega (arith, long, few) in
    sym (length-take-le _ _ within)

pub put_callers-requires : goal.put_callers-requires
put_callers-requires c =
    let callers = callers_in c.args.index.now c.args.number in
    let few : c.callers_in-count.result ≤ 512 = omega (arith, c.callers_in-count.ensures.value, callers_few c.args.index.now c.args.number) in
    let long : length c.callers_in-count.new.callers ≡ 512
    = callers_long _ callers refl (callers_few c.args.index.now c.args.number) c.callers_in-count.ensures.callers_after in
    let cut : length (take c.callers_in-count.result c.callers_in-count.new.callers) ≡ c.callers_in-count.result
    = length-take-le c.callers_in-count.result c.callers_in-count.new.callers (omega (arith, long, few)) in
    let long_out : length c.put_line-end.new.out ≡ 131072 = search (rules, c.put_line-end.auto, c.requires) in
    omega (arith, c.put_line-end.ensures.upper_bound, cut, few, long_out)

pub returns : goal.returns
returns c =
    let callers = callers_in c.args.index.now c.args.number in
    let few : c.callers_in-count.result ≤ 512 = omega (arith, c.callers_in-count.ensures.value, callers_few c.args.index.now c.args.number) in
    let long : length c.callers_in-count.new.callers ≡ 512
    = callers_long _ callers refl (callers_few c.args.index.now c.args.number) c.callers_in-count.ensures.callers_after in
    let cut : length (take c.callers_in-count.result c.callers_in-count.new.callers) ≡ c.callers_in-count.result
    = length-take-le c.callers_in-count.result c.callers_in-count.new.callers (omega (arith, long, few)) in
    let said = front_callers _ callers c.callers_in-count.ensures.value c.callers_in-count.ensures.callers_after in
    let first = start_line c.args.number (line_in c.args.index.now c.args.number) in
    let line = c.started-line.ensures ∙ ap (λ x. held (start_line c.args.number x)) c.line_in.ensures in
    let w = c.put_line-end.ensures.by_index first line in
    let k = c.put_callers.ensures in
    let a = all_told c.args.out.now first callers w.0 w.1 said k.upper_bound.1 k.out_after in
    record {
      upper_bound = (omega (arith, k.upper_bound.0, c.put_line-end.ensures.upper_bound, cut, few), a.0);
      out_after = a.1;
    }
