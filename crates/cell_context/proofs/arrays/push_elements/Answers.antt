use Rattle.std.proofs.Common.{◌++◌, ◌∙◌, ap, arith}
use Rattle.cell_context.proofs.Adding.{adds_alone}
use Rattle.cell_context.proofs.arrays.push_elements.Goals as goal

pub push_visit-requires-clause-row : goal.push_visit-requires-clause-row
push_visit-requires-clause-row c = let one = (c.is_alone.ensures.0 c.if-is_alone.true).0 in omega (arith, one)

pub push_visit-requires-clause-column : goal.push_visit-requires-clause-column
push_visit-requires-clause-column c = let one = (c.is_alone.ensures.0 c.if-is_alone.true).1 in omega (arith, one)

pub returns-then-is_alone : goal.returns-then-is_alone
returns-then-is_alone c =
    adds_alone c.args.place.now c.args.hull.now c.args.window.now c.args.out.now.items c.push_visit.new.out.items (c.is_alone.ensures.0 c.if-is_alone.true) (c.in_ok-push_visit.ensures {u = tt})

pub returns : goal.returns
returns c = record {
  more = c.in_ok-more.more.items;
  behind = (c.in_ok-extend_from_slice.ensures {u = tt}).items ∙ ap (λ vs. c.args.out.now.items ++ vs) c.deref.ensures.value;
  each = c.in_ok-more.ensures.each;
  found = λ row column q is met. c.in_ok-more.ensures.found row column q is.0 is.1 met;
}
