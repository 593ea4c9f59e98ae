use Rattle.std.proofs.Common.{◌≡◌, ℤ, pos, ◌+◌, List, [], ◌∷◌, refl, sym, subst, ◌∙◌, arith, get_or, drop}
use Rattle.std.proofs.lemmas.Int.{ints}
use Rattle.std.proofs.lemmas.List.{drop_more, drop_all}
use Rattle.std.proofs.lemmas.List.Elements.{All-nil}
use Rattle.std.specs.List.Sorted.{IsPermutation}
use Rattle.rect_sets.specs.Edges.{first_of, second_of, IsEdge}
use Rattle.rect_sets.specs.Sums.{ends_of, passed, first_change, second_change, AreFrom, IsStep, IsSummed}
use Rattle.rect_sets.specs.declared.row.Edge.{Edge}
use Rattle.rect_sets.specs.declared.sums.End.{End}
use Rattle.rect_sets.proofs.Summing.{from_first, start_first, start_second, summed_more, are_sums}
use Rattle.rect_sets.proofs.sums.sums.Goals as goal

pub loop-end-init : goal.loop-end-init
loop-end-init c =
    let x = c.args.cut.now.at in
    let ds = c.sort_ends.new.ends.items in
    let rising = c.in_ok-sort_ends.ensures.sorted in
    let p : IsPermutation (ends_of c.args.edges.now) ds = subst (λ (xs : List End). IsPermutation xs ds) c.in_ok-ends.ensures c.in_ok-sort_ends.ensures.permutation in
    rw (c.start-begun.ensures, c.deref.ensures.value, c.deref-end-items.ensures.value, c.new-out.ensures.items) (record {
      from = from_first ds rising;
      begun = record { ordered = omega (arith, ints) };
      at = refl;
      sound = All-nil IsEdge;
      line = All-nil (λ (e : Edge). e.x ≡ x);
      first = start_first x c.args.edges.now ds rising p;
      second = start_second x c.args.edges.now ds rising p;
    })

pub loop-end-preserved : goal.loop-end-preserved
loop-end-preserved c =
    let ds = c.deref-end-items.result.now in
    let i = c.loop-end.end-index in
    let so = c.loop-end.invariant in
    let b = c.loop-end.begun in
    let e = c.in_ok-edge.edge in
    let zero : End = record { y = pos 0; first = pos 0; second = pos 0 } in
    let d = get_or ds i zero in
    let split = drop_more ds i zero (omega arith) in
    let from : AreFrom b.edge.y2 (d ∷ drop (i + 1) ds) = subst (λ (q : List End). AreFrom b.edge.y2 q) split so.from in
    let first : IsSummed first_of first_change ds (d ∷ drop (i + 1) ds) c.loop-end.out.items b.edge b.first = subst (λ (q : List End). IsSummed first_of first_change ds q c.loop-end.out.items b.edge b.first) split so.first in
    let second : IsSummed second_of second_change ds (d ∷ drop (i + 1) ds) c.loop-end.out.items b.edge b.second = subst (λ (q : List End). IsSummed second_of second_change ds q c.loop-end.out.items b.edge b.second) split so.second in
    let step : IsStep b d.y c.loop-end.out.items c.go_up.new.out.items e = c.in_ok-edge.ensures in
    let next : c.in-Some.next ≡ passed b e d = c.in-Some.ensures in
    rw next (record {
      from = subst (λ (y : ℤ). AreFrom y (drop (i + 1) ds)) (sym step.to) from.1;
      begun = record { ordered = step.ordered };
      at = step.same_x ∙ so.at;
      sound = step.sound so.sound;
      line = step.line c.args.cut.now.at so.at so.line;
      first = summed_more first_of first_change ds d (drop (i + 1) ds) c.loop-end.out.items c.go_up.new.out.items b.edge e b.first first from step.to step.first;
      second = summed_more second_of second_change ds d (drop (i + 1) ds) c.loop-end.out.items c.go_up.new.out.items b.edge e b.second second from step.to step.second;
    })

pub returns : goal.returns
returns c =
    let ds = c.deref-end-items.result.now in
    let sorted = c.sort_ends.new.ends.items in
    let so = c.loop-end.invariant in
    let b = c.loop-end.begun in
    let none : drop c.loop-end.end-index ds ≡ [] = drop_all c.loop-end.end-index ds (omega arith) in
    let p : IsPermutation (ends_of c.args.edges.now) sorted = subst (λ (xs : List End). IsPermutation xs sorted) c.in_ok-ends.ensures c.in_ok-sort_ends.ensures.permutation in
    let first : IsSummed first_of first_change ds [] c.loop-end.out.items b.edge b.first = subst (λ (q : List End). IsSummed first_of first_change ds q c.loop-end.out.items b.edge b.first) none so.first in
    let second : IsSummed second_of second_change ds [] c.loop-end.out.items b.edge b.second = subst (λ (q : List End). IsSummed second_of second_change ds q c.loop-end.out.items b.edge b.second) none so.second in
    rw c.in_ok-push_piece.ensures (are_sums c.args.cut.now.at c.args.edges.now ds c.loop-end.out.items b.edge b.first b.second c.requires (subst (λ (xs : List End). IsPermutation (ends_of c.args.edges.now) xs) (sym c.deref-end-items.ensures.value) p) so.at so.sound so.line first second)
