use Rattle.std.proofs.Common.{◌++◌, [], ◌∙◌}
use Rattle.base_laws.proofs.Tests.{or_false}
use Rattle.std.proofs.lemmas.List.Elements.{All-nil, All-append}
use Rattle.geo_base.specs.Rects.{IsRect}
use Rattle.geo_base.specs.declared.layer.Op.TheVariants.{Or}
use Rattle.rect_sets.specs.Rects.{covers}
use Rattle.rect_sets.proofs.Combining.{balanced_both, edges_both, set_both}
use Rattle.rect_sets.proofs.halves.touching.Goals as goal

pub returns-clause-edges : goal.returns-clause-edges
returns-clause-edges c =
    let all = c.args.high.items ++ c.args.low.now in
    rw (c.in_ok-edges.ensures, c.deref.ensures.value, c.in_ok-extend_from_slice.ensures.items) (edges_both all [] (All-append IsRect c.args.high.items c.args.low.now c.requires.high c.requires.low) (All-nil IsRect))

pub returns-clause-balanced : goal.returns-clause-balanced
returns-clause-balanced c =
    rw (c.in_ok-edges.ensures, c.deref.ensures.value, c.in_ok-extend_from_slice.ensures.items) (balanced_both (c.args.high.items ++ c.args.low.now) [])

pub returns-clause-set : goal.returns-clause-set
returns-clause-set c = λ s.
    let all = c.args.high.items ++ c.args.low.now in
    rw (c.in_ok-edges.ensures, c.deref.ensures.value, c.in_ok-extend_from_slice.ensures.items) (set_both Or all [] s (All-append IsRect c.args.high.items c.args.low.now c.requires.high c.requires.low) (All-nil IsRect) ∙ or_false (covers all s))
