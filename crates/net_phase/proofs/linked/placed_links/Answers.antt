use Rattle.std.proofs.Common.{List, [], ◌++◌, ◌∙◌, length, sym, subst}
use Rattle.cell_graph.specs.Linked.{plain}
use Rattle.link_classes.specs.Classes.{AreInRange}
use Rattle.link_classes.specs.declared.classes.Link.{Link}
use Rattle.net_phase.proofs.Linking.{pairs_both, range_both}
use Rattle.net_phase.proofs.linked.placed_links.Goals as goal
use Rattle.net_phase.specs.Below.{tables_seen, wiring_seen}
use Rattle.net_link_laws.specs.Places.{places_of}
use Rattle.net_walk.specs.Pairs.{AddsPairs}

pub both_halves-requires-clause-some : goal.both_halves-requires-clause-some
both_halves-requires-clause-some g c =
    let whole = sym c.split_at.ensures.by_index.0 ∙ c.as_slice-pairs.ensures.value in
    let d = plain c.args.below.now.design in
    (range_both (length (places_of d c.args.site.now.cell)) c.split_at.result.0.now c.split_at.result.1.now (subst (λ (l : List Link). AreInRange (length (places_of d c.args.site.now.cell)) l) (sym whole) c.in_ok-found.ensures.range)).0

pub both_halves-requires-clause-others : goal.both_halves-requires-clause-others
both_halves-requires-clause-others g c =
    let whole = sym c.split_at.ensures.by_index.0 ∙ c.as_slice-pairs.ensures.value in
    let d = plain c.args.below.now.design in
    (range_both (length (places_of d c.args.site.now.cell)) c.split_at.result.0.now c.split_at.result.1.now (subst (λ (l : List Link). AreInRange (length (places_of d c.args.site.now.cell)) l) (sym whole) c.in_ok-found.ensures.range)).1

pub returns : goal.returns
returns g c =
    let v = c.args.below.now in
    let d = plain v.design in
    let w = wiring_seen v in
    let t = tables_seen v in
    let cell = c.args.site.now.cell in
    let some = c.split_at.result.0.now in
    let others = c.split_at.result.1.now in
    let one = c.in_ok-halves.halves.0.items in
    let other = c.in_ok-halves.halves.1.items in
    let both = pairs_both d w t cell some others one other c.in_ok-halves.ensures.some c.in_ok-halves.ensures.others in
    let whole = sym c.split_at.ensures.by_index.0 ∙ c.as_slice-pairs.ensures.value in
    rw (c.in_ok-extend_from_slice.ensures.items, c.deref.ensures.value)
    (c.in_ok-found.ensures.all [] (one ++ other) (subst (λ (l : List Link). AddsPairs d w t cell l [] (one ++ other)) whole both))
