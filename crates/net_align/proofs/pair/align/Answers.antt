use Rattle.std.proofs.Common.{refl, true≢false}
use Rattle.net_model.specs.Rows.{plain_netlist}
use Rattle.net_align.specs.Names.{left_names, right_names}
use Rattle.net_align.specs.Side.{IsSide}
use Rattle.net_align.proofs.BelowTop.{calls_there}
use Rattle.net_align.proofs.PairKept.{comparable, is_once, keeps_expansions, lines_apart, names_once, partner_there}
use Rattle.net_align.proofs.PairMade.{are_aligned, lefts_apart, lefts_marked, pairs_found, partner_has, rights_apart, rights_marked, has_top_partner}
use Rattle.net_align.proofs.Placed.{low_in, low_of}
use Rattle.net_align.proofs.pair.align.Goals as goal

pub find_partners-requires-clause-circuits : goal.find_partners-requires-clause-circuits
find_partners-requires-clause-circuits g c =
    names_once (plain_netlist c.args.schematic.now) c.requires.schematic.names

pub find_partners-requires-clause-lefts : goal.find_partners-requires-clause-lefts
find_partners-requires-clause-lefts g c =
    is_once (left_names c.args.same.now) c.requires.lefts

pub find_partners-requires-clause-rights : goal.find_partners-requires-clause-rights
find_partners-requires-clause-rights g c =
    is_once (right_names c.args.same.now) c.requires.rights

pub find_partners-requires-clause-calls : goal.find_partners-requires-clause-calls
find_partners-requires-clause-calls g c =
    calls_there (plain_netlist c.args.schematic.now) c.requires.schematic.sound

pub returns-in_default-clause-none : goal.returns-in_default-clause-none
returns-in_default-clause-none g c =
    let low = low_in c.args.layout.now c.args.top c.requires.top in (
      (λ e b h. c.in_default.not-Some b (partner_has _ _ _ _ _ c.in_ok-of.ensures _ _ low c.index.ensures b h)),
      (λ none. refl),
    )

pub walk_both-requires-clause-right_top : goal.walk_both-requires-clause-right_top
walk_both-requires-clause-right_top g c =
    let tops = has_top_partner c.args.layout.now (plain_netlist c.args.schematic.now) c.in_ok-of.ensures c.requires.top c.index.ensures c.in-Some.is in
    low_of c.args.schematic.now c.in-Some.right_top (partner_there _ _ _ _ _ _ tops)

pub both_sides-requires-clause-layout : goal.both_sides-requires-clause-layout
both_sides-requires-clause-layout g c =
    let found = pairs_found c.args.layout.now c.args.schematic.now c.in_ok-of.ensures c.requires.top c.index.ensures c.in-Some.is
    c.in_ok-below.ensures.left c.in_ok-below.ensures.left_reached c.in_ok-below.ensures.right c.in_ok-below.ensures.right_reached
    c.deref.ensures.value c.in_ok-pairs.ensures c.deref-2.ensures.value c.deref-3.ensures.value in
    record {
      netlist = c.requires.layout;
      tables = c.in_ok-below.ensures.left;
      marked = lefts_marked found;
      apart = lefts_apart found;
    }

pub both_sides-requires-clause-schematic : goal.both_sides-requires-clause-schematic
both_sides-requires-clause-schematic g c =
    let found = pairs_found c.args.layout.now c.args.schematic.now c.in_ok-of.ensures c.requires.top c.index.ensures c.in-Some.is
    c.in_ok-below.ensures.left c.in_ok-below.ensures.left_reached c.in_ok-below.ensures.right c.in_ok-below.ensures.right_reached
    c.deref.ensures.value c.in_ok-pairs.ensures c.deref-2.ensures.value c.deref-3.ensures.value in
    record {
      netlist = c.requires.schematic;
      tables = c.in_ok-below.ensures.right;
      marked = rights_marked found;
      apart = rights_apart found c.requires.layout.names c.requires.schematic.names (lines_apart c.args.same.now c.requires.lefts c.requires.rights);
    }

pub returns-clause-none : goal.returns-clause-none
returns-clause-none g c =
    let tops = has_top_partner c.args.layout.now (plain_netlist c.args.schematic.now) c.in_ok-of.ensures c.requires.top c.index.ensures c.in-Some.is in
    ((λ e. absurd (true≢false e)), (λ none. absurd (none c.in-Some.right_top tops)))

pub returns-clause-pair : goal.returns-clause-pair
returns-clause-pair g c =
    are_aligned
    (pairs_found c.args.layout.now c.args.schematic.now c.in_ok-of.ensures c.requires.top c.index.ensures c.in-Some.is
    c.in_ok-below.ensures.left c.in_ok-below.ensures.left_reached c.in_ok-below.ensures.right c.in_ok-below.ensures.right_reached
    c.deref.ensures.value c.in_ok-pairs.ensures c.deref-2.ensures.value c.deref-3.ensures.value)
    c.in_ok-sides.ensures.left c.in_ok-sides.ensures.right

pub returns-clause-comparable : goal.returns-clause-comparable
returns-clause-comparable g c =
    comparable _ _ _ _ _ _ c.requires.layout c.requires.schematic c.requires.order (are_aligned
    (pairs_found c.args.layout.now c.args.schematic.now c.in_ok-of.ensures c.requires.top c.index.ensures c.in-Some.is
    c.in_ok-below.ensures.left c.in_ok-below.ensures.left_reached c.in_ok-below.ensures.right c.in_ok-below.ensures.right_reached
    c.deref.ensures.value c.in_ok-pairs.ensures c.deref-2.ensures.value c.deref-3.ensures.value)
    c.in_ok-sides.ensures.left c.in_ok-sides.ensures.right)

pub returns-clause-left_kept : goal.returns-clause-left_kept
returns-clause-left_kept g c =
    let lay = plain_netlist c.args.layout.now in
    let side : IsSide lay c.deref-2.result.now (plain_netlist c.in_ok-sides.sides.0) = c.in_ok-sides.ensures.left in
    keeps_expansions lay (plain_netlist c.in_ok-sides.sides.0) side.by side.aligned side.only

pub returns-clause-right_kept : goal.returns-clause-right_kept
returns-clause-right_kept g c =
    let sch = plain_netlist c.args.schematic.now in
    let side : IsSide sch c.deref-3.result.now (plain_netlist c.in_ok-sides.sides.1) = c.in_ok-sides.ensures.right in
    keeps_expansions sch (plain_netlist c.in_ok-sides.sides.1) side.by side.aligned side.only
