use Rattle.std.proofs.Common.{rules, ◌≡◌, ℕ, length, slice_index, slice_range, subst, ap, arith}
use Rattle.match_graph.specs.Graph.{nodes_of}
use Rattle.match_rounds.specs.Rounds.{ArePartedBySpans}
use Rattle.match_rounds.proofs.Grouped.{fresh_on, grown_on}
use Rattle.match_rounds.proofs.SpanColours.{step, next_start}
use Rattle.match_rounds.proofs.rounds.look_at_each.Goals as goal

pub loop-j-preserved : goal.loop-j-preserved
loop-j-preserved c = (
  next_start c.args.ends.now c.loop-j.j,
  c.in_ok-look_at.ensures.partition,
  step c.args.graph.now c.args.classes.now c.loop-j.classes c.look_at.new.classes c.args.members.now c.args.ends.now
      (slice_range c.args.members.now c.loop-j.from (slice_index c.args.ends.now c.loop-j.j)) c.loop-j.j (nodes_of c.args.graph.now) c.loop-j.invariant.2
      (ap (λ (x : ℕ). slice_range c.args.members.now x (slice_index c.args.ends.now c.loop-j.j)) c.loop-j.invariant.0)
      c.in_ok-look_at.ensures.parted,
  fresh_on c.args.classes.now c.loop-j.classes c.look_at.new.classes (nodes_of c.args.graph.now) c.loop-j.invariant.3 c.in_ok-look_at.ensures.fresh,
  grown_on c.args.classes.now c.loop-j.classes c.look_at.new.classes c.loop-j.invariant.4 c.in_ok-look_at.ensures.grown,
)

pub offset_bounds-members-from : goal.offset_bounds-members-from
offset_bounds-members-from c =
    let s = c.requires.spans c.loop-j.j c.loop-j-test.true in
    let low = s.0 in
    let high = s.1 in
    let e = c.loop-j.invariant.0 in
    search (rules, arith)

pub returns-clause-parted : goal.returns-clause-parted
returns-clause-parted c =
    let past = c.loop-j-test.false in
    let upto = c.loop-j.auto.j-end in
    let e : c.loop-j.j ≡ length c.args.ends.now = omega arith in
    subst (λ (i : ℕ). ArePartedBySpans c.args.graph.now c.args.classes.now c.loop-j.classes c.args.members.now c.args.ends.now i (nodes_of c.args.graph.now)) e c.loop-j.invariant.2
