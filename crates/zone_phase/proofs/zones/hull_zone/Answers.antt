use Rattle.std.proofs.Common.{◌^◌, arith, length, sym, subst}
use Rattle.cell_graph.specs.Linked.{IsFrame, IsHull, HullIsSound}
use Rattle.cell_graph.proofs.Bridge.{hull_sound}
use Rattle.cell_context.proofs.Visiting.{wider_rect}
use Rattle.cell_graph.proofs.Growing.{grown_frame}
use Rattle.deep_tables.specs.Entries.{downward_cell}
use Rattle.zone_phase.proofs.Entries.{entry_name, entry_zone, job_reached, made_of}
use Rattle.zone_phase.proofs.Jobs.{use_step}
use Rattle.zone_phase.specs.Neighbours.{AreAllNear}
use Rattle.zone_phase.proofs.zones.hull_zone.Goals as goal

pub grown-wide-requires : goal.grown-wide-requires
grown-wide-requires g c =
    let h : IsHull c.args.hull.now = subst HullIsSound c.requires.hull (hull_sound c.args.used.now.design.now c.args.used.now.cell c.sound.ensures) in
    wider_rect (2 ^ 36) (2 ^ 39) c.args.hull.now (omega arith) h.near

pub push_uses-requires-clause-frame : goal.push_uses-requires-clause-frame
push_uses-requires-clause-frame g c = record {
  hull = c.requires.hull;
  grown = subst IsFrame (sym c.grown-wide.ensures) (grown_frame c.args.used.now.margin c.args.hull.now c.requires.used.margin (subst HullIsSound c.requires.hull (hull_sound c.args.used.now.design.now c.args.used.now.cell c.sound.ensures)));
}

pub returns : goal.returns
returns g c =
    let d = c.args.used.now.design.now in let uses = c.args.used.now.uses.now in let value = g.R.Reads.value c.args.reads.now in
    use_step c.args.used.now.margin d value c.args.name c.args.used.now.cell c.args.key c.args.hull.now c.grown-wide.result uses c.args.neighbours.now c.in_ok-set.set c.sound.ensures c.requires.hull c.grown-wide.ensures
    (λ k u at. (job_reached d u.job c.sound.ensures (c.requires.used.uses.each k u at).job_in, entry_zone c.args.used.now.margin d c.args.key c.args.name (downward_cell d u.job) (value u.job) (c.requires.entries k u at)))
    c.requires.used.uses c.requires.neighbours (subst (λ g. AreAllNear d g uses (length uses) c.args.neighbours.now) (sym c.grown-wide.ensures) c.requires.all)
    (made_of d value c.args.name c.args.used.now.cell c.args.key c.grown-wide.result uses c.args.neighbours.now c.in_ok-set.set c.new-out.result.items c.push_uses.new.out.items c.push_overs.new.out.items c.new-out.ensures.items c.in_ok-set.ensures
    c.in_ok-push_uses.ensures.exact c.in_ok-push_overs.ensures.exact)

pub push_overs-requires-clause-grown : goal.push_overs-requires-clause-grown
push_overs-requires-clause-grown g c = subst IsFrame (sym c.grown-wide.ensures) (grown_frame c.args.used.now.margin c.args.hull.now c.requires.used.margin (subst HullIsSound c.requires.hull (hull_sound c.args.used.now.design.now c.args.used.now.cell c.sound.ensures)))

pub push_uses-requires-clause-entries : goal.push_uses-requires-clause-entries
push_uses-requires-clause-entries g c = λ k u at. entry_name c.args.used.now.margin c.args.used.now.design.now c.args.key c.args.name (downward_cell c.args.used.now.design.now u.job) (g.R.Reads.value c.args.reads.now u.job) (c.requires.entries k u at)
