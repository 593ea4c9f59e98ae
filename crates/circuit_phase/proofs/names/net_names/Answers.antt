use Rattle.std.proofs.Common.{◌∙◌, [], refl, ap, arith}
use Rattle.flat_layout.specs.Names.{net_ending, net_names, net_needs}
use Rattle.circuit_phase.specs.Names.{folded_base, folded_bases}
use Rattle.circuit_phase.proofs.Endings.{net_asks, name_more, names_end, bases_long, base_at}
use Rattle.circuit_phase.proofs.names.net_names.Goals as goal

pub loop-i-init : goal.loop-i-init
loop-i-init c = rw c.new-names.ensures.items (rw c.new-earlier.ensures refl)

pub loop-i-preserved : goal.loop-i-preserved
loop-i-preserved c =
    let long = bases_long c.args.bases.now in
    let added = c.in_ok-push_net_name.ensures in
    name_more net_needs net_ending net_asks c.loop-i.earlier c.push_net_name.new.earlier c.loop-i.i (folded_bases c.args.bases.now) c.loop-i.names.items c.push_net_name.new.names.items _ _ (net_names [] 1 (folded_bases c.args.bases.now))
    (omega arith) (ap (λ b. folded_base b) c.index-bases-i.is ∙ base_at c.args.bases.now c.loop-i.i c.index-bases-i.result (omega arith)) refl added.earlier added.names c.loop-i.invariant

pub returns : goal.returns
returns c =
    let long = bases_long c.args.bases.now in
    names_end net_needs net_ending c.loop-i.earlier c.loop-i.i (folded_bases c.args.bases.now) c.loop-i.names.items (net_names [] 1 (folded_bases c.args.bases.now)) (omega arith) c.loop-i.invariant
