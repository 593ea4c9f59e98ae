use Rattle.std.proofs.Common.{◌≡◌, List, arith, length, subst, sym}
use Rattle.layer_phase.specs.Groups.{AreGroupsTo}
use Rattle.layer_phase.specs.declared.groups.Group.{Group}
use Rattle.layer_phase.proofs.Grouping.{groups_none}
use Rattle.layer_phase.proofs.groups.groups_of.Goals as goal

pub loop-name-init : goal.loop-name-init
loop-name-init c = subst (λ (l : List Group). AreGroupsTo c.args.names.now 0 l) (sym c.new-groups.ensures.items) (groups_none c.args.names.now)

pub returns : goal.returns
returns c =
    let end : c.loop-name.name ≡ length c.args.names.now = (let a = c.loop-name-test.false in let b = c.loop-name.auto.name-end in omega arith) in
    subst (λ n. AreGroupsTo c.args.names.now n c.loop-name.groups.items) end c.loop-name.invariant
