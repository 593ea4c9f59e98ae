use Rattle.std.proofs.Common.{◌≡◌, ◌∙◌, arith, length}
use Rattle.layer_phase.specs.Groups.{IsMember}
use Rattle.layer_phase.proofs.Needing.{marked_more}
use Rattle.layer_phase.proofs.groups.members_of.Goals as goal

pub loop-name-preserved : goal.loop-name-preserved
loop-name-preserved c =
    marked_more (IsMember c.args.names.now c.args.far) c.loop-name.members.items c.push.new.self.items c.loop-name.name c.is_member-member.result c.in_ok-push.ensures.items c.loop-name.invariant.0
    c.is_member-member.ensures.yes c.is_member-member.ensures.no c.loop-name.invariant.1

pub returns-clause-count : goal.returns-clause-count
returns-clause-count c =
    let end : c.loop-name.name ≡ length c.args.names.now = (let a = c.loop-name-test.false in let b = c.loop-name.auto.name-end in omega arith) in
    c.loop-name.invariant.0 ∙ end

pub returns-clause-marked : goal.returns-clause-marked
returns-clause-marked c = λ k lt. let n = c.loop-name.invariant.0 in c.loop-name.invariant.1 k (omega (arith, n, lt))
