use Rattle.std.proofs.Common.{◌≡◌, ◌<◌, Some, arith, length, slice_get, slice_index_or, subst}
use Rattle.std.proofs.Math.Decide.{ℕ_discrete}
use Rattle.std.proofs.lemmas.Option.{slice_get-get_or}
use Rattle.zone_phase.specs.declared.uses.Use.{Use}
use Rattle.zone_phase.specs.Neighbours.{AreAllNear, IsNearUse}
use Rattle.zone_phase.proofs.Using.{one_use}
use Rattle.zone_phase.proofs.neighbours.find_neighbours.Goals as goal

abbrev no_use : Use
no_use = record { job = 0; index = 0 }

pub push_use-requires-clause-use_of : goal.push_use-requires-clause-use_of
push_use-requires-clause-use_of c = c.requires.used.uses.each c.loop-at.at _ (slice_get-get_or c.args.used.now.uses.now c.loop-at.at no_use (omega arith))

pub push_use-requires-clause-there : goal.push_use-requires-clause-there
push_use-requires-clause-there c = slice_get-get_or c.args.used.now.uses.now c.loop-at.at no_use (omega arith)

pub loop-at-preserved : goal.loop-at-preserved
loop-at-preserved c =
    let d = c.args.used.now.design.now in let uses = c.args.used.now.uses.now in let i = c.loop-at.at in
    let within : i < length uses = omega arith in
    let at = slice_get-get_or uses i no_use within in
    let e = c.in_ok-push_use.ensures in
    record {
      each = e.each;
      all = λ k u lt there. elim (ℕ_discrete k i) [
        | yes here ↦
            subst (λ (x : Use). IsNearUse d c.args.grown.now x c.push_use.new.memo.list.items)
            (one_use (slice_get uses i) (slice_index_or uses i no_use) u at (subst (λ j. slice_get uses j ≡ Some u) here there)) e.all
        | no not ↦ λ p placed apart key q inner t. e.more key q (c.loop-at.invariant.all k u (omega (arith, lt, not)) there p placed apart key q inner t)
      ];
    }

pub returns-clause-all : goal.returns-clause-all
returns-clause-all c =
    let end : c.loop-at.at ≡ length c.args.used.now.uses.now = omega arith in
    subst (λ n. AreAllNear c.args.used.now.design.now c.args.grown.now c.args.used.now.uses.now n c.loop-at.memo.list.items) end c.loop-at.invariant.all
