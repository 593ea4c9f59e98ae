use Rattle.std.proofs.Common.{◌<◌, ◌≡◌, true, length, arith, refl, ◌∙◌}
use Rattle.lvs_outside.specs.LentFiles.{is_first, told_or}
use Rattle.lvs_outside.specs.Store.{Told}
use Rattle.lvs_outside.proofs.FirstLent.{in_range, path_there, set_here, set_others, pushed, push_others}
use Rattle.lvs_outside.proofs.lent.put_lent.Goals as goal

pub index_mut-requires : goal.index_mut-requires
index_mut-requires c =
    let lt : c.in-Some.number < length c.as_slice.result.now = in_range c.as_slice.result.now c.args.path.now c.in-Some.number c.in-Some.ensures in
    omega arith

pub returns-in-Some-clause-here : goal.returns-in-Some-clause-here
returns-in-Some-clause-here c =
    let first : is_first c.args.files.now.items c.args.path.now c.in-Some.number ≡ true = rw c.as_slice.ensures.value at c.in-Some.ensures in
    set_here c.args.files.now.items c.args.path.now c.in-Some.number _ first (path_there c.args.files.now.items c.args.path.now c.in-Some.number _ c.index_mut.result.now first c.index_mut.ensures.value)

pub returns-in-Some-clause-others : goal.returns-in-Some-clause-others
returns-in-Some-clause-others c =
    let first : is_first c.args.files.now.items c.args.path.now c.in-Some.number ≡ true = rw c.as_slice.ensures.value at c.in-Some.ensures in
    set_others c.args.files.now.items c.args.path.now c.in-Some.number _ first (path_there c.args.files.now.items c.args.path.now c.in-Some.number _ c.index_mut.result.now first c.index_mut.ensures.value)

pub returns-in_ok-push-in-None-clause-here : goal.returns-in_ok-push-in-None-clause-here
returns-in_ok-push-in-None-clause-here c other =
    let none : (other : Told) → told_or c.args.files.now.items other c.args.path.now ≡ other = rw c.as_slice.ensures.value at c.in-None.ensures in
    rw c.in_ok-push-in-None.ensures.items (pushed c.args.files.now.items c.args.path.now _ refl other ∙ none _)

pub returns-in_ok-push-in-None-clause-others : goal.returns-in_ok-push-in-None-clause-others
returns-in_ok-push-in-None-clause-others c = rw c.in_ok-push-in-None.ensures.items (push_others c.args.files.now.items c.args.path.now _ refl)
