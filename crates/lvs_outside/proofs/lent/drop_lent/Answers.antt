use Rattle.std.proofs.Common.{◌<◌, ◌≡◌, true, length, arith}
use Rattle.lvs_outside.specs.LentFiles.{is_first}
use Rattle.lvs_outside.specs.Store.{Untold}
use Rattle.lvs_outside.proofs.FirstLent.{in_range, path_there, set_here, set_others}
use Rattle.lvs_outside.proofs.lent.drop_lent.Goals as goal

pub index_mut-requires : goal.index_mut-requires
index_mut-requires c =
    let lt : c.in-Some.number < length c.as_slice.result.now = in_range c.as_slice.result.now c.args.path.now c.in-Some.number c.in-Some.ensures in
    omega arith

pub returns-in-Some-clause-here : goal.returns-in-Some-clause-here
returns-in-Some-clause-here c =
    let first : is_first c.args.files.now.items c.args.path.now c.in-Some.number ≡ true = rw c.as_slice.ensures.value at c.in-Some.ensures in
    set_here c.args.files.now.items c.args.path.now c.in-Some.number _ first (path_there c.args.files.now.items c.args.path.now c.in-Some.number _ c.index_mut.result.now first c.index_mut.ensures.value) Untold

pub returns-in-Some-clause-others : goal.returns-in-Some-clause-others
returns-in-Some-clause-others c =
    let first : is_first c.args.files.now.items c.args.path.now c.in-Some.number ≡ true = rw c.as_slice.ensures.value at c.in-Some.ensures in
    set_others c.args.files.now.items c.args.path.now c.in-Some.number _ first (path_there c.args.files.now.items c.args.path.now c.in-Some.number _ c.index_mut.result.now first c.index_mut.ensures.value)
