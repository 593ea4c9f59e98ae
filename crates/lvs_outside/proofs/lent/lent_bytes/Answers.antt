use Rattle.std.proofs.Common.{rules, arith, ◌<◌, length}
use Rattle.lvs_outside.proofs.FirstLent.{in_range, lent_or_not}
use Rattle.lvs_outside.proofs.lent.lent_bytes.Goals as goal

pub bounds-files-number : goal.bounds-files-number
bounds-files-number c = in_range c.args.files.now c.args.path.now c.in_ok-number.number c.in_ok-number.ensures

pub offset_bounds-files-number : goal.offset_bounds-files-number
offset_bounds-files-number c =
    let lt : c.in_ok-number.number < length c.args.files.now = in_range c.args.files.now c.args.path.now c.in_ok-number.number c.in_ok-number.ensures in
    search (rules, arith)

pub returns : goal.returns
returns c other = lent_or_not c.args.files.now other c.args.path.now c.in_ok-number.number c.in_ok-number.ensures
