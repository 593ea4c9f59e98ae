use Rattle.std.proofs.Common.{◌<◌, length, rules}
use Rattle.pair_turns.proofs.Gone.{all_gone}
use Rattle.pair_turns.proofs.alone.add_gone.Goals as goal

pub returns : goal.returns
returns c =
    let end : length c.circuits.rest.now < 1 = search rules in
    all_gone c.circuits.names.items c.circuits.marks.now c.circuits.rest.now _ end c.circuits.invariant
