use Rattle.std.proofs.Common.{◌≡◌, length, rules}
use Rattle.device_merge.proofs.Sizes.{two_are}
use Rattle.device_merge.proofs.keys.kept_and_added.Goals as goal

pub returns : goal.returns
returns c = let two : length c.args.sizes ≡ 2 = search rules in two_are c.args.sizes (record { 0 = 0 }) two
