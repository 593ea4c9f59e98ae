-- Unequal numbers of devices are unequal numbers of nodes.
use Rattle.composed_laws.specs.Answered.{pair_in}
use Rattle.match_flow.specs.Devices.{UnevenDevicesLaw}
use Rattle.pair_jobs.proofs.Together.{uneven_pair}
use Rattle.pair_jobs.specs.Answers.{answer_at}
use Rattle.refine_match.proofs.DeviceCounts.{uneven_device}

pub uneven_devices : UnevenDevicesLaw
uneven_devices left right asked answers h k c d is also uneven =
    let node = uneven_device (pair_in (asked.told k) left (answer_at answers) c d) uneven in
    uneven_pair left right asked answers h k c d node.0 is also node.1
