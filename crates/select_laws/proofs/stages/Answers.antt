use Rattle.select_laws.proofs.Grouped.{group, group_parted}
use Rattle.select_laws.proofs.Staged.{unread, staged_law}
use Rattle.select_laws.proofs.stages.Goals as goal

pub returns : goal.returns
returns c = record { unread = unread; staged = staged_law; group = group; group_parted = group_parted }
