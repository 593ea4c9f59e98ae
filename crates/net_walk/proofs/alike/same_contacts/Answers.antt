use Rattle.net_walk.proofs.Alikes.{same_contacts}
use Rattle.net_walk.proofs.alike.same_contacts.Goals as goal

pub returns : goal.returns
returns c = same_contacts
