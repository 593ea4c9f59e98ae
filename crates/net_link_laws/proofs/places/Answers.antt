use Rattle.net_link_laws.proofs.Standing.{own_place, child_place, global_place, own_next, child_next}
use Rattle.net_link_laws.proofs.places.Goals as goal

pub returns : goal.returns
returns c = record { own = own_place; child = child_place; global = global_place; next_own = own_next; next_child = child_next }
