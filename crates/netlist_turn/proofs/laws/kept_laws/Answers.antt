use Rattle.netlist_turn.proofs.KeptCards.{cards_kept, cards_start}
use Rattle.netlist_turn.proofs.laws.kept_laws.Goals as goal

pub returns : goal.returns
returns c = record { cards = cards_kept; start = cards_start }
