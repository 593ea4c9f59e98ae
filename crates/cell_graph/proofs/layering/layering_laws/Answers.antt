use Rattle.cell_graph.proofs.LayeredNames.{linked_names, own_further, own_kept, same_names}
use Rattle.cell_graph.proofs.layering.layering_laws.Goals as goal

pub returns : goal.returns
returns c = record { names = linked_names; same_names = same_names; own_kept = own_kept; own_further = own_further }
