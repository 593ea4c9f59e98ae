use Rattle.spice_text.proofs.AgainLemmas.{written_means, read_again}
use Rattle.spice_text.proofs.OneLemmas.{one_meaning, no_fault}
use Rattle.spice_text.proofs.laws.written_laws.Goals as goal

pub returns : goal.returns
returns c = record {
  written = written_means c.call_list_laws.ensures;
  again = read_again c.call_list_laws.ensures;
  one = one_meaning;
  no_fault = no_fault;
}
