-- What the code's records are.
use Rattle.netlist_run.specs.Sums as sums
use Rattle.netlist_run.specs.declared.sums.Sums.{Sums}
use Rattle.netlist_run.specs.declared.tally.Tally.{Tally}

abbrev pub tally_seen : Tally → sums.Tally
tally_seen t = record { names = t.names; counts = t.counts.items }

abbrev pub seen : Sums → sums.Sums
seen s = record {
  cards = s.cards.items;
  parameters = tally_seen s.parameters;
  values = tally_seen s.values;
  sizes = tally_seen s.sizes;
  devices = tally_seen s.devices;
  slashes = s.slashes;
  params = s.params;
  quotes = s.quotes;
  names = s.names;
  numbers = s.numbers;
  marked = s.marked;
  pins = s.pins;
}
