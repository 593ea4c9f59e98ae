use Rattle.deep_tables.specs.Layers.{AreCellLayers}
use Rattle.deep_tables.proofs.Finding.{upward}
use Rattle.deep_tables.proofs.Nothing.{no_squares}
use Rattle.deep_tables.proofs.Reading.{layer_at}
use Rattle.deep_tables.proofs.laws.layer_table.Goals as goal

pub returns : goal.returns
returns c = record { jobs = upward AreCellLayers; at = layer_at; empty = no_squares }
