use Rattle.deep_tables.specs.Zones.{AreCellZones}
use Rattle.deep_tables.proofs.Finding.{downward}
use Rattle.deep_tables.proofs.Nothing.{no_zone}
use Rattle.deep_tables.proofs.Reading.{zone_entry, zone_at, device_zone_at}
use Rattle.deep_tables.proofs.laws.zone_table.Goals as goal

pub returns : goal.returns
returns c = record { jobs = downward AreCellZones; entry = zone_entry; at = zone_at; device_at = device_zone_at; empty = no_zone }
