use Rattle.gds_records.proofs.OneReading.{one_reading}
use Rattle.gds_records.proofs.reading.one_reading.Goals as goal

pub returns : goal.returns
returns c = one_reading
