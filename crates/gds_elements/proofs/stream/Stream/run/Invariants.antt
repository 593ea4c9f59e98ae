use Rattle.std.proofs.Common.{◌≡◌, ◌+◌, ◌-◌, ◌≤◌, length}
use Rattle.gds_records.specs.Records.{Records}
use Rattle.gds_elements.specs.Reading.{Stands, Reached}
use Rattle.gds_elements.proofs.stream.Stream.run.Given as goal

abbrev pub invariant-loop-self : goal.invariant-loop-self
invariant-loop-self l = record {
  within : l.at ≤ length l.bytes;
  count : l.self.count ≤ l.self.offset;
  offset : l.self.offset ≡ l.fn.self.offset + l.at;
  taken : l.self.kept.taken ≡ l.fn.self.kept.taken;
  reading : (before : Records) → Stands before l.fn.self → (rs : Records) × Reached before rs l.bytes l.at × Stands rs l.self;
}

abbrev pub decreases-loop-self : goal.decreases-loop-self
decreases-loop-self l = length l.bytes - l.at
