use Rattle.std.proofs.Common.{ℕ, Some, sym, ap, ◌∙◌, drop}
use Rattle.gds_records.specs.Records.{Rec, record_at}
use Rattle.gds_elements.specs.Faults.{OfFrame, OfRecord}
use Rattle.gds_elements.proofs.Step.{fault_not_one}
use Rattle.gds_elements.proofs.stream.Stream.step.Goals as goal

pub returns-in-Err-BadLength-clause-reading : goal.returns-in-Err-BadLength-clause-reading
returns-in-Err-BadLength-clause-reading c = λ before h.
    let f = rw c.in-Err-BadLength.field-0-is at c.in-Err-BadLength.ensures in
    (h.count, h.offset, OfFrame 2 f.1, λ e. cc)

pub returns-in-Err-UnknownType-clause-reading : goal.returns-in-Err-UnknownType-clause-reading
returns-in-Err-UnknownType-clause-reading c = λ before h.
    let f = rw c.in-Err-UnknownType.field-0-is at c.in-Err-UnknownType.ensures in
    (h.count, h.offset, OfFrame 3 f.1, λ e. cc)

pub returns-in-Err-Fault-clause-reading : goal.returns-in-Err-Fault-clause-reading
returns-in-Err-Fault-clause-reading c = λ before h.
    let next = c.in-Ok.ensures in
    let r : Rec = record_at c.args.bytes.now c.in-Ok.record in
    let told = c.in-Err-Fault.ensures.reading before h next.proper in
    let told' = rw c.in-Err-Fault.field-0-is at told in
    let f = told' ∙ ap (λ (n : ℕ). Some n) (sym c.in-Err-Fault.number-is) in
    (h.count, h.offset, OfRecord _ r (drop c.in-Ok.record.end c.args.bytes.now) next.proper next.first f, fault_not_one before r _ f)

pub returns-in-Ok-take-clause-reading : goal.returns-in-Ok-take-clause-reading
returns-in-Ok-take-clause-reading c = λ before h.
    let next = c.in-Ok.ensures in
    (record_at c.args.bytes.now c.in-Ok.record, next.first, c.in-Ok-take.ensures.reading before h next.proper)
