use Rattle.std.proofs.Common.{ap, ◌∙◌}
use Rattle.std.proofs.lemmas.Result.{err_from_is_err_and}
use Rattle.gds_records.specs.Records.{NoRecords}
use Rattle.gds_elements.specs.Reading.{taken_cells}
use Rattle.gds_elements.proofs.Runs.{is_fault, is_cut, is_accepted}
use Rattle.gds_elements.proofs.reading.read.Goals as goal

pub returns-in_err-run-clause-fault : goal.returns-in_err-run-clause-fault
returns-in_err-run-clause-fault c =
    let p = err_from_is_err_and c.from_residual.result c.from_residual.ensures.1 in
    rw (p.1, p.2) (is_fault c.args.bytes.now c.in_err-run.field-0.0 c.run.new.self (c.in_err-run.ensures.reading NoRecords c.new-stream.ensures.start))

pub returns-then-not-stream-clause-fault : goal.returns-then-not-stream-clause-fault
returns-then-not-stream-clause-fault c =
    is_cut c.args.bytes.now c.in_ok-run.field-0 c.run.new.self (c.in_ok-run.ensures.reading NoRecords c.new-stream.ensures.start) c.if-not-stream.true

pub returns-clause-found : goal.returns-clause-found
returns-clause-found c =
    is_accepted c.args.bytes.now c.in_ok-run.field-0 c.run.new.self c.library.result (c.in_ok-run.ensures.reading NoRecords c.new-stream.ensures.start) c.if-not-stream.false
    (ap (λ s. taken_cells s.value) c.in_ok-run.ensures.taken ∙ c.new-stream.ensures.taken) c.library.ensures
