use Rattle.std.proofs.Common.{inl, inr, sym, ◌∙◌, arith}
use Rattle.gds_records.specs.Records.{◌▸◌}
use Rattle.std.proofs.lemmas.Result.{err_from_is_err_and}
use Rattle.gds_elements.proofs.Runs.{one_more, run_fault}
use Rattle.gds_elements.proofs.stream.Stream.run.Goals as goal

pub loop-self-preserved : goal.loop-self-preserved
loop-self-preserved c =
    let on = rw c.in-Some.is at c.in_ok-end.ensures.on in
    let told = rw c.in-Some.is at c.in_ok-end.ensures.reading in
    let was = c.loop-self.invariant in
    record {
      within = on.within;
      count = omega (arith, on.count, on.offset, on.later, was.count);
      offset = omega (arith, on.offset, was.offset);
      taken = c.in_ok-end.ensures.taken ∙ was.taken;
      reading = λ before h.
          let so_far = was.reading before h in
          let next = told so_far.0 so_far.2 in
          (so_far.0 ▸ next.0, one_more before so_far.0 next.0 c.args.bytes.now c.loop-self.at c.in-Some.end so_far.1 next.1 on.later on.within, next.2);
    }

pub returns-in_err-end-clause-reading : goal.returns-in_err-end-clause-reading
returns-in_err-end-clause-reading c = λ before h.
    let p = err_from_is_err_and c.from_residual.result c.from_residual.ensures.1 in
    let so_far = c.loop-self.invariant.reading before h in
    let going = c.loop-self-test.true in
    rw (p.1, p.2) (run_fault before so_far.0 c.args.bytes.now c.loop-self.at c.in_err-end.field-0.0 c.step.new.self so_far.1 so_far.2.passes (sym so_far.2.ended ∙ going) (c.in_err-end.ensures.reading so_far.0 so_far.2))

pub returns-in-None-clause-reading : goal.returns-in-None-clause-reading
returns-in-None-clause-reading c = λ before h.
    let so_far = c.loop-self.invariant.reading before h in
    let told = rw c.in-None.is at c.in_ok-end.ensures.reading in
    let short = told so_far.0 so_far.2 in
    (so_far.0, so_far.1, short.0, inr short.1)

pub returns-clause-reading : goal.returns-clause-reading
returns-clause-reading c = λ before h.
    let so_far = c.loop-self.invariant.reading before h in
    let ended = c.loop-self-test.false in
    (so_far.0, so_far.1, so_far.2, inl ended)
