use Rattle.std.proofs.Common.{◌≡◌, ◌∙◌, Some, slice_get, slice_index_or, sym, ap, subst, arith}
use Rattle.std.proofs.Math.Decide.{ℕ_discrete}
use Rattle.std.proofs.lemmas.Option.{slice_get-get_or}
use Rattle.net_walk.specs.declared.globals.Grounded.{Grounded}
use Rattle.gate_phase.proofs.Bulking.{first_line, no_line}
use Rattle.gate_phase.proofs.bulks.ground.Goals as goal

abbrev none : Grounded
none = record { conductor = 0; global = 0 }

pub returns-then-line-conductor : goal.returns-then-line-conductor
returns-then-line-conductor c =
    let lines = c.args.lines.now in let i = c.loop-line.line-index in
    first_line c.args.conductor lines i (slice_index_or lines i none) (slice_get-get_or lines i none (omega arith)) c.if-line-conductor.true c.loop-line.invariant

pub loop-line-preserved : goal.loop-line-preserved
loop-line-preserved c = λ k x lt there e.
    let lines = c.args.lines.now in let i = c.loop-line.line-index in
    elim (ℕ_discrete k i) [
      | yes same ↦
          let at : slice_get lines i ≡ Some (slice_index_or lines i none) = slice_get-get_or lines i none (omega arith) in
          let one : x ≡ slice_index_or lines i none = (let h : Some x ≡ Some (slice_index_or lines i none) = sym (subst (λ n. slice_get lines n ≡ Some x) same there) ∙ at in cc) in
          c.if-line-conductor.false (ap (λ (y : Grounded). y.conductor) (sym one) ∙ e)
      | no not ↦ c.loop-line.invariant k x (omega arith) there e
    ]

pub returns : goal.returns
returns c = no_line c.args.conductor c.args.lines.now (λ k g lt there e. c.loop-line.invariant k g (let past = c.loop-line-test.false in omega arith) there e)
