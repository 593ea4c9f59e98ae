use Rattle.std.proofs.Common.{◌-◌, List, refl, sym, subst, arith}
use Rattle.match_parts.proofs.Read.{read}
use Rattle.match_rounds.specs.declared.groups.Part.{Part}
use Rattle.match_rounds.specs.Touching.{AreParts, end_at}
use Rattle.match_rounds.proofs.Runs.{inside, more}
use Rattle.match_rounds.proofs.touching.list_parts.Goals as goal

pub loop-i-preserved : goal.loop-i-preserved
loop-i-preserved c =
    let low = c.loop-i.invariant.0 in
    let test = c.loop-i-test.true in
    let fits = c.requires.run.fits in
    let some = c.key_end-end.ensures.some in (
      omega arith,
      inside c.args.touched.now c.args.from c.args.to c.loop-i.i c.key_end-end.result c.requires.run c.loop-i.invariant.0 c.loop-i-test.true c.key_end-end.ensures,
      subst (λ (xs : List Part). AreParts c.args.classes.now c.args.touched.now c.args.from c.key_end-end.result xs) (sym c.in_ok-push.ensures.items)
          (more c.args.classes.now c.args.touched.now c.args.from c.args.to c.loop-i.i c.key_end-end.result c.loop-i.parts.items
          (record { class = c.index.result.now; count = c.key_end-end.result - c.loop-i.i; node = (end_at c.args.touched.now c.loop-i.i).node })
          c.requires.order c.requires.run c.loop-i.invariant.0 c.loop-i-test.true c.key_end-end.ensures c.loop-i.invariant.2
          (read c.args.classes.now.class_of.items (end_at c.args.touched.now c.loop-i.i).node c.index.result.now (c.requires.nodes c.loop-i.i (omega arith)) c.index.ensures) refl refl),
    )
