use Rattle.std.proofs.Common.{arith, refl, rules}
use Rattle.lvs_outside.proofs.Rest.{follows_none, read_whole}
use Rattle.lvs_run.proofs.Feeding.{fed_step}
use Rattle.lvs_run.proofs.input.feed_rest.Goals as goal

pub loop-total-init : goal.loop-total-init
loop-total-init g c = (rw c.requires.fresh refl, follows_none _ _ c.requires.fresh)

pub loop-total-preserved : goal.loop-total-preserved
loop-total-preserved g c =
    let read = c.in_ok-count.ensures in
    fed_step _ _ _ c.loop-total.total c.in_ok-count.count c.loop-total.reader.fed _ c.read.new.buf c.feed-told.new.self.fed c.loop-total.invariant read.ok read.rest read.cause.done c.feed-told.ensures.fed

pub loop-total-preserved-else-count-eq0-8 : goal.loop-total-preserved-else-count-eq0-8
loop-total-preserved-else-count-eq0-8 g c =
    let read = c.in_ok-count.ensures in
    fed_step _ _ _ c.loop-total.total c.in_ok-count.count c.loop-total.reader.fed _ c.read.new.buf c.feed-told.new.self.fed c.loop-total.invariant read.ok read.rest read.cause.done c.feed-told.ensures.fed

pub returns-then-count-eq0 : goal.returns-then-count-eq0
returns-then-count-eq0 g c =
    let read = c.in_ok-count.ensures in
    let so_far = c.loop-total.invariant.0 in
    read_whole _ _ _ c.in_ok-count.count c.loop-total.reader.fed _ c.read.new.buf (search rules) c.loop-total.invariant.1 read.ok read.rest read.cause.done (omega (arith, so_far))
