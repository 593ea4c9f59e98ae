use Rattle.std.proofs.Common.{arith, rules}
use Rattle.lvs_outside.proofs.Rest.{follows_step, follows_none, read_whole}
use Rattle.lvs_outside.proofs.loops.read_rest.Goals as goal

pub loop-buf-init : goal.loop-buf-init
loop-buf-init g c = follows_none _ _ c.requires.fresh

pub loop-buf-preserved : goal.loop-buf-preserved
loop-buf-preserved g c =
    let read = c.in_ok-count.ensures in
    rw c.in_ok-extend_from_slice.ensures.items (follows_step _ _ _ c.in_ok-count.count c.loop-buf.bytes.items _ c.read.new.buf c.loop-buf.invariant read.ok read.rest read.cause.done)

pub returns-then-count-eq0 : goal.returns-then-count-eq0
returns-then-count-eq0 g c =
    let read = c.in_ok-count.ensures in
    read_whole _ _ _ c.in_ok-count.count c.loop-buf.bytes.items _ c.read.new.buf (search rules) c.loop-buf.invariant read.ok read.rest read.cause.done (omega arith)
