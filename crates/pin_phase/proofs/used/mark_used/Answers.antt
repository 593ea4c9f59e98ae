use Rattle.std.proofs.Common.{◌<◌, false, get_or, length, arith}
use Rattle.std.proofs.lemmas.Option.{slice_get-get_or}
use Rattle.net_phase.proofs.Listing.{any_default}
use Rattle.pin_phase.specs.declared.links.Link.{Link}
use Rattle.pin_phase.proofs.Using.{used_all, used_more}
use Rattle.pin_phase.proofs.used.mark_used.Goals as goal

abbrev no_link : Link
no_link = record { job = 0; net = 0; above = 0; busy = false }

pub is_used-requires : goal.is_used-requires
is_used-requires g c =
    let links = c.args.links.now in let n = c.loop-link.link-index in
    c.requires.may n (get_or links n no_link) (slice_get-get_or links n no_link (omega arith))

pub mark_if-requires : goal.mark_if-requires
mark_if-requires g c =
    let links = c.args.links.now in let n = c.loop-link.link-index in
    let lt = c.requires.nets n (get_or links n no_link) (slice_get-get_or links n no_link (omega arith)) in
    let same = c.loop-link.invariant.count in
    omega (arith, lt, same)

pub loop-link-preserved : goal.loop-link-preserved
loop-link-preserved g c =
    let links = c.args.links.now in let n = c.loop-link.link-index in
    let lt : n < length links = omega arith in
    used_more (g.R.Reads.value c.args.reads.now) links n (get_or links n no_link) c.is_used.result c.args.marks.now c.loop-link.marks c.mark_if.new.marks lt (any_default links n no_link (get_or links n no_link) lt) c.is_used.ensures c.mark_if.ensures.count c.mark_if.ensures.marked c.loop-link.invariant

pub returns-clause-marked : goal.returns-clause-marked
returns-clause-marked g c = used_all (g.R.Reads.value c.args.reads.now) c.args.links.now c.loop-link.link-index c.args.marks.now c.loop-link.marks (omega arith) c.loop-link.invariant
