use Rattle.std.proofs.Common.{◌≡◌, ◌+◌, ℕ, List, Option, Some, None, IsSome, get_or, slice_index, ap, sym, subst, length, arith}
use Rattle.base_laws.proofs.Lists.{map_count}
use Rattle.std.proofs.lemmas.List.{map-set}
use Rattle.std.specs.Prelude.{set}
use Rattle.deep_tables.specs.Entries.{entry}
use Rattle.deep_tables.specs.declared.nets.CellNets.{CellNets}
use Rattle.net_phase.proofs.Listing.{long_push}
use Rattle.net_phase.specs.Reading.{nets_of, now_of}
use Rattle.net_phase.proofs.Knowing.{AreKnownTo, all_known, none_known, one_known}
use Rattle.net_phase.proofs.known.known_nets.Goals as goal

pub loop-preserved : goal.loop-preserved
loop-preserved c =
    let long = long_push c.loop.known.items None in
    let i = c.loop.invariant in
    rw c.in_ok-push.ensures.items (omega (arith, long, i))

pub loop-cell-init : goal.loop-cell-init
loop-cell-init c =
    let known = c.loop.known.items in
    let long = map_count now_of known in
    let i = c.loop.invariant in let n = c.cells-end.ensures in let past = c.loop-test.false in let up = c.loop.auto.counter-end in
    none_known c.args.design.now c.args.nets.now (nets_of known) (omega (arith, long, i, n))

pub of-requires : goal.of-requires
of-requires c =
    let d = c.args.design.now in let n = c.loop-cell.cell-index in
    let long = ap (λ (o : List ℕ). length o) c.order-cell-items.ensures in
    let same : get_or c.order-cell-items.result.now n 0 ≡ slice_index d.order n = ap (λ (o : List ℕ). slice_index o n) c.order-cell-items.ensures in
    subst (λ cell. IsSome (entry c.args.nets.now cell)) (sym same) (c.requires (slice_index d.order n) (c.sound.ensures.order.reached n (omega (arith, long))))

pub index_mut-requires : goal.index_mut-requires
index_mut-requires c =
    let d = c.args.design.now in let n = c.loop-cell.cell-index in
    let long = ap (λ (o : List ℕ). length o) c.order-cell-items.ensures in
    let same : get_or c.order-cell-items.result.now n 0 ≡ slice_index d.order n = ap (λ (o : List ℕ). slice_index o n) c.order-cell-items.ensures in
    let within = c.sound.ensures.order.inside n (omega (arith, long)) in
    let many = c.loop-cell.invariant.long in
    let seen = map_count now_of c.loop-cell.known.items in
    omega (arith, within, many, seen, same)

pub loop-cell-preserved : goal.loop-cell-preserved
loop-cell-preserved c =
    let d = c.args.design.now in let n = c.loop-cell.cell-index in let known = c.loop-cell.known.items in
    let long = ap (λ (o : List ℕ). length o) c.order-cell-items.ensures in
    let same : get_or c.order-cell-items.result.now n 0 ≡ slice_index d.order n = ap (λ (o : List ℕ). slice_index o n) c.order-cell-items.ensures in
    let is : entry c.args.nets.now (slice_index d.order n) ≡ Some c.of.result.now = subst (λ k. entry c.args.nets.now k ≡ Some c.of.result.now) same c.of.ensures in
    let more = one_known d c.args.nets.now (nets_of known) n c.of.result.now c.sound.ensures.order (omega (arith, long)) c.loop-cell.invariant is in
    subst (λ k. AreKnownTo d c.args.nets.now (n + 1) (nets_of (set known k (Some c.of.result)))) (sym same)
    (subst (λ (l : List (Option CellNets)). AreKnownTo d c.args.nets.now (n + 1) l) (sym (map-set now_of known (slice_index d.order n) (Some c.of.result))) more)

pub returns : goal.returns
returns c =
    let long = ap (λ (o : List ℕ). length o) c.order-cell-items.ensures in
    all_known c.args.design.now c.args.nets.now (nets_of c.loop-cell.known.items) c.loop-cell.cell-index c.sound.ensures.order (omega (arith, long)) c.loop-cell.invariant
