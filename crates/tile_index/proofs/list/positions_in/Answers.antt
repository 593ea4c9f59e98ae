use Rattle.std.proofs.Common.{◌≡◌, ◌∙◌, ◌+◌, ◌++◌, ◌∷◌, [], sym, ap, arith}
use Rattle.tile_index.proofs.Scanning.{hit_next, miss_next, scanned, found_to}
use Rattle.tile_index.proofs.list.positions_in.Goals as goal
use Rattle.tile_index.proofs.list.positions_in.Goals.{then-meets+in_ok-position_of+in_ok-push, else-meets}

pub loop-i-preserved : goal.loop-i-preserved
loop-i-preserved c = elim c.if-meets.branch [
  | then-meets+in_ok-position_of+in_ok-push w ↦
      let next : c.loop-i.found.items ++ c.loop-i.i ∷ [] ≡ found_to c.args.rects.now c.args.w.now (c.loop-i.i + 1) = ap (λ ks. ks ++ c.loop-i.i ∷ []) c.loop-i.invariant ∙ hit_next c.args.rects.now c.args.w.now c.loop-i.i (sym c.meets.ensures.exact ∙ w.if-meets.true) in
      rw w.found-is ((w.in_ok-push.ensures {u = tt}).items ∙ ap (λ k. c.loop-i.found.items ++ k ∷ []) (w.in_ok-position_of.ensures {u = tt}).position ∙ next)
  | else-meets w ↦ rw w.found-is (c.loop-i.invariant ∙ miss_next c.args.rects.now c.args.w.now c.loop-i.i (sym c.meets.ensures.exact ∙ w.if-meets.false))
]

pub returns : goal.returns
returns c =
    let low = c.loop-i.auto.i-end in
    let high = c.loop-i-test.false in
    scanned c.args.rects.now c.args.w.now c.loop-i.i c.loop-i.found.items (omega (arith, low, high)) c.loop-i.invariant
