use Rattle.std.proofs.Common.{◌≡◌, ◌+◌, ◌-◌, ℕ, List, arith, subst, sym, ◌∙◌}
use Rattle.std.specs.List.{All}
use Rattle.geo_base.specs.Rects.{IsRect}
use Rattle.geo_base.specs.declared.shapes.Rect.{Rect}
use Rattle.rect_sets.specs.Sweeps.{AreBlocks}
use Rattle.rect_sets.specs.Combined.{combined_set}
use Rattle.rect_sets.specs.Stripes.{stripe, AreFirst, AreJoined}
use Rattle.rect_sets.proofs.Dividing.{block_rects}
use Rattle.rect_sets.proofs.Striping.{part_at, first_less, stripe_rects}
use Rattle.rect_sets.proofs.Stacking.{stripe_blocks, joined_rects}
use Rattle.rect_sets.proofs.divide.+combine_stripes.Goals as goal

pub combine_stripes-requires : goal.combine_stripes-requires
combine_stripes-requires t c =
    let lines = c.loop-i.parts.lines in
    let i = c.loop-i.i - 1 in
    let more : c.loop-i.i ≡ i + 1 = omega arith in
    let a : AreFirst (i + 1) lines c.loop-i.parts.a.items c.args.a.now = subst (λ (n : ℕ). AreFirst n lines c.loop-i.parts.a.items c.args.a.now) more c.loop-i.invariant.a in
    let b : AreFirst (i + 1) lines c.loop-i.parts.b.items c.args.b.now = subst (λ (n : ℕ). AreFirst n lines c.loop-i.parts.b.items c.args.b.now) more c.loop-i.invariant.b in
    let ea : c.deref.result.now ≡ stripe i lines.axis lines.at.items c.args.a.now = c.deref.ensures.value ∙ part_at i lines c.loop-i.parts.a.items c.args.a.now c.index-in-loop-i-2.result.now a c.index-in-loop-i-2.ensures in
    let eb : c.deref-in-loop-i.result.now ≡ stripe i lines.axis lines.at.items c.args.b.now = c.deref-in-loop-i.ensures.value ∙ part_at i lines c.loop-i.parts.b.items c.args.b.now c.index-in-loop-i-3.result.now b c.index-in-loop-i-3.ensures in (
      omega arith,
      (
        subst (λ (q : List Rect). All IsRect q) (sym ea) (stripe_rects i lines.axis lines.at.items c.args.a.now c.requires.a),
        subst (λ (q : List Rect). All IsRect q) (sym eb) (stripe_rects i lines.axis lines.at.items c.args.b.now c.requires.b),
      ),
    )

pub join_stripe-requires-clause-found : goal.join_stripe-requires-clause-found
join_stripe-requires-clause-found t c = rw c.deref-in-loop-i-2.ensures.value (block_rects _ _ c.in_ok-found.ensures)

pub join_stripe-requires-clause-rest : goal.join_stripe-requires-clause-rest
join_stripe-requires-clause-rest t c =
    let lines = c.loop-i.parts.lines in
    joined_rects c.loop-i.i lines.axis lines.at.items (combined_set c.args.op c.args.a.now c.args.b.now) c.loop-i.done.items c.loop-i.rest.items c.loop-i.invariant.joined

pub loop-i-preserved : goal.loop-i-preserved
loop-i-preserved t c =
    let lines = c.loop-i.parts.lines in
    let set = combined_set c.args.op c.args.a.now c.args.b.now in
    let i = c.loop-i.i - 1 in
    let more : c.loop-i.i ≡ i + 1 = omega arith in
    let i_in = c.loop-i.invariant.i_in in
    let a : AreFirst (i + 1) lines c.loop-i.parts.a.items c.args.a.now = subst (λ (n : ℕ). AreFirst n lines c.loop-i.parts.a.items c.args.a.now) more c.loop-i.invariant.a in
    let b : AreFirst (i + 1) lines c.loop-i.parts.b.items c.args.b.now = subst (λ (n : ℕ). AreFirst n lines c.loop-i.parts.b.items c.args.b.now) more c.loop-i.invariant.b in
    let ea : c.deref.result.now ≡ stripe i lines.axis lines.at.items c.args.a.now = c.deref.ensures.value ∙ part_at i lines c.loop-i.parts.a.items c.args.a.now c.index-in-loop-i-2.result.now a c.index-in-loop-i-2.ensures in
    let eb : c.deref-in-loop-i.result.now ≡ stripe i lines.axis lines.at.items c.args.b.now = c.deref-in-loop-i.ensures.value ∙ part_at i lines c.loop-i.parts.b.items c.args.b.now c.index-in-loop-i-3.result.now b c.index-in-loop-i-3.ensures in
    let found : AreBlocks (combined_set c.args.op (stripe i lines.axis lines.at.items c.args.a.now) (stripe i lines.axis lines.at.items c.args.b.now)) c.in_ok-found.found.items =
    subst (λ (q : List Rect). AreBlocks (combined_set c.args.op (stripe i lines.axis lines.at.items c.args.a.now) q) c.in_ok-found.found.items) eb
    (subst (λ (q : List Rect). AreBlocks (combined_set c.args.op q c.deref-in-loop-i.result.now) c.in_ok-found.found.items) ea c.in_ok-found.ensures) in
    let joined : AreJoined (i + 1) lines.axis lines.at.items set c.loop-i.done.items c.loop-i.rest.items = subst (λ (n : ℕ). AreJoined n lines.axis lines.at.items set c.loop-i.done.items c.loop-i.rest.items) more c.loop-i.invariant.joined in
    record {
      rising = c.loop-i.invariant.rising;
      i_in = omega arith;
      a = rw c.truncate.ensures.items (first_less i lines c.loop-i.parts.a.items c.args.a.now a);
      b = rw c.truncate-in-loop-i.ensures.items (first_less i lines c.loop-i.parts.b.items c.args.b.now b);
      joined = c.in_ok-rest.ensures set (rw c.deref-in-loop-i-2.ensures.value (stripe_blocks i lines.axis lines.at.items c.args.op c.args.a.now c.args.b.now c.in_ok-found.found.items (omega arith) found)) joined;
    }
