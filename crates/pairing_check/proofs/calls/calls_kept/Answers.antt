use Rattle.std.proofs.Common.{map, slice_index, arith, sym, ◌∙◌, true≢false}
use Rattle.net_model.specs.Rows.{plain_call}
use Rattle.match_types.specs.Children.{children_of}
use Rattle.match_laws.specs.Circuits.{IsCallImage}
use Rattle.match_parts.proofs.Read.{row}
use Rattle.pairing_check.proofs.Rows.{more, broken, all}
use Rattle.pairing_check.proofs.calls.calls_kept.Goals as goal

pub is_call_image-requires-clause-nets : goal.is_call_image-requires-clause-nets
is_call_image-requires-clause-nets c =
    let a = row plain_call c.args.left.now.calls.items c.loop-k.k c.index.result.now (omega arith) c.index.ensures in
    c.requires.nets c.loop-k.k _ a

pub is_call_image-requires-clause-pins : goal.is_call_image-requires-clause-pins
is_call_image-requires-clause-pins c =
    let a = row plain_call c.args.left.now.calls.items c.loop-k.k c.index.result.now (omega arith) c.index.ensures in
    c.requires.pins c.loop-k.k _ a

pub returns-then-not-is_call_image : goal.returns-then-not-is_call_image
returns-then-not-is_call_image c =
    let a = row plain_call c.args.left.now.calls.items c.loop-k.k c.index.result.now (omega arith) c.index.ensures in
    let low = c.requires.onto c.loop-k.k (omega arith) in
    let b = row plain_call c.args.right.now.calls.items (slice_index c.args.calls.now c.loop-k.k) c.index-image.result.now low c.index-image.ensures in
    broken (IsCallImage (children_of c.args.children.now) c.args.nets.now) (map plain_call c.args.left.now.calls.items) (map plain_call c.args.right.now.calls.items) c.args.calls.now c.loop-k.k _ _ a b
    (λ p. true≢false (sym (c.is_call_image.ensures.1 p) ∙ c.if-not-is_call_image.true))

pub loop-k-preserved : goal.loop-k-preserved
loop-k-preserved c =
    let a = row plain_call c.args.left.now.calls.items c.loop-k.k c.index.result.now (omega arith) c.index.ensures in
    let low = c.requires.onto c.loop-k.k (omega arith) in
    let b = row plain_call c.args.right.now.calls.items (slice_index c.args.calls.now c.loop-k.k) c.index-image.result.now low c.index-image.ensures in
    more (IsCallImage (children_of c.args.children.now) c.args.nets.now) (map plain_call c.args.left.now.calls.items) (map plain_call c.args.right.now.calls.items) c.args.calls.now c.loop-k.k _ _ c.loop-k.invariant a b
    (c.is_call_image.ensures.0 c.if-not-is_call_image.false)

pub returns : goal.returns
returns c = all plain_call (IsCallImage (children_of c.args.children.now) c.args.nets.now) c.args.left.now.calls.items (map plain_call c.args.right.now.calls.items) c.args.calls.now c.loop-k.k (omega arith) c.loop-k.invariant
