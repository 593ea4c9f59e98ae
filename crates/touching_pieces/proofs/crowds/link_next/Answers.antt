use Rattle.std.proofs.Common.{arith, refl, subst, [], ◌∷◌, get_or, List}
use Rattle.std.proofs.lemmas.Bool.{false≢true}
use Rattle.link_classes.specs.declared.classes.Link.{Link}
use Rattle.touching_pieces.proofs.Chains.{among_at, apart_all, apart_more, apart_none, first_one}
use Rattle.touching_pieces.proofs.Links.{no_piece}
use Rattle.touching_pieces.proofs.crowds.link_next.Goals as goal
use Rattle.touching_pieces.specs.Pairs.{AddsTouching}

pub loop-other-init : goal.loop-other-init
loop-other-init c = (refl, apart_none c.args.one.now c.args.others.now)

pub returns-then-touches : goal.returns-then-touches
returns-then-touches c =
    let one = c.args.one.now in
    let qs = c.args.others.now in
    let k = c.loop-other.other-index in
    let o = get_or qs k no_piece in
    first_one one o qs c.args.out.now.items c.link_two.new.out.items (among_at qs k no_piece (omega arith)) (c.if-touches.ensures.0 refl)
    (subst (λ (ls : List Link). AddsTouching (one ∷ []) (o ∷ []) ls c.link_two.new.out.items) c.loop-other.invariant.0 c.in_ok-link_two.ensures)

pub loop-other-preserved : goal.loop-other-preserved
loop-other-preserved c = (
  c.loop-other.invariant.0,
  apart_more c.args.one.now c.args.others.now c.loop-other.other-index no_piece (omega arith) c.loop-other.invariant.1 (λ t. false≢true (c.if-touches.ensures.1 t)),
)

pub returns : goal.returns
returns c = apart_all c.args.one.now c.args.others.now c.loop-other.other-index c.args.out.now.items c.loop-other.out.items (omega arith) c.loop-other.invariant.0 c.loop-other.invariant.1
