use Rattle.std.proofs.Common.{List, take, ◌≡◌, ◌<◌, length, arith, ap, ◌∙◌, subst}
use Rattle.std.proofs.Math.Seq.{take-length}
use Rattle.std.proofs.lemmas.Result.{IfOk-weaker}
use Rattle.link_classes.proofs.Numbers.{as_classes}
use Rattle.link_classes.proofs.Trees.{alone, link_at, one_more}
use Rattle.link_classes.proofs.classes.joined_classes.Goals as goal
use Rattle.link_classes.specs.Forest.{AreTreesOf}
use Rattle.link_classes.specs.declared.classes.Link.{Link}

abbrev none : Link
none = record { one = 0; other = 0 }

pub loop-link-init : goal.loop-link-init
loop-link-init c = (c.in_ok-forest.ensures.forest, alone c.in_ok-forest.forest.parent.items c.args.n c.in_ok-forest.ensures.alone)

pub join-requires-clause-one : goal.join-requires-clause-one
join-requires-clause-one c =
    let h = link_at c.args.n c.args.links.now c.loop-link.link-index none c.requires (omega arith) in
    let a = h.0 in let l = c.loop-link.invariant.1.long in omega arith

pub join-requires-clause-other : goal.join-requires-clause-other
join-requires-clause-other c =
    let h = link_at c.args.n c.args.links.now c.loop-link.link-index none c.requires (omega arith) in
    let a = h.1 in let l = c.loop-link.invariant.1.long in omega arith

pub loop-link-preserved : goal.loop-link-preserved
loop-link-preserved c =
    let lt : c.loop-link.link-index < length c.args.links.now = omega arith in
    (c.join.ensures.forest, one_more c.loop-link.forest.parent.items c.join.new.self.parent.items c.args.n c.args.links.now c.loop-link.link-index none lt c.loop-link.invariant.1 c.join.ensures.joined)

pub returns : goal.returns
returns c =
    let p = c.loop-link.forest.parent.items in
    let end : c.loop-link.link-index ≡ length c.args.links.now = omega arith in
    let all : take c.loop-link.link-index c.args.links.now ≡ c.args.links.now = ap (λ n. take n c.args.links.now) end ∙ take-length c.args.links.now in
    let tree : AreTreesOf p c.args.n c.args.links.now = subst (λ (l : List Link). AreTreesOf p c.args.n l) all c.loop-link.invariant.1 in
    IfOk-weaker c.number.result _ _ (λ v h. as_classes c.args.n p c.args.links.now v.class_of.items v.count tree h) c.number.ensures
