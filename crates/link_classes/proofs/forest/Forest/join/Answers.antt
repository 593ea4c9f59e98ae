use Rattle.std.proofs.Common.{inl, inr, ℕ, List, sym, subst}
use Rattle.link_classes.proofs.Trees.{trees_on, hung, joined_already, joined_from}
use Rattle.link_classes.proofs.forest.Forest.join.Goals as goal
use Rattle.link_classes.specs.Forest.{InOneTree, IsJoinedBy}

pub returns-then-index-clause-joined : goal.returns-then-index-clause-joined
returns-then-index-clause-joined c =
    let q = c.top-b.new.self.parent.items in
    let link = c.args.link in
    let a = c.top-a.result in
    let b = c.top-b.result in
    let one : InOneTree q link.one a = (c.top-b.ensures.same.trees link.one a).1 c.top-a.ensures.joined in
    let joined = hung q c.top-b.new.self.rank.items c.top-b.new.self.rank.items c.top-b.ensures.forest a b (c.top-b.ensures.same.kept a c.top-a.ensures.top) c.top-b.ensures.top c.if-a-b.true link (inl (one, c.top-b.ensures.joined)) in
    joined_from c.args.self.now.parent.items q c.hang.new.self.parent.items link (trees_on c.args.self.now.parent.items c.top-a.new.self.parent.items q c.top-a.ensures.same c.top-b.ensures.same)
    (subst (λ (l : List ℕ). IsJoinedBy q link l) (sym c.hang.ensures.hung) joined)

pub returns-else-index-clause-joined : goal.returns-else-index-clause-joined
returns-else-index-clause-joined c =
    let q = c.top-b.new.self.parent.items in
    let link = c.args.link in
    let a = c.top-a.result in
    let b = c.top-b.result in
    let one : InOneTree q link.one a = (c.top-b.ensures.same.trees link.one a).1 c.top-a.ensures.joined in
    let joined = hung q c.top-b.new.self.rank.items c.top-b.new.self.rank.items c.top-b.ensures.forest b a c.top-b.ensures.top (c.top-b.ensures.same.kept a c.top-a.ensures.top) (λ e. c.if-a-b.true (sym e)) link (inr (one, c.top-b.ensures.joined)) in
    joined_from c.args.self.now.parent.items q c.hang-else-index.new.self.parent.items link (trees_on c.args.self.now.parent.items c.top-a.new.self.parent.items q c.top-a.ensures.same c.top-b.ensures.same)
    (subst (λ (l : List ℕ). IsJoinedBy q link l) (sym c.hang-else-index.ensures.hung) joined)

pub returns-else-a-b-clause-joined : goal.returns-else-a-b-clause-joined
returns-else-a-b-clause-joined c =
    let q = c.top-b.new.self.parent.items in
    let link = c.args.link in
    let a = c.top-a.result in
    let one : InOneTree q link.one a = (c.top-b.ensures.same.trees link.one a).1 c.top-a.ensures.joined in
    let other : InOneTree q link.other a = subst (λ k. InOneTree q link.other k) (sym c.if-a-b.false) c.top-b.ensures.joined in
    joined_from c.args.self.now.parent.items q q link (trees_on c.args.self.now.parent.items c.top-a.new.self.parent.items q c.top-a.ensures.same c.top-b.ensures.same) (joined_already q link a one other)
