use Rattle.std.proofs.Common.{◌≡◌, ◌<◌, ℕ, List, length, slice_index, refl, sym, subst, ◌∙◌, ap}
use Rattle.match_graph.specs.Graph.{left_of, nodes_of}
use Rattle.match_rounds.specs.declared.classes.Classes.{Classes}
use Rattle.match_rounds.specs.Rounds.{AreSpans, ArePartedBySpans, IsNextRound}
use Rattle.match_rounds.proofs.SpanColours.{marked, in_spans, members_below, is_round, next_ahead}
use Rattle.match_rounds.proofs.rounds.next_round.Goals as goal
use Rattle.match_rounds.proofs.rounds.next_round.Goals.{In_ok-look_at_each}

pub look_at_each-requires-clause-partition : goal.look_at_each-requires-clause-partition
look_at_each-requires-clause-partition c =
    marked c.args.classes.now c.clear.new.self (left_of c.args.graph.now) (nodes_of c.args.graph.now) c.requires.partition c.clear.ensures.listed c.clear.ensures.long

pub look_at_each-requires-clause-members : goal.look_at_each-requires-clause-members
look_at_each-requires-clause-members c =
    let h = members_below c.args.classes.now c.list_members.new.members.items c.list_members.new.ends.items (length c.args.classes.now.marks.fresh.items) (nodes_of c.args.graph.now)
    c.requires.partition.classes c.requires.partition.listed c.in_ok-list_members.ensures refl in
    subst (λ (xs : List ℕ). (i : ℕ) → i < length xs → slice_index xs i < nodes_of c.args.graph.now) (sym c.deref.ensures.value) h

pub look_at_each-requires-clause-spans : goal.look_at_each-requires-clause-spans
look_at_each-requires-clause-spans c =
    subst (λ (xs : List ℕ). AreSpans xs c.deref-2.result.now) (sym c.deref.ensures.value)
    (subst (λ (xs : List ℕ). AreSpans c.list_members.new.members.items xs) (sym c.deref-2.ensures.value)
    (in_spans c.args.classes.now c.list_members.new.members.items c.list_members.new.ends.items (length c.args.classes.now.marks.fresh.items) c.in_ok-list_members.ensures))

round_is : (c : In_ok-look_at_each) → IsNextRound c.args.graph.now c.args.classes.now c.look_at_each.new.classes
round_is c =
    let cleared : Classes = record { class_of = c.args.classes.now.class_of; order = c.args.classes.now.order; begin = c.args.classes.now.begin; counts = c.args.classes.now.counts; marks = c.clear.new.self } in
    let e : length c.deref-2.result.now ≡ length c.args.classes.now.marks.fresh.items = ap length c.deref-2.ensures.value ∙ c.in_ok-list_members.ensures.count in
    let p1 = subst (λ (xs : List ℕ). ArePartedBySpans c.args.graph.now cleared c.look_at_each.new.classes xs c.deref-2.result.now (length c.deref-2.result.now) (nodes_of c.args.graph.now)) c.deref.ensures.value c.in_ok-look_at_each.ensures.parted in
    let p2 = subst (λ (m : ℕ). ArePartedBySpans c.args.graph.now cleared c.look_at_each.new.classes c.list_members.new.members.items c.deref-2.result.now m (nodes_of c.args.graph.now)) e p1 in
    let p3 = subst (λ (xs : List ℕ). ArePartedBySpans c.args.graph.now cleared c.look_at_each.new.classes c.list_members.new.members.items xs (length c.args.classes.now.marks.fresh.items) (nodes_of c.args.graph.now)) c.deref-2.ensures.value p2 in
    is_round c.args.graph.now c.args.classes.now c.look_at_each.new.classes c.list_members.new.members.items c.list_members.new.ends.items (length c.args.classes.now.marks.fresh.items)
    c.requires.graph c.requires.partition.classes c.requires.partition.listed c.in_ok-list_members.ensures refl p3 c.requires.ahead

pub returns-clause-ahead : goal.returns-clause-ahead
returns-clause-ahead c =
    next_ahead c.args.graph.now c.args.classes.now c.look_at_each.new.classes (round_is (goal.at.returns-clause-ahead c).In_ok-look_at_each) c.in_ok-look_at_each.ensures.fresh.kept

pub returns-clause-round : goal.returns-clause-round
returns-clause-round c = round_is (goal.at.returns-clause-round c).In_ok-look_at_each
