use Rattle.std.proofs.Common.{sym, ◌∙◌, subst, ℕ, ◌<◌}
use Rattle.refine_match.proofs.Leaving.{left_way, has_row, has_even}
use Rattle.refine_match.proofs.searching.Search.leave.Goals as goal

pub index_mut-requires : goal.index_mut-requires
index_mut-requires c = subst (λ (k : ℕ). c.in-Some.level.row < k) (sym c.args.self.now.rows.ok.0)
    (has_row c.requires.way.0 c.args.graph.now c.args.self.now c.requires.way.1 c.pop.new.self.items c.in-Some.level c.in-Some.ensures.items)

pub settle-requires-clause-even : goal.settle-requires-clause-even
settle-requires-clause-even c =
    has_even c.requires.way.0 c.args.graph.now c.args.self.now c.requires.way.1 c.pop.new.self c.in-Some.level c.len.result c.deref.result.now c.in-Some.ensures.items c.len.ensures (c.deref.ensures.value ∙ c.truncate.ensures.items)

pub returns-in_ok-self-in-Some-2-clause-left : goal.returns-in_ok-self-in-Some-2-clause-left
returns-in_ok-self-in-Some-2-clause-left c = λ p way none.
    left_way p c.args.graph.now c.args.self.now way c.pop.new.self c.in-Some.level c.len.result c.truncate.new.self c.in_ok-self-in-Some.field-0 c.in_ok-self-in-Some-2.field-0 c.index_mut.result.now c.deref.result.now
    c.in-Some.ensures.items c.len.ensures c.truncate.ensures.items none c.index_mut.ensures.value c.in_ok-self-in-Some.ensures.partition
    c.in_ok-self-in-Some.ensures.settled c.deref.ensures.value c.in_ok-self-in-Some-2.ensures
