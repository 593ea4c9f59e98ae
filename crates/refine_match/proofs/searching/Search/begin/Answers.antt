use Rattle.refine_match.proofs.Begun.{begun}
use Rattle.refine_match.proofs.searching.Search.begin.Goals as goal

pub returns-clause-way : goal.returns-clause-way
returns-clause-way c = λ p g h good ties.
    begun p g c.args.classes c.args.lists c.args.node c.args.limit c.first_try.result c.new.result c.new-2.result c.new-3.result h good ties c.first_try.ensures.node c.first_try.ensures.last
    c.new.ensures.items c.new-2.ensures.items c.new-3.ensures.items
