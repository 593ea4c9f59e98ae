use Rattle.net_walk.proofs.Insides.{some_weaker, none_weaker}
use Rattle.net_walk.proofs.walk.part_of.Goals as goal

pub returns-in-None-clause-none : goal.returns-in-None-clause-none
returns-in-None-clause-none g c = λ k x m h i. c.in-None.ensures.none k x m h

pub returns-in-Some-clause-some : goal.returns-in-Some-clause-some
returns-in-Some-clause-some g c =
    let hull = c.in-Some.ensures.some in
    some_weaker c.part_in.result _ _ (λ r h. record { rect = h.rect; near = h.near; inside = h.inside; all = λ k x m net i. h.all m (hull.all k x m net) i }) c.part_in.ensures.some

pub returns-in-Some-clause-none : goal.returns-in-Some-clause-none
returns-in-Some-clause-none g c =
    let hull = c.in-Some.ensures.some in
    none_weaker c.part_in.result _ _ (λ h k x m net i. h m (hull.all k x m net) i) c.part_in.ensures.none
