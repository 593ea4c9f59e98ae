use Rattle.std.proofs.Common.{inl, inr, refl}
use Rattle.plain_netlist.specs.Netlist.{IsEitherJoin}
use Rattle.plain_netlist.proofs.Links.{stays, both, back}
use Rattle.plain_netlist.proofs.net_classes.Goals as goal

pub returns-clause-itself : goal.returns-clause-itself
returns-clause-itself c = λ nl t a. stays (IsEitherJoin nl t) a a refl

pub returns-clause-turned : goal.returns-clause-turned
returns-clause-turned c = λ nl t a b h. back (IsEitherJoin nl t) (λ x y j. elim j [ inl i ↦ inr i | inr i ↦ inl i ]) a b h

pub returns-clause-through : goal.returns-clause-through
returns-clause-through c = λ nl t a b d h g. both (IsEitherJoin nl t) a b d h g
