use Rattle.std.proofs.Common.{◌≡◌, ◌↔◌, ℕ, List, nat_eq, subst, sym}
use Rattle.std.proofs.lemmas.List.Filters.{dedup_is}
use Rattle.std.specs.Cmp.Lexicographic.{pointwise}
use Rattle.std.specs.List.{dedup}
use Rattle.plain_netlist.specs.Lists.{AreRising, IsListed}
use Rattle.flat_layout.specs.Pins.{IsTextBefore}
use Rattle.pin_phase.proofs.Ordered.{each_once, rising_once}
use Rattle.pin_phase.proofs.bases.in_order.Goals as goal

pub returns-clause-each : goal.returns-clause-each
returns-clause-each c =
    let sorted = c.sort_unstable.new.self.items in
    let is : c.dedup.new.self.items ≡ dedup (pointwise nat_eq) sorted = dedup_is (pointwise nat_eq) sorted c.dedup.new.self.items c.dedup.ensures.filtered in
    (λ s. subst (λ (l : List (List ℕ)). IsListed s l ↔ IsListed s c.args.tags.items) (sym is) (each_once c.args.tags.items sorted c.sort_unstable.ensures.permutation s))

pub returns-clause-rising : goal.returns-clause-rising
returns-clause-rising c =
    let sorted = c.sort_unstable.new.self.items in
    let is : c.dedup.new.self.items ≡ dedup (pointwise nat_eq) sorted = dedup_is (pointwise nat_eq) sorted c.dedup.new.self.items c.dedup.ensures.filtered in
    subst (λ (l : List (List ℕ)). AreRising IsTextBefore l) (sym is) (rising_once sorted c.sort_unstable.ensures.sorted)
