use Rattle.std.proofs.Common.{◌≡◌, ◌∙◌, sym, ap, arith, ℕ, length, List, take, drop}
use Rattle.std.proofs.lemmas.List.{drop_all}
use Rattle.call_order.specs.Walk.{State, seen, closing}
use Rattle.call_order.proofs.walk.Walk.close.Goals as goal

pub returns-clause-done : goal.returns-clause-done
returns-clause-done c =
    let long = ap (λ (ks : List ℕ). length ks) c.numbers.invariant.1 in
    let none = drop_all c.numbers.i c.numbers.self.path.items (omega arith) in
    let same : seen c.numbers.self ≡ closing c.args.ring.is_cycle (drop c.args.ring.path c.args.self.now.path.items) (seen c.args.self.now)
    = ap (λ ks. closing c.args.ring.is_cycle ks (seen c.numbers.self)) (sym none) ∙ c.numbers.invariant.0 in
    ap (λ (s : State). record s { path = c.truncate.new.self.items }) same
    ∙ ap (λ ks. let s : State = closing c.args.ring.is_cycle (drop c.args.ring.path c.args.self.now.path.items) (seen c.args.self.now) in record s { path = ks })
    (c.truncate.ensures.items ∙ ap (λ (s : State). take c.args.ring.path s.path) same)
