use Rattle.std.proofs.Common.{arith}
use Rattle.std.proofs.lemmas.List.{length-map}
use Rattle.call_order.specs.Order.{lists}
use Rattle.call_order.specs.Walk.{seen}
use Rattle.call_order.proofs.Results.{ordered, first_found}
use Rattle.call_order.proofs.walk.Walk.found.Goals as goal

pub returns-in-None : goal.returns-in-None
returns-in-None c =
    let long = length-map c.args.self.calls.now (λ row. row.items) in
    ordered (lists c.args.self.calls.now) (seen c.args.self) c.requires.walk c.requires.still (λ k low. c.requires.met k (omega arith)) c.in-None.is

pub returns-in-Some : goal.returns-in-Some
returns-in-Some c =
    let long = length-map c.args.self.calls.now (λ row. row.items) in
    first_found (lists c.args.self.calls.now) (seen c.args.self) c.requires.walk c.requires.still (λ k low. c.requires.met k (omega arith)) c.in-Some.k c.in-Some.is
