use Rattle.std.proofs.Common.{◌≡◌, ◌↔◌, true}
use Rattle.std.proofs.lemmas.Result.{IfOk-weaker}
use Rattle.gate_shapes.specs.Sets.{in_set}
use Rattle.gate_shapes.specs.Shapes.{Meet}
use Rattle.select_laws.specs.Selects.{Has, Interacting, Outside}
use Rattle.region_asks.proofs.Answering.{close_told, miss_told}
use Rattle.region_asks.proofs.asks.has.Goals as goal

pub returns-in-Interacting : goal.returns-in-Interacting
returns-in-Interacting c =
    let part = c.args.part.now in
    let other = c.args.other.now in
    rw c.in-Interacting.is (IfOk-weaker c.meet.result (λ b. (b ≡ true) ↔ Meet c.args.close.now other) (λ b. (b ≡ true) ↔ Has Interacting (in_set part) (in_set other)) (λ b told. close_told part c.args.close.now other b c.requires told) c.meet.ensures)

pub returns-in-Overlapping : goal.returns-in-Overlapping
returns-in-Overlapping c = rw c.in-Overlapping.is c.meet-in-Overlapping.ensures

pub returns-in-Inside : goal.returns-in-Inside
returns-in-Inside c = rw c.in-Inside.is c.lies_in.ensures

pub returns-in-Outside : goal.returns-in-Outside
returns-in-Outside c =
    let part = c.args.part.now in
    let other = c.args.other.now in
    rw c.in-Outside.is (IfOk-weaker c.miss.result (λ b. (b ≡ true) ↔ (Meet part other → ⊥)) (λ b. (b ≡ true) ↔ Has Outside (in_set part) (in_set other)) (λ b told. miss_told part other b told) c.miss.ensures)

pub returns-in-WithArea : goal.returns-in-WithArea
returns-in-WithArea c = rw c.in-WithArea.is c.has_area.ensures
