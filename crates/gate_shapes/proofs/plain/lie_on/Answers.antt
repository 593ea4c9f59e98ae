use Rattle.std.proofs.Common.{◌≡◌, ◌∙◌, sym, true, false}
use Rattle.gate_shapes.proofs.Courses.{held_on}
use Rattle.gate_shapes.proofs.plain.lie_on.Goals as goal

pub returns-then-around : goal.returns-then-around
returns-then-around c = λ e.
    let a = c.args.around.now in
    record {
      gate_on = held_on c.args.rect.now a.on_gate.now (sym c.is_held.ensures ∙ c.if-not-is_held.false);
      source_on = held_on c.args.source.now a.on_ends.now (sym c.is_held-2.ensures ∙ c.if-not-is_held-2.false);
      drain_on = held_on c.args.drain.now a.on_ends.now (sym c.is_held-3.ensures ∙ c.if-not-is_held-3.false);
      bulk_on = λ loose. held_on c.args.rect.now a.on_bulk.now (sym c.is_held-then-around.ensures ∙ e);
    }

pub returns : goal.returns
returns c = λ e.
    let a = c.args.around.now in
    record {
      gate_on = held_on c.args.rect.now a.on_gate.now (sym c.is_held.ensures ∙ c.if-not-is_held.false);
      source_on = held_on c.args.source.now a.on_ends.now (sym c.is_held-2.ensures ∙ c.if-not-is_held-2.false);
      drain_on = held_on c.args.drain.now a.on_ends.now (sym c.is_held-3.ensures ∙ c.if-not-is_held-3.false);
      bulk_on = λ loose. absurd (let f : false ≡ true = sym c.if-around.false ∙ loose in let z : ⊥ = cc in z);
    }
