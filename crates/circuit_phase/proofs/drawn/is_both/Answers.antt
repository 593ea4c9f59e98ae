use Rattle.std.proofs.Common.{◌&&◌, Bool, false, get_or, sym, ap, ◌∙◌}
use Rattle.circuit_phase.proofs.Marked.{both_at}
use Rattle.circuit_phase.proofs.drawn.is_both.Goals as goal

pub returns-then-some-n : goal.returns-then-some-n
returns-then-some-n c =
    sym (both_at c.args.some.now c.args.others.now c.args.n c.requires.some c.requires.others ∙ ap (λ (b : Bool). b && get_or c.args.others.now c.args.n false) c.if-some-n.true)

pub returns-else-some-n : goal.returns-else-some-n
returns-else-some-n c =
    c.if-some-n.false ∙ sym (both_at c.args.some.now c.args.others.now c.args.n c.requires.some c.requires.others ∙ ap (λ (b : Bool). b && get_or c.args.others.now c.args.n false) c.if-some-n.false)
