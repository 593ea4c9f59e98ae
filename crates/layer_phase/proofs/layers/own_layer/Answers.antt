use Rattle.std.proofs.Common.{◌∙◌, sym, subst}
use Rattle.rect_sets.specs.Rects.{IsCanonical}
use Rattle.layer_phase.proofs.Inputs.{input_layer}
use Rattle.layer_phase.proofs.layers.own_layer.Goals as goal

pub returns : goal.returns
returns c =
    let h = input_layer c.args.design.now c.args.cell c.args.key c.sound.ensures (subst IsCanonical c.own.ensures c.rects-sound.ensures.canonical) in
    let same = c.in_ok-set.ensures in
    record {
      canonical = c.rects-canonical.ensures.canonical;
      each = λ q. ((λ e. (h.each q).0 (sym (same q) ∙ e)), (λ l. same q ∙ (h.each q).1 l));
      parted = h.parted;
    }
