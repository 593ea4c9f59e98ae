use Rattle.std.proofs.Common.{◌∙◌, ◌^◌, refl, subst, sym}
use Rattle.base_laws.proofs.Items.{one_entry}
use Rattle.std.proofs.lemmas.Bool.{and_from, and_parts}
use Rattle.std.specs.Option.{IsSome}
use Rattle.rect_sets.specs.Rects.{covers}
use Rattle.sized_layers.specs.Sizes.{IsSetWithin}
use Rattle.gate_phase.proofs.both.calm_in_both.Goals as goal

pub indexed-one-requires : goal.indexed-one-requires
indexed-one-requires c = subst IsSome (sym c.requires.first.1) refl

pub indexed-other-requires : goal.indexed-other-requires
indexed-other-requires c = subst IsSome (sym c.requires.second.1) refl

pub calm-requires-clause-set : goal.calm-requires-clause-set
calm-requires-clause-set c = λ q e. let two = and_parts (covers c.args.first.now q) (covers c.args.second.now q) (sym (c.in_ok-both.ensures q) ∙ e) in c.requires.set q two.0

pub calm-requires-clause-zone : goal.calm-requires-clause-zone
calm-requires-clause-zone c = subst (IsSetWithin (2 ^ 39)) (one_entry _ c.requires.first.0 c.indexed-one.result.now c.requires.first.1 c.indexed-one.ensures) c.requires.first.2

pub calm-requires-2-clause-set : goal.calm-requires-2-clause-set
calm-requires-2-clause-set c = λ q e.
    let here = ((c.in_ok-once.ensures q).0 e).0 in
    let two = and_parts (covers c.args.first.now q) (covers c.args.second.now q) (sym (c.in_ok-both.ensures q) ∙ here) in
    c.requires.set q two.0

pub calm-requires-2-clause-zone : goal.calm-requires-2-clause-zone
calm-requires-2-clause-zone c = subst (IsSetWithin (2 ^ 39)) (one_entry _ c.requires.second.0 c.indexed-other.result.now c.requires.second.1 c.indexed-other.ensures) c.requires.second.2

pub returns : goal.returns
returns c =
    let first = c.args.first.now in let second = c.args.second.now in
    record {
      one = c.indexed-one.result.now;
      is_one = c.indexed-one.ensures;
      other = c.indexed-other.result.now;
      is_other = c.indexed-other.ensures;
      squares = λ q. (
        (λ e.
            let last = (c.in_ok-found.ensures q).0 e in
            let once = (c.in_ok-once.ensures q).0 last.0 in
            let two = and_parts (covers first q) (covers second q) (sym (c.in_ok-both.ensures q) ∙ once.0) in
            ((two.0, two.1), (once.1, last.1))),
        (λ h. (c.in_ok-found.ensures q).1 ((c.in_ok-once.ensures q).1 (c.in_ok-both.ensures q ∙ and_from (covers first q) (covers second q) h.0.0 h.0.1, h.1.0), h.1.1)),
      );
    }
