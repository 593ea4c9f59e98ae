use Rattle.std.proofs.Common.{◌≡◌, ◌+◌, ◌∙◌, sym, ap, subst, inl, inr, pos, arith, List, get_or, Some}
use Rattle.std.specs.Prelude.{slice_get}
use Rattle.std.specs.List.Sorted.{IsPermutation}
use Rattle.std.proofs.lemmas.Option.{slice_get-get_or}
use Rattle.geo_base.specs.declared.shapes.Rect.{Rect}
use Rattle.link_classes.specs.declared.classes.Link.{Link}
use Rattle.gate_shapes.specs.Contacts.{joint_of, ContactsSoFar}
use Rattle.gate_shapes.specs.declared.contacts.Top.{Top}
use Rattle.gate_shapes.proofs.Touching.{top_done, rect_done, are_tops, contacts_all, contacts_none}
use Rattle.gate_shapes.proofs.contacts.contacts.Goals as goal
use Rattle.gate_shapes.proofs.contacts.contacts.Goals.{then-sides-test+else-j-rects, else-sides-test}

pub sides-init : goal.sides-init
sides-init c = record {
  tops = are_tops c.args.rects.now c.sort_tops.new.tops.items c.requires.canonical (subst (λ (ts : List Top). IsPermutation ts c.sort_tops.new.tops.items) c.in_ok-tops.ensures c.sort_tops.ensures.permutation) c.sort_tops.ensures.sorted;
  far = subst (λ (ls : List Link). ContactsSoFar (joint_of c.args.joint) c.args.rects.now c.sort_tops.new.tops.items 0 0 ls) (sym c.new-links.ensures.items) (contacts_none (joint_of c.args.joint) c.args.rects.now c.sort_tops.new.tops.items);
}

pub sides-preserved-then-ends_first : goal.sides-preserved-then-ends_first
sides-preserved-then-ends_first c =
    let rects = c.args.rects.now in
    let tops = c.sort_tops.new.tops.items in
    let zero : Rect = record { x1 = pos 0; y1 = pos 0; x2 = pos 0; y2 = pos 0 } in
    let t : Top = c.index.result.now in
    let r : Rect = get_or rects c.sides.j zero in
    let at_i : slice_get tops c.sides.i ≡ Some t = slice_get-get_or tops c.sides.i t (omega arith) ∙ ap (λ (q : Top). Some q) (sym c.index.ensures) in
    let at_j : slice_get rects c.sides.j ≡ Some r = slice_get-get_or rects c.sides.j zero (omega arith) in
    record {
      tops = c.sides.invariant.tops;
      far = subst (λ (ls : List Link). ContactsSoFar (joint_of c.args.joint) rects tops (c.sides.i + 1) c.sides.j ls) (sym c.in_ok-push_contact.ensures)
          (top_done (joint_of c.args.joint) rects tops c.requires.canonical c.sides.invariant.tops c.sides.i c.sides.j c.sides.links.items c.sides.invariant.far t r at_i at_j (sym c.ends_first.ensures ∙ c.if-ends_first.true));
    }

pub sides-preserved : goal.sides-preserved
sides-preserved c =
    let rects = c.args.rects.now in
    let tops = c.sort_tops.new.tops.items in
    let zero : Rect = record { x1 = pos 0; y1 = pos 0; x2 = pos 0; y2 = pos 0 } in
    let t : Top = c.index.result.now in
    let r : Rect = get_or rects c.sides.j zero in
    let at_i : slice_get tops c.sides.i ≡ Some t = slice_get-get_or tops c.sides.i t (omega arith) ∙ ap (λ (q : Top). Some q) (sym c.index.ensures) in
    let at_j : slice_get rects c.sides.j ≡ Some r = slice_get-get_or rects c.sides.j zero (omega arith) in
    record {
      tops = c.sides.invariant.tops;
      far = subst (λ (ls : List Link). ContactsSoFar (joint_of c.args.joint) rects tops c.sides.i (c.sides.j + 1) ls) (sym c.in_ok-push_contact.ensures)
          (rect_done (joint_of c.args.joint) rects tops c.requires.canonical c.sides.invariant.tops c.sides.i c.sides.j c.sides.links.items c.sides.invariant.far t r at_i at_j (sym c.ends_first.ensures ∙ c.if-ends_first.false));
    }

pub returns : goal.returns
returns c =
    contacts_all (joint_of c.args.joint) c.args.rects.now c.sort_tops.new.tops.items c.sides.i c.sides.j c.sides.links.items c.sides.invariant.tops
    (elim c.sides-test.branch [ then-sides-test+else-j-rects w ↦ inr (omega arith) | else-sides-test w ↦ inl (omega arith) ])
    c.sides.invariant.far
