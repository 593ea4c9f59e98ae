use Rattle.std.proofs.Common.{◌≡◌, List, [], get_or, length, refl, sym, subst, arith}
use Rattle.base_laws.proofs.Lists.{map_count}
use Rattle.std.specs.Global.{Vec}
use Rattle.std.proofs.Math.Decide.{dec_lt}
use Rattle.std.proofs.lemmas.List.{map_push}
use Rattle.net_phase.proofs.Arraying.{no_elements}
use Rattle.net_phase.proofs.Listing.{get_past, get_push, long_push}
use Rattle.net_phase.proofs.elements.all_elements.Goals as goal
use Rattle.net_phase.specs.Elements.{AreElements, element_lists}
use Rattle.net_walk.specs.declared.cells.Element.{Element}

pub loop-cell-init : goal.loop-cell-init
loop-cell-init c = rw c.new-all.ensures.items (record { long = refl; each = λ cell lt. absurd (omega arith) })

pub loop-cell-preserved : goal.loop-cell-preserved
loop-cell-preserved c =
    let d = c.args.design.now in
    let old = c.loop-cell.all.items in
    let new = c.in_ok-found.found in
    let long = c.loop-cell.invariant.long in
    let seen = map_count (λ (v : Vec Element). v.items) old in
    let here : AreElements d (length (element_lists old)) new.items = subst (λ n. AreElements d n new.items) (let z : c.loop-cell.cell ≡ length (element_lists old) = omega (arith, long, seen) in z) c.in_ok-found.ensures in
    rw c.in_ok-push.ensures.items (record {
      long = (let g = long_push old new in omega (arith, g, long));
      each = λ cell lt. subst (λ (l : List (List Element)). AreElements d cell (get_or l cell [])) (sym (map_push (λ (v : Vec Element). v.items) old new))
          (get_push (element_lists old) new.items [] cell (λ k v. AreElements d k v) (λ k less. c.loop-cell.invariant.each k (omega (arith, long, seen))) here (omega (arith, long, seen)));
    })

pub returns : goal.returns
returns c = λ cell.
    let d = c.args.design.now in
    let all = c.loop-cell.all.items in
    let long = c.loop-cell.invariant.long in
    let count = c.cells-cell-end.ensures in
    elim (dec_lt cell c.loop-cell.cell) [
      | yes lt ↦ c.loop-cell.invariant.each cell lt
      | no n ↦ subst (λ (l : List Element). AreElements d cell l) (sym (get_past (λ (v : Vec Element). v.items) all cell [] (omega (arith, long)))) (no_elements d cell (omega (arith, count)))
    ]
