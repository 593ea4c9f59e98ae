use Rattle.std.proofs.Common.{◌≡◌, ◌⊎◌, ◌↔◌, ◌++◌, ◌∙◌, Bool, true, false, List, ap, drop, get_or, length, take, subst, sym, arith}
use Rattle.gate_phase.proofs.Marking.{written}
use Rattle.pin_phase.specs.Sets.{HasAny}
use Rattle.pin_phase.specs.Used.{IsInUse}
use Rattle.pin_phase.proofs.Using.{marked_or}
use Rattle.pin_phase.proofs.used.pin_marks.Goals as goal

pub mark_used-requires-clause-nets : goal.mark_used-requires-clause-nets
mark_used-requires-clause-nets g c = λ i l at.
    let lt = c.requires.nets i l at in
    let count = c.in_ok-marks.ensures.count in
    let same = ap (λ (m : List Bool). length m) c.deref_mut.ensures.value in
    omega (arith, lt, count, same)

pub returns-clause-marked : goal.returns-clause-marked
returns-clause-marked g c = λ x.
    let value = g.R.Reads.value c.args.reads.now in
    let old = c.in_ok-marks.marks.items in let new = c.mark_used.new.marks in
    let size = c.in_ok-marks.marks.ok.0 in
    let long : length new ≡ length old = c.mark_used.ensures.count ∙ ap (λ (m : List Bool). length m) c.deref_mut.ensures.value in
    let whole : take c.in_ok-marks.marks.len (new ++ drop (length new) old) ≡ new = written new (drop (length new) old) c.in_ok-marks.marks.len (omega (arith, long, size)) in
    let was = subst (λ (m : List Bool). (get_or m x false ≡ true) ↔ HasAny c.args.tags.now x) (sym c.deref_mut.ensures.value) (c.in_ok-marks.ensures.each x) in
    subst (λ (m : List Bool). (get_or m x false ≡ true) ↔ (HasAny c.args.tags.now x ⊎ IsInUse value c.args.links.now x)) (sym whole)
    (marked_or (get_or new x false ≡ true) (get_or c.deref_mut.result.now x false ≡ true) (HasAny c.args.tags.now x) (IsInUse value c.args.links.now x) (c.mark_used.ensures.marked x) was)
