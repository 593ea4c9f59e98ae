use Rattle.std.proofs.Common.{◌≡◌, ◌<◌, ◌+◌, ◌-◌, ◌++◌, ◌∙◌, Some, Bool, List, true, false, ap, sym, subst, arith, length, slice_get, slice_index_or, take, drop}
use Rattle.std.proofs.lemmas.Option.{slice_get-get_or}
use Rattle.gate_phase.specs.Reads.{AreClosed, IsMarked, IsReadBy, MarksMore}
use Rattle.gate_phase.proofs.Marking.{closed_more, closed_past, read_law, written}
use Rattle.gate_phase.proofs.reads.names_read.Goals as goal

pub loop-i-preserved-then-index : goal.loop-i-preserved-then-index
loop-i-preserved-then-index c =
    let names = c.args.names.now in let i = c.loop-i.i - 1 in let now = c.loop-i.marks.items in let new = c.mark_read.new.marks in let had = c.loop-i.invariant in
    let above = c.loop-i-test.true in let inside = had.in_names in
    let next : c.loop-i.i ≡ i + 1 = omega arith in
    let lt : i < length names = omega arith in
    let rule = slice_index_or names i c.index-names-i.result in
    let at : slice_get names i ≡ Some rule = slice_get-get_or names i c.index-names-i.result lt in
    let marked : IsMarked now i = slice_get-get_or now i c.index.result.now (let n = had.count in omega arith) ∙ ap Some (sym c.index.ensures ∙ c.if-index.true) in
    let more : MarksMore (λ k. IsReadBy rule.form k × (k < i)) now new = subst (λ (l : List Bool). MarksMore (λ k. IsReadBy rule.form k × (k < i)) l new) c.deref_mut-then-index.ensures.value c.mark_read.ensures in
    let whole : take c.loop-i.marks.len (new ++ drop (length new) now) ≡ new = written new (drop (length new) now) c.loop-i.marks.len (c.loop-i.marks.ok.0 ∙ sym more.count) in
    record {
      in_names = omega arith;
      count = ap length whole ∙ more.count ∙ had.count;
      roots = λ k is below. subst (λ (l : List Bool). IsMarked l k) (sym whole) (more.stay k (had.roots k is below));
      closed = subst (AreClosed names i) (sym whole) (closed_more names i rule now new at marked more (subst (λ n. AreClosed names n now) next had.closed));
    }

pub loop-i-preserved : goal.loop-i-preserved
loop-i-preserved c =
    let names = c.args.names.now in let i = c.loop-i.i - 1 in let now = c.loop-i.marks.items in let had = c.loop-i.invariant in
    let above = c.loop-i-test.true in let inside = had.in_names in
    let next : c.loop-i.i ≡ i + 1 = omega arith in
    let off = slice_get-get_or now i c.index.result.now (let n = had.count in omega arith) ∙ ap Some (sym c.index.ensures ∙ c.if-index.false) in
    record {
      in_names = omega arith;
      count = had.count;
      roots = had.roots;
      closed = closed_past names i now (λ on. let e : Some true ≡ Some false = sym on ∙ off in let z : ⊥ = cc in z) (subst (λ n. AreClosed names n now) next had.closed);
    }

pub returns-clause-read : goal.returns-clause-read
returns-clause-read c =
    let names = c.args.names.now in let had = c.loop-i.invariant in
    let none : c.loop-i.i ≡ 0 = (let past = c.loop-i-test.false in omega arith) in
    read_law names c.args.device.now c.loop-i.marks.items (subst (λ n. AreClosed names n c.loop-i.marks.items) none had.closed) had.roots
