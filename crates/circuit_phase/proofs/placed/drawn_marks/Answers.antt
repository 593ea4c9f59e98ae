use Rattle.std.proofs.Common.{◌≡◌, ◌∙◌, ◌++◌, ◌||◌, ℕ, Bool, false, List, map, get_or, take, drop, length, sym, ap, subst, arith}
use Rattle.base_laws.proofs.Lists.{none_set}
use Rattle.std.specs.Prelude.{replicate}
use Rattle.std.proofs.lemmas.Option.{slice_get-get_or, slice_get-map}
use Rattle.std.specs.Prelude.{Option}
use Rattle.std.specs.Option.{option_map}
use Rattle.deep_tables.specs.declared.nets.Item.{Item}
use Rattle.deep_tables.specs.Gates.{plain_gate}
use Rattle.deep_tables.specs.Nets.{plain_item, plain_nets}
use Rattle.flat_layout.specs.Circuits.{AreDrawn}
use Rattle.net_marks.specs.Marks.{has_terminal}
use Rattle.circuit_phase.specs.Placed.{is_child_marked, is_marked_by, tables_with}
use Rattle.net_marks.proofs.Listed.{gate_of}
use Rattle.circuit_phase.proofs.Drawing.{drawn_of, false_long, readable, written}
use Rattle.circuit_phase.proofs.placed.drawn_marks.Goals as goal

pub mark_gates-requires : goal.mark_gates-requires
mark_gates-requires g c = λ x h.
    let filled : c.in_ok-marks.marks.items ≡ replicate c.args.nets.now.count false = c.in_ok-marks.ensures.items_if_clones_equal (λ y e. e) in
    let long = ap (λ (l : List Bool). length l) (c.deref_mut.ensures.value ∙ filled) ∙ false_long c.args.nets.now.count in
    let lt = c.requires.terminals x (gate_of x (map plain_gate c.args.gates.now) h) in
    omega (arith, long, lt)

pub mark_placed-requires-clause-readable : goal.mark_placed-requires-clause-readable
mark_placed-requires-clause-readable g c = λ i item h.
    let p = c.args.placed.now in
    readable (g.P.Placed.design p) (g.P.Placed.wiring p) (tables_with c.requires.right.0 (g.P.Placed.nets p)) c.args.cell (plain_nets c.args.nets.now) c.args.cells.now (g.P.Placed.may_read p) c.requires.right.1 c.requires.cells c.requires.readable i (plain_item item) (slice_get-map plain_item c.args.nets.now.items.items i ∙ ap (λ (o : Option Item). option_map plain_item o) h)

pub mark_placed-requires-clause-within : goal.mark_placed-requires-clause-within
mark_placed-requires-clause-within g c = λ i lt.
    let nets = c.args.nets.now in
    let filled : c.in_ok-marks.marks.items ≡ replicate nets.count false = c.in_ok-marks.ensures.items_if_clones_equal (λ y e. e) in
    let first = c.mark_gates.new.marks in
    let size = ap (λ (l : List Bool). length l) filled ∙ false_long nets.count in
    let one : length first ≡ nets.count = c.mark_gates.ensures.count ∙ ap (λ (l : List Bool). length l) c.deref_mut.ensures.value ∙ size in
    let len : c.in_ok-marks.marks.len ≡ length c.in_ok-marks.marks.items = c.in_ok-marks.marks.ok.0 in
    let mid : c.deref_mut-2.result.now ≡ first = c.deref_mut-2.ensures.value ∙ written c.in_ok-marks.marks.len first c.in_ok-marks.marks.items (one ∙ sym (len ∙ size)) in
    let long = ap (λ (l : List Bool). length l) mid ∙ one in
    let low = c.requires.right.1.below i (get_or nets.net_of.items i 0) (slice_get-get_or nets.net_of.items i 0 lt) in
    omega (arith, long, low)

pub returns : goal.returns
returns g c =
    let p = c.args.placed.now in
    let nets = c.args.nets.now in
    let l = map plain_gate c.args.gates.now in
    let n = c.in_ok-marks.marks.len in
    let start = c.in_ok-marks.marks.items in
    let filled : start ≡ replicate nets.count false = c.in_ok-marks.ensures.items_if_clones_equal (λ y e. e) in
    let first = c.mark_gates.new.marks in
    let second = c.mark_placed.new.marks in
    let size = ap (λ (l : List Bool). length l) filled ∙ false_long nets.count in
    let one : length first ≡ nets.count = c.mark_gates.ensures.count ∙ ap (λ (l : List Bool). length l) c.deref_mut.ensures.value ∙ size in
    let len : n ≡ length start = c.in_ok-marks.marks.ok.0 in
    let mid : c.deref_mut-2.result.now ≡ first = c.deref_mut-2.ensures.value ∙ written n first start (one ∙ sym (len ∙ size)) in
    let two : length second ≡ nets.count = c.mark_placed.ensures.count ∙ ap (λ (l : List Bool). length l) mid ∙ one in
    let whole : take n (second ++ drop (length second) (take n (first ++ drop (length first) start))) ≡ second = written n second (take n (first ++ drop (length first) start)) (two ∙ sym (len ∙ size)) in
    let marked : (x : ℕ) → get_or second x false ≡ (is_marked_by (is_child_marked (g.P.Placed.pins p) (g.P.Placed.drawn p) c.args.cells.now) (plain_nets nets).items (plain_nets nets).net_of x || (has_terminal x l || false)) =
    λ x.
    let test = is_marked_by (is_child_marked (g.P.Placed.pins p) (g.P.Placed.drawn p) c.args.cells.now) (plain_nets nets).items (plain_nets nets).net_of x in
    c.mark_placed.ensures.marked x ∙ ap (λ (m : List Bool). test || get_or m x false) mid
    ∙ ap (λ (b : Bool). test || b) (c.mark_gates.ensures.marked x ∙ ap (λ (m : List Bool). has_terminal x l || get_or m x false) (c.deref_mut.ensures.value ∙ filled) ∙ ap (λ (b : Bool). has_terminal x l || b) (none_set nets.count x)) in
    λ own. subst (λ (m : List Bool). AreDrawn (g.P.Placed.design p) (tables_with own (g.P.Placed.nets p)) (λ c. l) (g.P.Placed.pins p) (g.P.Placed.drawn p) c.args.cell m) (sym whole)
    (drawn_of (g.P.Placed.design p) (g.P.Placed.wiring p) (tables_with c.requires.right.0 (g.P.Placed.nets p)) (tables_with own (g.P.Placed.nets p)) l (g.P.Placed.pins p) (g.P.Placed.drawn p) c.args.cell (plain_nets nets) c.args.cells.now second c.requires.nets c.requires.right.1 c.requires.cells two marked)
