use Rattle.std.proofs.Common.{◌≡◌, ◌<◌, ◌-◌, ◌^◌, ◌∙◌, ℕ, List, Option, IsSomeAnd, ap, length, map, slice_index, subst, sym, arith}
use Rattle.std.proofs.lemmas.List.{length-map}
use Rattle.std.specs.Borrow.{Bor}
use Rattle.std.specs.Global.{Vec}
use Rattle.cell_graph.specs.Linked.{IsSound, Linked, plain}
use Rattle.deep_tables.specs.Entries.{downward_cell}
use Rattle.deep_tables.specs.Pins.{AreCellPins}
use Rattle.deep_tables.specs.declared.nets.CellNets.{CellNets}
use Rattle.deep_tables.specs.declared.pins.CellPins.{CellPins}
use Rattle.gate_phase.proofs.Terminal.{nets_under}
use Rattle.job_graph.specs.Graph.{Waits}
use Rattle.net_link_laws.specs.Laws.{AreNetsUnder}
use Rattle.net_phase.specs.Below.{BelowSeen, tables_seen, wiring_seen}
use Rattle.net_phase.specs.Reading.{nets_of}
use Rattle.net_phase.specs.Wired.{with_nets}
use Rattle.rule_layers.specs.Meaning.{wiring_of}
use Rattle.rule_text.specs.Seen.{rules_seen}
use Rattle.zone_phase.proofs.Entries.{job_reached}
use Rattle.zone_phase.proofs.Putting.{cell_in}
use Rattle.pin_phase.specs.Lines.{label, names_of}
use Rattle.pin_phase.specs.Links.{lists_of}
use Rattle.pin_phase.specs.Phase.{PinJobs, read_by}
use Rattle.pin_phase.specs.Tagged.{AreTags, AreTextsOf}
use Rattle.pin_phase.specs.declared.lines.TextLine.{TextLine}
use Rattle.pin_phase.proofs.Linking.{reached_at}
use Rattle.pin_phase.proofs.Making.{cell_texts, known, links_here, net_in, waited}
use Rattle.pin_phase.proofs.Working.{cell_pins}
use Rattle.pin_phase.proofs.phase.PinPhasePhase.work.Goals as goal

pub net_tags-requires-clause-nets : goal.net_tags-requires-clause-nets
net_tags-requires-clause-nets g c =
    let a = c.self.inside in let w = a.wired.now in let d = w.design in
    let job = c.args.job in let order = c.order-order.result.now in
    let cell = slice_index order (length order - 1 - job) in
    let sound = subst (λ (x : Linked). IsSound x) c.design-design.ensures c.sound-2.ensures in
    let order_is : order ≡ d.order = c.order-order.ensures ∙ ap (λ (x : Linked). x.order) c.design-design.ensures in
    let same : c.below-cells.result ≡ read_by a = c.below-cells.ensures ∙ ap (λ (l : List (Option (Bor CellNets))). with_nets w (nets_of l)) c.deref.ensures.value in
    let lt : job < length order = subst (λ n. job < n) (ap (λ (z : PinJobs). length z.graph) (sym c.self.view_is) ∙ c.self.invariant.graph.jobs ∙ ap (λ (o : List ℕ). length o) (sym order_is)) c.requires.job in
    subst (λ (z : BelowSeen). AreNetsUnder (plain z.design) (wiring_seen z) (tables_seen z) cell) (sym same)
    (nets_under d (rules_seen w.rules) (tables_seen (read_by a)) sound c.sound.ensures.rules c.self.invariant.nets cell (reached_at d order job sound order_is lt))

pub net_tags-requires-clause-texts : goal.net_tags-requires-clause-texts
net_tags-requires-clause-texts g c =
    let d = c.design-design.result.now in
    let job = c.args.job in let order = c.order-order.result.now in
    let cell = slice_index order (length order - 1 - job) in
    let lt : job < length d.order =
    subst (λ n. job < n) (ap (λ (z : PinJobs). length z.graph) (sym c.self.view_is) ∙ c.self.invariant.graph.jobs ∙ ap (λ (x : Linked). length x.order) (sym c.design-design.ensures)) c.requires.job in
    let inside : cell < length d.cells = subst (λ (o : List ℕ). slice_index o (length o - 1 - job) < length d.cells) (sym c.order-order.ensures) (cell_in d job c.sound-2.ensures lt) in
    let of : d ≡ c.below-cells.result.design = c.design-design.ensures ∙ sym (ap (λ (z : BelowSeen). z.design) c.below-cells.ensures) in
    subst (λ (x : Linked). AreTextsOf (plain x) cell c.texts-texts.result.now) of (cell_texts d cell c.texts-texts.result.now inside c.texts-texts.ensures)

pub net_tags-requires-clause-lines : goal.net_tags-requires-clause-lines
net_tags-requires-clause-lines g c =
    ap (λ (l : List TextLine). map label l) c.deref-2.ensures.value ∙ c.self.invariant.lines ∙ ap (λ (z : BelowSeen). (wiring_seen z).labels) (sym c.below-cells.ensures)

pub net_tags-requires-clause-globals : goal.net_tags-requires-clause-globals
net_tags-requires-clause-globals g c =
    ap (λ (l : List (Vec ℕ)). names_of l) c.deref-3.ensures.value ∙ c.self.invariant.globals ∙ ap (λ (z : BelowSeen). (wiring_seen z).globals) (sym c.below-cells.ensures)

pub net_tags-requires-clause-few : goal.net_tags-requires-clause-few
net_tags-requires-clause-few g c =
    let globals = c.self.inside.globals.items in
    let long = length-map globals (λ (v : Vec ℕ). v.items) in
    let named = ap length c.self.invariant.globals in
    let few = c.sound.ensures.few in
    subst (λ (l : List (Vec ℕ)). length l < 2 ^ 32) (sym c.deref-3.ensures.value) (omega (arith, long, named, few))

pub pin_marks-requires-clause-may : goal.pin_marks-requires-clause-may
pin_marks-requires-clause-may g c =
    let a = c.self.inside in let d = a.wired.now.design in
    let job = c.args.job in
    let sound = subst (λ (x : Linked). IsSound x) c.design-design.ensures c.sound-2.ensures in
    let order_is : c.order-order.result.now ≡ d.order = c.order-order.ensures ∙ ap (λ (x : Linked). x.order) c.design-design.ensures in
    let lt : job < length d.order = subst (λ n. job < n) (ap (λ (z : PinJobs). length z.graph) (sym c.self.view_is) ∙ c.self.invariant.graph.jobs) c.requires.job in
    let links = links_here d a.links.items c.order-order.result.now job c.index-links.result.now c.deref-4.result.now sound c.self.invariant.links.count order_is lt c.index-links.ensures c.deref-4.ensures.value in
    waited d (tables_seen (read_by a)) c.self.invariant.gates (lists_of a.links.items) a.graph job c.deref-4.result.now (g.R.Reads.may_read c.args.reads.now) c.self.invariant.links links c.self.invariant.graph lt
    (λ i w. c.requires.inputs i (subst (λ (z : PinJobs). Waits z.graph job i) c.self.view_is w))

pub pin_marks-requires-clause-nets : goal.pin_marks-requires-clause-nets
pin_marks-requires-clause-nets g c = λ i l at.
    let a = c.self.inside in let w = a.wired.now in let d = w.design in let r = rules_seen w.rules in let t = tables_seen (read_by a) in
    let job = c.args.job in let order = c.order-order.result.now in
    let cell = slice_index order (length order - 1 - job) in
    let sound = subst (λ (x : Linked). IsSound x) c.design-design.ensures c.sound-2.ensures in
    let order_is : order ≡ d.order = c.order-order.ensures ∙ ap (λ (x : Linked). x.order) c.design-design.ensures in
    let same : c.below-cells.result ≡ read_by a = c.below-cells.ensures ∙ ap (λ (l : List (Option (Bor CellNets))). with_nets w (nets_of l)) c.deref.ensures.value in
    let here : cell ≡ downward_cell d job = ap (λ (o : List ℕ). slice_index o (length o - 1 - job)) order_is in
    let lt : job < length d.order = subst (λ n. job < n) (ap (λ (z : PinJobs). length z.graph) (sym c.self.view_is) ∙ c.self.invariant.graph.jobs) c.requires.job in
    let links = links_here d a.links.items order job c.index-links.result.now c.deref-4.result.now sound c.self.invariant.links.count order_is lt c.index-links.ensures c.deref-4.ensures.value in
    let k = known d r t c.self.invariant.gates sound c.sound.ensures.rules c.self.invariant.nets c.self.invariant.right in
    let count : length c.in_ok-tags.tags ≡ (t.nets (downward_cell d job)).count = c.in_ok-tags.ensures.count ∙ ap (λ (z : BelowSeen). ((tables_seen z).nets cell).count) same ∙ ap (λ n. (t.nets n).count) here in
    subst (λ n. l.net < n) (sym count) (net_in d r t c.self.invariant.gates (lists_of a.links.items) (downward_cell d job) c.deref-4.result.now k c.self.invariant.links links i l at)

pub returns : goal.returns
returns g c =
    let a = c.self.inside in let w = a.wired.now in let d = w.design in let r = rules_seen w.rules in let t = tables_seen (read_by a) in
    let job = c.args.job in let order = c.order-order.result.now in
    let cell = downward_cell d job in
    let value = g.R.Reads.value c.args.reads.now in
    let links = c.deref-4.result.now in
    let sound = subst (λ (x : Linked). IsSound x) c.design-design.ensures c.sound-2.ensures in
    let order_is : order ≡ d.order = c.order-order.ensures ∙ ap (λ (x : Linked). x.order) c.design-design.ensures in
    let same : c.below-cells.result ≡ read_by a = c.below-cells.ensures ∙ ap (λ (l : List (Option (Bor CellNets))). with_nets w (nets_of l)) c.deref.ensures.value in
    let here : slice_index order (length order - 1 - job) ≡ cell = ap (λ (o : List ℕ). slice_index o (length o - 1 - job)) order_is in
    let lt : job < length d.order = subst (λ n. job < n) (ap (λ (z : PinJobs). length z.graph) (sym c.self.view_is) ∙ c.self.invariant.graph.jobs) c.requires.job in
    let of = links_here d a.links.items order job c.index-links.result.now links sound c.self.invariant.links.count order_is lt c.index-links.ensures c.deref-4.ensures.value in
    let k = known d r t c.self.invariant.gates sound c.sound.ensures.rules c.self.invariant.nets c.self.invariant.right in
    let tags : AreTags (plain d) (wiring_of r) t cell c.in_ok-tags.tags =
    subst (λ n. AreTags (plain d) (wiring_of r) t n c.in_ok-tags.tags) here
    (subst (λ (z : BelowSeen). AreTags (plain z.design) (wiring_seen z) (tables_seen z) (slice_index order (length order - 1 - job)) c.in_ok-tags.tags) same c.in_ok-tags.ensures) in
    let read = waited d t c.self.invariant.gates (lists_of a.links.items) a.graph job links (λ i. IsSomeAnd (value i) (AreCellPins (plain d) r (downward_cell d i))) c.self.invariant.links of c.self.invariant.graph lt
    (λ i w. subst (λ (z : PinJobs). IsSomeAnd (value i) (AreCellPins (plain z.design) (rules_seen z.rules) (downward_cell z.design i))) (sym c.self.view_is)
    (c.requires.right i (subst (λ (z : PinJobs). Waits z.graph job i) c.self.view_is w))) in
    let v : CellPins = record { pin = c.in_ok-pin.pin; names = c.in_ok-names.names } in
    subst (λ (z : PinJobs). AreCellPins (plain z.design) (rules_seen z.rules) (downward_cell z.design job) v) c.self.view_is
    (cell_pins d r t c.self.invariant.gates value cell links v k (job_reached d job sound lt) (record {
      tags = c.in_ok-tags.tags;
      are_tags = tags;
      bases = c.in_ok-names.ensures;
      lists = lists_of a.links.items;
      are_links = c.self.invariant.links;
      of_cell = of;
      count = c.in_ok-pin.ensures.count;
      marked = c.in_ok-pin.ensures.marked;
      read = read;
    }))
