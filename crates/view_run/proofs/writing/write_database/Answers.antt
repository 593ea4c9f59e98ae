use Rattle.std.proofs.Common.{◌∙◌, ℕ, List, map, sym, subst}
use Rattle.call_order.specs.Order.{AreInRange, ReachesItself}
use Rattle.net_model.specs.Faults.{called_by}
use Rattle.net_model.specs.Rows.{plain_circuit, plain_netlist}
use Rattle.net_model.specs.declared.netlist.Circuit.{Circuit}
use Rattle.view_file.specs.Cross.{lists_of}
use Rattle.view_run.proofs.Naming.{top_name}
use Rattle.view_run.proofs.Ordering.{none_ordered, some_ordered}
use Rattle.view_run.proofs.Shown.{whole_none, whole_some}
use Rattle.view_run.proofs.writing.write_database.Goals as goal

pub database-requires-clause-range : goal.database-requires-clause-range
database-requires-clause-range c =
    let h = some_ordered (plain_netlist c.args.showing.now.both.now.schematic) c.args.showing.now.compared.now c.in-Some.found c.in-Some.is c.requires.ordered in
    subst (λ (xs : List Circuit). AreInRange (map called_by (map plain_circuit xs))) (sym c.deref-in-Some-2.ensures.value) h.range

pub database-requires-clause-no_cycle : goal.database-requires-clause-no_cycle
database-requires-clause-no_cycle c =
    let h = some_ordered (plain_netlist c.args.showing.now.both.now.schematic) c.args.showing.now.compared.now c.in-Some.found c.in-Some.is c.requires.ordered in
    subst (λ (xs : List Circuit). (k : ℕ) → ReachesItself (map called_by (map plain_circuit xs)) k → ⊥) (sym c.deref-in-Some-2.ensures.value) h.no_cycle

pub database-requires-in-None-clause-range : goal.database-requires-in-None-clause-range
database-requires-in-None-clause-range c =
    let h = none_ordered (plain_netlist c.args.showing.now.both.now.schematic) c.args.showing.now.compared.now c.in-None.is c.requires.ordered in
    subst (λ (xs : List Circuit). AreInRange (map called_by (map plain_circuit xs))) (sym c.deref-in-None-2.ensures.value) h.range

pub database-requires-in-None-clause-no_cycle : goal.database-requires-in-None-clause-no_cycle
database-requires-in-None-clause-no_cycle c =
    let h = none_ordered (plain_netlist c.args.showing.now.both.now.schematic) c.args.showing.now.compared.now c.in-None.is c.requires.ordered in
    subst (λ (xs : List Circuit). (k : ℕ) → ReachesItself (map called_by (map plain_circuit xs)) k → ⊥) (sym c.deref-in-None-2.ensures.value) h.no_cycle

pub returns-in_ok-number-in-Some : goal.returns-in_ok-number-in-Some
returns-in_ok-number-in-Some c =
    let named = c.bytes-cell.ensures.same ∙ top_name c.args.showing.now.layout.now.design c.top.result c.name.result.now c.sound.ensures.top c.top.ensures c.name.ensures in
    rw (c.in-Some.is, sym c.in_ok-logs-in-Some.ensures, sym named, sym c.from.ensures, sym c.deref.ensures.value, sym c.deref-in-Some.ensures.value, sym c.deref-in-Some-2.ensures.value) c.database.ensures

pub returns-in_ok-number-in-None : goal.returns-in_ok-number-in-None
returns-in_ok-number-in-None c =
    let named = c.bytes-cell.ensures.same ∙ top_name c.args.showing.now.layout.now.design c.top.result c.name.result.now c.sound.ensures.top c.top.ensures c.name.ensures in
    rw (c.in-None.is, sym named, sym c.from.ensures, sym c.deref-in-None.ensures.value, sym c.deref-in-None-2.ensures.value) c.database-in-None.ensures

pub database-requires-clause-whole : goal.database-requires-clause-whole
database-requires-clause-whole c =
    whole_some (plain_netlist c.args.showing.now.both.now.layout) (plain_netlist c.args.showing.now.both.now.schematic) c.args.showing.now.compared.now c.in-Some.found (lists_of c.args.rows.now) _ _ c.in-Some.is c.deref-in-Some.ensures.value c.deref-in-Some-2.ensures.value c.requires.whole

pub database-requires-in-None-clause-whole : goal.database-requires-in-None-clause-whole
database-requires-in-None-clause-whole c =
    whole_none c.args.showing.now.both.now.layout c.args.showing.now.both.now.schematic c.args.showing.now.compared.now (lists_of c.args.rows.now) _ _ c.in-None.is c.deref-in-None.ensures.value c.deref-in-None-2.ensures.value c.requires.whole
