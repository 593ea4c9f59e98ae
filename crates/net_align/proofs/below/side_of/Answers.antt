use Rattle.std.proofs.Common.{ℕ, List, Bool, sym, subst}
use Rattle.call_order.specs.Order.{IsCallOrder}
use Rattle.net_model.specs.Faults.{call_lists}
use Rattle.net_model.specs.Rows.{plain_netlist}
use Rattle.net_align.specs.Flattened.{AreClosed}
use Rattle.net_align.specs.Side.{AreMarkedCircuits}
use Rattle.net_align.specs.Walked.{AreHolding}
use Rattle.net_align.proofs.BelowTop.{is_given}
use Rattle.net_align.proofs.below.side_of.Goals as goal

pub align_side-requires : goal.align_side-requires
align_side-requires c =
    let nl = plain_netlist c.args.selection.now.netlist.now in
    let order : IsCallOrder (call_lists nl) c.deref.result.now = subst (λ (t : List ℕ). IsCallOrder (call_lists nl) t) (sym c.deref.ensures.value) c.requires.tables.order in (
      is_given nl c.requires.netlist c.deref.result.now order c.deref-2.result.now c.deref-3.result.now c.args.selection.now.circuits.now,
      (
        order,
        (
          subst (λ (t : List Bool). AreClosed nl t) (sym c.deref-2.ensures.value) c.requires.tables.closed,
          (
            subst (λ (t : List Bool). AreHolding nl t) (sym c.deref-3.ensures.value) c.requires.tables.holds,
            (subst (λ (t : List Bool). AreMarkedCircuits nl t c.args.selection.now.circuits.now) (sym c.deref-2.ensures.value) c.requires.marked, c.requires.apart),
          ),
        ),
      ),
    )
