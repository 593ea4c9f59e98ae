use Rattle.std.proofs.Common.{◌≡◌, ◌∙◌, Result, Ok, Err, IfOk, List, ℕ}
use Rattle.call_order.specs.Order.{lists}
use Rattle.spice_text.specs.Table.{needed_of}
use Rattle.spice_text.specs.Seen.{circuit_seen}
use Rattle.spice_text.specs.declared.nets.Nets.{Nets}
use Rattle.spice_text.proofs.MeansLemmas.{seen_appearances}
use Rattle.spice_text.proofs.circuits.nets_of.Goals as goal

over : {E : Type 0} (r : Result Nets E) (a b : List (List ℕ)) → a ≡ b → IfOk r (λ nets. nets.table ≡ a) → IfOk r (λ nets. nets.table ≡ b)
over (Ok nets) a b e h = h ∙ e
over (Err x) a b e h = h

pub returns-clause-table : goal.returns-clause-table
returns-clause-table c =
    let names = c.args.names.now in
    over c.seen_nets.result _ _ (seen_appearances names (needed_of (lists c.args.rows.now) c.args.globals.now) c.args.k (circuit_seen c.args.c.now)) c.seen_nets.ensures.table
