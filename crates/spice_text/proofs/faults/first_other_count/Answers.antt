use Rattle.std.proofs.Common.{sym, subst, map, Option, ℕ}
use Rattle.spice_text.specs.Faults.{HasCall, FindsLeast, is_other_count}
use Rattle.spice_text.specs.Seen.{circuit_seen}
use Rattle.spice_text.proofs.SearchLemmas.{least_is}
use Rattle.spice_text.proofs.faults.first_other_count.Goals as goal

pub returns : goal.returns
returns c =
    let cs = map circuit_seen c.args.circuits.now in
    subst (λ (o : Option ℕ). FindsLeast (HasCall cs (is_other_count cs)) o) (sym c.least_line.ensures) (least_is (is_other_count cs) cs)
