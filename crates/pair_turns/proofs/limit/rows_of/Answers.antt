use Rattle.std.proofs.Common.{◌≡◌, ◌+◌, ◌-◌, ◌<◌, ◌≤◌, ℕ, List, ◌∷◌, length, map, take, drop, sym, subst, rules}
use Rattle.std.specs.List.{All, sum_by}
use Rattle.net_model.specs.Rows.{plain_call, plain_circuit}
use Rattle.net_model.specs.declared.netlist.CallRow.{CallRow}
use Rattle.pair_turns.specs.Limit.{call_rows, capped, rows_of}
use Rattle.pair_turns.proofs.Lists.{all_rest, first_and_rest}
use Rattle.pair_turns.proofs.Sized.{rows_more}
use Rattle.pair_turns.proofs.limit.rows_of.Goals as goal

pub calls-preserved : goal.calls-preserved
calls-preserved c =
    let goes = c.args.goes.now in
    let sizes = c.args.sizes.now in
    let rest = c.calls.rest.now in
    let x = c.call-item.result in
    let some : 1 ≤ length rest = search rules in
    let e : rest ≡ x ∷ take (length rest - 1) (drop 1 rest) = first_and_rest rest x some c.call-item.is in
    let more = take (length rest - 1) (drop 1 rest) in
    let old = c.calls.invariant in
    let all = capped (rows_of goes sizes (plain_circuit c.args.circuit.now)) in
    let sum : capped (c.calls.rows + sum_by (call_rows goes sizes) (map plain_call (x ∷ more))) ≡ all =
    subst (λ (rs : List CallRow). capped (c.calls.rows + sum_by (call_rows goes sizes) (map plain_call rs)) ≡ all) e old.0 in
    let new : c.capped-rows-in-len1-up.result ≡ capped (c.calls.rows + call_rows goes sizes (plain_call x)) = search rules in
    let low : c.capped-rows-in-len1-up.result ≤ 16777217 = search rules in (
      subst (λ (n : ℕ). capped (n + sum_by (call_rows goes sizes) (map plain_call more)) ≡ all) (sym new) (rows_more goes sizes c.calls.rows (plain_call x) (map plain_call more) all sum),
      low,
      all_rest (λ (r : CallRow). r.circuit < length goes) x more (subst (λ (rs : List CallRow). All (λ (r : CallRow). r.circuit < length goes) rs) e old.2),
      all_rest (λ (r : CallRow). r.circuit < length sizes) x more (subst (λ (rs : List CallRow). All (λ (r : CallRow). r.circuit < length sizes) rs) e old.3),
    )
