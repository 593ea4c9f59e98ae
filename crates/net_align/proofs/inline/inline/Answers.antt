use Rattle.std.proofs.Common.{rules, arith, ◌≡◌, ◌<◌, ◌≤◌, length, map, true, false, List, cond, refl, ap, ◌∙◌}
use Rattle.std.proofs.lemmas.List.{take_all}
use Rattle.std.proofs.lemmas.Option.{slice_get_read}
use Rattle.plain_netlist.specs.Netlist.{Circuit}
use Rattle.net_model.specs.Rows.{plain_call, plain_circuit}
use Rattle.net_model.specs.declared.netlist.CallRow.{CallRow as Call}
use Rattle.net_align.specs.Laid.{laid, all_laid, own_part, goes_of}
use Rattle.net_align.proofs.Laying.{laying_step, cond_true, cond_false}
use Rattle.net_align.proofs.inline.inline.Goals.{then-goes-call+in_ok-lay_call, else-goes-call}
use Rattle.net_align.proofs.inline.inline.Goals as goal

pub loop-k-init : goal.loop-k-init
loop-k-init g c = c.in_ok-flat.ensures

pub bounds-goes-call : goal.bounds-goes-call
bounds-goes-call g c =
    let calls = c.args.given.now.calls.items in
    let below : c.loop-k.k < length calls = search rules in
    c.requires.0 c.loop-k.k c.index-call.result.now (slice_get_read calls (length calls) c.loop-k.k c.index-call.result.now refl below c.index-call.ensures)

pub lay_call-requires : goal.lay_call-requires
lay_call-requires g c =
    let calls = c.args.given.now.calls.items in
    let below : c.loop-k.k < length calls = search rules in
    let goes : goes_of c.args.goes.now c.index-call.result.now.circuit ≡ true = search rules in (
      omega arith,
      c.requires.1 c.loop-k.k c.index-call.result.now (slice_get_read calls (length calls) c.loop-k.k c.index-call.result.now refl below c.index-call.ensures) goes,
    )

pub loop-k-preserved : goal.loop-k-preserved
loop-k-preserved g c =
    let calls = c.args.given.now.calls.items in
    let goes = goes_of c.args.goes.now in
    let row = c.index-call.result.now in
    let now = plain_circuit c.loop-k.flat in
    let below : c.loop-k.k < length calls = search rules in
    let put : Circuit = laid c.loop-k.k (plain_call row) (g.f row.circuit) now in
    let step : plain_circuit c.if-goes-call.flat ≡ cond (goes row.circuit) put now
    = elim c.if-goes-call.branch [
      | then-goes-call+in_ok-lay_call w ↦
          let is : goes row.circuit ≡ true = search rules in
          ap plain_circuit w.flat-is ∙ (w.in_ok-lay_call.ensures ∙ cond_true (goes row.circuit) put now is)
      | else-goes-call w ↦
          let is : goes row.circuit ≡ false = search rules in
          ap plain_circuit w.flat-is ∙ cond_false (goes row.circuit) put now is
    ] in
    laying_step goes g.f calls c.loop-k.k row (own_part goes (plain_circuit c.args.given.now)) now (plain_circuit c.if-goes-call.flat) below c.index-call.ensures c.loop-k.invariant step

pub returns : goal.returns
returns g c =
    let calls = c.args.given.now.calls.items in
    let long : length calls ≤ c.loop-k.k = search rules in
    c.loop-k.invariant ∙ ap (λ (t : List Call). all_laid (goes_of c.args.goes.now) g.f 0 (map plain_call t) (own_part (goes_of c.args.goes.now) (plain_circuit c.args.given.now))) (take_all c.loop-k.k calls long)
