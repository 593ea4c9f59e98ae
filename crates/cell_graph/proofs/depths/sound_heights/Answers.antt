use Rattle.std.proofs.Common.{subst, List, ℕ, length, ◌<◌, ◌≤◌}
use Rattle.std.proofs.lemmas.Result.{err_from_is_err_and}
use Rattle.cell_graph.specs.Chains.{IsFirst}
use Rattle.cell_graph.specs.Rising.{height_in}
use Rattle.cell_graph.proofs.Looking.{parts_resolved, parts_no_loose}
use Rattle.cell_graph.proofs.Calling.{draft_heights, none_deep, first_deep}
use Rattle.cell_graph.proofs.depths.sound_heights.Goals as goal

pub returns-in_err-order-clause-fault : goal.returns-in_err-order-clause-fault
returns-in_err-order-clause-fault c top =
    let p = err_from_is_err_and c.from_residual.result c.from_residual.ensures.1 in
    rw (p.1, p.2) (c.in_err-order.ensures.fault top)

pub heights_along-requires-clause-resolved : goal.heights_along-requires-clause-resolved
heights_along-requires-clause-resolved c = parts_resolved c.args.cells.now c.args.parts.now c.requires.few c.requires.parts

pub returns-in-None-clause-heights : goal.returns-in-None-clause-heights
returns-in-None-clause-heights c =
    let hs = c.in_ok-heights.heights.items in
    let h = c.in_ok-heights.ensures {u = tt} in
    let low : (i : ℕ) → i < length hs → 65 ≤ height_in hs i → ⊥ = subst (λ (xs : List ℕ). (i : ℕ) → i < length xs → 65 ≤ height_in xs i → ⊥) c.deref-2.ensures.value (c.in-None.ensures {u = tt}) in
    draft_heights c.args.cells.now c.args.parts.now hs c.requires.once c.requires.parts h.count h.heights low

pub returns-in-None-clause-sound : goal.returns-in-None-clause-sound
returns-in-None-clause-sound c =
    let hs = c.in_ok-heights.heights.items in
    let h = c.in_ok-heights.ensures {u = tt} in
    let low : (i : ℕ) → i < length hs → 65 ≤ height_in hs i → ⊥ = subst (λ (xs : List ℕ). (i : ℕ) → i < length xs → 65 ≤ height_in xs i → ⊥) c.deref-2.ensures.value (c.in-None.ensures {u = tt}) in
    record {
      few = c.requires.few;
      once = c.requires.once;
      resolved = parts_no_loose c.args.cells.now c.args.parts.now c.requires.parts;
      no_cycle = (c.in_ok-order.ensures {u = tt}).no_cycle;
      no_deep = none_deep c.args.cells.now hs (draft_heights c.args.cells.now c.args.parts.now hs c.requires.once c.requires.parts h.count h.heights low) low;
    }

pub returns-clause-fault : goal.returns-clause-fault
returns-clause-fault c top =
    let hs = c.in_ok-heights.heights.items in
    let h = c.in_ok-heights.ensures {u = tt} in
    let i = c.in-Some.i in
    let found = c.in-Some.ensures {u = tt} in
    let lt : i < length hs = subst (λ (xs : List ℕ). i < length xs) c.deref-2.ensures.value found.0 in
    let first : IsFirst (λ k. 65 ≤ height_in hs k) i = subst (λ (xs : List ℕ). IsFirst (λ k. 65 ≤ height_in xs k) i) c.deref-2.ensures.value found.1 in (
      c.requires.few,
      c.requires.once,
      parts_no_loose c.args.cells.now c.args.parts.now c.requires.parts,
      (c.in_ok-order.ensures {u = tt}).no_cycle,
      (i, c.in_ok-name_at-in-Some.ensures {u = tt}, first_deep c.args.cells.now c.args.parts.now hs i c.requires.once c.requires.parts h.count h.heights lt first),
    )
