use Rattle.std.proofs.Common.{◌≡◌, ℕ, List, map, Some, refl, arith, Bor}
use Rattle.std.proofs.lemmas.Option.{slice_get_within}
use Rattle.std.proofs.lemmas.List.{length-map}
use Rattle.plain_netlist.specs.Netlist.{CallRow}
use Rattle.net_model.specs.Rows.{plain_call}
use Rattle.match_types.specs.Children.{children_of}
use Rattle.match_parts.proofs.Read.{row}
use Rattle.refine_match.proofs.Known.{known, more}
use Rattle.refine_match.proofs.called.first_unmatched.Goals as goal

pub returns-then-is_none-clause-some : goal.returns-then-is_none-clause-some
returns-then-is_none-clause-some c = λ right. record {
  number = c.loop-k.k;
  call = plain_call c.index.result.now;
  is = row plain_call c.args.left.now.calls.items c.loop-k.k c.index.result.now (omega arith) c.index.ensures;
  pair_is = refl;
  none = c.get.ensures.none.0 c.if-is_none.ensures;
  before = λ j r l g. c.loop-k.invariant j r l g;
}

pub loop-k-preserved : goal.loop-k-preserved
loop-k-preserved c =
    let f = known c.get.result (λ (pins : Bor (List ℕ)). children_of c.args.children.now c.index.result.now.circuit ≡ Some pins.now) c.if-is_none.ensures c.get.ensures.some in
    more (λ (r : CallRow). (pins : List ℕ) × (children_of c.args.children.now r.circuit ≡ Some pins)) (map plain_call c.args.left.now.calls.items) c.loop-k.k (plain_call c.index.result.now) c.loop-k.invariant
    (row plain_call c.args.left.now.calls.items c.loop-k.k c.index.result.now (omega arith) c.index.ensures) (f.0.now, f.1)

pub returns-clause-none : goal.returns-clause-none
returns-clause-none c e right k r g =
    let w = slice_get_within (map plain_call c.args.left.now.calls.items) k r g in
    let n = length-map c.args.left.now.calls.items plain_call in
    c.loop-k.invariant k r (omega arith) g
