use Rattle.std.proofs.Common.{◌≡◌, Bool, false, ap, ◌∙◌, length, rules}
use Rattle.std.specs.Prelude.{◌||◌, ◌==◌, slice_index_or}
use Rattle.std.specs.List.{list_any}
use Rattle.text_table.proofs.TableLemmas.{any_of}
use Rattle.plain_netlist.specs.Netlist.{CallRow as PlainCall}
use Rattle.net_model.specs.Rows.{plain_call, plain_circuit}
use Rattle.pair_turns.proofs.Marked.{called_apart, none_called}
use Rattle.pair_turns.proofs.marks.mark_apart.Goals as goal

pub returns-then-not-call_none-clause-each : goal.returns-then-not-call_none-clause-each
returns-then-not-call_none-clause-each c j =
    let left = plain_circuit c.args.left.now in
    let right = plain_circuit c.args.right.now in
    let old = slice_index_or c.args.marks.now.items j false in
    let mid = slice_index_or c.mark_called.new.marks.items j false in
    let new = slice_index_or c.mark_called-then-not-call_none.new.marks.items j false in
    let none : none_called left right ≡ false = search rules in
    let lefts : mid ≡ (old || list_any (λ r. r.circuit == j) c.args.left.now.calls.items) = search rules in
    let rights : new ≡ (mid || list_any (λ r. r.circuit == j) c.args.right.now.calls.items) = search rules in
    called_apart (length c.args.marks.now.items) c.args.k j left right old mid new none
    (lefts ∙ ap (λ (b : Bool). old || b) (any_of (λ (r : PlainCall). r.circuit == j) plain_call c.args.left.now.calls.items))
    (rights ∙ ap (λ (b : Bool). mid || b) (any_of (λ (r : PlainCall). r.circuit == j) plain_call c.args.right.now.calls.items))
