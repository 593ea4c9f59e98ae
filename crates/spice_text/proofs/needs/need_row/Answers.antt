use Rattle.std.proofs.Common.{◌≡◌, ◌∙◌, ◌++◌, Result, Ok, Err, IfOk, [], List, ℕ, ap}
use Rattle.std.specs.Global.{Vec}
use Rattle.std.specs.List.{filter}
use Rattle.call_order.specs.Order.{lists}
use Rattle.spice_text.specs.Needs.{first_seen, used_nets}
use Rattle.spice_text.specs.Table.{with_numbers, rows_of, is_free, IsNeedRow}
use Rattle.spice_text.specs.Seen.{circuit_seen}
use Rattle.spice_text.proofs.NumberLemmas.{need_is}
use Rattle.spice_text.proofs.needs.need_row.Goals as goal

over : {E : Type 0} (P Q : Vec ℕ → Type 0) (r : Result (Vec ℕ) E) → ((row : Vec ℕ) → P row → Q row) → IfOk r P → IfOk r Q
over P Q (Ok row) f h = f row h
over P Q (Err e) f h = h

pub returns : goal.returns
returns c =
    let circuit = circuit_seen c.args.c.now in
    let rows = lists c.args.rows.now in
    let globals = c.args.globals.now.table in
    let called = c.args.called.now in
    let pins = first_seen [] circuit.pins in
    let found = c.push_rows.new.out.items in
    let numbers = c.rising-numbers.result.items in
    let is : found ≡ with_numbers globals [] (used_nets circuit) ++ rows_of rows called = c.in_ok-push_rows.ensures ∙ ap (λ (xs : List ℕ). xs ++ rows_of rows called) c.in_ok-found.ensures in
    let names : c.deref.result.now ≡ globals = c.deref.ensures.value ∙ c.requires.names in
    over (λ (row : Vec ℕ). row.items ≡ filter (is_free pins c.deref.result.now) c.deref-2.result.now) (λ (row : Vec ℕ). IsNeedRow circuit called rows globals row.items) c.less_pins.result
    (λ row e. need_is circuit called rows globals found numbers row.items c.requires.apart is c.rising-numbers.ensures.rising c.rising-numbers.ensures.same
    (e ∙ ap (λ (gs : List (List ℕ)). filter (is_free pins gs) c.deref-2.result.now) names ∙ ap (λ (xs : List ℕ). filter (is_free pins globals) xs) c.deref-2.ensures.value))
    c.less_pins.ensures
