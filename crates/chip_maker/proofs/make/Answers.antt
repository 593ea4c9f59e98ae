use Rattle.std.proofs.Common.{◌≡◌, ℕ, ◌+◌, ◌/◌, ◌≤◌, List, length, ◌∙◌, ap, arith}
use Rattle.std.proofs.lemmas.List.FromFn.{length-map-range_with_len}
use Rattle.chip_maker.specs.Inverters.{row, rows}
use Rattle.chip_maker.specs.declared.inverters.Kind.{Kind}
use Rattle.chip_maker.proofs.make.Goals as goal

few : (n s : ℕ) (found : List (List Kind)) → n ≤ 100000 → found ≡ rows n s → length found ≤ 1000
few n s found h e =
    let count : length found ≡ (n + 99) / 100 = ap (λ (xs : List (List Kind)). length xs) e ∙ length-map-range_with_len (row n s) 0 ((n + 99) / 100) in omega arith

pub stream_bytes-requires : goal.stream_bytes-requires
stream_bytes-requires c = few c.args.n c.args.seed c.deref.result.now c.requires.most (c.deref.ensures.value ∙ c.in_ok-rows.ensures)

pub netlist_text-requires : goal.netlist_text-requires
netlist_text-requires c = few c.args.n c.args.seed c.deref-2.result.now c.requires.most (c.deref-2.ensures.value ∙ c.in_ok-rows.ensures)
