use Rattle.std.proofs.Common.{◌≡◌, ◌+◌, ◌-◌, ◌*◌, min, map, ◌++◌, [], ◌∷◌, List, ◌∙◌, ap, sym, arith}
use Rattle.std.specs.List.{range_with_len}
use Rattle.std.proofs.lemmas.List.FromFn.{map-range_with_len_more}
use Rattle.chip_maker.specs.Inverters.{row}
use Rattle.chip_maker.specs.declared.inverters.Kind.{Kind}
use Rattle.chip_maker.proofs.Drawing.{one_row, state_after}
use Rattle.chip_maker.proofs.inverters.rows.Goals as goal

pub loop-i-preserved : goal.loop-i-preserved
loop-i-preserved c =
    let n = c.args.n in
    let s = c.args.seed in
    let i = c.loop-i.i in
    let k = n - (n - 100 * i) in
    let m = c.min.result in
    let kinds = c.in_ok-draw_row.field-0 in
    let start : k ≡ 100 * i = omega arith in
    let count : m ≡ min 100 (n - 100 * i) = omega (arith, c.min.ensures) in
    let end : k + m ≡ n - (n - 100 * (i + 1)) = omega (arith, count) in
    let is = one_row n s i k m c.loop-i.state kinds start count c.loop-i.invariant.1 c.in_ok-draw_row.ensures.row in (
      c.in_ok-push.ensures.items ∙ ap (λ (rows : List (List Kind)). rows ++ kinds ∷ []) c.loop-i.invariant.0
          ∙ ap (λ (last : List Kind). map (row n s) (range_with_len 0 i) ++ last ∷ []) is ∙ sym (map-range_with_len_more (row n s) 0 i i (omega arith)),
      state_after s k m c.loop-i.state c.draw_row.new.state (n - (n - 100 * (i + 1))) c.loop-i.invariant.1 c.in_ok-draw_row.ensures.state end,
    )
