use Rattle.std.proofs.Common.{rules, arith, w64, ◌+◌, ◌^◌}
use mir.Val.{SFits}
use Rattle.std.proofs.lemmas.Int.{to_z-of_z}
use Rattle.sized_layers.proofs.Sizing.{IsAlong, AreSized, near_set, set_along, set_flip, set_sized, both}
use Rattle.sized_layers.proofs.sizes.size.Goals as goal

pub along-requires-2-clause-near : goal.along-requires-2-clause-near
along-requires-2-clause-near c =
    let f : SFits w64 c.args.d = search rules in
    let one : IsAlong c.args.d c.args.a.now c.in_ok-rows.rows = record { each = simp to_z-of_z at c.in_ok-rows.ensures } in
    let rows = set_along (2 ^ 39) c.args.d c.args.a.now c.in_ok-rows.rows c.requires.size c.requires.within one in
    near_set (2 ^ 39 + 10000) c.in_ok-turned.turned (omega arith) (set_flip (2 ^ 39 + 10000) c.in_ok-rows.rows c.in_ok-turned.turned rows (record { each = c.in_ok-turned.ensures }))

pub flipped-requires-2 : goal.flipped-requires-2
flipped-requires-2 c =
    let f : SFits w64 c.args.d = search rules in
    let one : IsAlong c.args.d c.args.a.now c.in_ok-rows.rows = record { each = simp to_z-of_z at c.in_ok-rows.ensures } in
    let two : IsAlong c.args.d c.in_ok-turned.turned c.in_ok-columns.columns = record { each = simp to_z-of_z at c.in_ok-columns.ensures } in
    let rows = set_along (2 ^ 39) c.args.d c.args.a.now c.in_ok-rows.rows c.requires.size c.requires.within one in
    let turned = set_flip (2 ^ 39 + 10000) c.in_ok-rows.rows c.in_ok-turned.turned rows (record { each = c.in_ok-turned.ensures }) in
    let columns = set_along (2 ^ 39 + 10000) c.args.d c.in_ok-turned.turned c.in_ok-columns.columns c.requires.size turned two in
    near_set (2 ^ 39 + 10000 + 10000) c.in_ok-columns.columns (omega arith) columns

pub returns : goal.returns
returns c =
    let f : SFits w64 c.args.d = search rules in
    let one : IsAlong c.args.d c.args.a.now c.in_ok-rows.rows = record { each = simp to_z-of_z at c.in_ok-rows.ensures } in
    let two : IsAlong c.args.d c.in_ok-turned.turned c.in_ok-columns.columns = record { each = simp to_z-of_z at c.in_ok-columns.ensures } in
    let sized : AreSized c.args.d c.args.a.now c.in_ok-set.set = record {
      each = both c.args.d c.args.a.now c.in_ok-rows.rows c.in_ok-turned.turned c.in_ok-columns.columns c.in_ok-set.set
          one (record { each = c.in_ok-turned.ensures }) two (record { each = c.in_ok-set.ensures });
    } in
    record { squares = sized.each; range = λ n. set_sized n c.args.d c.args.a.now c.in_ok-set.set sized }
