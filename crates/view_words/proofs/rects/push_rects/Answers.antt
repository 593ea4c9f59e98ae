use Rattle.std.proofs.Common.{◌-◌, pos, length, take, drop, get_or}
use Rattle.geo_base.specs.declared.shapes.Rect.{Rect}
use Rattle.view_words.proofs.Rows.{first_and_rest, row_more}
use Rattle.view_words.proofs.rects.push_rects.Goals as goal

pub rects-preserved : goal.rects-preserved
rects-preserved c =
    let rest = c.rects.rest.now in
    let zero : Rect = record { x1 = pos 0; y1 = pos 0; x2 = pos 0; y2 = pos 0 } in
    let more = take (length rest - 1) (drop 1 rest) in
    row_more c.args.layer.now c.rects.out.items c.push_rect.new.out.items c.rects.corner c.upper_right-corner.result (get_or rest 0 zero) rest more c.args.out.now.items c.args.from
    c.args.rects.now c.rects.invariant (first_and_rest rest zero c.in-len1-up.len_at_least) c.in_ok-push_rect.ensures c.upper_right-corner.ensures
