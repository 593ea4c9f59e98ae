use Rattle.std.proofs.Common.{ℕ, Option, ◌<◌, ◌≤◌, ◌++◌, map, length, sym, ap, ◌∙◌, arith, rules}
use Rattle.std.specs.Global.{Vec}
use Rattle.std.proofs.lemmas.List.{length-map}
use Rattle.view_netlist.specs.declared.drawing.Shape.{Shape}
use Rattle.view_joined.specs.Moved.{moved_shape}
use Rattle.view_joined.specs.Nets.{put_if, shape_lists}
use Rattle.view_joined.proofs.Put.{put_past, set_put}
use Rattle.view_joined.proofs.nets.put_if.Goals as goal

pub returns-in_ok-push_moved : goal.returns-in_ok-push_moved
returns-in_ok-push_moved c =
    let lists = c.args.lists.now.items in
    let xs = map (moved_shape c.args.motion.now) c.args.shapes.now in
    let low : c.in-Some.q < length lists = search rules in
    set_put lists c.in-Some.q c.push_moved.new.out c.index_mut.result.now xs low (c.in_ok-push_moved.ensures.moved ∙ ap (λ (l : Vec Shape). l.items ++ xs) c.index_mut.ensures.value)
    ∙ ap (λ (o : Option ℕ). put_if o xs (shape_lists lists)) (sym c.in-Some.is)

pub returns-else-q-len : goal.returns-else-q-len
returns-else-q-len c =
    let lists = c.args.lists.now.items in
    let xs = map (moved_shape c.args.motion.now) c.args.shapes.now in
    let high : length lists ≤ c.in-Some.q = search rules in
    let long = length-map lists (λ l. l.items) in
    put_past (shape_lists lists) c.in-Some.q xs (omega arith)
    ∙ ap (λ (o : Option ℕ). put_if o xs (shape_lists lists)) (sym c.in-Some.is)
