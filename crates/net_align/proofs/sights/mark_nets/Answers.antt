use Rattle.std.proofs.Common.{◌<◌, ℕ, Bool, true, List, take, length, sym, ap, ◌∙◌, rules}
use Rattle.std.specs.Prelude.{slice_set, slice_index_or}
use Rattle.std.proofs.lemmas.List.{take_more}
use Rattle.net_align.specs.Marks.{marked}
use Rattle.net_align.proofs.Marking.{marked_more}
use Rattle.net_align.proofs.sights.mark_nets.Goals as goal

pub loop-net-preserved : goal.loop-net-preserved
loop-net-preserved c =
    let nets = c.args.nets.now in
    let i = c.loop-net.net-index in
    let n = slice_index_or nets i 0 in
    let old = c.args.marks.now.items in
    let below : i < length nets = search rules in
    ap (λ (t : List Bool). slice_set t n true) c.loop-net.invariant
    ∙ (sym (marked_more (take i nets) n old)
    ∙ ap (λ (t : List ℕ). marked t old) (sym (take_more nets i 0 below)))
