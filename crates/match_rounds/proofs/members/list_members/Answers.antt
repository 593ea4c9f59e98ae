use Rattle.std.proofs.Common.{◌<◌, ◌∙◌, ◌∷◌, ◌++◌, [], ℕ, ap, arith}
use Rattle.match_parts.proofs.Read.{read}
use Rattle.match_rounds.specs.Classes.{class_count}
use Rattle.match_rounds.proofs.Spans.{extended}
use Rattle.match_rounds.proofs.members.list_members.Goals as goal

pub loop-i-preserved : goal.loop-i-preserved
loop-i-preserved c =
    let begins = c.requires.classes.begins in
    let marks = c.requires.classes.marks in
    let ed = read c.args.classes.now.marks.fresh.items c.loop-i.i c.index.result.now (omega arith) c.index.ensures in
    let low : c.index.result.now < class_count c.args.classes.now = let b = c.requires.listed.below c.loop-i.i (omega arith) in omega arith in
    extended c.args.classes.now c.loop-i.members.items c.copy_nodes.new.members.items c.loop-i.ends.items c.push.new.self.items c.deref.result.now c.loop-i.i c.index.result.now c.index-in-loop-i.result.now c.index-in-loop-i-2.result.now
    c.loop-i.invariant ed
    (read c.args.classes.now.begin.items c.index.result.now c.index-in-loop-i.result.now (omega arith) c.index-in-loop-i.ensures)
    (read c.args.classes.now.counts.size.items c.index.result.now c.index-in-loop-i-2.result.now low c.index-in-loop-i-2.ensures)
    c.deref.ensures.value c.in_ok-copy_nodes.ensures
    (c.in_ok-push.ensures.items ∙ ap (λ (v : ℕ). c.loop-i.ends.items ++ v ∷ []) (let e = c.len.ensures in omega arith))
