use Rattle.std.proofs.Common.{◌++◌, ◌∷◌, [], ◌∙◌, ℕ, List, sym, ap, pos, get_or}
use Rattle.tile_index.specs.declared.entries.Entry.{Entry}
use Rattle.tile_index.proofs.Walks.{hit_pushed, hit_passed}
use Rattle.tile_index.proofs.tree.push_hits.Goals as goal
use Rattle.tile_index.proofs.tree.push_hits.Goals.{then-meets+in_ok-push, else-meets}

pub loop-entry-preserved : goal.loop-entry-preserved
loop-entry-preserved c =
    let d : Entry = record { rect = record { x1 = pos 0; y1 = pos 0; x2 = pos 0; y2 = pos 0 }; position = 0 } in
    let i = c.loop-entry.entry-index in
    let entries = c.args.entries.now in
    let window = c.args.w.now in
    elim c.if-meets.branch [
      | then-meets+in_ok-push w ↦
          rw w.found-is (
          (w.in_ok-push.ensures {u = tt}).items
          ∙ ap (λ (ks : List ℕ). ks ++ (get_or entries i d).position ∷ []) c.loop-entry.invariant
          ∙ hit_pushed window entries i d c.args.found.now.items c.loop-entry-test.true (sym c.meets.ensures.exact ∙ w.if-meets.true))
      | else-meets w ↦
          rw w.found-is (
          c.loop-entry.invariant
          ∙ ap (λ (ks : List ℕ). c.args.found.now.items ++ ks) (hit_passed window entries i d c.loop-entry-test.true (sym c.meets.ensures.exact ∙ w.if-meets.false)))
    ]
