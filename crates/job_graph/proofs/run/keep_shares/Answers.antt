use Rattle.std.proofs.Common.{ℕ, ◌∷◌, All, IfOk, Result}
use Rattle.std.specs.Global.{Vec}
use Rattle.std.specs.declared.alloc.AllocError.{AllocError}
use Rattle.std.proofs.lemmas.List.Elements.{All-tail}
use Rattle.job_graph.specs.Sharing.{IsRight}
use Rattle.job_graph.proofs.run.keep_shares.Goals as goal

pub loop-share-preserved : goal.loop-share-preserved
loop-share-preserved g c =
    let P : Result (Vec (ℕ × g.row.P-Out.Denot)) AllocError → Type 0 = λ s. IfOk s (λ v. All (IsRight g.P.Out.Defined.is_defined (g.P.Phase.key c.args.phase.now) (g.P.Phase.graph c.args.phase.now)) v.items) in
    let v = c.loop-share.invariant in
    let left : All P (c.in-Some.share ∷ c.next.new.self.rest.items) = rw (c.in-Some.ensures {u = tt}).steps.0 at v.left in
    record {
      right = c.keep_share.ensures.right;
      keeps = λ job h. c.keep_share.ensures.keeps job (v.keeps job h);
      left = All-tail P c.in-Some.share c.next.new.self.rest.items left;
    }
