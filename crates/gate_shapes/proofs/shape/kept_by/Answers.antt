use Rattle.std.proofs.Common.{◌≡◌, ◌+◌, ◌∙◌, sym, ap, subst, arith, ℕ, List, Some}
use Rattle.std.specs.Prelude.{slice_get, Vec}
use Rattle.std.specs.Global.{Global}
use Rattle.std.proofs.lemmas.Option.{slice_get-get_or}
use Rattle.geo_base.specs.declared.shapes.Rect.{Rect}
use Rattle.gate_shapes.specs.Shapes.{KeptSoFar}
use Rattle.gate_shapes.proofs.Groups.{kept_none, kept_skip, kept_push, kept_all}
use Rattle.gate_shapes.proofs.shape.kept_by.Goals as goal
use Rattle.gate_shapes.proofs.shape.kept_by.Goals.{then-branch+in_ok-push, else-branch}

pub loop-i-init : goal.loop-i-init
loop-i-init c = subst (λ (l : List ℕ). KeptSoFar c.args.groups.now c.args.touched.now 0 l) (sym c.new-kept.ensures.items) (kept_none c.args.groups.now c.args.touched.now)

pub loop-i-preserved : goal.loop-i-preserved
loop-i-preserved c =
    let groups = c.args.groups.now in
    let group : List Rect = c.index-groups-i.result in
    let at : slice_get groups c.loop-i.i ≡ Some group = slice_get-get_or groups c.loop-i.i group (omega arith) ∙ ap (λ (v : List Rect). Some v) (sym c.index-groups-i.is) in
    elim c.if-branch.branch [
      | then-branch+in_ok-push w ↦
          subst (λ (v : Vec ℕ Global). KeptSoFar groups c.args.touched.now (c.loop-i.i + 1) v.items) (sym w.kept-is)
          (subst (λ (l : List ℕ). KeptSoFar groups c.args.touched.now (c.loop-i.i + 1) l) (sym w.in_ok-push.ensures.items)
          (kept_push groups c.args.touched.now c.loop-i.i c.loop-i.kept.items group at (c.in_ok-meets.ensures.yes w.if-branch.true) c.loop-i.invariant))
      | else-branch w ↦
          subst (λ (v : Vec ℕ Global). KeptSoFar groups c.args.touched.now (c.loop-i.i + 1) v.items) (sym w.kept-is)
          (kept_skip groups c.args.touched.now c.loop-i.i c.loop-i.kept.items group at (c.in_ok-meets.ensures.no w.if-branch.false) c.loop-i.invariant)
    ]

pub returns : goal.returns
returns c = kept_all c.args.groups.now c.args.touched.now c.loop-i.i c.loop-i.kept.items (omega arith) c.loop-i.invariant
