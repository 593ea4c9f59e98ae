use Rattle.std.proofs.Common.{◌+◌, ◌-◌, List, [], ◌∷◌, ◌++◌, ◌∙◌, ap}
use Rattle.view_cross.specs.declared.rows.Row.{Row}
use Rattle.view_cross.specs.Matched.{left_alone, lone_rows, right_alone}
use Rattle.view_cross.proofs.Alone.{one_more}
use Rattle.view_cross.proofs.matched.push_alone.Goals as goal

pub lefts-preserved : goal.lefts-preserved
lefts-preserved c =
    let row = left_alone c.args.kind in
    let out = c.lefts.out.items in
    let k = c.lefts.k in
    let n = c.args.lefts in
    ap (λ (o : List Row). o ++ lone_rows row (k + 1) (n - (k + 1))) (c.in_ok-push.ensures.items ∙ ap (λ (r : Row). out ++ r ∷ []) c.left_alone.ensures)
    ∙ one_more row out (c.args.out.now.items ++ lone_rows row 0 n) k n c.lefts-test.true c.lefts.invariant

pub rights-preserved : goal.rights-preserved
rights-preserved c =
    let row = right_alone c.args.kind in
    let out = c.rights.out.items in
    let k = c.rights.k in
    let n = c.args.rights in
    ap (λ (o : List Row). o ++ lone_rows row (k + 1) (n - (k + 1))) (c.in_ok-push-2.ensures.items ∙ ap (λ (r : Row). out ++ r ∷ []) c.right_alone.ensures)
    ∙ one_more row out (c.lefts.out.items ++ lone_rows row 0 n) k n c.rights-test.true c.rights.invariant
