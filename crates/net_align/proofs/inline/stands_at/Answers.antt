use Rattle.std.proofs.Common.{◌≡◌, ℕ, ◌+◌, ◌-◌, List, [], ◌∷◌, ◌++◌, length, sym, subst, ap, ◌∙◌, arith, rules}
use Rattle.net_align.specs.Laid.{AreStands}
use Rattle.net_align.proofs.Laying.{pins_stand, one_stands}
use Rattle.net_align.proofs.inline.stands_at.Goals as goal

pub loop-n-init : goal.loop-n-init
loop-n-init c =
    let pins = c.args.pins.now in
    let e : c.in_ok-to.to.items ≡ pins = search rules in
    subst (λ (xs : List ℕ). AreStands pins c.args.behind (length pins) xs) (sym e) (pins_stand pins c.args.behind)

pub loop-n-preserved : goal.loop-n-preserved
loop-n-preserved c =
    let pins = c.args.pins.now in
    let n = c.loop-n.n in
    let e : n ≡ length pins + (n - length pins) = let l = c.loop-n.auto.n in omega arith in
    let is = c.in_ok-number.ensures.ok in
    let few = c.in_ok-number.ensures.few in
    let v : c.in_ok-number.field-0 ≡ c.args.behind + (n - length pins) = omega arith in
    let pushed : c.push.new.self.items ≡ c.loop-n.to.items ++ c.in_ok-number.field-0 ∷ [] = search rules in
    subst (λ (xs : List ℕ). AreStands pins c.args.behind (n + 1) xs) (sym (pushed ∙ ap (λ (x : ℕ). c.loop-n.to.items ++ x ∷ []) v))
    (one_stands pins c.args.behind n (n - length pins) c.loop-n.to.items e c.loop-n.invariant)
