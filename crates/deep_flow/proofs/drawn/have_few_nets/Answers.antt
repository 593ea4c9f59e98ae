use Rattle.std.proofs.Common.{◌≡◌, ◌<◌, ◌^◌, ◌∙◌, List, Bool, Some, slice_get, length, arith, refl, sym, ap, subst}
use Rattle.std.proofs.lemmas.Bool.{false≢true}
use Rattle.std.proofs.lemmas.Option.{slice_get-get_or, slice_get_within}
use Rattle.deep_flow.proofs.Few.{few_more}
use Rattle.deep_flow.proofs.drawn.have_few_nets.Goals as goal

pub returns-then-not-are_few : goal.returns-then-not-are_few
returns-then-not-are_few c =
    let values = c.args.values.now in
    let k = c.loop-value.value-index in
    let v = c.value-item.result in
    let at : slice_get values k ≡ Some v = slice_get-get_or values k v (omega arith) ∙ ap Some (sym c.value-item.is) in
    ((λ e. absurd (false≢true e)), (λ h. c.if-not-are_few.ensures.1 (subst (λ (l : List Bool). length l < 2 ^ 32) (sym c.deref.ensures.value) (h k v at))))

pub loop-value-preserved : goal.loop-value-preserved
loop-value-preserved c =
    let values = c.args.values.now in
    let k = c.loop-value.value-index in
    let v = c.value-item.result in
    let at : slice_get values k ≡ Some v = slice_get-get_or values k v (omega arith) ∙ ap Some (sym c.value-item.is) in
    few_more values k v at (subst (λ (l : List Bool). length l < 2 ^ 32) c.deref.ensures.value (c.if-not-are_few.ensures.0 refl)) c.loop-value.invariant

pub returns : goal.returns
returns c = (
  (λ e k v is. c.loop-value.invariant k v (let lt = slice_get_within c.args.values.now k v is in omega (arith, lt)) is),
  (λ h. refl),
)
