-- What was gathered of a layer of kept squares.
use Rattle.std.proofs.Common.{◌≡◌, ◌∙◌, ℕ, ◌≤◌, List, ap, sym, subst}
use Rattle.geo_base.specs.declared.layer.Op.TheVariants.{And}
use Rattle.geo_base.specs.declared.shapes.Rect.{Rect}
use Rattle.geo_base.specs.declared.shapes.Square.{Square}
use Rattle.flat_layout.specs.Layers.{Binary, IsKept, reach}
use Rattle.cell_graph.specs.Linked.{Linked, IsSound, plain}
use Rattle.rule_text.specs.declared.rules.RuleSet.{RuleSet}
use Rattle.gate_search.specs.Gather.{IsGatheredAround}
use Rattle.gate_phase.specs.Both.{BothOf, IsBothNear, kept_by}
use Rattle.gate_phase.specs.Layer.{IsKeptNear, KeptOf, formula_of}
use Rattle.gate_phase.proofs.Locals.{both_most, kept_corners}

of_kept : (v : KeptOf) (seeds found : List Rect) → IsSound v.design → reach (formula_of v.rules v.name) ≤ 10000 → IsGatheredAround (IsKeptNear v) seeds found → IsGatheredAround (IsKept (plain v.design) v.cell (formula_of v.rules v.name)) seeds found
of_kept v seeds found sound most h = record {
  sound = λ q e. (h.sound q e).kept;
  around = λ a q kept near e. h.around a q (with_corners a kept) near e;
  steps = λ p q e step. h.steps p q e (record { from = with_corners p step.from; to = with_corners q step.to; edge = step.edge });
}
  where
    with_corners : (q : Square) → IsKept (plain v.design) v.cell (formula_of v.rules v.name) q → IsKeptNear v q
    with_corners q kept = record { kept = kept; near = kept_corners v.design v.cell (formula_of v.rules v.name) q sound most kept }

pub gathered_kept : (v : KeptOf) (d : Linked) (r : RuleSet) (cell name : ℕ) (seeds found : List Rect) → v.design ≡ d → v.rules ≡ r → v.cell ≡ cell → v.name ≡ name → IsSound d → reach (formula_of r name) ≤ 10000 → IsGatheredAround (IsKeptNear v) seeds found
    → IsGatheredAround (IsKept (plain d) cell (formula_of r name)) seeds found
gathered_kept v d r cell name seeds found e1 e2 e3 e4 sound most h =
    let here = subst (λ (x : RuleSet). reach (formula_of x v.name) ≤ 10000) (sym e2) (subst (λ (n : ℕ). reach (formula_of r n) ≤ 10000) (sym e4) most) in
    subst (λ (x : Linked). IsSound x → IsGatheredAround (IsKept (plain x) cell (formula_of r name)) seeds found) e1
    (λ good. subst (λ (x : RuleSet). IsGatheredAround (IsKept (plain v.design) cell (formula_of x name)) seeds found) e2
    (subst (λ (c : ℕ). IsGatheredAround (IsKept (plain v.design) c (formula_of v.rules name)) seeds found) e3
    (subst (λ (n : ℕ). IsGatheredAround (IsKept (plain v.design) v.cell (formula_of v.rules n)) seeds found) e4 (of_kept v seeds found good here h)))) sound

-- a layer by its parts
pub kept_is : (v : KeptOf) (d : Linked) (r : RuleSet) (cell name : ℕ) → v.design ≡ d → v.rules ≡ r → v.cell ≡ cell → v.name ≡ name → v ≡ kept_by d r cell name
kept_is v d r cell name e1 e2 e3 e4 =
    ap (λ (x : Linked). kept_by x v.rules v.cell v.name) e1 ∙ ap (λ (x : RuleSet). kept_by d x v.cell v.name) e2 ∙ ap (λ c. kept_by d r c v.name) e3 ∙ ap (λ n. kept_by d r cell n) e4

-- and of a layer of the squares in both of two names
of_both : (v : BothOf) (seeds found : List Rect) → IsSound v.design → reach (formula_of v.rules v.names.0) ≤ 10000 → reach (formula_of v.rules v.names.1) ≤ 10000 → IsGatheredAround (IsBothNear v) seeds found → IsGatheredAround (IsKept (plain v.design) v.cell (Binary And (formula_of v.rules v.names.0) (formula_of v.rules v.names.1))) seeds found
of_both v seeds found sound one other h = record {
  sound = λ q e. (h.sound q e).kept;
  around = λ a q kept near e. h.around a q (with_corners a kept) near e;
  steps = λ p q e step. h.steps p q e (record { from = with_corners p step.from; to = with_corners q step.to; edge = step.edge });
}
  where
    with_corners : (q : Square) → IsKept (plain v.design) v.cell (Binary And (formula_of v.rules v.names.0) (formula_of v.rules v.names.1)) q → IsBothNear v q
    with_corners q kept = record { kept = kept; near = kept_corners v.design v.cell (Binary And (formula_of v.rules v.names.0) (formula_of v.rules v.names.1)) q sound (both_most _ _ one other) kept }

pub gathered_both : (v : BothOf) (d : Linked) (r : RuleSet) (cell : ℕ) (names : ℕ × ℕ) (seeds found : List Rect) → v.design ≡ d → v.rules ≡ r → v.cell ≡ cell → v.names ≡ names → IsSound d → reach (formula_of r names.0) ≤ 10000 → reach (formula_of r names.1) ≤ 10000 → IsGatheredAround (IsBothNear v) seeds found
    → IsGatheredAround (IsKept (plain d) cell (Binary And (formula_of r names.0) (formula_of r names.1))) seeds found
gathered_both v d r cell names seeds found e1 e2 e3 e4 sound one other h =
    let same : v ≡ (let x : BothOf = record { design = d; rules = r; cell = cell; names = names } in x) =
    ap (λ (x : Linked). let b : BothOf = record { design = x; rules = v.rules; cell = v.cell; names = v.names } in b) e1
    ∙ ap (λ (x : RuleSet). let b : BothOf = record { design = d; rules = x; cell = v.cell; names = v.names } in b) e2
    ∙ ap (λ (x : ℕ). let b : BothOf = record { design = d; rules = r; cell = x; names = v.names } in b) e3
    ∙ ap (λ (x : ℕ × ℕ). let b : BothOf = record { design = d; rules = r; cell = cell; names = x } in b) e4 in
    of_both (record { design = d; rules = r; cell = cell; names = names }) seeds found sound one other (subst (λ (x : BothOf). IsGatheredAround (IsBothNear x) seeds found) same h)
