use Rattle.std.proofs.Common.{◌≡◌, ℕ, inl, inr, subst, refl}
use Rattle.match_graph.specs.declared.graph.Graph.{Graph}
use Rattle.match_rounds.specs.declared.classes.Classes.{Classes}
use Rattle.refine_match.specs.Evidence.{AreEvenFrom, IsFirstUneven}
use Rattle.refine_match.proofs.Uneven.{if_some}
use Rattle.refine_match.proofs.evidence.first_of_kind.Goals as goal

-- the numbers that were read are those of the spans
even_at : (g : Graph) (c : Classes) (f t from to : ℕ) → f ≡ from → t ≡ to → AreEvenFrom g c f t → AreEvenFrom g c from to
even_at g c f t from to ef et h = subst (λ (y : ℕ). AreEvenFrom g c from y) et (subst (λ (y : ℕ). AreEvenFrom g c y t) ef h)

first_at : (g : Graph) (c : Classes) (f t from to x : ℕ) → f ≡ from → t ≡ to → IsFirstUneven g c f t x → IsFirstUneven g c from to x
first_at g c f t from to x ef et h = subst (λ (y : ℕ). IsFirstUneven g c from y x) et (subst (λ (y : ℕ). IsFirstUneven g c y t x) ef h)

pub returns-clause-some : goal.returns-clause-some
returns-clause-some c =
    if_some c.first_uneven-2.result c.first_uneven-2.ensures.some (λ x f. inr (
      even_at c.args.graph.now c.args.classes.now _ _ _ _ c.span_of-from.ensures.begin c.span_of-from.ensures.end (c.in_default.ensures.none refl),
      first_at c.args.graph.now c.args.classes.now _ _ _ _ x c.span_of-from-2.ensures.begin c.span_of-from-2.ensures.end f,
    ))

pub returns-clause-none : goal.returns-clause-none
returns-clause-none c = λ e. record {
  left = even_at c.args.graph.now c.args.classes.now _ _ _ _ c.span_of-from.ensures.begin c.span_of-from.ensures.end (c.in_default.ensures.none refl);
  right = even_at c.args.graph.now c.args.classes.now _ _ _ _ c.span_of-from-2.ensures.begin c.span_of-from-2.ensures.end (c.first_uneven-2.ensures.none e);
}

pub returns-in-Some-clause-some : goal.returns-in-Some-clause-some
returns-in-Some-clause-some c = inl (first_at c.args.graph.now c.args.classes.now _ _ _ _ c.in-Some.node c.span_of-from.ensures.begin c.span_of-from.ensures.end c.in-Some.ensures.some)
