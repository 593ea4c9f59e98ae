use Rattle.std.proofs.Common.{refl, inl, sym, ◌∙◌, true≢false}
use Rattle.match_types.specs.Plain.{pair_of}
use Rattle.refine_match.proofs.Decided.{first_refuted, first_even, if_ok}
use Rattle.refine_match.proofs.by_rounds.by_rounds.Goals as goal

pub differ_by-requires-clause-refuted : goal.differ_by-requires-clause-refuted
differ_by-requires-clause-refuted c =
    first_refuted c.args.graph.now c.in_ok-classes.classes c.in_ok-classes.verdict (c.is_first_round.ensures.0 c.if-is_first_round.true) c.in_ok-classes.ensures.verdict

pub returns-then-is_first_round : goal.returns-then-is_first_round
returns-then-is_first_round c = λ right h good. c.differ_by.ensures (pair_of c.args.left.now right c.args.children.now) h good (inl refl)

pub returns-in-Some : goal.returns-in-Some
returns-in-Some c = λ right h good same limit. (
  first_even (pair_of c.args.left.now right c.args.children.now) c.args.graph.now c.in_ok-classes.classes c.in_ok-classes.verdict h good c.in_ok-classes.ensures.verdict
      (λ f. true≢false (sym (c.is_first_round.ensures.1 f) ∙ c.if-is_first_round.false)),
  c.in-Some.ensures.some right,
)

pub returns : goal.returns
returns c =
    if_ok c.by_verdict.result c.by_verdict.ensures
    (λ rounds f right h good. f (pair_of c.args.left.now right c.args.children.now) h good (c.in_default.ensures.none refl right))
