use Rattle.std.proofs.Common.{◌≡◌, ◌+◌, ℕ, Bool, List, Option, length, slice_index, refl, sym, subst, ◌∙◌, ap, arith, true≢false}
use Rattle.refine_match.specs.declared.candidates.Candidate.{Candidate}
use Rattle.refine_match.specs.Candidates.{IsBestBehind, is_behind, rank_of, candidate_rank}
use Rattle.refine_match.specs.Sides.{rank_by}
use Rattle.refine_match.proofs.NextBehind.{took, kept, not_first, IsNoLaterThan}
use Rattle.refine_match.proofs.candidates.Sides.best_of.Goals as goal
use Rattle.refine_match.proofs.candidates.Sides.best_of.Goals.{then-left_count-other+then-is_after+then-is_first, then-left_count-other+else-is_after, else-is_after-via-then-is_after+else-is_first, else-is_after-via-else-is_after, else-left_count-other}

pub loop-other-preserved : goal.loop-other-preserved
loop-other-preserved c =
    let rank : ℕ → ℕ = rank_by c.args.self.now c.args.node in
    let items : List ℕ = c.args.nodes.now in
    let y : ℕ = slice_index c.args.nodes.now c.loop-other.other-index in
    let stays : (Option Candidate) → Type 0 = λ o. IsBestBehind c.args.self.now.graph.now rank c.args.last items (c.loop-other.other-index + 1) o in
    elim c.if-left_count-other.branch [
      | then-left_count-other+then-is_after+then-is_first w ↦
          let cand : Candidate = record { has_name = w.is_one_name.result; node = slice_index c.args.nodes.now c.loop-other.other-index } in
          let is : candidate_rank cand ≡ rank y = ap (λ (b : Bool). rank_of b y) w.is_one_name.ensures in
          let low = w.if-left_count-other.true in
          let count = c.left_count-left_count.ensures in
          subst stays (sym w.best-is)
          (took c.args.self.now.graph.now rank c.args.last items c.loop-other.other-index c.loop-other.best cand c.loop-other.invariant refl (omega arith) is (sym w.is_after.ensures ∙ w.if-is_after.true) (w.is_first.ensures.0 w.if-is_first.true))
      | then-left_count-other+else-is_after w ↦
          let cand : Candidate = record { has_name = w.is_one_name.result; node = slice_index c.args.nodes.now c.loop-other.other-index } in
          let is : candidate_rank cand ≡ rank y = ap (λ (b : Bool). rank_of b y) w.is_one_name.ensures in
          subst stays (sym w.best-is)
          (kept c.args.self.now.graph.now rank c.args.last items c.loop-other.other-index c.loop-other.best c.loop-other.invariant (λ r t. elim w.else-is_after.branch [
            | else-is_after-via-then-is_after+else-is_first v ↦
                subst (IsNoLaterThan c.loop-other.best) is (not_first cand c.loop-other.best (λ f. true≢false (sym (v.is_first.ensures.1 f) ∙ v.if-is_first.false)))
            | else-is_after-via-else-is_after v ↦ absurd (true≢false (sym t ∙ (ap (is_behind c.args.last) (sym is) ∙ (sym w.is_after.ensures ∙ v.if-is_after.false))))
          ]))
      | else-left_count-other w ↦
          let low = w.if-left_count-other.false in
          let count = c.left_count-left_count.ensures in
          subst stays (sym w.best-is)
          (kept c.args.self.now.graph.now rank c.args.last items c.loop-other.other-index c.loop-other.best c.loop-other.invariant (λ r t. absurd (omega arith)))
    ]

pub returns : goal.returns
returns c =
    let past = c.loop-other-test.false in
    let upto = c.loop-other.auto.other-index-end in
    let e : c.loop-other.other-index ≡ length c.args.nodes.now = omega arith in
    subst (λ (n : ℕ). IsBestBehind c.args.self.now.graph.now (rank_by c.args.self.now c.args.node) c.args.last c.args.nodes.now n c.loop-other.best) e c.loop-other.invariant
