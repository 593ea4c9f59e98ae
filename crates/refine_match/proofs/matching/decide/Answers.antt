use Rattle.std.proofs.Common.{map, sym, subst, ◌∙◌}
use Rattle.std.specs.Global.{Vec}
use Rattle.match_laws.specs.Answer.{DiffersByTree, IsAnswer, Undecided, equal_names}
use Rattle.match_types.specs.declared.answer.Guess.{Guess as Try}
use Rattle.match_types.specs.Plain.{plain_pairing, row_of}
use Rattle.refine_match.proofs.Decided.{single}
use Rattle.refine_match.proofs.Kept.{kept_ended, kept_found, kept_left, kept_solved, kept_stopped, kept_tried, none_left, trying}
use Rattle.refine_match.proofs.matching.decide.Goals as goal

pub returns-then-search : goal.returns-then-search
returns-then-search c = λ p h good matched.
    let kept = c.loop-candidate.invariant in
    let way = kept.way p h good in
    subst (λ (rows : Vec Try). IsAnswer p (equal_names p) c.args.search.now.limit (Undecided (map row_of rows.items))) (sym c.take_rows.ensures)
    (kept_stopped p c.args.sides.now.graph.now c.loop-candidate.search c.in-Some.candidate c.args.search.now.limit way (c.in-Some.ensures.next p h way) kept.limit_is c.if-search.true matched)

pub guess-requires : goal.guess-requires
guess-requires c =
    let p = c.requires.pair.0 in
    let h = c.requires.pair.1 in
    let way = c.loop-candidate.invariant.way p h c.requires.pair.2 in
    (p, trying p c.args.sides.now.graph.now c.loop-candidate.search c.in-Some.candidate way (c.in-Some.ensures.next p h way) c.in-Some.ensures.right c.if-search.false)

pub read_pairing-requires-clause-partition : goal.read_pairing-requires-clause-partition
read_pairing-requires-clause-partition c =
    let p = c.requires.pair.0 in
    let h = c.requires.pair.1 in
    let way = c.loop-candidate.invariant.way p h c.requires.pair.2 in
    let try = trying p c.args.sides.now.graph.now c.loop-candidate.search c.in-Some.candidate way (c.in-Some.ensures.next p h way) c.in-Some.ensures.right c.if-search.false in
    (kept_solved p c.args.sides.now.graph.now c.guess.new.self c.in-Some.candidate c.in_ok-guess-in-Some.field-0 c.if-branch.true (c.in_ok-guess-in-Some.ensures.tried p try)).partition

pub read_pairing-requires-clause-single : goal.read_pairing-requires-clause-single
read_pairing-requires-clause-single c =
    let p = c.requires.pair.0 in
    let h = c.requires.pair.1 in
    let way = c.loop-candidate.invariant.way p h c.requires.pair.2 in
    let try = trying p c.args.sides.now.graph.now c.loop-candidate.search c.in-Some.candidate way (c.in-Some.ensures.next p h way) c.in-Some.ensures.right c.if-search.false in
    let by = kept_solved p c.args.sides.now.graph.now c.guess.new.self c.in-Some.candidate c.in_ok-guess-in-Some.field-0 c.if-branch.true (c.in_ok-guess-in-Some.ensures.tried p try) in
    single c.args.sides.now.graph.now c.guess.new.self.guesses.items c.guess.new.self.classes by.partition.inside by.settled by.untied

pub returns-then-branch : goal.returns-then-branch
returns-then-branch c = λ p h good matched.
    let kept = c.loop-candidate.invariant in
    let way = kept.way p h good in
    let try = trying p c.args.sides.now.graph.now c.loop-candidate.search c.in-Some.candidate way (c.in-Some.ensures.next p h way) c.in-Some.ensures.right c.if-search.false in
    let by = kept_solved p c.args.sides.now.graph.now c.guess.new.self c.in-Some.candidate c.in_ok-guess-in-Some.field-0 c.if-branch.true (c.in_ok-guess-in-Some.ensures.tried p try) in
    kept_found p c.args.sides.now.graph.now c.guess.new.self c.in-Some.candidate c.args.search.now.limit by (c.in_ok-guess-in-Some.ensures.limit ∙ kept.limit_is) matched (plain_pairing c.in_ok-pairing-in-Some.pairing)
    (λ qs. c.in_ok-pairing-in-Some.ensures p qs h.graph)

pub loop-candidate-preserved-else-branch : goal.loop-candidate-preserved-else-branch
loop-candidate-preserved-else-branch c =
    let kept = c.loop-candidate.invariant in
    record {
      way = λ p h good.
          let way = kept.way p h good in
          let try = trying p c.args.sides.now.graph.now c.loop-candidate.search c.in-Some.candidate way (c.in-Some.ensures.next p h way) c.in-Some.ensures.right c.if-search.false in
          kept_tried p c.args.sides.now.graph.now c.guess.new.self c.in-Some.candidate c.in_ok-guess-in-Some.field-0 c.if-branch.false (c.in_ok-guess-in-Some.ensures.tried p try);
      limit_is = c.in_ok-guess-in-Some.ensures.limit ∙ kept.limit_is;
    }

pub returns-then-not-branch : goal.returns-then-not-branch
returns-then-not-branch c = λ p h good matched.
    let kept = c.loop-candidate.invariant in
    let way = kept.way p h good in
    let none = c.in-None.ensures.next p h way in
    subst (λ (rows : Vec Try). IsAnswer p (equal_names p) c.args.search.now.limit (DiffersByTree (map row_of rows.items))) (sym c.take_rows-then-not-branch.ensures)
    (kept_ended p c.args.sides.now.graph.now c.loop-candidate.search c.leave.new.self c.in_ok-leave-in-None.field-0 c.args.search.now.limit way none kept.limit_is c.if-not-branch.true
    (c.in_ok-leave-in-None.ensures.left p way (none_left p c.args.sides.now.graph.now c.loop-candidate.search way none)) matched)

pub loop-candidate-preserved : goal.loop-candidate-preserved
loop-candidate-preserved c =
    let kept = c.loop-candidate.invariant in
    record {
      way = λ p h good.
          let way = kept.way p h good in
          let none = c.in-None.ensures.next p h way in
          kept_left p c.args.sides.now.graph.now c.loop-candidate.search c.leave.new.self c.in_ok-leave-in-None.field-0 c.if-not-branch.false
          (c.in_ok-leave-in-None.ensures.left p way (none_left p c.args.sides.now.graph.now c.loop-candidate.search way none));
      limit_is = (c.in_ok-leave-in-None.ensures.shorter c.if-not-branch.false).limit ∙ kept.limit_is;
    }
