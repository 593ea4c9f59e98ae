use Rattle.std.proofs.Common.{refl}
use Rattle.match_laws.proofs.Images.{web_good}
use Rattle.match_types.specs.Plain.{pair_of}
use Rattle.refine_match.proofs.Decided.{if_ok}
use Rattle.refine_match.proofs.ClassCounts.{uneven_class}
use Rattle.refine_match.proofs.Follows.{carries, enough_answer, excludes, single_answer, uneven_answer}
use Rattle.refine_match.proofs.matching.match_circuits.Goals as goal

pub complete-requires : goal.complete-requires
complete-requires c =
    let p = pair_of c.args.left.now c.args.right.now c.args.children.now in
    let good = web_good p c.requires.left c.requires.right in
    (p, record { graph = c.in_ok-graph.ensures; left_is = refl; right_is = refl }, good, c.in_ok-rounds.ensures c.args.right.now c.in_ok-graph.ensures good)

pub returns-clause-answer : goal.returns-clause-answer
returns-clause-answer c =
    let p = pair_of c.args.left.now c.args.right.now c.args.children.now in
    let good = web_good p c.requires.left c.requires.right in
    if_ok c.complete.result c.complete.ensures
    (λ a f. f p (record { graph = c.in_ok-graph.ensures; left_is = refl; right_is = refl }) good (c.in_ok-rounds.ensures c.args.right.now c.in_ok-graph.ensures good))

pub returns-clause-matched : goal.returns-clause-matched
returns-clause-matched c = if_ok c.complete.result (returns-clause-answer c)
    (λ a h. carries (pair_of c.args.left.now c.args.right.now c.args.children.now) c.args.limit a c.requires.left c.requires.right h)

pub returns-clause-differs : goal.returns-clause-differs
returns-clause-differs c = if_ok c.complete.result (returns-clause-answer c)
    (λ a h. excludes (pair_of c.args.left.now c.args.right.now c.args.children.now) c.args.limit a c.requires.left c.requires.right h)

pub returns-clause-uneven : goal.returns-clause-uneven
returns-clause-uneven c = λ u. if_ok c.complete.result (returns-clause-answer c)
    (λ a h. uneven_answer (pair_of c.args.left.now c.args.right.now c.args.children.now) c.args.limit a u h)

pub returns-clause-uneven_class : goal.returns-clause-uneven_class
returns-clause-uneven_class c = λ u. returns-clause-uneven c (uneven_class (pair_of c.args.left.now c.args.right.now c.args.children.now) u)

pub returns-clause-single : goal.returns-clause-single
returns-clause-single c = λ all few. if_ok c.complete.result (returns-clause-answer c)
    (λ a h. single_answer (pair_of c.args.left.now c.args.right.now c.args.children.now) c.args.limit a c.requires.left c.requires.right all few h)

pub returns-clause-enough : goal.returns-clause-enough
returns-clause-enough c = λ q. if_ok c.complete.result (returns-clause-answer c)
    (λ a h. enough_answer (pair_of c.args.left.now c.args.right.now c.args.children.now) c.args.limit a c.requires.left c.requires.right q h)
