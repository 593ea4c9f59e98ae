use Rattle.std.proofs.Common.{◌<◌, ◌∙◌, length, map, ap, arith}
use Rattle.net_model.specs.Rows.{plain_circuit}
use Rattle.view_pairs.specs.Added.{rows_in}
use Rattle.view_pairs.specs.Proposals.{is_told}
use Rattle.view_pairs.proofs.Shown.{pair_on, proposed}
use Rattle.view_pairs.proofs.Sureness.{all_matched, all_named, pair_sure}
use Rattle.view_pairs.proofs.Whole.{all_whole}
use Rattle.view_pairs.proofs.pairs.proposals.Goals as goal

pub loop-k-preserved : goal.loop-k-preserved
loop-k-preserved g c =
    let lefts = c.args.lefts.now in
    let rights = c.args.rights.now in
    let k = c.loop-k.k in
    let count = c.in_ok-count.ensures.ok in
    let test = c.loop-k-test.true in
    let lt : k < length lefts = omega arith in
    let same = c.requires.rights in
    let rt : k < length rights = omega arith in
    let on = pair_on lefts rights c.args.same_pins c.is_told-told.result c.loop-k.out c.add_pair.new.out k c.get.result.now c.index-lefts-k.result c.index-rights-k.result
    c.loop-k.invariant.0 c.loop-k.invariant.1 lt rt c.index-lefts-k.is c.index-rights-k.is (c.is_told-told.ensures ∙ ap (λ n. is_told c.args.same_pins n k) count)
    c.in_ok-add_pair.ensures in (
      on.0,
      on.1,
      pair_sure lefts rights c.args.same_pins c.is_told-told.result (g.R.Reads.value c.args.answers.now) c.loop-k.out c.add_pair.new.out k c.get.result.now c.index-lefts-k.result c.index-rights-k.result
          c.loop-k.invariant.0 c.loop-k.invariant.1 c.loop-k.invariant.2 lt rt c.index-lefts-k.is c.index-rights-k.is c.get.ensures c.in_ok-add_pair.ensures,
    )

pub returns-clause-whole : goal.returns-clause-whole
returns-clause-whole g c =
    let lefts = map plain_circuit c.args.lefts.now in
    let rights = map plain_circuit c.args.rights.now in
    let count = c.in_ok-count.ensures.ok in
    let at = c.loop-k.invariant.1 in
    let test = c.loop-k-test.false in
    let end = c.loop-k.auto.k-end in
    all_whole lefts rights c.args.same_pins (rows_in c.loop-k.out)
    (proposed c.args.lefts.now rights c.args.same_pins c.loop-k.out c.loop-k.invariant.0 (omega arith))

pub returns-clause-matched : goal.returns-clause-matched
returns-clause-matched g c =
    all_matched (map plain_circuit c.args.lefts.now) (map plain_circuit c.args.rights.now) (g.R.Reads.value c.args.answers.now) (rows_in c.loop-k.out) c.loop-k.invariant.2

pub returns-clause-named : goal.returns-clause-named
returns-clause-named g c =
    all_named (map plain_circuit c.args.lefts.now) (map plain_circuit c.args.rights.now) (g.R.Reads.value c.args.answers.now) (rows_in c.loop-k.out) c.loop-k.invariant.2
