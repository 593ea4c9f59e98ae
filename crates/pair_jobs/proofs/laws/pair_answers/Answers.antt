use Rattle.pair_jobs.proofs.Together.{carried_pair, kept_pair, matched_pairs, matched_top, results, uneven_pair}
use Rattle.pair_jobs.proofs.laws.pair_answers.Goals as goal

pub returns : goal.returns
returns c = record {
  results = results;
  pairs = matched_pairs;
  tops = matched_top;
  carried = carried_pair;
  kept = kept_pair;
  uneven = uneven_pair;
}
