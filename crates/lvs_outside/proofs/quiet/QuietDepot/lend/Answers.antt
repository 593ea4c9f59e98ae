use Rattle.std.proofs.Common.{◌≡◌, refl, rules}
use Rattle.lvs_outside.specs.Store.{Holds}
use Rattle.lvs_outside.proofs.OnePath.{goes_one}
use Rattle.lvs_outside.proofs.quiet.QuietDepot.lend.Goals as goal

pub returns-clause-ok : goal.returns-clause-ok
returns-clause-ok c = record {
  file = goes_one _ _ c.args.path.now (λ t u. u ≡ Holds c.args.bytes.now) (c.in_ok-put_lent.ensures.here _) (λ p. c.in_ok-put_lent.ensures.others _ p);
  opened = search rules;
  absent = refl;
  last_absent = refl;
  write_calls = refl;
  left_open = search rules;
  faults = refl;
  empty_takes = refl;
}
