use Rattle.std.proofs.Common.{rules, arith, refl}
use Rattle.std.proofs.lemmas.Grind.{common_steps}
use Rattle.lvs_outside.proofs.Told.{untold}
use Rattle.lvs_outside.proofs.endless.EndlessDepotDepot.start_write.Goals as goal

pub returns-clause-starts : goal.returns-clause-starts
returns-clause-starts c = record {
  ok = record { file = untold _ _ _ _ (λ p. refl) (λ p. tt); opened = search rules; left_open = grind (arith, common_steps) };
  err = tt;
  absent = refl;
  last_absent = refl;
  write_calls = grind (arith, common_steps);
  empty_takes = refl;
  cause = record { failed = tt; done = refl };
}
