use Rattle.std.proofs.Common.{refl, rules}
use Rattle.lvs_outside.proofs.Told.{untold, opened_forward}
use Rattle.lvs_outside.proofs.endless.EndlessDepotDepot.write.Goals as goal

pub returns-clause-writes : goal.returns-clause-writes
returns-clause-writes c = record {
  ok = record {
    fits = search rules;
    file = untold _ _ _ _ (λ p. refl) (λ p. refl);
    opened = opened_forward c.args.self.now.handle _ _ _ _ c.raise-2.ensures;
    empty_takes = search rules;
  };
  err = tt;
  absent = refl;
  last_absent = refl;
  write_calls = search rules;
  left_open = refl;
  cause = record { failed = tt; done = refl };
}
