use Rattle.std.proofs.Common.{rules, refl}
use Rattle.lvs_outside.proofs.Told.{untold}
use Rattle.lvs_outside.proofs.file.FileDepotDepot.write.Goals as goal

pub returns-then-is_empty_take : goal.returns-then-is_empty_take
returns-then-is_empty_take g c = record {
  ok = record { fits = search rules; file = untold _ _ _ _ (λ p. refl) (λ p. refl); opened = search rules; empty_takes = search rules };
  err = tt;
  absent = refl;
  last_absent = refl;
  write_calls = search rules;
  left_open = search rules;
  cause = record { failed = tt; done = refl };
}

pub returns-else-is_empty_take : goal.returns-else-is_empty_take
returns-else-is_empty_take g c = record {
  ok = record { fits = search rules; file = untold _ _ _ _ (λ p. refl) (λ p. refl); opened = search rules; empty_takes = search rules };
  err = tt;
  absent = refl;
  last_absent = refl;
  write_calls = search rules;
  left_open = search rules;
  cause = record { failed = tt; done = refl };
}
