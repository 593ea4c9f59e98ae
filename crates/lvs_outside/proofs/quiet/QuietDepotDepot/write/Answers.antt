use Rattle.std.proofs.Common.{refl, rules, take, length}
use Rattle.lvs_outside.proofs.OnePath.{writes_untold, writes_forward}
use Rattle.lvs_outside.proofs.quiet.QuietDepotDepot.write.Goals as goal

pub returns-clause-writes : goal.returns-clause-writes
returns-clause-writes c = record {
  ok = record {
    fits = search rules;
    file = writes_untold _ _ c.args.self.now.access _ (take (length c.args.piece.now) c.args.piece.now) _ c.requires c.args.self.now.in_place (λ p. refl);
    opened = writes_forward c.args.self.now.access _ _ _ _ c.requires c.raise-2.ensures;
    empty_takes = search rules;
  };
  err = tt;
  absent = refl;
  last_absent = refl;
  write_calls = search rules;
  left_open = refl;
  cause = record { failed = tt; done = refl };
}
