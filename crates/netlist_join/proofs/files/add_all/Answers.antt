use Rattle.std.proofs.Common.{◌≡◌, ◌∙◌, ◌∷◌, ◌-◌, ℕ, List, ap, drop, length, map, refl, rules, sym, take, true}
use Rattle.std.specs.Prelude.{string_bytes}
use Rattle.netlist_join.specs.Loaded.{has_path, paths_of, with_paths}
use Rattle.netlist_join.proofs.LoadedLemmas.{more_none, more_on, reads_none, reads_on}
use Rattle.netlist_join.proofs.NamedLemmas.{all_there, front_of, rest_put, rest_there}
use Rattle.netlist_join.proofs.files.add_all.Goals as goal

pub paths-init : goal.paths-init
paths-init g c =
    let s = g.D.Depot.state c.args.depot.now in (
      c.requires.room,
      reads_none s,
      refl,
      refl,
      c.requires.told,
      refl,
      more_none (λ p. has_path (map string_bytes c.args.paths.now) p ≡ true) c.args.files.now.items,
      all_there (map string_bytes c.args.paths.now),
    )

pub paths-preserved : goal.paths-preserved
paths-preserved g c =
    let i = c.paths.invariant in
    let e = c.in_ok-add.ensures in
    let rest = c.paths.rest.now in
    let all = map string_bytes c.args.paths.now in
    let more = map string_bytes (take (length rest - 1) (drop 1 rest)) in
    let split : map string_bytes rest ≡ c.as_str.result.now ∷ more =
    front_of string_bytes rest c.path-item.result c.in-len1-up.len_at_least c.path-item.is ∙ ap (λ (p : List ℕ). p ∷ map string_bytes (take (length c.paths.rest.now - 1) (drop 1 c.paths.rest.now))) (sym c.as_str.ensures.value) in
    let there : has_path (map string_bytes c.args.paths.now) c.as_str.result.now ≡ true = search rules in (
      e.room,
      reads_on (g.D.Depot.state c.args.depot.now) (g.D.Depot.state c.paths.depot) (g.D.Depot.state c.add.new.depot) i.1 e.reads,
      e.faults ∙ i.2,
      e.absent ∙ i.3,
      e.told,
      rest_put (paths_of c.paths.files.items) (paths_of c.add.new.files.items) (map string_bytes rest) more (with_paths (paths_of c.args.files.now.items) all) c.as_str.result.now split e.paths i.5,
      more_on (λ p. has_path (map string_bytes c.args.paths.now) p ≡ true) c.as_str.result.now c.args.files.now.items c.paths.files.items c.add.new.files.items there i.6 e.more,
      rest_there all (map string_bytes rest) more c.as_str.result.now split i.7,
    )
