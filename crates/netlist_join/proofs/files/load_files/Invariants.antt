use Rattle.std.proofs.Common.{◌≡◌, ◌≤◌, true, false, [], length, map, take}
use Rattle.std.specs.Prelude.{string_bytes}
use Rattle.std.specs.List.{list_all}
use Rattle.lvs_outside.specs.Store.{HasRoom, counted}
use Rattle.netlist_join.specs.Failing.{OnlyReads}
use Rattle.netlist_join.specs.Loaded.{AreFiles, StartsWith, has_path, has_twins, paths_of, with_paths}
use Rattle.netlist_join.specs.Named.{all_named, are_reached}
use Rattle.netlist_join.proofs.files.load_files.Given as goal

abbrev pub invariant-loop-k : goal.invariant-loop-k
invariant-loop-k g l =
    HasRoom (g.D.Depot.state l.depot) × OnlyReads (g.D.Depot.state l.fn.depot) (g.D.Depot.state l.depot) × ((counted (g.D.Depot.state l.depot)).faults ≡ (counted (g.D.Depot.state l.fn.depot)).faults)
    × ((g.D.Depot.state l.depot).absent ≡ (g.D.Depot.state l.fn.depot).absent) × AreFiles (g.D.Depot.state l.depot).file l.files.items × StartsWith (paths_of l.files.items) (with_paths [] (map string_bytes l.inputs))
    × (has_twins (paths_of l.files.items) ≡ false) × (l.k ≤ length l.files.items) × (are_reached (map string_bytes l.inputs) [] l.files.items ≡ true)
    × (list_all (λ p. has_path (paths_of l.files.items) p) (map string_bytes l.inputs) ≡ true) × (list_all (λ p. has_path (paths_of l.files.items) p) (all_named (take l.k l.files.items)) ≡ true)
