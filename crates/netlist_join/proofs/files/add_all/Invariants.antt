use Rattle.std.proofs.Common.{◌≡◌, true, length, map}
use Rattle.std.specs.Prelude.{string_bytes}
use Rattle.std.specs.List.{list_all}
use Rattle.lvs_outside.specs.Store.{HasRoom, counted}
use Rattle.netlist_join.specs.Failing.{OnlyReads}
use Rattle.netlist_join.specs.Loaded.{AreFiles, IsMore, has_path, paths_of, with_paths}
use Rattle.netlist_join.proofs.files.add_all.Given as goal

abbrev pub invariant-paths : goal.invariant-paths
invariant-paths g l =
    HasRoom (g.D.Depot.state l.depot) × OnlyReads (g.D.Depot.state l.fn.depot) (g.D.Depot.state l.depot) × ((counted (g.D.Depot.state l.depot)).faults ≡ (counted (g.D.Depot.state l.fn.depot)).faults)
    × ((g.D.Depot.state l.depot).absent ≡ (g.D.Depot.state l.fn.depot).absent) × AreFiles (g.D.Depot.state l.depot).file l.files.items × (with_paths (paths_of l.files.items) (map string_bytes l.rest) ≡ with_paths (paths_of l.fn.files.items) (map string_bytes l.paths))
    × IsMore (λ p. has_path (map string_bytes l.paths) p ≡ true) l.fn.files.items l.files.items × (list_all (λ p. has_path (map string_bytes l.paths) p) (map string_bytes l.rest) ≡ true)

abbrev pub decreases-paths : goal.decreases-paths
decreases-paths g l = length l.rest
