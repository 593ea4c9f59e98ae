-- What a phase of pairs is made from.
use Rattle.std.specs.Prelude.{ℕ, Bool, List}
use Rattle.align_laws.specs.Partners.{AreSides}
use Rattle.net_model.specs.Rows.{plain_netlist}
use Rattle.net_model.specs.declared.netlist.Netlist.{Netlist}
use Rattle.pair_jobs.specs.Jobs.{AreCalledJobs}
use Rattle.plain_netlist.specs.Sound.{IsGood}
use Rattle.match_flow.specs.declared.phase.PairPhase.TheInside.{Inside}

-- the two sides, the limit, whether names tell the tops' pins apart, and the jobs
pub record PairJobs : Type 0 where
  pub left : Netlist
  pub right : Netlist
  pub limit : ℕ
  pub same_pins : Bool
  pub graph : List (List ℕ)

abbrev pub jobs_seen : Inside → PairJobs
jobs_seen a = record {
  left = a.left.now;
  right = a.right.now;
  limit = a.limit;
  same_pins = a.same_pins;
  graph = a.graph;
}

-- circuits of one number are a pair, those that are called stand first on the left, and the jobs
-- wait as the left circuits call
pub record IsPairPhase (a : Inside) : Type 0 where
  pub sides : AreSides (plain_netlist a.left.now) (plain_netlist a.right.now)
  pub order : IsGood (plain_netlist a.left.now) (λ k. k)
  pub graph : AreCalledJobs (plain_netlist a.left.now) a.graph
