-- What a seat knows at first, what changes in it by a split or a join, and its parts of the right to
-- be the only seat. The first seat has all parts, a seat that is split off gets one, and a join adds
-- them up, so a seat with all parts is alone.
use Rattle.std.specs.Prelude.{◌≡◌, ◌⊎◌, ℕ, zero, suc, ◌+◌, ◌^◌, ◌<◌, ◌≤◌, false, ◌||◌, List, []}
use Rattle.std.specs.Prelude.{◌∷◌, ◌++◌, Some, None}
use mathlib.Core.Option.{some}
use lib.ListN.{get_elem?}
use Rattle.job_board.specs.declared.view.Plan.{Plan}
use Rattle.job_board.specs.declared.view.View.{View}
use Rattle.job_board.specs.declared.view.Work.TheVariants.{Resting}

abbrev pub all_parts : ℕ
all_parts = 2 ^ 32

-- what a seat with n parts keeps when one is split off; the last part is lost
abbrev pub kept_part : ℕ → ℕ
kept_part zero = 0
kept_part (suc n) = n

-- and what that one gets
abbrev pub given_part : ℕ → ℕ
given_part zero = 0
given_part (suc zero) = 0
given_part (suc (suc n)) = 1

module _ {T K : Type 0} where
  -- the first seat
  abbrev pub newcomer : Plan T K → View T K
  newcomer p = record {
    plan = Some p;
    claims = [];
    work = Resting;
    ready = [];
    full = false;
    stopped = false;
    seen_stop = false;
    last = (0, 0);
    number = None;
    part = all_parts;
  }

  -- a seat that another took in
  abbrev pub spent_view : View T K
  spent_view = record {
    plan = None;
    claims = [];
    work = Resting;
    ready = [];
    full = false;
    stopped = false;
    seen_stop = false;
    last = (0, 0);
    number = None;
    part = 0;
  }

  -- a seat with these parts
  abbrev pub parted : View T K → ℕ → View T K
  parted v n = record {
    plan = v.plan;
    claims = v.claims;
    work = v.work;
    ready = v.ready;
    full = v.full;
    stopped = v.stopped;
    seen_stop = v.seen_stop;
    last = v.last;
    number = v.number;
    part = n;
  }

  -- a seat from which another was split off
  abbrev pub cut_view : View T K → View T K
  cut_view v = parted v (kept_part v.part)

  -- the seat that was split off
  abbrev pub split_off : View T K → View T K
  split_off v = record {
    plan = v.plan;
    claims = [];
    work = Resting;
    ready = [];
    full = false;
    stopped = false;
    seen_stop = false;
    last = (0, 0);
    number = None;
    part = given_part v.part;
  }

  -- a seat that took another one in
  abbrev pub joined_view : View T K → View T K → View T K
  joined_view v w = record {
    plan = v.plan;
    claims = w.claims ++ v.claims;
    work = v.work;
    ready = v.ready;
    full = v.full || w.full;
    stopped = v.stopped || w.stopped;
    seen_stop = v.seen_stop || w.seen_stop;
    last = v.last;
    number = v.number;
    part = v.part + w.part;
  }

  -- the parts of these seats
  abbrev pub total_parts : List (View T K) → ℕ
  total_parts [] = 0
  total_parts (v ∷ vs) = v.part + total_parts vs

  -- no part came from nowhere, and while none is lost each seat that isn't spent has one
  pub record AreParts (views : List (View T K)) : Type 0 where
    pub few : total_parts views ≤ all_parts
    pub each :
        total_parts views ≡ all_parts
        → (id : ℕ) (v : View T K) → get_elem? views id ≡ some v → (v ≡ spent_view) ⊎ (0 < v.part)
