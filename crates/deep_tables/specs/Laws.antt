-- Where each job's value is right, each reached cell's entry is.
use Rattle.std.specs.Prelude.{ℕ, ◌<◌, List, Option, IsSomeAnd, length, slice_get}
use Rattle.flat_layout.specs.Layout.{Design}
use Rattle.cell_graph.specs.Linked.{Linked, IsSound, plain}
use Rattle.rule_text.specs.Rules.{Rules}
use Rattle.deep_tables.specs.Entries.{AreEntries, IsDownward, IsUpward, downward_cell, upward_cell}

abbrev pub AreJobs : {T : Type 0} → (ℕ → ℕ) → Linked → (ℕ → T → Type 0) → List T → Type 0
AreJobs cell_of d is values = (job : ℕ) → job < length d.order
    → IsSomeAnd (slice_get values job) (is (cell_of job))

abbrev pub UpwardLaw : (T : Type 0) → (Design → Rules → ℕ → T → Type 0) → Type 0
UpwardLaw T is = (d : Linked) (r : Rules) (values : List T) (table : List (Option T)) → IsSound d
    → IsUpward d values table
    → AreJobs (upward_cell d) d (is (plain d) r) values
    → AreEntries (plain d) (is (plain d) r) table

abbrev pub DownwardLaw : (T : Type 0) → (Design → Rules → ℕ → T → Type 0) → Type 0
DownwardLaw T is = (d : Linked) (r : Rules) (values : List T) (table : List (Option T)) → IsSound d
    → IsDownward d values table
    → AreJobs (downward_cell d) d (is (plain d) r) values
    → AreEntries (plain d) (is (plain d) r) table
