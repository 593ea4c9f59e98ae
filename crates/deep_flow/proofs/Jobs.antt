-- Each job's value is right, by what its phase was made from.
use Rattle.std.proofs.Common.{◌≡◌, ℕ, ◌<◌, List, IsSomeAnd, sym, subst, length, slice_get}
use Rattle.cell_graph.specs.Linked.{Linked, plain}
use Rattle.flat_layout.specs.Layout.{Design}
use Rattle.rule_text.specs.Rules.{Rules}
use Rattle.rule_text.specs.Seen.{rules_seen}
use Rattle.rule_text.specs.declared.rules.RuleSet.{RuleSet}
use Rattle.deep_tables.specs.Laws.{AreJobs}

pub by_jobs : {T : Type 0} (is : Design → Rules → ℕ → T → Type 0) (cell_of : Linked → ℕ → ℕ) (d e : Linked) (r s : RuleSet) (graph : List (List ℕ)) (values : List T) → e ≡ d → s ≡ r → length graph ≡ length d.order
    → ((job : ℕ) → job < length graph → IsSomeAnd (slice_get values job) (is (plain e) (rules_seen s) (cell_of e job)))
    → AreJobs (cell_of d) d (is (plain d) (rules_seen r)) values
by_jobs {T} is cell_of d e r s graph values same rules count each job lt =
    subst (λ x. IsSomeAnd (slice_get values job) (is (plain x) (rules_seen r) (cell_of x job))) same
    (subst (λ x. IsSomeAnd (slice_get values job) (is (plain e) (rules_seen x) (cell_of e job))) rules
    (each job (subst (λ n. job < n) (sym count) lt)))

-- what holds of a layout and its rules holds of the same ones
pub along : (P : Linked → RuleSet → Type 0) (d e : Linked) (r s : RuleSet) → d ≡ e → r ≡ s → P d r → P e s
along P d e r s a b h = subst (λ (x : Linked). P x s) a (subst (λ (y : RuleSet). P d y) b h)
