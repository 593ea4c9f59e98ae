-- The told bad gates, the answer, and the bad gates of the flat layout.
use Rattle.std.proofs.Common.{◌≡◌, inl, ℕ, ◌<◌, List, [], ◌∷◌, length, refl, sym, ap, ◌∙◌, arith}
use Rattle.std.proofs.lemmas.List.{nil_from_length}
use Rattle.cell_graph.specs.Linked.{plain}
use Rattle.deep_tables.specs.declared.gates.BadGate.{BadGate}
use Rattle.gds_layout.specs.declared.layout.Layout.{Layout}
use Rattle.netlist_file.specs.Flat.{HasNoBadGate, ShowsFlat}
use Rattle.plain_netlist.specs.Lists.{IsListed}
use Rattle.plain_netlist.specs.Netlist.{Netlist}
use Rattle.rule_layers.specs.Meaning.{device_rules, wiring_of}
use Rattle.rule_text.specs.Rules.{Rules}
use Rattle.lvs_run.specs.Answers.{Answer, Good, Bad}
use Rattle.lvs_run.specs.Flat.{HasBadGate, IsOfGates}
use Rattle.lvs_run.specs.Outcomes.{gates_answer}

listed_some : (b : BadGate) (bad : List BadGate) → IsListed b bad → 0 < length bad
listed_some b [] h = absurd h
listed_some b (x ∷ xs) h = omega (arith)

module _ (l : Layout) (r : Rules) (text : List ℕ) (nl : Netlist) (top : ℕ) where
  pub none_bad : (bad : List BadGate) → ShowsFlat l r text nl top bad → length bad ≡ 0 → HasNoBadGate (plain l.design) (wiring_of r) (device_rules r)
  none_bad bad shows e = shows.no_bad.0 (nil_from_length bad e)

  pub no_length : (bad : List BadGate) → ShowsFlat l r text nl top bad → HasNoBadGate (plain l.design) (wiring_of r) (device_rules r) → length bad ≡ 0
  no_length bad shows none = ap (λ (bs : List BadGate). length bs) (shows.no_bad.1 none)

  pub one_bad : (bad : List BadGate) → ShowsFlat l r text nl top bad → 0 < length bad → HasBadGate l r
  one_bad [] shows h = absurd (omega (arith, h))
  one_bad (b ∷ bs) shows h = let found = shows.all_bad b (inl refl) in (found.0, found.1, found.2)

  pub some_length : (bad : List BadGate) → ShowsFlat l r text nl top bad → HasBadGate l r → 0 < length bad
  some_length bad shows (g, cause, is) = let told = shows.told g cause is in listed_some told.0 bad told.1

  -- the answer of the told gates is that of the flat layout's
  pub of_gates : (bad : List BadGate) (a : Answer) → a ≡ gates_answer bad → ShowsFlat l r text nl top bad → IsOfGates l r a
  of_gates [] a e shows =
      let not_bad : a ≡ Bad → ⊥ = λ b. (let no : Good ≡ Bad = sym e ∙ b in cc) in
      let not_some : HasBadGate l r → ⊥ = λ h. (let lt = some_length [] shows h in omega (arith, lt)) in
      record {
        good = ((λ g. shows.no_bad.0 refl), (λ none. e));
        bad = ((λ b. absurd (not_bad b)), (λ h. absurd (not_some h)));
      }
  of_gates (b ∷ bs) a e shows =
      let not_good : a ≡ Good → ⊥ = λ g. (let no : Bad ≡ Good = sym e ∙ g in cc) in
      let not_none : HasNoBadGate (plain l.design) (wiring_of r) (device_rules r) → ⊥ = λ none. (let nil : b ∷ bs ≡ [] = shows.no_bad.1 none in cc) in
      record {
        good = ((λ g. absurd (not_good g)), (λ none. absurd (not_none none)));
        bad = ((λ is. one_bad (b ∷ bs) shows (omega arith)), (λ h. e));
      }
