-- What lines by which circuits have no partner say.
use Rattle.std.specs.Prelude.{◌≡◌, ◌≤◌, ℕ, List, true, length, map}
use Rattle.net_names.specs.Folding.{folded_bytes}
use Rattle.plain_netlist.specs.Lists.{AreApart, IsListed}
use Rattle.plain_netlist.specs.Netlist.{Netlist}
use Rattle.align_laws.specs.Partners.{IsPartner, HasName}
use Rattle.pair_turns.specs.Alone.{Names, all_names, first_names, has_name, longest, same_alone}
use Rattle.pair_turns.specs.Alone.{second_names}

-- no name is longer
abbrev pub AreAtMost : ℕ → List (List ℕ) → Type 0
AreAtMost most names = (name : List ℕ) → IsListed name names → length name ≤ most

-- none is longer than the longest
abbrev pub LongestLaw : Type 0
LongestLaw = (names : List (List ℕ)) → AreAtMost (longest names) names

-- no two circuits without a partner have one name
pub record AreNamesOnce (alone : Names) : Type 0 where
  pub lefts : AreApart (map folded_bytes alone.lefts)
  pub rights : AreApart (map folded_bytes alone.rights)

-- then no two lines have one name on one side
pub record LinesApartLaw : Type 0 where
  pub lefts : (most : ℕ) (alone : Names) (layout schematic : Netlist)
      (same : List (List ℕ × List ℕ)) → AreAtMost most (all_names layout schematic same alone)
      → AreNamesOnce alone → AreApart (map folded_bytes (first_names same))
      → AreApart (map folded_bytes (first_names (same_alone most alone same)))
  pub rights : (most : ℕ) (alone : Names) (layout schematic : Netlist)
      (same : List (List ℕ × List ℕ)) → AreAtMost most (all_names layout schematic same alone)
      → AreNamesOnce alone → AreApart (map folded_bytes (second_names same))
      → AreApart (map folded_bytes (second_names (same_alone most alone same)))

-- none of these circuits has a partner
pub record AloneLaw : Type 0 where
  pub left : (most : ℕ) (alone : Names) (layout schematic : Netlist) (top : ℕ)
      (same : List (List ℕ × List ℕ)) → AreAtMost most (all_names layout schematic same alone)
      → (a b : ℕ) (name : List ℕ) → HasName layout a name → has_name alone.lefts name ≡ true
      → IsPartner layout schematic top (same_alone most alone same) a b → ⊥
  pub right : (most : ℕ) (alone : Names) (layout schematic : Netlist) (top : ℕ)
      (same : List (List ℕ × List ℕ)) → AreAtMost most (all_names layout schematic same alone)
      → (a b : ℕ) (name : List ℕ) → HasName schematic b name → has_name alone.rights name ≡ true
      → IsPartner layout schematic top (same_alone most alone same) a b → ⊥
