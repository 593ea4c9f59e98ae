-- Where both sides are aligned on the pairs and every answer is a match, layout and schematic
-- expand to the same.
use Rattle.std.specs.Prelude.{◌≡◌, ℕ, true, List, Option}
use Rattle.plain_netlist.specs.Netlist.{Netlist, Slot}
use Rattle.plain_netlist.specs.Flats.{Corresponds, expanded, Reversed, Through}
use Rattle.match_laws.specs.Answer.{Answer}
use Rattle.match_laws.specs.Circuits.{Pairing}
use Rattle.align_laws.specs.Aligned.{IsAligned, IsDeviceAligned, IsNetAligned}
use Rattle.align_laws.specs.Cut.{Alignment}
use Rattle.align_laws.specs.Partners.{IsAlignedPair, IsPair}
use Rattle.composed_laws.specs.Answered.{AreAnswers, AreMatches, Asked}
use Rattle.composed_laws.specs.Composed.{IsMatch, IsComparable, AreDevicesPaired, AreNetsPaired}

-- a layout's netlist and a schematic, their aligned netlists, and the pairings of these
module _ (layout left right schematic : Netlist) (v w : Alignment) (a : IsAligned layout left v)
    (b : IsAligned schematic right w) (pairings : ℕ → Pairing) where
  -- a device below circuit c of the layout and one below circuit d of the schematic: where they
  -- stand in the aligned netlists they are paired
  abbrev pub AreDevicesMatched : ℕ → ℕ → Slot → Slot → Type 0
  AreDevicesMatched c d = Through (IsDeviceAligned layout left v a c)
      (Through (AreDevicesPaired left pairings (v.number c))
      (Reversed (IsDeviceAligned schematic right w b d)))

  -- and so of nets
  abbrev pub AreNetsMatched : ℕ → ℕ → Slot → Slot → Type 0
  AreNetsMatched c d = Through (IsNetAligned layout left v a c)
      (Through (AreNetsPaired left pairings (v.number c))
      (Reversed (IsNetAligned schematic right w b d)))

-- where the aligned netlists match in every pair, kept circuits of one number expand to the same
abbrev pub AlignedMatchLaw : Type 0
AlignedMatchLaw = (layout left right schematic : Netlist) (v w : Alignment)
    (a : IsAligned layout left v) (b : IsAligned schematic right w)
    (children : ℕ → Option (List ℕ)) (pairings : ℕ → Pairing)
    → IsMatch left right children pairings → IsComparable left children
    → IsComparable right children
    → (c d : ℕ) → v.kept c ≡ true → w.kept d ≡ true → v.number c ≡ w.number d
    → Corresponds (expanded layout c) (expanded schematic d)
    (AreDevicesMatched layout left right schematic v w a b pairings c d)
    (AreNetsMatched layout left right schematic v w a b pairings c d)

-- a reported match: where the two sides are the aligned pair and every pair's answer is a match,
-- the circuits of each pair, the two tops among them, expand to the same
abbrev pub MatchedNetlistsLaw : Type 0
MatchedNetlistsLaw = (layout schematic : Netlist) (top right_top : ℕ)
    (same : List (List ℕ × List ℕ)) (left right : Netlist) (v w : Alignment)
    (p : IsAlignedPair layout schematic top right_top same left right v w)
    (asked : Asked) (answers : ℕ → Answer) (pairings : ℕ → Pairing)
    → AreAnswers left right asked answers → AreMatches left answers pairings
    → (c d : ℕ) → IsPair layout schematic top same right_top c d
    → Corresponds (expanded layout c) (expanded schematic d)
    (AreDevicesMatched layout left right schematic v w p.left_aligned p.right_aligned pairings c d)
    (AreNetsMatched layout left right schematic v w p.left_aligned p.right_aligned pairings c d)

-- so do the two tops
abbrev pub MatchedTopsLaw : Type 0
MatchedTopsLaw = (layout schematic : Netlist) (top right_top : ℕ)
    (same : List (List ℕ × List ℕ)) (left right : Netlist) (v w : Alignment)
    (p : IsAlignedPair layout schematic top right_top same left right v w)
    (asked : Asked) (answers : ℕ → Answer) (pairings : ℕ → Pairing)
    → AreAnswers left right asked answers → AreMatches left answers pairings
    → Corresponds (expanded layout top) (expanded schematic right_top)
    (AreDevicesMatched layout left right schematic v w p.left_aligned p.right_aligned pairings top
    right_top)
    (AreNetsMatched layout left right schematic v w p.left_aligned p.right_aligned pairings top
    right_top)
