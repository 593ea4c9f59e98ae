-- What rounds and guesses say of two circuits and their correspondences.
use Rattle.std.specs.Prelude.{ℕ, Bool}
use Rattle.round_laws.specs.Web.{IsRefuted, IsSolved, mate}
use Rattle.round_laws.specs.Nodes.{Node, Layout, Schematic}
use Rattle.round_laws.specs.Guesses.{Search, HasEnded, HasFound, IsWholeSearch}
use Rattle.match_laws.specs.Circuits.{Pair, web_of, Pairing, IsCorrespondence, IsFitting}
use Rattle.match_laws.specs.Circuits.{AreMatched, pairing_of}

-- where a round has unequal counts, there is no correspondence
abbrev pub RefutedPairLaw : Type 0
RefutedPairLaw = (p : Pair) (r : ℕ) → IsFitting p Layout → IsFitting p Schematic
    → IsRefuted (web_of p) r → (f : Pairing) → IsCorrespondence p f → ⊥

-- nor where each guess ended
abbrev pub EndedPairLaw : Type 0
EndedPairLaw = (p : Pair) (same : Node → Node → Bool) (limit : ℕ) (found : Search)
    → IsFitting p Layout → IsFitting p Schematic
    → IsWholeSearch (record { web = web_of p; same_name = same; limit = limit }) found
    → HasEnded found → (f : Pairing) → IsCorrespondence p f → ⊥

-- single stable classes are a correspondence
abbrev pub SolvedPairLaw : Type 0
SolvedPairLaw = (p : Pair) → IsFitting p Layout → IsFitting p Schematic → AreMatched p
    → (solved : IsSolved (web_of p))
    → IsCorrespondence p (pairing_of p (mate (web_of p) solved.round))

-- and a guess that was solved gives one
abbrev pub FoundPairLaw : Type 0
FoundPairLaw = (p : Pair) (same : Node → Node → Bool) (limit : ℕ) (found : Search)
    → IsFitting p Layout → IsFitting p Schematic → AreMatched p
    → IsWholeSearch (record { web = web_of p; same_name = same; limit = limit }) found
    → HasFound found → (f : Pairing) × IsCorrespondence p f
