-- What the answers say.
use Rattle.std.proofs.Common.{inl, inr, zero, suc, List, [], refl, sym, subst, arith}
use Rattle.round_laws.specs.Web.{Guess, under, mate}
use Rattle.round_laws.specs.Guesses.{solved_guesses}
use Rattle.round_laws.specs.Nodes.{Node, Layout, Schematic}
use Rattle.match_laws.specs.Circuits.{Pair, web_of, Pairing, IsCorrespondence, IsFitting, AreMatched}
use Rattle.match_laws.specs.Answer.{Match, DiffersInRound, DiffersByTree, Undecided, Skipped, IsPairing, MatchedLaw, DiffersLaw, UnevenLaw, UndecidedLaw}
use Rattle.round_laws.proofs.Solved.{solved_under}
use Rattle.round_laws.proofs.Guesses.{stopped_at}
use Rattle.match_laws.proofs.Images.{web_good}
use Rattle.match_laws.proofs.Read.{reads}
use Rattle.match_laws.proofs.Verdict.{refuted_pair, ended_pair}

pairing_good : (p : Pair) (guesses : List (Guess Node)) (f : Pairing) → IsFitting p Layout → IsFitting p Schematic → AreMatched p → IsPairing p guesses f → IsCorrespondence p f
pairing_good p guesses f l s m h =
    subst (λ (x : Pairing). IsCorrespondence p x) (sym h.1)
    (reads p (mate (under (web_of p) guesses) h.0.round) l s m (solved_under (web_of p) guesses (web_good p l s) h.0))

pub matched : MatchedLaw
matched p same limit f l s h = elim h.1 [
  | inl plain ↦ pairing_good p [] f l s h.0 plain
  | inr found ↦ pairing_good p (solved_guesses [] found.whole.node found.search) f l s h.0 found.pairing
]

pub differs : DiffersLaw
differs p same limit (Match g) f l s h d c = d
differs p same limit (DiffersInRound r a m n) f l s h d c = refuted_pair p r l s (record { node = a; uneven = h.0.uneven; before = h.0.before }) f c
differs p same limit (DiffersByTree gs) f l s h d c = ended_pair p same limit h.search l s h.whole h.end f c
differs p same limit (Undecided gs) f l s h d c = d
differs p same limit (Skipped q) f l s h d c = d

pub uneven_differs : UnevenLaw
uneven_differs p same limit (DiffersInRound zero a m n) c h u = (a, m, n, refl)
uneven_differs p same limit (DiffersInRound (suc r) a m n) c h u = absurd (u.counts (h.0.before 0 (omega arith) c u.node))
uneven_differs p same limit (Skipped q) c h u = absurd (u.counts (h.0 c u.node))
uneven_differs p same limit (Match f) c h u = elim h.1 [
  | inl plain ↦ absurd (u.counts (plain.0.even 0 (omega arith) c u.node))
  | inr found ↦ absurd (u.counts (found.whole.chosen.even 0 (omega arith) c u.node))
]
uneven_differs p same limit (DiffersByTree gs) c h u = absurd (u.counts (h.whole.chosen.even 0 (omega arith) c u.node))
uneven_differs p same limit (Undecided gs) c h u = absurd (u.counts (h.whole.chosen.even 0 (omega arith) c u.node))

pub undecided_uses : UndecidedLaw
undecided_uses p same limit gs h =
    let e = stopped_at _ _ h.whole.node _ 0 h.search h.whole.search h.end in
    (h.search, h.whole, h.rows_are, omega arith)
