-- A search that begins.
use Rattle.std.proofs.Common.{◌≡◌, ℕ, ◌<◌, List, [], Option, None, refl, sym, subst, ◌∙◌, arith}
use Rattle.std.specs.Prelude.{Vec}
use Rattle.std.specs.Global.{Global}
use Rattle.round_laws.specs.Web.{IsWeb, under}
use Rattle.round_laws.specs.Guesses.{IsChosen, candidates}
use Rattle.round_laws.specs.Stack.{Level as Stage, IsLevel}
use Rattle.match_laws.specs.Circuits.{Pair, web_of}
use Rattle.match_types.specs.declared.answer.Guess.{Guess as Try}
use Rattle.match_graph.specs.declared.graph.Graph.{Graph}
use Rattle.match_graph.specs.Graph.{IsGraphOf, nodes_of}
use Rattle.match_rounds.specs.declared.classes.Classes.{Classes}
use Rattle.match_rounds.specs.Refined.{AreSettled}
use Rattle.match_rounds.specs.Start.{AreGuesses, guessed_web}
use Rattle.match_rounds.proofs.Started.{below_node}
use Rattle.refine_match.specs.declared.candidates.Candidate.{Candidate}
use Rattle.refine_match.specs.declared.searching.Level.{Level}
use Rattle.refine_match.specs.declared.searching.Search.{Search}
use Rattle.refine_match.specs.declared.lists.Lists.{Lists}
use Rattle.refine_match.specs.ByRounds.{AreTies}
use Rattle.refine_match.specs.Classes.{AreStableClasses}
use Rattle.refine_match.specs.Candidates.{remaining}
use Rattle.refine_match.specs.Searching.{setting_in, IsSearchOf, IsUnderWay}
use Rattle.refine_match.proofs.Crossed.{came_from, stable_classes}
use Rattle.refine_match.proofs.Chosen.{is_chosen}
use Rattle.refine_match.proofs.Stages.{all_behind}
use Rattle.refine_match.proofs.Uneven.{told}

no_guesses : (g : Graph) → AreGuesses g []
no_guesses g = record { left = λ i l. absurd (omega arith); right = λ i l. absurd (omega arith); node = λ i l. absurd (omega arith) }

pub begun_search : (p : Pair) (g : Graph) (d : Classes) (k : Lists) (x limit : ℕ) (v : Level) → IsGraphOf p g → IsWeb (web_of p) → AreTies g d k x → v.node ≡ x → v.last ≡ None → IsSearchOf p g limit [] v [] [] 0
begun_search p g d k x limit v h good ties ev last =
    let s = setting_in p limit in
    let t = told p g h good in
    let stable : AreStableClasses p [] d = stable_classes p g [] [] d t ties.settled in
    let inside = ties.partition.inside in
    let low = ties.least.below in
    let small : x < nodes_of g = omega arith in
    let found = came_from p g x h (below_node g x small) in
    let a = found.0 in
    let chosen : IsChosen (under (web_of p) []) stable.round a = is_chosen p g [] d x a h stable ties.least (record { node = found.1; index = sym found.2 }) in
    let tries = candidates s (under (web_of p) []) stable.round a in
    let stage : Stage = record { above = []; node = a; tries = tries; start = 0; done = []; rest = tries } in
    let level : IsLevel s stage = λ u k. k in
    record {
      first = stage;
      stage = stage;
      above = [];
      stack = (refl, refl, refl, refl, level);
      begins = record { above = refl; start = refl; round = stable.round; chosen = chosen; tries = refl };
      told = t;
      here = record {
        round = stable.round;
        chosen = chosen;
        tries = refl;
        node = sym found.2 ∙ sym ev;
        left = subst (λ (o : Option Candidate). tries ≡ remaining p a o tries) (sym last) (all_behind tries);
      };
      outer_are = refl;
      refuted_is = refl;
      rows_are = refl;
    }

pub begun : (p : Pair) (g : Graph) (d : Classes) (k : Lists) (x limit : ℕ) (v : Level) (ns : Vec (ℕ × ℕ) Global) (vs : Vec Level Global) (ts : Vec Try Global) → IsGraphOf p g → IsWeb (web_of p) → AreTies g d k x → v.node ≡ x → v.last ≡ None
    → ns.items ≡ [] → vs.items ≡ [] → ts.items ≡ []
    → IsUnderWay p g (let u : Search = record { limit = limit; refuted = 0; classes = d; lists = k; guesses = ns; level = v; outer = vs; rows = ts } in u)
begun p g d k x limit v ns vs ts h good ties ev last en es et = record {
  search = subst (λ (us : List Try). IsSearchOf p g limit ns.items v vs.items us 0) (sym et)
      (subst (λ (us : List Level). IsSearchOf p g limit ns.items v us [] 0) (sym es)
      (subst (λ (us : List (ℕ × ℕ)). IsSearchOf p g limit us v [] [] 0) (sym en) (begun_search p g d k x limit v h good ties ev last)));
  partition = ties.partition;
  settled = subst (λ (us : List (ℕ × ℕ)). AreSettled (guessed_web g us) d) (sym en) ties.settled;
  guesses = subst (λ (us : List (ℕ × ℕ)). AreGuesses g us) (sym en) (no_guesses g);
  lists = ties.lists;
  within = omega arith;
}
