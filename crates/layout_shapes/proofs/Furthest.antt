-- How far output lines reach, of the reaches of all names.
use Rattle.std.proofs.Common.{◌≡◌, ℕ, ◌+◌, ◌<◌, ◌≤◌, max, List, [], ◌∷◌, map, drop, get_or, length, refl, sym, ap, ◌∙◌, arith}
use Rattle.std.proofs.Math.Path.{ap₂}
use Rattle.std.proofs.lemmas.List.{at_drop_more, drop_all}
use Rattle.std.proofs.Math.ListN.{get_or-map}
use Rattle.flat_layout.specs.Layers.{Formula, Empty, reach}
use Rattle.rule_text.specs.Reaches.{reaches}
use Rattle.rule_text.specs.Rules.{Rules}
use Rattle.rule_text.specs.declared.rules.Output.{Output}
use Rattle.rule_layers.specs.Formulas.{formulas, greatest}
use Rattle.rule_layers.proofs.Reaching.{reach_law}
use Rattle.layout_shapes.specs.Wide.{output_reach}

same : (found : List ℕ) (xs : List Formula) → found ≡ map reach xs → (lines : List Output)
    → greatest (map (λ o. get_or found o.layer 0) lines) ≡ greatest (map (λ o. reach (get_or xs o.layer Empty)) lines)
same found xs e [] = refl
same found xs e (o ∷ lines) = ap₂ max (ap (λ (l : List ℕ). get_or l o.layer 0) e ∙ get_or-map reach xs o.layer Empty) (same found xs e lines)

-- by the reaches as they are computed
pub by_reaches : (r : Rules) (found : List ℕ) → found ≡ reaches r.names → greatest (map (λ o. get_or found o.layer 0) r.outputs) ≡ output_reach r
by_reaches r found e = same found (formulas r.names) (e ∙ reach_law r.names) r.outputs

regroup : (a b c : ℕ) → max (max a b) c ≡ max b (max a c)
regroup a b c = grind arith

nothing : (a : ℕ) → max a 0 ≡ a
nothing a = grind arith

-- one line after another: what is left of the lines
pub one_more : (f : Output → ℕ) (lines : List Output) (i : ℕ) (d : Output) (most n whole : ℕ) → i < length lines → n ≡ f (get_or lines i d) → max most (greatest (map f (drop i lines))) ≡ whole
    → max (max n most) (greatest (map f (drop (i + 1) lines))) ≡ whole
one_more f lines i d most n whole lt e h =
    let rest = greatest (map f (drop (i + 1) lines)) in
    regroup n most rest ∙ ap (λ m. max most (max m rest)) e ∙ ap (λ m. max most m) (sym (at_drop_more (λ os. greatest (map f os)) lines i d lt)) ∙ h

pub none_left : (f : Output → ℕ) (lines : List Output) (i most whole : ℕ) → length lines ≤ i → max most (greatest (map f (drop i lines))) ≡ whole → most ≡ whole
none_left f lines i most whole le h = sym (nothing most) ∙ ap (λ os. max most (greatest (map f os))) (sym (drop_all i lines le)) ∙ h
