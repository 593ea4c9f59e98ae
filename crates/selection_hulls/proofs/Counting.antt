-- Selections of all depths are no more than those of the rules, and none asks a name further than
-- names reach.
use Rattle.std.proofs.Common.{◌≡◌, ℕ, zero, suc, ◌+◌, ◌<◌, ◌≤◌, ◌==◌, Bool, true, false, cond, List, [], ◌∷◌, length, get_or, refl, ap, subst, arith, length-append}
use Rattle.std.specs.List.{filter}
use Rattle.base_laws.proofs.Items.{map_from}
use Rattle.base_laws.proofs.Lists.{map_count}
use Rattle.flat_layout.specs.Layers.{reach}
use Rattle.rule_layers.proofs.Reaching.{near, reach_in}
use Rattle.rule_stages.specs.Depths.{depths}
use Rattle.rule_stages.specs.Stages.{at_depth, from_depth, stage_of}
use Rattle.rule_text.specs.Reaches.{MOST_REACH}
use Rattle.rule_text.specs.Rules.{Rules}
use Rattle.rule_text.specs.Sound.{IsSound}
use Rattle.rule_text.specs.declared.rules.SelectRule.{SelectRule}
use Rattle.select_laws.specs.Staged.{Stage}
use Rattle.depth_designs.specs.Stages.{stages_by}
use Rattle.selection_hulls.proofs.Near.{AreShort}

pub are_short : (r : Rules) (selected : List SelectRule) → IsSound r → AreShort (stages_by r selected)
are_short r selected sound i s at =
    let m = map_from (stage_of r) selected i s at in
    let inner = reach_in r.names m.0.region in
    let most = near r sound in
    subst (λ (t : Stage). reach t.select.region ≤ MOST_REACH) m.2 (omega (arith, inner, most))

module _ (r : Rules) where
  abbrev depth_of : SelectRule → ℕ
  depth_of s = get_or (depths r) s.name 0

  abbrev picked : List SelectRule → ℕ → List SelectRule
  picked xs depth = filter (λ s. depth_of s == depth) xs

  -- of a list, those of so many depths from one on
  abbrev listed_from : List SelectRule → ℕ → ℕ → ℕ
  listed_from xs depth zero = 0
  listed_from xs depth (suc count) = length (picked xs depth) + listed_from xs (suc depth) count

  one_more : (x : SelectRule) (xs : List SelectRule) (depth : ℕ) → (depth_of x == depth) ≡ true → length (picked (x ∷ xs) depth) ≡ suc (length (picked xs depth))
  one_more x xs depth e = ap (λ (c : Bool). length (cond c (x ∷ picked xs depth) (picked xs depth))) e

  no_more : (x : SelectRule) (xs : List SelectRule) (depth : ℕ) → (depth_of x == depth) ≡ false → length (picked (x ∷ xs) depth) ≡ length (picked xs depth)
  no_more x xs depth e = ap (λ (c : Bool). length (cond c (x ∷ picked xs depth) (picked xs depth))) e

  -- one of a depth before isn't among them
  below : (x : SelectRule) (xs : List SelectRule) (depth count : ℕ) → depth_of x < depth → listed_from (x ∷ xs) depth count ≤ listed_from xs depth count
  below x xs depth zero lt = omega arith
  below x xs depth (suc count) lt = by (depth_of x == depth) refl (below x xs (suc depth) count (omega (arith, lt)))
    where
      by : (b : Bool) → (depth_of x == depth) ≡ b → listed_from (x ∷ xs) (suc depth) count ≤ listed_from xs (suc depth) count
          → length (picked (x ∷ xs) depth) + listed_from (x ∷ xs) (suc depth) count ≤ length (picked xs depth) + listed_from xs (suc depth) count
      by true e rest = absurd (let same : depth_of x ≡ depth = grind (arith, e) in let z : ⊥ = omega (arith, lt, same) in z)
      by false e rest = let one = no_more x xs depth e in omega (arith, one, rest)

  -- each other is at most once
  once : (x : SelectRule) (xs : List SelectRule) (depth count : ℕ) → listed_from (x ∷ xs) depth count ≤ suc (listed_from xs depth count)
  once x xs depth zero = omega arith
  once x xs depth (suc count) = by (depth_of x == depth) refl (once x xs (suc depth) count)
    where
      by : (b : Bool) → (depth_of x == depth) ≡ b → listed_from (x ∷ xs) (suc depth) count ≤ suc (listed_from xs (suc depth) count)
          → length (picked (x ∷ xs) depth) + listed_from (x ∷ xs) (suc depth) count ≤ suc (length (picked xs depth) + listed_from xs (suc depth) count)
      by true e on =
          let same : depth_of x ≡ depth = grind (arith, e) in
          let one = one_more x xs depth e in let rest = below x xs (suc depth) count (omega (arith, same)) in omega (arith, one, rest)
      by false e on = let one = no_more x xs depth e in omega (arith, one, on)

  few : (xs : List SelectRule) (depth count : ℕ) → listed_from xs depth count ≤ length xs
  few [] depth zero = omega arith
  few [] depth (suc count) = let rest = few [] (suc depth) count in omega (arith, rest)
  few (x ∷ xs) depth count = let a = once x xs depth count in let b = few xs depth count in omega (arith, a, b)

  count_from : (depth count : ℕ) → length (from_depth r depth count) + length (at_depth r (depth + count)) ≡ listed_from r.selects depth (suc count)
  count_from depth zero =
      let last = ap (λ n. length (at_depth r n)) (let e : depth + 0 ≡ depth = omega arith in e) in
      let same : length (at_depth r depth) ≡ length (picked r.selects depth) = refl in
      omega (arith, last, same)
  count_from depth (suc count) =
      let rest = count_from (suc depth) count in
      let same : depth + suc count ≡ suc depth + count = omega arith in
      let last = ap (λ n. length (at_depth r n)) same in
      let all = length-append (at_depth r depth) (from_depth r (suc depth) count) in
      omega (arith, rest, last, all)

  -- the selections up to a depth are some of the rules'
  pub few_stages : (count : ℕ) → length (stages_by r (from_depth r 1 count)) + length (stages_by r (at_depth r (suc count))) ≤ length r.selects
  few_stages count =
      let a = map_count (stage_of r) (from_depth r 1 count) in
      let b = map_count (stage_of r) (at_depth r (suc count)) in
      let is = count_from 1 count in
      let le = few r.selects 1 (suc count) in
      let last = ap (λ n. length (at_depth r n)) (let e : 1 + count ≡ suc count = omega arith in e) in
      omega (arith, a, b, is, le, last)
