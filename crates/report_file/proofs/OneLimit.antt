-- A turn has one limit.
use Rattle.std.proofs.Common.{◌≡◌, inl, inr, ℕ, zero, suc, ◌+◌, ◌<◌, Bool, true, false, List, [], ◌∷◌, length, Option, Some, None, refl, sym, ap, subst, ◌∙◌, arith, true≢false}
use Rattle.base_laws.proofs.Items.{item_at}
use Rattle.std.specs.Prelude.{slice_index_or}
use Rattle.std.specs.List.{sum_by}
use Rattle.std.proofs.lemmas.List.{ext_get_or}
use Rattle.std.proofs.lemmas.List.Sums.{sum_by-cons}
use Rattle.align_laws.specs.Partners.{AreSides}
use Rattle.pair_turns.specs.Limit.{AreSizes, IsFirst, IsLimit, call_rows, capped, is_over}
use Rattle.plain_netlist.specs.Lists.{IsListed}
use Rattle.plain_netlist.specs.Netlist.{CallRow, Circuit, Netlist, IsCircuit}
use Rattle.plain_netlist.specs.Sound.{IsGood}
use Rattle.plain_netlist.proofs.Faults.{sides}
use Rattle.plain_netlist.proofs.Members.{position}

module _ (nl : Netlist) (height : ℕ → ℕ) (good : IsGood nl height) (goes : List Bool) (s t : List ℕ) (h : AreSizes nl goes s) (g : AreSizes nl goes t) where
  counted : (row : CallRow) → slice_index_or s row.circuit 0 ≡ slice_index_or t row.circuit 0 → call_rows goes s row ≡ call_rows goes t row
  counted row e = step (slice_index_or goes row.circuit false) refl
    where
      step : (b : Bool) → slice_index_or goes row.circuit false ≡ b → call_rows goes s row ≡ call_rows goes t row
      step true is = rw is e
      step false is = rw is refl

  same_calls : (calls : List CallRow) → ((row : CallRow) → IsListed row calls → slice_index_or s row.circuit 0 ≡ slice_index_or t row.circuit 0) → sum_by (call_rows goes s) calls ≡ sum_by (call_rows goes t) calls
  same_calls [] each = refl
  same_calls (r ∷ rs) each =
      let first = counted r (each r (inl refl)) in
      let rest = same_calls rs (λ row l. each row (inr l)) in
      let one = sum_by-cons (call_rows goes s) r rs in
      let other = sum_by-cons (call_rows goes t) r rs in omega (arith, first, rest, one, other)

  one_size : (n k : ℕ) (c : Circuit) → height k < n → IsCircuit nl k c → slice_index_or s k 0 ≡ slice_index_or t k 0
  one_size zero k c low is = absurd (omega (arith, low))
  one_size (suc n) k c low is =
      let below : (row : CallRow) → IsListed row c.calls → slice_index_or s row.circuit 0 ≡ slice_index_or t row.circuit 0 = λ row l.
      let p = position c.calls row l in
      let there = good.called k p.0 row (c, is, p.1) in
      let lower = good.lower k p.0 row (c, is, p.1) in one_size n row.circuit there.0 (omega (arith, low, lower)) there.1 in
      h.each k c is ∙ ap (λ (m : ℕ). capped (length c.devices + m)) (same_calls c.calls below) ∙ sym (g.each k c is)

  pub one_sizes : s ≡ t
  one_sizes = ext_get_or 0 s t (h.long ∙ sym g.long) (λ k lt.
      let c = item_at nl.circuits k (let long = h.long in omega (arith, long, lt)) in one_size (suc (height k)) k c.0 (omega arith) c.1)

one_first : (test : ℕ → Bool) (n : ℕ) (a b : Option ℕ) → IsFirst test n a → IsFirst test n b → a ≡ b
one_first test n None None h g = refl
one_first test n None (Some k) h g = absurd (true≢false (sym g.1 ∙ h k g.0))
one_first test n (Some k) None h g = absurd (true≢false (sym h.1 ∙ g k h.0))
one_first test n (Some j) (Some k) h g = elim (sides j k) [
  | inl l ↦ absurd (true≢false (sym h.1 ∙ g.2 j l))
  | inr (inl e) ↦ ap Some e
  | inr (inr l) ↦ absurd (true≢false (sym g.1 ∙ h.2 k l))
]

pub one_limit : (left right : Netlist) (goes : List Bool) (a b : Option ℕ) → AreSides left right → IsLimit left right goes a → IsLimit left right goes b → a ≡ b
one_limit left right goes a b s h g =
    let lefts = one_sizes left s.left_good.0 s.left_good.1 goes h.lefts g.lefts h.left_sizes g.left_sizes in
    let rights = one_sizes right s.right_good.0 s.right_good.1 goes h.rights g.rights h.right_sizes g.right_sizes in
    let moved : IsFirst (is_over goes h.lefts h.rights) (length goes) b =
    subst (λ (ls : List ℕ). IsFirst (is_over goes ls h.rights) (length goes) b) (sym lefts) (subst (λ (rs : List ℕ). IsFirst (is_over goes g.lefts rs) (length goes) b) (sym rights) g.first) in
    one_first (is_over goes h.lefts h.rights) (length goes) a b h.first moved
