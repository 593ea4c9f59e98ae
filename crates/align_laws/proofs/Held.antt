-- The held nets are fixed by what is kept.
use Rattle.std.proofs.Common.{◌≡◌, inl, inr, ℕ, zero, suc, ◌<◌, true, sym, ◌∙◌, ap, subst, arith}
use Rattle.plain_netlist.proofs.Once.{one_call}
use Rattle.plain_netlist.specs.Netlist.{CallRow, Netlist, IsCall}
use Rattle.align_laws.specs.Flat.{Maps, AreInlined, call_through}
use Rattle.align_laws.specs.Cut.{Alignment, AreHeld}
use Rattle.align_laws.specs.Words.{OneHeldLaw, LowerLaw}

held_to : (f : Netlist) (a b : Alignment) (height : ℕ → ℕ) → ((c k : ℕ) (row : CallRow) → IsCall f c k row → height row.circuit < height c) → AreHeld f a → AreHeld f b → ((c : ℕ) → a.kept c ≡ b.kept c)
    → (h c n : ℕ) → height c < h → a.kept c ≡ true → a.held c n ≡ true → b.held c n ≡ true
held_to f a b height lower ha hb same zero c n low kept h = absurd (let l = low in omega arith)
held_to f a b height lower ha hb same (suc m) c n low kept h = elim ((ha c n kept).0 h) [
  | inl dev ↦ (hb c n (sym (same c) ∙ kept)).1 (inl dev)
  | inr (k, row, p, inner, call, kept', net, pin, below) ↦
      let under = lower c k row call in
      let deeper : height row.circuit < m = let l = low in omega arith in
      (hb c n (sym (same c) ∙ kept)).1 (inr (k, row, p, inner, call, sym (same row.circuit) ∙ kept', net, pin, held_to f a b height lower ha hb same m row.circuit inner deeper kept' below))
]

pub one_held : OneHeldLaw
one_held f a b height lower ha hb same c n kept = (
  (λ h. held_to f a b height lower ha hb same (suc (height c)) c n (omega arith) kept h),
  (λ h. held_to f b a height lower hb ha (λ c. sym (same c)) (suc (height c)) c n (omega arith) (sym (same c) ∙ kept) h),
)

lower_flat : (g f : Netlist) (v : Maps) (height : ℕ → ℕ) → AreInlined g f v height → (h c e : ℕ) (row : CallRow) → height c < h → IsCall f c e row → height row.circuit < height c
lower_flat g f v height are zero c e row low call = absurd (let l = low in omega arith)
lower_flat g f v height are (suc h) c e row low call = elim ((are.each c).calls e row call) [
  | inl (k, given, fate) ↦ are.lower c k row given
  | inr (k, given, i, m, own, is, fate, deep, num) ↦
      let there = ((are.each c).goes k i given is fate).call m own deep in
      let one : call_through i.net own ≡ row = one_call f c e (call_through i.net own) row (subst (λ (n : ℕ). IsCall f c n (call_through i.net own)) num there.0) call in
      let lower = are.lower c k given is in
      let deeper : height given.circuit < h = let a = low in omega arith in
      let rec = lower_flat g f v height are h given.circuit m own deeper deep in
      let circuit : height own.circuit ≡ height row.circuit = ap (λ (r : CallRow). height r.circuit) one in
      let a = lower in let b = rec in let c = circuit in omega arith
]

pub lower_calls : LowerLaw
lower_calls g f v height are c e row call = lower_flat g f v height are (suc (height c)) c e row (omega arith) call
