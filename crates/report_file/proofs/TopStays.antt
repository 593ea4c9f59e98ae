-- The pair of the tops is never taken apart, and lines of the rules stay or go whole.
use Rattle.std.proofs.Common.{◌≡◌, inl, inr, ℕ, suc, ◌+◌, ◌≤◌, Bool, true, false, List, [], ◌∷◌, length, Some, slice_get, refl, sym, ap, subst, ◌∙◌, arith, true≢false}
use Rattle.std.specs.Prelude.{◌==◌, ◌&&◌, ◌||◌, nat_lt, slice_index_or, if◌then◌else◌}
use Rattle.std.specs.List.{list_any}
use Rattle.std.proofs.lemmas.Bool.{cases_Bool}
use Rattle.std.proofs.lemmas.Bool.Decides.{Decides-eqb, Decides-ltb}
use Rattle.std.proofs.lemmas.Option.{slice_get_within, get_or_from_slice_get}
use Rattle.align_laws.proofs.FlatGood.{flat_is_good}
use Rattle.align_laws.proofs.Soundness.{call_from}
use Rattle.align_laws.specs.Cut.{Alignment}
use Rattle.align_laws.specs.Partners.{IsAlignedPair}
use Rattle.composed_laws.specs.Answered.{is_called}
use Rattle.match_laws.specs.Answer.{Answer}
use Rattle.pair_jobs.specs.Answers.{is_difference}
use Rattle.pair_turns.specs.Going.{AreGoing, calls_none, goes_from, takes_apart}
use Rattle.plain_netlist.specs.Netlist.{CallRow, Circuit, Netlist, IsCircuit}
use Rattle.plain_netlist.specs.Sound.{IsCallPath, IsGood}
use Rattle.plain_netlist.proofs.Members.{position}
use Rattle.plain_netlist.specs.Lists.{IsListed}
use Rattle.net_align.specs.Compared.{AreCalleesFirst}

-- no pair takes pair k apart
none_takes : (n k j : ℕ) (cs ds : List Circuit) (vs : List Answer) → ((q : ℕ) (c d : Circuit) → slice_get cs q ≡ Some c → slice_get ds q ≡ Some d → takes_apart n (j + q) c d k ≡ false) → goes_from n j cs ds vs k ≡ false
none_takes n k j [] ds vs h = refl
none_takes n k j (c ∷ cs) [] vs h = refl
none_takes n k j (c ∷ cs) (d ∷ ds) [] h = refl
none_takes n k j (c ∷ cs) (d ∷ ds) (v ∷ vs) h =
    let none : j + 0 ≡ j = omega arith in
    let here : takes_apart n j c d k ≡ false = subst (λ (m : ℕ). takes_apart n m c d k ≡ false) none (h 0 c d refl refl) in
    let more = none_takes n k (j + 1) cs ds vs (λ q x y e f.
    let same : j + suc q ≡ (j + 1) + q = omega arith in subst (λ (m : ℕ). takes_apart n m x y k ≡ false) same (h (suc q) x y e f)) in
    both_off (is_difference v) (takes_apart n j c d k) (goes_from n (j + 1) cs ds vs k) here more
  where
    both_off : (a b c : Bool) → b ≡ false → c ≡ false → ((a && b) || c) ≡ false
    both_off true b c e f = rw (e, f) refl
    both_off false b c e f = f

-- a call of pair k
called_so : (rs : List CallRow) (k : ℕ) → list_any (λ (r : CallRow). r.circuit == k) rs ≡ true → (r : CallRow) × IsListed r rs × (r.circuit ≡ k)
called_so [] k e = absurd cc
called_so (r ∷ rs) k e = step (r.circuit == k) refl (λ h. called_so rs k h) e
  where
    step : (b : Bool) → (r.circuit == k) ≡ b → (list_any (λ (x : CallRow). x.circuit == k) rs ≡ true → (x : CallRow) × IsListed x rs × (x.circuit ≡ k)) → (b || list_any (λ (x : CallRow). x.circuit == k) rs) ≡ true
        → (x : CallRow) × IsListed x (r ∷ rs) × (x.circuit ≡ k)
    step true is more h = (r, inl refl, (Decides-eqb r.circuit k).0 is)
    step false is more h = let m = more h in (m.0, inr m.1, m.2)

not_called : (c : Circuit) (k : ℕ) → ((e : ℕ) (row : CallRow) → slice_get c.calls e ≡ Some row → row.circuit ≡ k → ⊥) → is_called c k ≡ false
not_called c k h = elim (cases_Bool (is_called c k)) [
  | inl t ↦ absurd (let r = called_so c.calls k t in let p = position c.calls r.0 r.1 in h p.0 r.0 p.1 r.2)
  | inr f ↦ f
]

-- the last pair takes itself apart in no case
takes_off : (n j k : ℕ) (c d : Circuit) → n ≤ k + 1 → is_called c k ≡ false → is_called d k ≡ false → takes_apart n j c d k ≡ false
takes_off n j k c d last e f = step (calls_none c && calls_none d) refl
  where
    own : (a : Bool) → (k == j) ≡ a → (a && nat_lt (j + 1) n) ≡ false
    own true is = elim (cases_Bool (nat_lt (j + 1) n)) [
      | inl t ↦ absurd (let l = (Decides-ltb (j + 1) n).0 t in let same = (Decides-eqb k j).0 is in omega (arith, l, same, last))
      | inr g ↦ g
    ]
    own false is = refl

    step : (b : Bool) → (calls_none c && calls_none d) ≡ b → (if b then ((k == j) && nat_lt (j + 1) n) else (is_called c k || is_called d k)) ≡ false
    step true is = own (k == j) refl
    step false is = ap (λ (b : Bool). b || is_called d k) e ∙ f

-- what is called stands no higher
path_height : (nl : Netlist) (height : ℕ → ℕ) → IsGood nl height → (path : List ℕ) (a b : ℕ) → IsCallPath nl a path b → height b ≤ height a
path_height nl height good [] a b e = let same = ap height e in omega (arith, same)
path_height nl height good (k ∷ ks) a b h =
    let below = path_height nl height good ks h.0.circuit b h.2 in
    let l = good.lower a k h.0 h.1 in omega (arith, below, l)

module _ (layout schematic : Netlist) (top right_top : ℕ) (same : List (List ℕ × List ℕ)) (left right : Netlist) (v w : Alignment) (p : IsAlignedPair layout schematic top right_top same left right v w) (order : AreCalleesFirst left) (last : ℕ)
    (is_last : w.number right_top ≡ last) (kept : w.kept right_top ≡ true) (count : length left.circuits ≡ suc last) where
  left_off : (j : ℕ) (c : Circuit) → IsCircuit left j c → is_called c last ≡ false
  left_off j c is = not_called c last (λ e row at same_as.
      let lower = order j e row (c, is, at) in
      let within = slice_get_within left.circuits j c is in omega (arith, lower, within, count, same_as))

  right_off : (j : ℕ) (d : Circuit) → IsCircuit right j d → is_called d last ≡ false
  right_off j d is = not_called d last (λ e row at same_as.
      let a = p.right_aligned in
      let from = call_from schematic right w a.goes a.by p.right_only j e row (d, is, at) in
      let number : w.number from.old.circuit ≡ w.number right_top = sym (ap (λ (r : CallRow). r.circuit) from.cut_to) ∙ (same_as ∙ sym is_last) in
      let top_is = p.right_only.apart from.old.circuit right_top from.stays kept number in
      let lower = (flat_is_good schematic a.by.flat a.goes a.by.flats a.by.height a.by.good a.by.flattened).lower from.circuit from.call from.old from.is in
      let pair = (p.pairs.right_kept from.circuit).0 from.kept in
      let high = path_height schematic a.by.height a.by.good pair.1.right_called.0 right_top from.circuit pair.1.right_called.1 in
      let height = ap a.by.height top_is in omega (arith, lower, high, height))

  -- the tops' pair isn't taken apart
  pub top_never_goes : (answers : List Answer) (goes : List Bool) → length answers ≡ length left.circuits → AreGoing left right answers goes → slice_get goes last ≡ Some true → ⊥
  top_never_goes answers goes long are set =
      let off = none_takes (length answers) last 0 left.circuits right.circuits answers (λ q c d e f. takes_off (length answers) (0 + q) last c d (omega (arith, long, count)) (left_off q c e) (right_off q d f)) in
      let read : slice_index_or goes last false ≡ true = get_or_from_slice_get goes last true false set in
      true≢false (sym read ∙ (are.each last ∙ off))
