-- The globals at ends and bulks.
use Rattle.std.proofs.Common.{◌≡◌, inl, inr, ℕ, zero, suc, ◌<◌, ◌+◌, if◌then◌else◌, List, [], ◌∷◌, ◌++◌, Option, Some, None, map, take, get_or, slice_get, length, refl, sym, ◌∙◌, ap, arith}
use Rattle.std.proofs.Math.Seq.{take-length}
use Rattle.std.proofs.lemmas.Bool.Decides.{eqb_tells}
use Rattle.std.proofs.lemmas.List.{length-map, map-append, take_more}
use Rattle.std.proofs.lemmas.Option.{get_or_from_slice_get, slice_get_within}
use Rattle.flat_layout.specs.Gates.{Rule, anode_ground, ground}
use Rattle.flat_layout.specs.Regions.{Wiring, ground_of}
use Rattle.gate_phase.specs.Terminals.{RuleGrounds, grounds_by, grounds_seen}
use Rattle.gate_phase.specs.declared.bulks.Grounds.{Grounds}
use Rattle.gate_phase.specs.declared.device.Device.{Device}
use Rattle.net_phase.specs.Wires.{ground_line}
use Rattle.net_walk.specs.declared.globals.Grounded.{Grounded}

pub no_line : (c : ℕ) (ls : List Grounded) → ((k : ℕ) (g : Grounded) → k < length ls → slice_get ls k ≡ Some g → g.conductor ≡ c → ⊥) → None ≡ ground_of c (map ground_line ls)
no_line c [] none = refl
no_line c (l ∷ ls) none = elim (eqb_tells l.conductor c) [
  | inl (t, f) ↦ absurd (none 0 l (omega arith) refl f)
  | inr (t, n) ↦ no_line c ls (λ k g lt at. none (suc k) g (omega arith) at) ∙ sym (ap (λ b. if b then Some l.global else ground_of c (map ground_line ls)) t)
]

pub first_line : (c : ℕ) (ls : List Grounded) (i : ℕ) (g : Grounded) → slice_get ls i ≡ Some g → g.conductor ≡ c → ((k : ℕ) (h : Grounded) → k < i → slice_get ls k ≡ Some h → h.conductor ≡ c → ⊥) → Some g.global ≡ ground_of c (map ground_line ls)
first_line c [] i g at e none = let f : None ≡ Some g = at in let z : ⊥ = cc in absurd z
first_line c (l ∷ ls) zero g at e none =
    let same : l ≡ g = (let h : Some l ≡ Some g = at in cc) in
    elim (eqb_tells l.conductor c) [
      | inl (t, f) ↦ ap (λ (x : Grounded). Some x.global) (sym same) ∙ sym (ap (λ b. if b then Some l.global else ground_of c (map ground_line ls)) t)
      | inr (t, n) ↦ absurd (n (ap (λ (x : Grounded). x.conductor) same ∙ e))
    ]
first_line c (l ∷ ls) (suc i) g at e none = elim (eqb_tells l.conductor c) [
  | inl (t, f) ↦ absurd (none 0 l (omega arith) refl f)
  | inr (t, n) ↦ first_line c ls i g at e (λ k h lt there. none (suc k) h (omega arith) there) ∙ sym (ap (λ b. if b then Some l.global else ground_of c (map ground_line ls)) t)
]

-- what was found of all is all
pub all_found : {A B C : Type 0} (f : A → C) (g : B → C) (xs : List A) (found : List B) (n : ℕ) → n ≡ length xs → map g found ≡ map f (take n xs) → map g found ≡ map f xs
all_found f g xs found n e h = h ∙ ap (λ l. map f l) (ap (λ k. take k xs) e ∙ take-length xs)

-- and so with one more
pub one_found : {A B C : Type 0} (f : A → C) (g : B → C) (xs : List A) (found new : List B) (n : ℕ) (x : A) (y : B) → slice_get xs n ≡ Some x → new ≡ found ++ y ∷ [] → g y ≡ f x → map g found ≡ map f (take n xs) → map g new ≡ map f (take (n + 1) xs)
one_found f g xs found new n x y at is same h =
    let more : take (n + 1) xs ≡ take n xs ++ x ∷ [] = take_more xs n x (slice_get_within xs n x at) ∙ ap (λ z. take n xs ++ z ∷ []) (get_or_from_slice_get xs n x x at) in
    ap (λ l. map g l) is ∙ map-append g found (y ∷ []) ∙ ap (λ l. l ++ g y ∷ []) h ∙ ap (λ z. map f (take n xs) ++ z ∷ []) same ∙ sym (map-append f (take n xs) (x ∷ [])) ∙ ap (λ l. map f l) (sym more)

-- the globals of a rule are those of its names' conductors
pub grounds_same : (w : Wiring) (u : Rule) (x : Device) (ls : List Grounded) (g : Grounds) → map ground_line ls ≡ w.grounds → u.ts ≡ x.ts → u.tb ≡ x.tb → g.ends ≡ ground_of x.ts (map ground_line ls) → g.bulk ≡ ground_of x.tb (map ground_line ls)
    → grounds_seen g ≡ grounds_by w u
grounds_same w u x ls g lines ts tb ends bulk =
    let first : g.ends ≡ anode_ground w u = ends ∙ ap (λ c. ground_of c (map ground_line ls)) (sym ts) ∙ ap (λ l. ground_of u.ts l) lines in
    let second : g.bulk ≡ ground w u = bulk ∙ ap (λ c. ground_of c (map ground_line ls)) (sym tb) ∙ ap (λ l. ground_of u.tb l) lines in
    ap (λ (o : Option ℕ). let y : RuleGrounds = record { ends = o; bulk = g.bulk } in y) first ∙ ap (λ (o : Option ℕ). let y : RuleGrounds = record { ends = anode_ground w u; bulk = o } in y) second

map_at : {A B : Type 0} (f : A → B) (xs : List A) (n : ℕ) (d : A) → n < length xs → slice_get (map f xs) n ≡ Some (f (get_or xs n d))
map_at f [] n d lt = absurd (let z : ⊥ = omega arith in z)
map_at f (x ∷ xs) zero d lt = refl
map_at f (x ∷ xs) (suc n) d lt = map_at f xs n d (omega arith)

-- the globals at a rule's number are the rule's
pub grounds_at : (w : Wiring) (rules : List Rule) (all : List Grounds) (n : ℕ) (d : Grounds) (u : Rule) → map grounds_seen all ≡ map (grounds_by w) rules → slice_get rules n ≡ Some u → (n < length all) × (grounds_by w u ≡ grounds_seen (get_or all n d))
grounds_at w rules all n d u is at =
    let lt = slice_get_within rules n u at in
    let long : length all ≡ length rules = sym (length-map all grounds_seen) ∙ ap (λ (l : List RuleGrounds). length l) is ∙ length-map rules (grounds_by w) in
    let inside : n < length all = omega (arith, lt, long) in
    let here : slice_get (map (grounds_by w) rules) n ≡ Some (grounds_by w u) = map_at (grounds_by w) rules n u lt ∙ ap (λ (v : Rule). Some (grounds_by w v)) (get_or_from_slice_get rules n u u at) in
    let there : slice_get (map (grounds_by w) rules) n ≡ Some (grounds_seen (get_or all n d)) = ap (λ (l : List RuleGrounds). slice_get l n) (sym is) ∙ map_at grounds_seen all n d inside in
    (inside, (let f : Some (grounds_by w u) ≡ Some (grounds_seen (get_or all n d)) = sym here ∙ there in cc))
