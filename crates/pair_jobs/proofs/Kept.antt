-- The pins of the called pairs, one pair after the other.
use Rattle.std.proofs.Common.{◌≡◌, ◌≢◌, ℕ, ◌+◌, ◌<◌, Bool, true, false, cond, List, [], ◌∷◌, ◌++◌, take, length, get_or, Option, Some, None, refl, sym, ◌∙◌, ap, subst}
use Rattle.std.proofs.Math.Decide.{ℕ_discrete}
use Rattle.std.proofs.lemmas.List.{take_more}
use Rattle.std.proofs.lemmas.Option.{slice_get-map, slice_get-get_or}
use Rattle.std.specs.Option.{option_map}
use Rattle.align_laws.specs.Lists.{circuit_or, given_of}
use Rattle.job_graph.proofs.Inputs.{has_here, has_else}
use Rattle.job_graph.specs.Graph.{has}
use Rattle.net_model.specs.Rows.{plain_circuit, plain_netlist}
use Rattle.net_model.specs.declared.netlist.Circuit.{Circuit}
use Rattle.net_model.specs.declared.netlist.Netlist.{Netlist}

take_none : (xs : List ℕ) → take 0 xs ≡ []
take_none [] = refl
take_none (x ∷ xs) = refl

pub none_kept : (F now : ℕ → Option (List ℕ)) (inputs : List ℕ) → ((k : ℕ) → now k ≡ None) → (k : ℕ) → now k ≡ cond (has k (take 0 inputs)) (F k) None
none_kept F now inputs h k = h k ∙ sym (ap (λ l. cond (has k l) (F k) None) (take_none inputs))

push_here : (x y : ℕ) (xs : List ℕ) → x ≡ y → has x (xs ++ y ∷ []) ≡ true
push_here x y [] e = has_here x y [] e
push_here x y (z ∷ xs) e = elim (ℕ_discrete x z) [ yes f ↦ has_here x z (xs ++ y ∷ []) f | no n ↦ has_else x z (xs ++ y ∷ []) n ∙ push_here x y xs e ]

push_else : (x y : ℕ) (xs : List ℕ) → x ≢ y → has x (xs ++ y ∷ []) ≡ has x xs
push_else x y [] n = has_else x y [] n
push_else x y (z ∷ xs) n = elim (ℕ_discrete x z) [
  | yes f ↦ has_here x z (xs ++ y ∷ []) f ∙ sym (has_here x z xs f)
  | no m ↦ has_else x z (xs ++ y ∷ []) m ∙ (push_else x y xs n ∙ sym (has_else x z xs m))
]

pub kept_more : (F old new : ℕ → Option (List ℕ)) (inputs : List ℕ) (n q : ℕ) → n < length inputs → q ≡ get_or inputs n 0 → new q ≡ F q → ((k : ℕ) → k ≢ q → new k ≡ old k)
    → ((k : ℕ) → old k ≡ cond (has k (take n inputs)) (F k) None) → (k : ℕ) → new k ≡ cond (has k (take (n + 1) inputs)) (F k) None
kept_more F old new inputs n q lt is here rest h k =
    let more : take (n + 1) inputs ≡ take n inputs ++ q ∷ [] = take_more inputs n 0 lt ∙ ap (λ x. take n inputs ++ x ∷ []) (sym is) in
    subst (λ l. new k ≡ cond (has k l) (F k) None) (sym more) (elim (ℕ_discrete k q) [
      | yes e ↦ subst (λ b. new k ≡ cond b (F k) None) (sym (push_here k q (take n inputs) e)) (subst (λ x. new x ≡ F x) (sym e) here)
      | no m ↦ subst (λ b. new k ≡ cond b (F k) None) (sym (push_else k q (take n inputs) m)) (rest k m ∙ h k)
    ])

cond_same : {A : Type 0} (b : Bool) (x : A) → cond b x x ≡ x
cond_same true x = refl
cond_same false x = refl

-- a pair without pins
pub kept_none : (F old : ℕ → Option (List ℕ)) (inputs : List ℕ) (n q : ℕ) → n < length inputs → q ≡ get_or inputs n 0 → F q ≡ None
    → ((k : ℕ) → old k ≡ cond (has k (take n inputs)) (F k) None) → (k : ℕ) → old k ≡ cond (has k (take (n + 1) inputs)) (F k) None
kept_none F old inputs n q lt is none h =
    let here : old q ≡ F q = h q ∙ (ap (λ (o : Option (List ℕ)). cond (has q (take n inputs)) o None) none ∙ (cond_same (has q (take n inputs)) None ∙ sym none)) in
    kept_more F old old inputs n q lt is here (λ k m. refl) h

-- a circuit by its number
pub given_at : (nl : Netlist) (k : ℕ) (c : Circuit) → k < length nl.circuits.items → c ≡ get_or nl.circuits.items k c → given_of (plain_netlist nl) k ≡ plain_circuit c
given_at nl k c lt is = ap circuit_or (slice_get-map plain_circuit nl.circuits.items k ∙ ap (option_map plain_circuit) (slice_get-get_or nl.circuits.items k c lt ∙ ap (λ x. Some x) (sym is)))
