-- Placements that lead others that stand as they do.
use Rattle.std.proofs.Common.{◌≡◌, ◌⊎◌, inl, inr, ℕ, zero, suc, ◌+◌, ◌<◌, List, [], ◌∷◌, ◌++◌, slice_get, get_or, length, refl, sym, ◌∙◌, ap, subst, arith}
use Rattle.std.proofs.Math.Decide.{ℕ_discrete}
use Rattle.link_classes.specs.declared.classes.Link.{Link}
use Rattle.net_walk.specs.Leaders.{AreLeaders, IsFollower, IsLeader}
use Rattle.net_walk.specs.declared.cells.Element.{Element}
use Rattle.touching_pieces.proofs.Links.{added_both, added_none}
use Rattle.touching_pieces.specs.Pairs.{AddsLinks}

before : (ls : List ℕ) (x k : ℕ) → k < length ls → get_or (ls ++ x ∷ []) k 0 ≡ get_or ls k 0
before [] x k lt = absurd (omega (arith, lt))
before (l ∷ ls) x zero lt = refl
before (l ∷ ls) x (suc k) lt = before ls x k (omega (arith, lt))

last : (ls : List ℕ) (x : ℕ) → get_or (ls ++ x ∷ []) (length ls) 0 ≡ x
last [] x = refl
last (l ∷ ls) x = last ls x

long_one : (ls : List ℕ) (x : ℕ) → length (ls ++ x ∷ []) ≡ length ls + 1
long_one [] x = refl
long_one (l ∷ ls) x = let h = long_one ls x in omega (arith, h)

pub no_leaders : (es : List Element) → AreLeaders es 0 []
no_leaders es = record { long = refl; each = λ k lt. absurd (omega (arith, lt)) }

-- what leads in a list leads in a longer one
led_on : (es : List Element) (ls : List ℕ) (x l k : ℕ) → IsLeader es ls l k → IsLeader es (ls ++ x ∷ []) l k
led_on es ls x l k h = record {
  known = (let n = long_one ls x in let lt = h.known in omega (arith, n, lt));
  leads = before ls x l h.known ∙ h.leads;
  alike = h.alike;
}

pub leaders_more : (es : List Element) (n : ℕ) (ls : List ℕ) (x : ℕ) → AreLeaders es n ls → (x ≡ n) ⊎ IsLeader es ls x n → AreLeaders es (n + 1) (ls ++ x ∷ [])
leaders_more es n ls x h is =
    let new = ls ++ x ∷ [] in
    let long = h.long in
    let more = long_one ls x in
    let here : get_or new n 0 ≡ x = ap (λ i. get_or new i 0) (sym long) ∙ last ls x in
    let leads : IsLeader es new x n = elim is [
      | inl e ↦ record { known = omega (arith, long, more, e); leads = ap (λ i. get_or new i 0) e ∙ here; alike = ap (slice_get es) e }
      | inr g ↦ led_on es ls x x n g
    ] in
    record {
      long = omega (arith, long, more);
      each = λ k lt. elim (ℕ_discrete k n) [
        | yes e ↦
            let at : get_or new k 0 ≡ x = ap (λ i. get_or new i 0) e ∙ here in
            subst (λ i. IsLeader es new i k) (sym at) (subst (λ i. IsLeader es new x i) (sym e) leads)
        | no not ↦
            let under : k < n = omega (arith, lt, not) in
            let in_old : k < length ls = omega (arith, under, long) in
            subst (λ i. IsLeader es new i k) (sym (before ls x k in_old)) (led_on es ls x (get_or ls k 0) k (h.each k under))
      ];
    }

pub no_followers : (ls : List ℕ) (links : List Link) → AddsLinks (IsFollower ls 0) links links
no_followers ls links = added_none (IsFollower ls 0) links (λ i j h. absurd (let lt = h.0 in omega (arith, lt)))

pub followers_more : (ls : List ℕ) (n : ℕ) (old mid new : List Link) → AddsLinks (IsFollower ls n) old mid → AddsLinks (λ i j. (get_or ls n 0 ≡ i) × (n ≡ j)) mid new → AddsLinks (IsFollower ls (n + 1)) old new
followers_more ls n old mid new h g = added_both (IsFollower ls n) (λ i j. (get_or ls n 0 ≡ i) × (n ≡ j)) (IsFollower ls (n + 1)) old mid new h g
    (λ i j f. ((let lt = f.0 in omega (arith, lt)), f.1))
    (λ i j f. ((let e = f.1 in omega (arith, e)), ap (λ k. get_or ls k 0) (sym f.1) ∙ f.0))
    (λ i j f. elim (ℕ_discrete j n) [
      | yes e ↦ inr (ap (λ k. get_or ls k 0) (sym e) ∙ f.1, sym e)
      | no not ↦ inl ((let lt = f.0 in omega (arith, lt, not)), f.1)
    ])
