-- One node more is pulled out of its class.
use Rattle.std.proofs.Common.{◌≡◌, ◌≢◌, ◌<◌, ◌≤◌, ◌+◌, ◌-◌, ◌==◌, ◌||◌, ℕ, zero, suc, Bool, true, false, cond, List, length, slice_index, get_or, take, refl, sym, subst, ◌∙◌, ap, arith, length-set}
use Rattle.std.proofs.lemmas.Bool.{ne_eqb}
use Rattle.std.specs.List.{list_any}
use Rattle.std.proofs.Math.Decide.{ℕ_discrete}
use Rattle.std.proofs.Math.ListN.{set}
use Rattle.std.proofs.lemmas.List.{get_or-set_same, get_or-set_other}
use Rattle.std.proofs.lemmas.List.Folds.{list_any_more}
use Rattle.std.proofs.lemmas.Bool.Decides.{Decides-eqb}
use Rattle.match_rounds.specs.declared.order.Order.{Order}
use Rattle.match_rounds.specs.Order.{IsPlaced, IsSwapped, class_at, whole_of, AreToPull, is_among, ArePulled}

none_before : (nodes : List ℕ) (i a : ℕ) → i ≤ length nodes → ((j : ℕ) → j < i → slice_index nodes j ≢ a) → is_among nodes i a ≡ false
none_before nodes zero a l h = refl
none_before nodes (suc i) a l h =
    let more : list_any (λ x. x == a) (take (i + 1) nodes) ≡ (is_among nodes i a || (slice_index nodes i == a)) = list_any_more (λ x. x == a) nodes i 0 (omega arith) in
    let s : suc i ≡ i + 1 = omega arith in
    let before = none_before nodes i a (omega arith) (λ j m. h j (omega arith)) in
    let here = ne_eqb (slice_index nodes i) a (h i (omega arith)) in
    ap (λ (m : ℕ). is_among nodes m a) s ∙ (more ∙ (ap (λ (t : Bool). t || (slice_index nodes i == a)) before ∙ here))

-- where one place takes the new class and each other keeps its own
record IsMoved (q r : ℕ → ℕ) (n e whole fresh : ℕ) : Type 0 where
  was : q e ≡ whole
  is : r e ≡ fresh
  same : (k : ℕ) → k < n → k ≢ e → r k ≡ q k

moved : (now next : Order) (cur after : List ℕ) (n x e whole fresh : ℕ) → IsPlaced now n → length cur ≡ n → x < n → e < n → IsSwapped now next x e → after ≡ set cur x fresh
    → slice_index cur x ≡ whole → class_at cur now e ≡ whole → IsMoved (class_at cur now) (class_at after next) n e whole fresh
moved now next cur after n x e whole fresh placed long lx le swapped is cx ce = record {
  was = ce;
  is = ap (slice_index after) swapped.here ∙ here;
  same = λ k l not. elim (ℕ_discrete k (slice_index now.place_of.items x)) [
    | yes at ↦
        let p = slice_index now.place_of.items x in
        let apart : slice_index now.place_of.items x ≢ e = λ t. not (at ∙ t) in
        let y = slice_index now.node_at.items e in
        let other : slice_index now.node_at.items e ≢ x = λ t. apart (ap (slice_index now.place_of.items) (sym t) ∙ placed.ordered e le) in
        let now_y : class_at after next k ≡ slice_index after (slice_index now.node_at.items e) = ap (slice_index after) (ap (slice_index next.node_at.items) at ∙ swapped.there apart) in
        let was_x : class_at cur now k ≡ slice_index cur x = ap (slice_index cur) (ap (slice_index now.node_at.items) at ∙ placed.placed x lx) in
        now_y ∙ (elsewhere (slice_index now.node_at.items e) other ∙ (ce ∙ (sym cx ∙ sym was_x)))
    | no far ↦
        let z : slice_index now.node_at.items k ≢ x = λ t. far (sym (placed.ordered k l) ∙ ap (slice_index now.place_of.items) t) in
        ap (slice_index after) (swapped.rest k not far) ∙ elsewhere (slice_index now.node_at.items k) z
  ];
}
  where
    here : slice_index after x ≡ fresh
    here = ap (λ (zs : List ℕ). slice_index zs x) is ∙ get_or-set_same cur x fresh 0 (omega arith)

    elsewhere : (z : ℕ) → z ≢ x → slice_index after z ≡ slice_index cur z
    elsewhere z not = ap (λ (zs : List ℕ). slice_index zs z) is ∙ get_or-set_other cur x z fresh 0 not

pub step : (old now next : Order) (before cur after nodes : List ℕ) (n i begin size fresh : ℕ) → AreToPull old before nodes n begin size fresh → i < length nodes
    → ArePulled before now cur nodes old n i begin size fresh → IsPlaced next n → IsSwapped now next (slice_index nodes i) (begin + (size - 1 - i)) → after ≡ set cur (slice_index nodes i) fresh
    → ArePulled before next after nodes old n (i + 1) begin size fresh
step old now next before cur after nodes n i begin size fresh ask li h placed swapped is =
    let w : ℕ = whole_of before nodes in
    let x : ℕ = slice_index nodes i in
    let few = ask.few in
    let fits = ask.fits in
    let lx = ask.below i li in
    let le : begin + (size - 1 - i) < n = omega arith in
    let unseen : is_among nodes i (slice_index nodes i) ≡ false = none_before nodes i (slice_index nodes i) (omega arith) (λ j m. ask.distinct i j li m) in
    let cx : slice_index cur (slice_index nodes i) ≡ whole_of before nodes
    = h.classes (slice_index nodes i) lx ∙ (ap (λ (t : Bool). cond {A = ℕ} t fresh (slice_index before (slice_index nodes i))) unseen ∙ ask.alike i li) in
    let ce : class_at cur now (begin + (size - 1 - i)) ≡ whole_of before nodes = (h.left (begin + (size - 1 - i)) le).1 (omega arith, omega arith) in
    let m = moved now next cur after n (slice_index nodes i) (begin + (size - 1 - i)) (whole_of before nodes) fresh h.placed h.long lx le swapped is cx ce in
    record {
      placed = placed;
      long = ap length is ∙ (length-set cur (slice_index nodes i) fresh ∙ h.long);
      classes = λ a l. elim (ℕ_discrete (slice_index nodes i) a) [
        | yes e ↦
            let t : is_among nodes (i + 1) a ≡ true
            = list_any_more (λ x. x == a) nodes i 0 li ∙ or_right (is_among nodes i a) (slice_index nodes i == a) ((Decides-eqb (slice_index nodes i) a).1 e) in
            let v : slice_index after a ≡ fresh
            = ap (λ (zs : List ℕ). slice_index zs a) is ∙ subst (λ (z : ℕ). get_or (set cur (slice_index nodes i) fresh) z 0 ≡ fresh) e (get_or-set_same cur (slice_index nodes i) fresh 0 (let w = h.long in omega arith)) in
            v ∙ sym (ap (λ (b : Bool). cond {A = ℕ} b fresh (slice_index before a)) t)
        | no not ↦
            let t : is_among nodes (i + 1) a ≡ is_among nodes i a
            = list_any_more (λ x. x == a) nodes i 0 li ∙ or_none (is_among nodes i a) (slice_index nodes i == a) (ne_eqb (slice_index nodes i) a not) in
            let v : slice_index after a ≡ slice_index cur a = ap (λ (zs : List ℕ). slice_index zs a) is ∙ get_or-set_other cur (slice_index nodes i) a fresh 0 (λ e. not (sym e)) in
            v ∙ (h.classes a l ∙ sym (ap (λ (b : Bool). cond {A = ℕ} b fresh (slice_index before a)) t))
      ];
      pulled = λ k l. elim (ℕ_discrete k (begin + (size - 1 - i))) [
        | yes e ↦ ((λ t. (omega arith, omega arith)), (λ t. ap (class_at after next) e ∙ m.is))
        | no not ↦
            let g = h.pulled k l in (
              (λ t. let r = g.0 (sym (m.same k l not) ∙ t) in let a = r.0 in let b = r.1 in (omega arith, omega arith)),
              (λ t. let a = t.0 in let b = t.1 in m.same k l not ∙ g.1 (omega (arith, not), omega arith)),
            )
      ];
      left = λ k l. elim (ℕ_discrete k (begin + (size - 1 - i))) [
        | yes e ↦ ((λ t. absurd (ask.other (sym t ∙ (ap (class_at after next) e ∙ m.is)))), (λ t. let a = t.1 in absurd (omega arith)))
        | no not ↦
            let g = h.left k l in (
              (λ t. let r = g.0 (sym (m.same k l not) ∙ t) in let a = r.0 in let b = r.1 in (omega arith, omega (arith, not))),
              (λ t. let a = t.0 in let b = t.1 in m.same k l not ∙ g.1 (omega arith, omega arith)),
            )
      ];
      others = λ c b s cw cf stands k l.
          let o = h.others c b s cw cf stands in
          elim (ℕ_discrete k (begin + (size - 1 - i))) [
            | yes e ↦ ((λ t. absurd (cf (sym t ∙ (ap (class_at after next) e ∙ m.is)))), (λ t. absurd (cw (sym ((o k l).1 t) ∙ (ap (class_at cur now) e ∙ m.was)))))
            | no not ↦ ((λ t. (o k l).0 (sym (m.same k l not) ∙ t)), (λ t. m.same k l not ∙ (o k l).1 t))
          ];
    }
  where
    or_right : (a b : Bool) → b ≡ true → (a || b) ≡ true
    or_right true b h = refl
    or_right false b h = h

    or_none : (a b : Bool) → b ≡ false → (a || b) ≡ a
    or_none true b h = refl
    or_none false b h = h
