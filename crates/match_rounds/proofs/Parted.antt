-- Classes after some nodes were made a class of their own.
use Rattle.std.proofs.Common.{◌≡◌, ◌⊎◌, inl, inr, ◌<◌, ◌≤◌, ◌+◌, ◌-◌, ◌==◌, ℕ, cond, count_by, nat_lt, Bool, true, false, List, [], ◌∷◌, ◌++◌, length, slice_index, refl, sym, subst, ◌∙◌, ap, arith, true≢false, length-append}
use Rattle.std.proofs.lemmas.Bool.{cases_Bool}
use Rattle.std.proofs.Math.Decide.{ℕ_discrete}
use Rattle.std.proofs.lemmas.List.{get_or_push, get_or_append_left}
use Rattle.match_laws.specs.Circuits.{numbers_from}
use Rattle.match_rounds.specs.Order.{StandsAt, whole_of, AreToPull, ArePulled, is_among}
use Rattle.match_rounds.specs.Counts.{AreFlagged, AreSplit}
use Rattle.match_rounds.specs.Marks.{AreListed, IsHalved, is_marked}
use Rattle.match_rounds.specs.Classes.{AreClasses, AreAlike, AreCounted, IsPartition, IsPartedOff, KeepsFresh, class_in, class_count, is_fresh, members, IsGrown}
use Rattle.match_rounds.specs.declared.classes.Classes.{Classes}
use Rattle.match_rounds.proofs.Apart.{found}
use Rattle.match_rounds.proofs.Split.{IsSplitList, split_at}
use Rattle.match_rounds.proofs.Counting.{among_count, all_below, IsNew, new_members, old_members, rest_members, fewer}
use Rattle.std.proofs.lemmas.Bool.Decides.{Decides-eqb}

-- what pull_out asks
pub to_pull : (c : Classes) (nodes : List ℕ) (n w : ℕ) → AreClasses c n → AreAlike c.class_of.items nodes n → w ≡ whole_of c.class_of.items nodes
    → length nodes < slice_index c.counts.size.items w
    → AreToPull c.order c.class_of.items nodes n (slice_index c.begin.items w) (slice_index c.counts.size.items w) (class_count c)
to_pull c nodes n w h a e l =
    let low : w < class_count c = subst (λ (x : ℕ). x < class_count c) (sym e) (h.below (slice_index nodes 0) (a.below 0 a.some)) in
    record {
      placed = h.placed;
      long = h.long;
      fits = h.fits w low;
      small = h.small;
      few = omega arith;
      below = a.below;
      distinct = a.distinct;
      alike = a.alike;
      stands = subst (λ (x : ℕ). StandsAt c.class_of.items c.order n x (slice_index c.begin.items w) (slice_index c.counts.size.items w)) e (h.stands w low);
      new = λ x i e. let b = h.below x i in omega arith;
      other = λ e. omega arith;
    }

-- what was done to the classes, where w is the class that was parted
pub record WasParted (old new : Classes) (nodes : List ℕ) (n w l : ℕ) : Type 0 where
  before : AreClasses old n
  alike : AreAlike old.class_of.items nodes n
  whole : w ≡ whole_of old.class_of.items nodes
  few : length nodes < slice_index old.counts.size.items w
  pulled : ArePulled old.class_of.items new.order new.class_of.items nodes old.order n (length nodes) (slice_index old.begin.items w) (slice_index old.counts.size.items w) (class_count old)
  begin_is : new.begin.items ≡ old.begin.items ++ (slice_index old.begin.items w + (slice_index old.counts.size.items w - length nodes)) ∷ []
  split : AreSplit old.counts new.counts w (length nodes) l
  halved : IsHalved old.marks new.marks w

low_of : (old new : Classes) (nodes : List ℕ) (n w l : ℕ) → WasParted old new nodes n w l → w < class_count old
low_of old new nodes n w l p = subst (λ (x : ℕ). x < class_count old) (sym p.whole) (p.before.below (slice_index nodes 0) (p.alike.below 0 p.alike.some))

sizes_of : (old new : Classes) (nodes : List ℕ) (n w l : ℕ) → WasParted old new nodes n w l → IsSplitList old.counts.size.items new.counts.size.items w (length nodes)
sizes_of old new nodes n w l p = split_at old.counts.size.items new.counts.size.items w (length nodes) (low_of old new nodes n w l p) p.split.size_is

among_below : (b : Bool) (m x : ℕ) → x < m → cond {A = ℕ} b m x < m + 1
among_below true m x l = omega arith
among_below false m x l = omega arith

pub classes_are : (old new : Classes) (nodes : List ℕ) (n w l : ℕ) → WasParted old new nodes n w l → AreClasses new n
classes_are old new nodes n w l p =
    let h = p.before in
    let few = p.few in
    let low : w < class_count old = low_of old new nodes n w l p in
    let sizes = sizes_of old new nodes n w l p in
    let size_long = sizes.long in
    let begins = h.begins in
    let marks = h.marks in
    let half_long = p.halved.long in
    let some = p.alike.some in
    let begin_long : length new.begin.items ≡ length old.begin.items + 1 = ap length p.begin_is ∙ length-append old.begin.items _ in
    let begin_new : slice_index new.begin.items (class_count old) ≡ slice_index old.begin.items w + (slice_index old.counts.size.items w - length nodes)
    = ap (λ (xs : List ℕ). slice_index xs (class_count old)) p.begin_is ∙ get_or_push old.begin.items _ 0 (class_count old) begins in
    let begin_old : (d : ℕ) → d < class_count old → slice_index new.begin.items d ≡ slice_index old.begin.items d
    = λ d k. ap (λ (xs : List ℕ). slice_index xs d) p.begin_is ∙ get_or_append_left old.begin.items _ 0 d (omega arith) in
    let wfits = h.fits w low in
    let size_w = sizes.here in
    let size_m = sizes.last in
    record {
      placed = p.pulled.placed;
      long = p.pulled.long;
      small = h.small;
      begins = omega arith;
      marks = omega arith;
      below = λ x i. subst (λ (v : ℕ). v < class_count new) (sym (p.pulled.classes x i)) (subst (λ (v : ℕ). cond {A = ℕ} (is_among nodes (length nodes) x) (class_count old) (class_in old x) < v) (sym size_long)
          (among_below (is_among nodes (length nodes) x) (class_count old) (class_in old x) (h.below x i)));
      stands = λ d k. elim (ℕ_discrete d (class_count old)) [
        | yes e ↦ subst (λ (x : ℕ). StandsAt new.class_of.items new.order n x (slice_index new.begin.items x) (slice_index new.counts.size.items x)) (sym e)
            (subst (λ (x : ℕ). StandsAt new.class_of.items new.order n (class_count old) x (slice_index new.counts.size.items (class_count old))) (sym begin_new)
            (subst (λ (x : ℕ). StandsAt new.class_of.items new.order n (class_count old) (slice_index old.begin.items w + (slice_index old.counts.size.items w - length nodes)) x) (sym size_m) p.pulled.pulled))
        | no not ↦
            let dl : d < class_count old = omega (arith, not) in
            elim (ℕ_discrete d w) [
              | yes e ↦ subst (λ (x : ℕ). StandsAt new.class_of.items new.order n x (slice_index new.begin.items x) (slice_index new.counts.size.items x)) (sym e)
                  (subst (λ (x : ℕ). StandsAt new.class_of.items new.order n w x (slice_index new.counts.size.items w)) (sym (begin_old w low))
                  (subst (λ (x : ℕ). StandsAt new.class_of.items new.order n w (slice_index old.begin.items w) x) (sym size_w)
                  (subst (λ (x : ℕ). StandsAt new.class_of.items new.order n x (slice_index old.begin.items w) (slice_index old.counts.size.items w - length nodes)) (sym p.whole) p.pulled.left)))
              | no other ↦
                  subst (λ (x : ℕ). StandsAt new.class_of.items new.order n d x (slice_index new.counts.size.items d)) (sym (begin_old d dl))
                  (subst (λ (x : ℕ). StandsAt new.class_of.items new.order n d (slice_index old.begin.items d) x) (sym (sizes.rest d dl other))
                  (p.pulled.others d (slice_index old.begin.items d) (slice_index old.counts.size.items d) (λ e. other (e ∙ sym p.whole)) not (h.stands d dl)))
            ]
      ];
      fits = λ d k. elim (ℕ_discrete d (class_count old)) [
        | yes e ↦ subst (λ (x : ℕ). slice_index new.begin.items x + slice_index new.counts.size.items x ≤ n) (sym e) (omega arith)
        | no not ↦
            let dl : d < class_count old = omega (arith, not) in
            let b = begin_old d dl in
            let f = h.fits d dl in
            elim (ℕ_discrete d w) [
              | yes e ↦ subst (λ (x : ℕ). slice_index new.begin.items x + slice_index new.counts.size.items x ≤ n) (sym e) (let q = begin_old w low in omega arith)
              | no other ↦ let z = sizes.rest d dl other in omega arith
            ]
      ];
      some = λ d k. elim (ℕ_discrete d (class_count old)) [
        | yes e ↦ subst (λ (x : ℕ). 0 < slice_index new.counts.size.items x) (sym e) (omega arith)
        | no not ↦
            let dl : d < class_count old = omega (arith, not) in
            elim (ℕ_discrete d w) [
              | yes e ↦ subst (λ (x : ℕ). 0 < slice_index new.counts.size.items x) (sym e) (omega arith)
              | no other ↦ let z = sizes.rest d dl other in let s = h.some d dl in omega arith
            ]
      ];
    }

new_is : (old new : Classes) (nodes : List ℕ) (n w l : ℕ) → WasParted old new nodes n w l → IsNew old.class_of.items new.class_of.items (is_among nodes (length nodes)) (class_count old) w n
new_is old new nodes n w l p = record {
  is = p.pulled.classes;
  fresh = λ a i e. let b = p.before.below a i in omega arith;
  whole = λ a i t. let f = found nodes (length nodes) a (omega arith) t in ap (class_in old) (sym f.2) ∙ (p.alike.alike f.0 f.1 ∙ sym p.whole);
  other = λ e. let b = low_of old new nodes n w l p in omega arith;
}

-- the counts stay right
pub counted_are : (old new : Classes) (nodes : List ℕ) (left n w l : ℕ) → WasParted old new nodes n w l → left ≤ n → AreCounted old left n → AreFlagged new.counts
    → l ≡ count_by (λ a. nat_lt a left) nodes → AreCounted new left n
counted_are old new nodes left n w l p inside h flagged el = record {
  flagged = flagged;
  left_is = counts_of old.counts.left.items new.counts.left.items left l inside lefts (split_at old.counts.left.items new.counts.left.items w l (omega arith) p.split.left_is) (el ∙ sym (among_count nodes left p.alike.distinct)) h.left_is;
  size_is = counts_of old.counts.size.items new.counts.size.items n (length nodes) (omega arith) refl sizes (sym (all_below nodes n p.alike.below) ∙ sym (among_count nodes n p.alike.distinct)) h.size_is;
}
  where
    low : w < class_count old
    low = low_of old new nodes n w l p

    lefts : length old.counts.left.items ≡ class_count old
    lefts = h.flagged.lefts

    sizes : IsSplitList old.counts.size.items new.counts.size.items w (length nodes)
    sizes = sizes_of old new nodes n w l p

    counts_of : (xs ys : List ℕ) (m k : ℕ) → m ≤ n → length xs ≡ class_count old → IsSplitList xs ys w k → k ≡ count_by (is_among nodes (length nodes)) (numbers_from 0 m)
        → ((d : ℕ) → d < class_count old → slice_index xs d ≡ members old.class_of.items d m)
        → (d : ℕ) → d < class_count new → slice_index ys d ≡ members new.class_of.items d m
    counts_of xs ys m k lm long s ek was d ld =
        let new_one = new_is old new nodes n w l p in
        let size_long = sizes.long in
        elim (ℕ_discrete d (class_count old)) [
          | yes e ↦
              let last = s.last in
              ap (slice_index ys) (e ∙ sym long) ∙ (s.last ∙ (ek ∙ (sym (new_members old.class_of.items new.class_of.items (is_among nodes (length nodes)) (class_count old) w n m new_one lm)
              ∙ ap (λ (x : ℕ). members new.class_of.items x m) (sym e))))
          | no not ↦
              let dl : d < class_count old = omega (arith, not) in
              elim (ℕ_discrete d w) [
                | yes e ↦
                    let o = was w low in
                    let s2 = old_members old.class_of.items new.class_of.items (is_among nodes (length nodes)) (class_count old) w n m new_one lm in
                    let here = s.here in
                    let v : slice_index ys w ≡ members new.class_of.items w m = omega arith in
                    ap (slice_index ys) e ∙ (v ∙ ap (λ (x : ℕ). members new.class_of.items x m) (sym e))
                | no other ↦ s.rest d (omega arith) other ∙ (was d dl ∙ sym (rest_members old.class_of.items new.class_of.items (is_among nodes (length nodes)) (class_count old) w n m d new_one lm other not))
              ]
        ]

-- so many of them are left ones
pub few_left : (c : Classes) (nodes : List ℕ) (left n w : ℕ) → AreClasses c n → AreAlike c.class_of.items nodes n → AreCounted c left n → left ≤ n → w ≡ whole_of c.class_of.items nodes
    → count_by (λ a. nat_lt a left) nodes ≤ slice_index c.counts.left.items w
few_left c nodes left n w h a counted inside e =
    let low : w < class_count c = subst (λ (x : ℕ). x < class_count c) (sym e) (h.below (slice_index nodes 0) (a.below 0 a.some)) in
    let less = fewer (is_among nodes (length nodes)) (λ x. w == class_in c x) (numbers_from 0 left)
    (λ x i t. let f = found nodes (length nodes) x (omega arith) t in (Decides-eqb w (class_in c x)).1 (e ∙ (sym (a.alike f.0 f.1) ∙ ap (class_in c) f.2))) in
    let same = among_count nodes left a.distinct in
    let is = counted.left_is w low in
    omega arith

-- at most one part isn't marked
pub keeps_fresh : (old new : Classes) (nodes : List ℕ) (n w l : ℕ) → WasParted old new nodes n w l → KeepsFresh old new n
keeps_fresh old new nodes n w l p = record {
  kept = λ a b la lb e fa fb. elim (cases_Bool (is_among nodes (length nodes) a)) [
    | inl ta ↦ elim (cases_Bool (is_among nodes (length nodes) b)) [
      | inl tb ↦ yes_is a la ta ∙ sym (yes_is b lb tb)
      | inr tb ↦ absurd (not_both (subst (λ (x : ℕ). is_marked new.marks x ≡ false) (no_is b lb tb ∙ (sym e ∙ of_whole a la ta)) fb) (subst (λ (x : ℕ). is_marked new.marks x ≡ false) (yes_is a la ta) fa))
    ]
    | inr ta ↦ elim (cases_Bool (is_among nodes (length nodes) b)) [
      | inl tb ↦ absurd (not_both (subst (λ (x : ℕ). is_marked new.marks x ≡ false) (no_is a la ta ∙ (e ∙ of_whole b lb tb)) fa) (subst (λ (x : ℕ). is_marked new.marks x ≡ false) (yes_is b lb tb) fb))
      | inr tb ↦ no_is a la ta ∙ (e ∙ sym (no_is b lb tb))
    ]
  ];
  older = λ a la fa. elim (cases_Bool (is_fresh old a)) [
    | inr f ↦ f
    | inl f ↦ elim (cases_Bool (is_among nodes (length nodes) a)) [
      | inl ta ↦
          let both = p.halved.both (subst (λ (x : ℕ). is_marked old.marks x ≡ true) (of_whole a la ta) f) in
          absurd (true≢false (sym both.1 ∙ subst (λ (x : ℕ). is_marked new.marks x ≡ false) (yes_is a la ta ∙ sym long) fa))
      | inr ta ↦ elim (ℕ_discrete (class_in old a) w) [
        | yes e ↦
            let both = p.halved.both (subst (λ (x : ℕ). is_marked old.marks x ≡ true) e f) in
            absurd (true≢false (sym both.0 ∙ subst (λ (x : ℕ). is_marked new.marks x ≡ false) (no_is a la ta ∙ e) fa))
        | no not ↦
            let same = p.halved.rest (class_in old a) (let b = p.before.below a la in let m = long in omega arith) not in
            sym same ∙ subst (λ (x : ℕ). is_marked new.marks x ≡ false) (no_is a la ta) fa
      ]
    ]
  ];
}
  where
    long : length old.marks.is_fresh.items ≡ class_count old
    long = p.before.marks

    yes_is : (x : ℕ) → x < n → is_among nodes (length nodes) x ≡ true → class_in new x ≡ class_count old
    yes_is x i r = p.pulled.classes x i ∙ ap (λ (t : Bool). cond {A = ℕ} t (class_count old) (class_in old x)) r

    no_is : (x : ℕ) → x < n → is_among nodes (length nodes) x ≡ false → class_in new x ≡ class_in old x
    no_is x i r = p.pulled.classes x i ∙ ap (λ (t : Bool). cond {A = ℕ} t (class_count old) (class_in old x)) r

    of_whole : (x : ℕ) → x < n → is_among nodes (length nodes) x ≡ true → class_in old x ≡ w
    of_whole x i t = let f = found nodes (length nodes) x (omega arith) t in ap (class_in old) (sym f.2) ∙ (p.alike.alike f.0 f.1 ∙ sym p.whole)

    not_both : is_marked new.marks w ≡ false → is_marked new.marks (class_count old) ≡ false → ⊥
    not_both f g = elim p.halved.one [
      | inl t ↦ true≢false (sym t ∙ f)
      | inr t ↦ true≢false (sym t ∙ (ap (is_marked new.marks) long ∙ g))
    ]

-- a node is of the class that it was of, or of the one that came
kept_or_new : (old new : Classes) (nodes : List ℕ) (a : ℕ) (b : Bool) → class_in new a ≡ cond {A = ℕ} b (class_count old) (class_in old a) → (class_in new a ≡ class_in old a) ⊎ (class_count old ≤ class_in new a)
kept_or_new old new nodes a true e = inr (omega arith)
kept_or_new old new nodes a false e = inl e

-- what a call leaves
pub record HasParted (old new : Classes) (nodes : List ℕ) (left n : ℕ) : Type 0 where
  pub partition : IsPartition new left n
  pub parted : IsPartedOff old new nodes n
  pub fresh : KeepsFresh old new n
  pub grown : IsGrown old new

pub finish : (old new : Classes) (nodes before after : List ℕ) (left w begin size fresh l : ℕ) → IsPartition old left (length old.class_of.items) → AreAlike old.class_of.items nodes (length old.class_of.items)
    → before ≡ old.class_of.items → after ≡ new.class_of.items → w ≡ whole_of old.class_of.items nodes → begin ≡ slice_index old.begin.items w → size ≡ slice_index old.counts.size.items w → fresh ≡ class_count old
    → length nodes < size → ArePulled before new.order after nodes old.order (length before) (length nodes) begin size fresh
    → new.begin.items ≡ old.begin.items ++ (begin + (size - length nodes)) ∷ []
    → AreFlagged new.counts → AreSplit old.counts new.counts w (length nodes) l → l ≡ count_by (λ a. nat_lt a left) nodes → AreListed new.marks → IsHalved old.marks new.marks w
    → HasParted old new nodes left (length old.class_of.items)
finish old new nodes before after left w begin size fresh l h a eb ea ew eg es ef few p ub flagged split el listed halved =
    let p1 = subst (λ (x : List ℕ). ArePulled x new.order after nodes old.order (length x) (length nodes) begin size fresh) eb p in
    let p2 = subst (λ (x : List ℕ). ArePulled old.class_of.items new.order x nodes old.order (length old.class_of.items) (length nodes) begin size fresh) ea p1 in
    let p3 = subst (λ (x : ℕ). ArePulled old.class_of.items new.order new.class_of.items nodes old.order (length old.class_of.items) (length nodes) x size fresh) eg p2 in
    let p4 = subst (λ (x : ℕ). ArePulled old.class_of.items new.order new.class_of.items nodes old.order (length old.class_of.items) (length nodes) (slice_index old.begin.items w) x fresh) es p3 in
    let p5 = subst (λ (x : ℕ). ArePulled old.class_of.items new.order new.class_of.items nodes old.order (length old.class_of.items) (length nodes) (slice_index old.begin.items w) (slice_index old.counts.size.items w) x) ef p4 in
    let was : WasParted old new nodes (length old.class_of.items) w l = record {
      before = h.classes;
      alike = a;
      whole = ew;
      few = subst (λ (x : ℕ). length nodes < x) es few;
      pulled = p5;
      begin_is = ub ∙ (ap (λ (x : ℕ). old.begin.items ++ (x + (size - length nodes)) ∷ []) eg ∙ ap (λ (x : ℕ). old.begin.items ++ (slice_index old.begin.items w + (x - length nodes)) ∷ []) es);
      split = split;
      halved = halved;
    } in
    record {
      partition = record {
        inside = h.inside;
        classes = classes_are old new nodes (length old.class_of.items) w l was;
        counted = counted_are old new nodes left (length old.class_of.items) w l was h.inside h.counted flagged el;
        listed = listed;
      };
      parted = inl p5.classes;
      fresh = keeps_fresh old new nodes (length old.class_of.items) w l was;
      grown = (
          let long = (sizes_of old new nodes (length old.class_of.items) w l was).long in
          record {
            count = omega arith;
            long = p5.long;
            kept = λ a m. kept_or_new old new nodes a (is_among nodes (length nodes) a) (p5.classes a m);
            same = λ e. absurd (omega arith);
          }
          );
    }
