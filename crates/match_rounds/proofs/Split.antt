-- Counts after a class was parted.
use Rattle.std.proofs.Common.{◌≡◌, ◌≢◌, ◌↔◌, ◌⊎◌, inl, inr, ◌<◌, ◌≤◌, ◌+◌, ◌-◌, ◌*◌, ◌||◌, ℕ, Bool, true, false, List, [], ◌∷◌, ◌++◌, length, slice_index, get_or, refl, sym, subst, ◌∙◌, ap, arith, length-set, length-append}
use Rattle.std.proofs.Math.Decide.{ℕ_discrete}
use Rattle.std.proofs.Math.ListN.{set}
use Rattle.std.proofs.lemmas.List.{get_or-set_same, get_or-set_other, get_or_push, get_or_append_left}
use Rattle.match_rounds.specs.declared.counts.Counts.{Counts}
use Rattle.match_rounds.specs.Counts.{HasUneven, AreFlagged, split_list, AreSplit}

-- what stands in a list after it
pub record IsSplitList (xs ys : List ℕ) (w n : ℕ) : Type 0 where
  pub long : length ys ≡ length xs + 1
  pub here : slice_index ys w ≡ slice_index xs w - n
  pub last : slice_index ys (length xs) ≡ n
  pub rest : (d : ℕ) → d < length xs → d ≢ w → slice_index ys d ≡ slice_index xs d

pub split_at : (xs ys : List ℕ) (w n : ℕ) → w < length xs → ys ≡ split_list xs w n → IsSplitList xs ys w n
split_at xs ys w n l e =
    let v : ℕ = slice_index xs w - n in
    let long : length (set xs w (slice_index xs w - n)) ≡ length xs = length-set xs w (slice_index xs w - n) in
    let read : (d : ℕ) → d < length xs → slice_index ys d ≡ get_or (set xs w (slice_index xs w - n)) d 0
    = λ d k. ap (λ (zs : List ℕ). slice_index zs d) e ∙ get_or_append_left (set xs w (slice_index xs w - n)) (n ∷ []) 0 d (omega arith) in
    record {
      long = ap length e ∙ (length-append (set xs w (slice_index xs w - n)) (n ∷ []) ∙ ap (λ (m : ℕ). m + 1) long);
      here = read w l ∙ get_or-set_same xs w (slice_index xs w - n) 0 l;
      last = ap (λ (zs : List ℕ). slice_index zs (length xs)) e ∙ get_or_push (set xs w (slice_index xs w - n)) n 0 (length xs) long;
      rest = λ d k not. read d k ∙ get_or-set_other xs w d (slice_index xs w - n) 0 not;
    }

cases : (a b c : Bool) → (a || b || c) ≡ true → (a ≡ true) ⊎ ((b ≡ true) ⊎ (c ≡ true))
cases true b c h = inl refl
cases false true c h = inr (inl refl)
cases false false c h = inr (inr h)

one : (a b c : Bool) → (a ≡ true) ⊎ ((b ≡ true) ⊎ (c ≡ true)) → (a || b || c) ≡ true
one a b c (inl h) = subst (λ (x : Bool). (x || b || c) ≡ true) (sym h) refl
one true b c (inr h) = refl
one false b c (inr (inl h)) = subst (λ (x : Bool). (x || c) ≡ true) (sym h) refl
one false true c (inr (inr h)) = refl
one false false c (inr (inr h)) = h

-- whether a class is uneven after it
pub uneven : (ss ls ts ms : List ℕ) (w s l : ℕ) (a p q : Bool) → length ls ≡ length ss → w < length ss → s ≤ slice_index ss w → l ≤ slice_index ls w
    → IsSplitList ss ts w s → IsSplitList ls ms w l → (a ≡ true) ↔ HasUneven ss ls
    → (p ≡ true) ↔ (2 * (slice_index ls w - l) ≢ slice_index ss w - s) → (q ≡ true) ↔ (2 * l ≢ s)
    → ((a || p || q) ≡ true) ↔ HasUneven ts ms
uneven ss ls ts ms w s l a p q same lw low lowl ist isl was hp hq = (
  (λ t. elim (cases a p q t) [
    | inl e ↦
        let u = was.0 e in
        let v = u.1 in
        elim (ℕ_discrete u.0 w) [
          | yes is ↦
              let x : 2 * slice_index ls w ≢ slice_index ss w = subst (λ (d : ℕ). 2 * slice_index ls d ≢ slice_index ss d) is u.2 in
              elim (ℕ_discrete (2 * l) s) [
                | yes z ↦ here (λ e. x (omega arith))
                | no z ↦ last z
              ]
          | no not ↦ (u.0, omega (arith, ist.long), (λ e. u.2 (ap (λ (m : ℕ). 2 * m) (sym (isl.rest u.0 (omega arith) not)) ∙ (e ∙ ist.rest u.0 v not))))
        ]
    | inr (inl e) ↦ here (hp.0 e)
    | inr (inr e) ↦ last (hq.0 e)
  ]),
  (λ u.
      let v = u.1 in
      one a p q (elim (ℕ_discrete u.0 w) [
        | yes is ↦ inr (inl (hp.1 (λ e. u.2 (
            ap (λ (d : ℕ). 2 * slice_index ms d) is ∙ (ap (λ (m : ℕ). 2 * m) isl.here ∙ (e ∙ (sym ist.here ∙ ap (slice_index ts) (sym is))))))))
        | no not ↦ elim (ℕ_discrete u.0 (length ss)) [
          | yes is ↦ inr (inr (hq.1 (λ e. u.2 (
              ap (λ (d : ℕ). 2 * slice_index ms d) (is ∙ sym same) ∙ (ap (λ (m : ℕ). 2 * m) isl.last ∙ (e ∙ (sym ist.last ∙ ap (slice_index ts) (sym is))))))))
          | no far ↦
              let long = ist.long in
              let low : u.0 < length ss = omega (arith, far) in
              inl (was.1 (u.0, low, (λ e. u.2 (ap (λ (m : ℕ). 2 * m) (isl.rest u.0 (omega arith) not) ∙ (e ∙ sym (ist.rest u.0 low not))))))
        ]
      ])),
)
  where
    here : (2 * (slice_index ls w - l) ≢ slice_index ss w - s) → HasUneven ts ms
    here x = (w, (let long = ist.long in omega arith), (λ e. x (ap (λ (m : ℕ). 2 * m) (sym isl.here) ∙ (e ∙ ist.here))))

    last : (2 * l ≢ s) → HasUneven ts ms
    last x = (length ss, (let long = ist.long in omega arith), (λ e. x (ap (λ (m : ℕ). 2 * m) (sym isl.last) ∙ (ap (λ (d : ℕ). 2 * slice_index ms d) same ∙ (e ∙ ist.last)))))

pub flagged : (old new : Counts) (w s l : ℕ) (p q : Bool) → AreFlagged old → AreSplit old new w s l → w < length old.size.items → s ≤ slice_index old.size.items w → l ≤ slice_index old.left.items w
    → (p ≡ true) ↔ (2 * (slice_index old.left.items w - l) ≢ slice_index old.size.items w - s) → (q ≡ true) ↔ (2 * l ≢ s) → new.is_uneven ≡ (old.is_uneven || p || q) → AreFlagged new
flagged old new w s l p q h split lw ls ll hp hq e =
    let lefts = h.lefts in
    let t = split_at old.size.items new.size.items w s lw split.size_is in
    let m = split_at old.left.items new.left.items w l (omega arith) split.left_is in
    let u = uneven old.size.items old.left.items new.size.items new.left.items w s l old.is_uneven p q h.lefts lw ls ll t m h.flag hp hq in
    record {
      lefts = let a = t.long in let b = m.long in omega arith;
      flag = ((λ x. u.0 (sym e ∙ x)), (λ x. e ∙ u.1 x));
    }

again : (a b c : Bool) → ((a || b) || c) ≡ (a || b || c)
again true b c = refl
again false b c = refl

-- the same with the values read
pub flagged_by : (old new : Counts) (w s l sv lv : ℕ) (p q : Bool) → AreFlagged old → w < length old.size.items → s ≤ slice_index old.size.items w → l ≤ slice_index old.left.items w
    → sv ≡ slice_index old.size.items w → lv ≡ slice_index old.left.items w
    → new.size.items ≡ set old.size.items w (sv - s) ++ s ∷ [] → new.left.items ≡ set old.left.items w (lv - l) ++ l ∷ []
    → (p ≡ true) ↔ (2 * (lv - l) ≢ sv - s) → (q ≡ true) ↔ (2 * l ≢ s) → new.is_uneven ≡ ((old.is_uneven || p) || q) → AreFlagged new
flagged_by old new w s l sv lv p q h lw ls ll es el us ul hp hq e =
    flagged old new w s l p q h
    (record {
      size_is = us ∙ ap (λ (v : ℕ). set old.size.items w (v - s) ++ s ∷ []) es;
      left_is = ul ∙ ap (λ (v : ℕ). set old.left.items w (v - l) ++ l ∷ []) el;
    }) lw ls ll
    (subst (λ (v : ℕ). (p ≡ true) ↔ (2 * (v - l) ≢ slice_index old.size.items w - s)) el (subst (λ (v : ℕ). (p ≡ true) ↔ (2 * (lv - l) ≢ v - s)) es hp)) hq (e ∙ again old.is_uneven p q)
