-- One run of ends more is a part.
use Rattle.std.proofs.Common.{◌≡◌, ◌≢◌, inl, inr, ◌<◌, ◌≤◌, ◌+◌, ◌-◌, ℕ, List, [], ◌∷◌, ◌++◌, length, refl, sym, subst, ◌∙◌, ap, arith, length-append}
use Rattle.std.proofs.lemmas.Bool.{cases_lt}
use Rattle.std.proofs.lemmas.List.{get_or_push, get_or_append_left}
use Rattle.match_graph.specs.declared.graph.Port.{Port}
use Rattle.match_graph.specs.declared.graph.End.{End}
use Rattle.match_rounds.specs.declared.classes.Classes.{Classes}
use Rattle.match_rounds.specs.declared.groups.Part.{Part}
use Rattle.match_rounds.specs.Classes.{class_in}
use Rattle.match_rounds.specs.Pieces.{entry}
use Rattle.match_rounds.specs.Touching.{IsPortBefore, end_at, IsNoLaterEnd, AreInOrder, IsRun, IsPortRun, IsPart, AreParts}

-- no port stands before another and behind it
pub one_way : (p q : Port) → IsPortBefore p q → IsPortBefore q p → ⊥
one_way p q (inl a) (inl b) = omega arith
one_way p q (inl a) (inr b) = let c = b.0 in omega arith
one_way p q (inr a) (inl b) = let c = a.0 in omega arith
one_way p q (inr a) (inr b) = let c = a.1 in let d = b.1 in omega arith

not_itself : (p : Port) → IsPortBefore p p → ⊥
not_itself p h = one_way p p h h

-- what stands between two ends of one port and node has that node
between : (d e f : End) → IsNoLaterEnd d e → IsNoLaterEnd e f → d.port ≡ f.port → d.node ≡ f.node → d.node ≡ e.node
between d e f (inl a) (inl b) p n = absurd (one_way d.port e.port a (subst (IsPortBefore e.port) (sym p) b))
between d e f (inl a) (inr b) p n = absurd (not_itself e.port (subst (λ (q : Port). IsPortBefore q e.port) (p ∙ sym b.0) a))
between d e f (inr a) (inl b) p n = absurd (not_itself f.port (subst (λ (q : Port). IsPortBefore q f.port) (sym a.0 ∙ p) b))
between d e f (inr a) (inr b) p n = let c = a.1 in let g = b.1 in omega arith

-- a run that ends no later than i has another node than end i
pub apart : (ends : List End) (from to i b t : ℕ) → AreInOrder ends → IsPortRun ends from to → i < to → from ≤ b → IsRun ends b t → t ≤ i → (end_at ends b).node ≢ (end_at ends i).node
apart ends from to i b t order h li lb run lt same =
    let some = run.some in
    let fits = h.fits in
    let pb = h.port b lb (omega arith) in
    let pt = h.port t (omega arith) (omega arith) in
    let pi = h.port i (omega arith) li in
    let node = between (end_at ends b) (end_at ends t) (end_at ends i) (order b t (omega arith) (omega arith)) (order t i lt (omega arith)) (pb ∙ sym pi) same in
    run.next (omega arith) (pt ∙ sym pb) (sym node)

wider : (c : Classes) (ends : List End) (from i j : ℕ) (p : Part) → i ≤ j → IsPart c ends from i p → IsPart c ends from j p
wider c ends from i j p l h = record { start = h.start; low = h.low; high = (let a = h.high in omega arith); run = h.run; node = h.node; class = h.class; first = h.first }

pub none : (c : Classes) (ends : List End) (from : ℕ) → AreParts c ends from from []
none c ends from = record { each = λ e l. absurd (omega arith); all = λ k l m. absurd (omega arith); once = λ e f l m. absurd (omega arith) }

-- a run from i on doesn't pass the end of its port
pub inside : (ends : List End) (from to i j : ℕ) → IsPortRun ends from to → from ≤ i → i < to → IsRun ends i j → j ≤ to
inside ends from to i j h lf li run = elim (cases_lt to j) [
  | inr l ↦ l
  | inl l ↦
      let fits = run.fits in
      absurd (h.next (omega arith) (run.port to (omega arith) l ∙ h.port i lf li))
]

pub more : (c : Classes) (ends : List End) (from to i j : ℕ) (parts : List Part) (p : Part) → AreInOrder ends → IsPortRun ends from to → from ≤ i → i < to → IsRun ends i j → AreParts c ends from i parts
    → p.class ≡ class_in c p.node → p.count ≡ j - i → p.node ≡ (end_at ends i).node → AreParts c ends from j (parts ++ p ∷ [])
more c ends from to i j parts p order h lf li run was pc pn pd =
    let some = run.some in
    let long : length (parts ++ p ∷ []) ≡ length parts + 1 = length-append parts (p ∷ []) in
    let last : entry (parts ++ p ∷ []) (length parts) ≡ p = get_or_push parts p (record { class = 0; count = 0; node = 0 }) (length parts) refl in
    let old : (e : ℕ) → e < length parts → entry (parts ++ p ∷ []) e ≡ entry parts e = λ e l. get_or_append_left parts (p ∷ []) (record { class = 0; count = 0; node = 0 }) e l in
    let till : i + p.count ≡ j = omega arith in
    record {
      each = λ e l. elim (cases_lt e (length parts)) [
        | inl m ↦ subst (λ (q : Part). IsPart c ends from j q) (sym (old e m)) (wider c ends from i j (entry parts e) (omega arith) (was.each e m))
        | inr m ↦
            let is : e ≡ length parts = omega arith in
            subst (λ (q : Part). IsPart c ends from j q) (sym last ∙ ap (entry (parts ++ p ∷ [])) (sym is))
            (record {
              start = i;
              low = lf;
              high = omega arith;
              run = subst (λ (x : ℕ). IsRun ends i x) (sym till) run;
              node = pd;
              class = pc;
              first = λ k lk ki same.
                  let w = was.all k lk ki in
                  let q = was.each w.0 w.1 in
                  apart ends from to i q.start (q.start + (entry parts w.0).count) order h li q.low q.run q.high (sym q.node ∙ (w.2 ∙ (same ∙ pd)));
            })
      ];
      all = λ k l m. elim (cases_lt k i) [
        | inl n ↦ let w = was.all k l n in let b = w.1 in (w.0, omega arith, ap (λ (q : Part). q.node) (old w.0 b) ∙ w.2)
        | inr n ↦ (length parts, omega arith, ap (λ (q : Part). q.node) last ∙ (pd ∙ sym (run.node k n m)))
      ];
      once = λ e f l m same. elim (cases_lt e (length parts)) [
        | inl n ↦ was.once e f n m (ap (λ (q : Part). q.node) (sym (old f (omega arith))) ∙ (same ∙ ap (λ (q : Part). q.node) (old e n)))
        | inr n ↦
            let is : e ≡ length parts = omega arith in
            let lf2 : f < length parts = omega arith in
            let w = was.each f lf2 in
            apart ends from to i w.start (w.start + (entry parts f).count) order h li w.low w.run w.high
            (sym w.node ∙ (ap (λ (q : Part). q.node) (sym (old f lf2)) ∙ (same ∙ (ap (λ (q : Part). q.node) (ap (entry (parts ++ p ∷ [])) is ∙ last) ∙ pd))))
      ];
    }
