-- Stable classes, resumed with one more guess.
use Rattle.std.proofs.Common.{◌≡◌, inl, inr, ℕ, zero, suc, ◌≤◌, ◌==◌, ◌&&◌, Bool, true, false, List, [], ◌∷◌, ◌++◌, refl, sym, subst, ◌∙◌, ap, ap₂, arith, true≢false}
use Rattle.std.specs.List.{count_by}
use Rattle.std.specs.Bool.{beq}
use Rattle.std.specs.Cmp.{IsEquivalence}
use Rattle.std.proofs.Math.Decide.{ℕ_discrete}
use Rattle.std.proofs.lemmas.Bool.{cases_lt, and_from}
use Rattle.std.proofs.lemmas.Bool.Decides.{Decides-eqb}
use Rattle.round_laws.specs.Web.{Port, same_port, End, Web, IsWeb, IsNode, agree, fits, same_ends, IsStable, IsEven, Guess, names, alike_under, under}
use Rattle.round_laws.specs.Colours.{AreColours, SplitsBy}
use Rattle.round_laws.proofs.Agree.{first, second, equivalence, under_web, ends_count, port_same}
use Rattle.round_laws.proofs.Stable.{agreed_before, agreed_first, near_node, stays, finite, ends_alike}
use Rattle.round_laws.proofs.Solved.{matched_counts, ends_equivalence, all_classes}
use Rattle.round_laws.proofs.Fast.{ends_same_in}
use Rattle.round_laws.proofs.Colours.{counts_by_same}
use Rattle.round_laws.specs.Parting.{IsParted, IsCoarse, IsFine, with_guess, SinglesOut}
use Rattle.round_laws.proofs.Few.{one, one_equivalence}

pub pair : {N : Type 0} (w : Web N) (k : ℕ) (g : Guess N) (colour new : N → ℕ) (changed : N → Bool) → IsWeb w → IsStable w k → AreColours w k colour → SinglesOut w g colour new
    → ((a b : N) → IsNode w a → IsNode w b → changed a ≡ false → changed b ≡ false → colour a ≡ colour b → new a ≡ new b)
    → ((a b : N) → IsNode w a → IsNode w b → new a ≡ new b → changed a ≡ changed b)
    → IsParted w colour new changed
pair w k g colour new changed web stable are singles kept whole = record {
  finer = λ a b i j e. ((singles a b i j).0 e).0;
  kept = kept;
  whole = whole;
  steady = λ a b x i j m e r port.
      let t : agree w k a b ≡ true = (are a b i j).0 ((singles a b i j).0 e).0 in
      counts_by_same w k colour web are (w.near a) (w.near b) (near_node w web a i) (near_node w web b j) (second (agree w k a b) _ (stable a b i j t)) port (colour x);
}

-- agreeing in some round is agreeing in those before
earlier : {N : Type 0} (w : Web N) (k j : ℕ) (a b : N) → j ≤ k → agree w k a b ≡ true → agree w j a b ≡ true
earlier w zero j a b l t = let e : 0 ≡ j = omega arith in subst (λ (i : ℕ). agree w i a b ≡ true) e t
earlier w (suc k) j a b l t = elim (ℕ_discrete j (suc k)) [
  | yes e ↦ subst (λ (i : ℕ). agree w i a b ≡ true) (sym e) t
  | no not ↦ earlier w k j a b (omega (arith, not)) (agreed_before w k a b t)
]

-- agreeing in a stable round is agreeing in all
always : {N : Type 0} (w : Web N) (k : ℕ) → IsWeb w → IsStable w k → (a b : N) → IsNode w a → IsNode w b → agree w k a b ≡ true → (j : ℕ) → agree w j a b ≡ true
always w k web stable a b i j t m = elim (cases_lt k m) [
  | inl l ↦ stays w k m web stable (omega arith) a b i j ∙ t
  | inr l ↦ earlier w k m a b l t
]

-- an end of a like node counts for the same where like is finer
coarser : {N : Type 0} (f g : N → N → Bool) → IsEquivalence g → (c d e : End N) → fits f d e ≡ true → (f d.node e.node ≡ true → g d.node e.node ≡ true) → fits g c d ≡ fits g c e
coarser f g eq c d e m finer =
    let fe = ends_equivalence g eq in
    let o : fits g d e ≡ true = and_from (same_port d.port e.port) _ (first (same_port d.port e.port) _ m) (finer (second (same_port d.port e.port) _ m)) in
    fe.symm c d ∙ (fe.congr d e c o ∙ fe.symm e c)

-- a guess more only parts further
less : {N : Type 0} (w : Web N) (g : Guess N) (k : ℕ) (a b : N) → IsWeb w → IsNode w a → IsNode w b → agree (with_guess w g) k a b ≡ true → agree w k a b ≡ true
less w g zero a b web i j t = second (beq (names w g a) (names w g b)) _ t
less {N} w g (suc k) a b web i j t =
    let v : Web N = with_guess w g in
    let eq = equivalence v (under_web w (g ∷ []) web).alike k in
    let s : same_ends (agree v k) (w.near a) (w.near b) ≡ true = second (agree v k a b) _ t in
    and_from (agree w k a b) _ (less w g k a b web i j (first (agree v k a b) _ t))
    (ends_same_in (agree w k) (w.near a) (w.near b) (λ c l.
    matched_counts (fits (agree v k)) (ends_equivalence (agree v k) eq) (fits (agree w k) c) (fits (agree w k) c) (w.near a) (w.near b)
    (ends_count (agree v k) eq (w.near a) (w.near b) s)
    (λ d e x y m. coarser (agree (with_guess w g) k) (agree w k) (equivalence w web.alike k) c d e m (less w g k d.node e.node web (near_node w web a i d x) (near_node w web b j e y)))))

beq_is : (a b : Bool) → beq a b ≡ true → a ≡ b
beq_is true true h = refl
beq_is false false h = refl
beq_is true false h = absurd (true≢false (sym h))
beq_is false true h = absurd (true≢false (sym h))

is_beq : (a b : Bool) → a ≡ b → beq a b ≡ true
is_beq true true h = refl
is_beq false false h = refl
is_beq true false h = absurd (true≢false h)
is_beq false true h = absurd (true≢false (sym h))

pub start : {N : Type 0} (w : Web N) (k : ℕ) (g : Guess N) (colour new : N → ℕ) → IsWeb w → IsStable w k → AreColours w k colour → SinglesOut w g colour new
    → IsCoarse (with_guess w g) new × IsFine (with_guess w g) new
start w k g colour new web stable are singles = (
  (λ a b i j t. (singles a b i j).1 ((are a b i j).1 (less w g k a b web i j (t k)), beq_is (names w g a) (names w g b) (first (beq (names w g a) (names w g b)) (w.alike a b) (t 0)))),
  (λ a b i j e.
      let s = (singles a b i j).0 e in
      and_from (beq (names w g a) (names w g b)) (w.alike a b) (is_beq (names w g a) (names w g b) s.1) (agreed_first w k a b ((are a b i j).0 s.0))),
)

pub step : {N : Type 0} (w : Web N) (colour new : N → ℕ) → IsWeb w → SplitsBy w w.near colour new → IsCoarse w colour → IsFine w colour → IsCoarse w new × IsFine w new
step {N} w colour new web splits coarse fine = (
  (λ a b i j t.
      let f = finite w web in
      let k : ℕ = f.0 in
      let eq : IsEquivalence (agree w k) = equivalence w web.alike k in
      (splits a b i j).1 (
        coarse a b i j t,
        (λ port c.
            matched_counts (fits (agree w k)) (ends_equivalence (agree w k) eq) (λ e. same_port port e.port && (c == colour e.node)) (λ e. same_port port e.port && (c == colour e.node)) (w.near a) (w.near b)
            (ends_count (agree w k) eq (w.near a) (w.near b) (second (agree w k a b) _ (t (suc k))))
            (λ d e x y m.
            let nd = near_node w web a i d x in
            let ne = near_node w web b j e y in
            let p : d.port ≡ e.port = (port_same d.port e.port).0 (first (same_port d.port e.port) _ m) in
            let q : colour d.node ≡ colour e.node = coarse d.node e.node nd ne (always w k web f.2 d.node e.node nd ne (second (same_port d.port e.port) _ m)) in
            ap₂ (λ (u : Port) (v : ℕ). same_port port u && (c == v)) p q)),
      )),
  (λ a b i j e. fine a b i j ((splits a b i j).0 e).0),
)

agrees : {N : Type 0} (w : Web N) (colour : N → ℕ) (j : ℕ) → IsWeb w → SplitsBy w w.near colour colour → IsFine w colour → (a b : N) → IsNode w a → IsNode w b → colour a ≡ colour b → agree w j a b ≡ true
agrees w colour zero web fixed fine a b na nb e = fine a b na nb e
agrees {N} w colour (suc j) web fixed fine a b na nb e =
    and_from (agree w j a b) _ (agrees w colour j web fixed fine a b na nb e)
    (ends_same_in (agree w j) (w.near a) (w.near b) (λ c l.
    matched_counts (fits (one colour)) (ends_equivalence (one colour) (one_equivalence colour)) (fits (agree w j) c) (fits (agree w j) c) (w.near a) (w.near b)
    (λ d. ((fixed a b na nb).0 e).1 d.port (colour d.node))
    (λ d f x y m. coarser (one colour) (agree w j) (equivalence w web.alike j) c d f m
    (λ t. agrees w colour j web fixed fine d.node f.node (near_node w web a na d x) (near_node w web b nb f y) ((Decides-eqb (colour d.node) (colour f.node)).0 t)))))

pub last : {N : Type 0} (w : Web N) (colour : N → ℕ) (k : ℕ) → IsWeb w → SplitsBy w w.near colour colour → IsCoarse w colour → IsFine w colour → IsStable w k → AreColours w k colour
last w colour k web fixed coarse fine stable = λ a b i j. (
  agrees w colour k web fixed fine a b i j,
  (λ t. coarse a b i j (always w k web stable a b i j t)),
)

pub union : {N : Type 0} (w : Web N) (colour : N → ℕ) (k : ℕ) → IsWeb w → IsStable w k → IsEven w k → IsCoarse w colour
    → (c : ℕ) → count_by (λ a. c == colour a) w.left ≡ count_by (λ a. c == colour a) w.right
union w colour k web stable even coarse c =
    let eq : IsEquivalence (agree w k) = equivalence w web.alike k in
    matched_counts (agree w k) eq (λ a. c == colour a) (λ a. c == colour a) w.left w.right
    (all_classes (agree w k) eq w.left w.right (λ d n. even d n))
    (λ x y i j h. ap (λ (n : ℕ). c == n) (coarse x y (inl i) (inr j) (always w k web stable x y (inl i) (inr j) h)))

-- even classes were even in each round before
pub even_before : {N : Type 0} (w : Web N) (k j : ℕ) → IsWeb w → IsEven w k → j ≤ k → IsEven w j
even_before w k j web even l c n =
    let eq : IsEquivalence (agree w k) = equivalence w web.alike k in
    let near = equivalence w web.alike j in
    matched_counts (agree w k) eq (agree w j c) (agree w j c) w.left w.right
    (all_classes (agree w k) eq w.left w.right (λ d m. even d m))
    (λ x y s t h. near.symm c x ∙ (near.congr x y c (earlier w k j x y l h) ∙ near.symm y c))

swapped : (a b c : Bool) → (a && (b && c)) ≡ (b && (a && c))
swapped true b c = refl
swapped false true c = refl
swapped false false c = refl

alike_last : {N : Type 0} (w : Web N) (gs : List (Guess N)) (g : Guess N) (a b : N) → alike_under w (gs ++ g ∷ []) a b ≡ (beq (names w g a) (names w g b) && alike_under w gs a b)
alike_last w [] g a b = refl
alike_last w (h ∷ gs) g a b = ap (λ (t : Bool). beq (names w h a) (names w h b) && t) (alike_last w gs g a b) ∙ swapped (beq (names w h a) (names w h b)) (beq (names w g a) (names w g b)) (alike_under w gs a b)

-- the last guess of a list is one guess more
pub last_guess : {N : Type 0} (w : Web N) (gs : List (Guess N)) (g : Guess N) (k : ℕ) → IsWeb w → (a b : N) → IsNode w a → IsNode w b
    → agree (under w (gs ++ g ∷ [])) k a b ≡ agree (with_guess (under w gs) g) k a b
last_guess w gs g zero web a b i j = alike_last w gs g a b
last_guess w gs g (suc k) web a b i j =
    ap₂ (λ (s t : Bool). s && t) (last_guess w gs g k web a b i j)
    (ends_alike w (agree (under w (gs ++ g ∷ [])) k) (agree (with_guess (under w gs) g) k) web (λ c d n m. last_guess w gs g k web c d n m) a b i j)
