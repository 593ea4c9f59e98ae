-- Jobs of the cells below a cell.
use Rattle.std.proofs.Common.{◌≡◌, ◌↔◌, inl, inr, ℕ, zero, suc, ◌+◌, ◌<◌, ◌≤◌, ◌==◌, ◌||◌, ◌&&◌, Bool, true, false, List, [], ◌∷◌, ◌++◌, Some, map, slice_get, get_or, set, take, length, length-set, get_or-set_same, get_or-set_other, refl, sym, ◌∙◌, ap, subst, arith, slice_index}
use Rattle.base_laws.proofs.Tests.{or_false, or_assoc}
use Rattle.std.proofs.lemmas.Bool.{or_cases, or_left, or_right, eqb-true, eq-eqb, ne_eqb}
use Rattle.std.proofs.Math.Decide.{ℕ_discrete, dec_lt}
use Rattle.std.proofs.Math.Seq.{take-length}
use Rattle.std.proofs.lemmas.Bool.Decides.{nat_tests}
use Rattle.std.proofs.lemmas.List.{get_or-map, take_more}
use Rattle.std.proofs.lemmas.Option.{slice_get_within}
use Rattle.std.specs.Global.{Vec}
use Rattle.cell_graph.proofs.Bridge.{heights, placed_of, reference_at, step_of}
use Rattle.cell_graph.proofs.Elements.{number_of}
use Rattle.cell_graph.specs.Linked.{IsSound, Linked, cell_at, height_at, places_at, plain, reference}
use Rattle.cell_graph.specs.declared.cells.Place.{Place}
use Rattle.deep_tables.specs.Positions.{ArePositions}
use Rattle.flat_laws.proofs.Cover.{reached_below}
use Rattle.flat_layout.specs.Arrays.{place_at}
use Rattle.flat_layout.specs.Layout as flat
use Rattle.flat_layout.specs.Layout.{Design, IsHeight, IsPlaced, IsReached, Leads}
use Rattle.job_graph.proofs.Inputs.{has_within, item_has}
use Rattle.job_graph.specs.Graph.{AreAscending, AreLower, has, inputs_of, lists}
use Rattle.net_phase.proofs.Listing.{get_push, long_push}
use Rattle.net_phase.specs.Graph.{AreBelowJobs, AreInputsAt, AreInputsTo, AreMarks, IsBelow, IsLowerJob, is_at_or_in}

-- numbers and marks

next_number : (x y : ℕ) → (suc x == suc y) ≡ (x == y)
next_number x y = grind (arith, nat_tests)

pub has_push : (x y : ℕ) (xs : List ℕ) → has x (xs ++ y ∷ []) ≡ (has x xs || (x == y))
has_push x y [] = or_false (x == y)
has_push x y (z ∷ xs) = ap (λ b. (x == z) || b) (has_push x y xs) ∙ sym (or_assoc (x == z) (has x xs) (x == y))

set_mark : (m : List Bool) (x i : ℕ) → x < length m → get_or (set m x true) i false ≡ (get_or m i false || (i == x))
set_mark m x i lt = elim (ℕ_discrete i x) [
  | yes e ↦ ap (λ k. get_or (set m x true) k false) e ∙ get_or-set_same m x true false lt ∙ sym (or_right (get_or m i false) (i == x) (eq-eqb i x e))
  | no n ↦ get_or-set_other m x i true false n ∙ sym (ap (λ b. get_or m i false || b) (ne_eqb i x n) ∙ or_false (get_or m i false))
]

-- marks over those before, of a job and of the first that it waits for
pub record AreMarked (old : List Bool) (job n : ℕ) (inputs : List ℕ) (new : List Bool) : Type 0 where
  pub count : length new ≡ length old
  pub marked : (i : ℕ) → get_or new i false ≡ (get_or old i false || is_at_or_in i job (take n inputs))

pub mark_job : (old : List Bool) (job : ℕ) (inputs : List ℕ) → job < length old → AreMarked old job 0 inputs (set old job true)
mark_job old job inputs lt = record {
  count = length-set old job true;
  marked = λ i. set_mark old job i lt ∙ ap (λ b. get_or old i false || b) (sym (or_false (i == job)));
}

pub mark_more : (old mid : List Bool) (job n : ℕ) (inputs : List ℕ) → n < length inputs → get_or inputs n 0 < length old → AreMarked old job n inputs mid → AreMarked old job (n + 1) inputs (set mid (get_or inputs n 0) true)
mark_more old mid job n inputs lt within h =
    let x = get_or inputs n 0 in
    let c = h.count in
    record {
      count = length-set mid x true ∙ h.count;
      marked = λ i.
          let first = take n inputs in
          let more : has i (take (n + 1) inputs) ≡ (has i first || (i == x)) = ap (has i) (take_more inputs n 0 lt) ∙ has_push i x first in
          set_mark mid x i (omega (arith, c, within))
          ∙ ap (λ b. b || (i == x)) (h.marked i)
          ∙ or_assoc (get_or old i false) (is_at_or_in i job first) (i == x)
          ∙ ap (λ b. get_or old i false || b) (or_assoc (i == job) (has i first) (i == x) ∙ ap (λ b. (i == job) || b) (sym more));
    }

pub input_within : (inputs : List ℕ) (job n : ℕ) → AreAscending 0 inputs job → n < length inputs → get_or inputs n 0 < job
input_within inputs job n h lt = (has_within 0 (get_or inputs n 0) inputs job h (item_has inputs n 0 lt)).1

pub mark_all : (old new : List Bool) (job n : ℕ) (inputs : List ℕ) → n ≡ length inputs → AreMarked old job n inputs new → (i : ℕ) → get_or new i false ≡ (get_or old i false || is_at_or_in i job inputs)
mark_all old new job n inputs e h i = h.marked i ∙ ap (λ l. get_or old i false || is_at_or_in i job l) (ap (λ k. take k inputs) e ∙ take-length inputs)

-- cells below

under_height : (d : Design) (height : ℕ → ℕ) → IsHeight d height → (path : List ℕ) (cell e : ℕ) → Leads d cell path e → height e ≤ height cell
under_height d height lower [] cell e h = let same = ap height h in omega (arith, same)
under_height d height lower (k ∷ path) cell e h =
    let down = lower cell k h.0 h.1 in
    let rest = under_height d height lower path h.0.cell e h.2 in
    omega (arith, down, rest)

pub below_before : (d : Linked) (job input : ℕ) → IsSound d → job < length d.order → input < length d.order → IsBelow (plain d) (slice_index d.order job) (slice_index d.order input) → input < job
below_before d job input sound lt less below = elim (dec_lt input job) [
  | yes h ↦ h
  | no n ↦
      let down = heights d sound (slice_index d.order job) below.0 below.1 below.2 in
      let rest = under_height (plain d) (height_at d) (heights d sound) below.3.0 below.1.cell (slice_index d.order input) below.3.1 in
      elim (ℕ_discrete job input) [
        | yes e ↦ let same = ap (λ k. height_at d (slice_index d.order k)) e in absurd (let z : ⊥ = omega (arith, down, rest, same) in z)
        | no m ↦ let up = sound.order.rising job input (omega arith) less in absurd (let z : ⊥ = omega (arith, down, rest, up) in z)
      ]
]

first_element : (d : Linked) (cell i : ℕ) (p : Place) → IsSound d → slice_get (places_at (cell_at d cell)) i ≡ Some p
    → IsPlaced (plain d) cell (number_of (map reference (places_at (cell_at d cell))) i (reference p) 0 0) (place_at (reference p) 0 0)
first_element d cell i p sound there =
    let r = (reference_at d cell i p sound there).2 in
    placed_of d cell i 0 0 p (record { there = there; row_in = r.rows; column_in = r.columns })

-- the job of a placed cell
pub record IsJobOf (d : Linked) (cell c : ℕ) : Type 0 where
  pub job_in : c < length d.order
  pub is : slice_index d.order c ≡ cell

child_job : (d : Linked) (jobs : List ℕ) (cell i : ℕ) (p : Place) → IsSound d → ArePositions d.order (length d.order) jobs → IsReached (plain d) cell → slice_get (places_at (cell_at d cell)) i ≡ Some p → IsJobOf d p.cell (slice_index jobs p.cell)
child_job d jobs cell i p sound positions reached there =
    let n = number_of (map reference (places_at (cell_at d cell))) i (reference p) 0 0 in
    let at = sound.order.all p.cell (reached_below (plain d) cell n (place_at (reference p) 0 0) reached (first_element d cell i p sound there)) in
    let same : slice_index jobs p.cell ≡ at.0 = ap (slice_index jobs) (sym at.2) ∙ positions at.0 at.1 in
    record {
      job_in = subst (λ k. k < length d.order) (sym same) at.1;
      is = ap (slice_index d.order) same ∙ at.2;
    }

pub child_lower : (d : Linked) (jobs : List ℕ) (job i : ℕ) (p : Place) → IsSound d → ArePositions d.order (length d.order) jobs → job < length d.order → slice_get (places_at (cell_at d (slice_index d.order job))) i ≡ Some p → slice_index jobs p.cell < job
child_lower d jobs job i p sound positions lt there =
    let cell = slice_index d.order job in
    let c = child_job d jobs cell i p sound positions (sound.order.reached job lt) there in
    let n = number_of (map reference (places_at (cell_at d cell))) i (reference p) 0 0 in
    below_before d job (slice_index jobs p.cell) sound lt c.job_in (n, place_at (reference p) 0 0, first_element d cell i p sound there, ([], sym c.is))

-- by one of the first references
abbrev pub IsFrom : Linked → List ℕ → List (List ℕ) → ℕ → ℕ → ℕ → Type 0
IsFrom d jobs graph cell n i = (k : ℕ) × (p : Place) × (k < n) × (slice_get (places_at (cell_at d cell)) k ≡ Some p)
    × (is_at_or_in i (slice_index jobs p.cell) (inputs_of graph (slice_index jobs p.cell)) ≡ true)

pub record AreFrom (d : Linked) (jobs : List ℕ) (graph : List (List ℕ)) (job n : ℕ) (marks : List Bool) : Type 0 where
  pub count : length marks ≡ job
  pub all : (i : ℕ) → (get_or marks i false ≡ true) ↔ IsFrom d jobs graph (slice_index d.order job) n i

unmarked : (i : ℕ) (m : List Bool) → ((k : ℕ) → k < length m → get_or m k false ≡ false) → get_or m i false ≡ true → ⊥
unmarked i [] f h = let e : false ≡ true = h in let z : ⊥ = cc in z
unmarked zero (x ∷ m) f h = let e : x ≡ false = f 0 (omega arith) in let g : x ≡ true = h in let z : ⊥ = cc in z
unmarked (suc i) (x ∷ m) f h = unmarked i m (λ k lt. f (suc k) (omega arith)) h

pub none_from : (d : Linked) (jobs : List ℕ) (graph : List (List ℕ)) (job : ℕ) (m : List Bool) → length m ≡ job → ((k : ℕ) → k < length m → get_or m k false ≡ false) → AreFrom d jobs graph job 0 m
none_from d jobs graph job m e f = record {
  count = e;
  all = λ i. ((λ h. absurd (unmarked i m f h)), (λ h. let lt = h.2 in absurd (let z : ⊥ = omega (arith, lt) in z)));
}

one_place : (xs : List Place) (k j : ℕ) (p q : Place) → slice_get xs k ≡ Some p → slice_get xs j ≡ Some q → k ≡ j → p ≡ q
one_place xs k j p q e f same = let g : slice_get xs j ≡ Some p = subst (λ n. slice_get xs n ≡ Some p) same e in let h : Some p ≡ Some q = sym g ∙ f in cc

pub from_more : (d : Linked) (jobs : List ℕ) (graph : List (List ℕ)) (job n : ℕ) (p : Place) (old new : List Bool) → slice_get (places_at (cell_at d (slice_index d.order job))) n ≡ Some p → AreFrom d jobs graph job n old → length new ≡ length old
    → ((i : ℕ) → get_or new i false ≡ (get_or old i false || is_at_or_in i (slice_index jobs p.cell) (inputs_of graph (slice_index jobs p.cell)))) → AreFrom d jobs graph job (n + 1) new
from_more d jobs graph job n p old new there h long marked = record {
  count = long ∙ h.count;
  all = λ i.
      let hit = is_at_or_in i (slice_index jobs p.cell) (inputs_of graph (slice_index jobs p.cell)) in (
        (λ e. elim (or_cases (get_or old i false) hit (sym (marked i) ∙ e)) [
          | inl a ↦ let f = (h.all i).0 a in let lt = f.2 in (f.0, f.1, omega (arith, lt), f.3, f.4)
          | inr b ↦ (n, p, omega arith, there, b)
        ]),
        (λ f. marked i ∙ elim (ℕ_discrete f.0 n) [
          | yes s ↦
              let q : f.1 ≡ p = one_place (places_at (cell_at d (slice_index d.order job))) f.0 n f.1 p f.3 there s in
              or_right (get_or old i false) hit (subst (λ (x : Place). is_at_or_in i (slice_index jobs x.cell) (inputs_of graph (slice_index jobs x.cell)) ≡ true) q f.4)
          | no m ↦ let lt = f.2 in or_left (get_or old i false) hit ((h.all i).1 (f.0, f.1, omega (arith, lt, m), f.3, f.4))
        ]),
      );
}

-- all of these are the jobs of cells below
pub from_all : (d : Linked) (jobs : List ℕ) (graph : List (List ℕ)) (job n : ℕ) (marks : List Bool) → IsSound d → ArePositions d.order (length d.order) jobs → job < length d.order → AreInputsTo d job graph
    → n ≡ length (places_at (cell_at d (slice_index d.order job))) → AreFrom d jobs graph job n marks → AreMarks d job marks
from_all d jobs graph job n marks sound positions lt before e h = record {
  count = h.count;
  all = λ i. ((λ m. below i ((h.all i).0 m)), (λ l. (h.all i).1 (from i l.0 l.1)));
}
  where
    reached : IsReached (plain d) (slice_index d.order job)
    reached = sound.order.reached job lt

    below : (i : ℕ) → IsFrom d jobs graph (slice_index d.order job) n i → IsLowerJob d job i
    below i f =
        let c = slice_index jobs f.1.cell in
        let at = child_job d jobs (slice_index d.order job) f.0 f.1 sound positions reached f.3 in
        let less = child_lower d jobs job f.0 f.1 sound positions lt f.3 in
        let k = number_of (map reference (places_at (cell_at d (slice_index d.order job)))) f.0 (reference f.1) 0 0 in
        let placed = first_element d (slice_index d.order job) f.0 f.1 sound f.3 in
        elim (or_cases (i == c) (has i (inputs_of graph c)) f.4) [
          | inl a ↦
              let s : i ≡ c = eqb-true i c a in
              (subst (λ j. j < length d.order) (sym s) at.job_in, (k, place_at (reference f.1) 0 0, placed, ([], sym at.is ∙ ap (slice_index d.order) (sym s))))
          | inr b ↦
              let w = ((before.each c less).all i).0 b in
              let g = w.1 in
              let step : IsPlaced (plain d) f.1.cell g.0 g.1 = subst (λ v. IsPlaced (plain d) v g.0 g.1) at.is g.2 in
              (w.0, (k, place_at (reference f.1) 0 0, placed, (g.0 ∷ g.3.0, (g.1, step, g.3.1))))
        ]

    by_path : (i : ℕ) (p : Place) (path : List ℕ) → i < length d.order → IsJobOf d p.cell (slice_index jobs p.cell) → slice_index jobs p.cell < job → Leads (plain d) p.cell path (slice_index d.order i)
        → is_at_or_in i (slice_index jobs p.cell) (inputs_of graph (slice_index jobs p.cell)) ≡ true
    by_path i p [] i_in at less leads =
        let c = slice_index jobs p.cell in
        let s : i ≡ c = sound.order.once i c i_in at.job_in (sym leads ∙ sym at.is) in
        or_left (i == c) (has i (inputs_of graph c)) (eq-eqb i c s)
    by_path i p (k ∷ path) i_in at less leads =
        let c = slice_index jobs p.cell in
        let step : IsPlaced (plain d) (slice_index d.order c) k leads.0 = subst (λ v. IsPlaced (plain d) v k leads.0) (sym at.is) leads.1 in
        or_right (i == c) (has i (inputs_of graph c)) (((before.each c less).all i).1 (i_in, (k, leads.0, step, (path, leads.2))))

    from : (i : ℕ) → i < length d.order → IsBelow (plain d) (slice_index d.order job) (slice_index d.order i) → IsFrom d jobs graph (slice_index d.order job) n i
    from i i_in b =
        let s = step_of d (slice_index d.order job) b.0 b.1 b.2 in
        let p = s.from in
        let leads : Leads (plain d) p.cell b.3.0 (slice_index d.order i) = subst (λ (x : flat.Place). Leads (plain d) x.cell b.3.0 (slice_index d.order i)) s.is b.3.1 in
        let less = slice_get_within (places_at (cell_at d (slice_index d.order job))) s.index p s.step.there in (
          s.index,
          p,
          omega (arith, e, less),
          s.step.there,
          by_path i p b.3.0 i_in (child_job d jobs (slice_index d.order job) s.index p sound positions reached s.step.there) (child_lower d jobs job s.index p sound positions lt s.step.there) leads,
        )

-- the numbers of marks

get_last : (m : List Bool) (b : Bool) (i : ℕ) → get_or (m ++ b ∷ []) i false ≡ (get_or m i false || ((i == length m) && b))
get_last [] true zero = refl
get_last [] false zero = refl
get_last [] b (suc i) = let e : (suc i == 0) ≡ false = ne_eqb (suc i) 0 (λ h. let z : ⊥ = omega (arith, h) in z) in sym (ap (λ c. c && b) e)
get_last (x ∷ m) b zero = let e : (0 == suc (length m)) ≡ false = ne_eqb 0 (suc (length m)) (λ h. let z : ⊥ = omega (arith, h) in z) in sym (ap (λ c. x || (c && b)) e ∙ or_false x)
get_last (x ∷ m) b (suc i) = get_last m b i ∙ ap (λ c. get_or m i false || (c && b)) (sym (next_number i (length m)))

-- the numbers of the first marks that are set
pub record AreNumbers (marks : List Bool) (n : ℕ) (numbers : List ℕ) : Type 0 where
  pub ascend : AreAscending 0 numbers n
  pub all : (i : ℕ) → has i numbers ≡ get_or (take n marks) i false

pub no_numbers : (marks : List Bool) → AreNumbers marks 0 []
no_numbers marks = record { ascend = tt; all = λ i. refl }

ascending_push : (low : ℕ) (xs : List ℕ) (y : ℕ) → AreAscending low xs y → low ≤ y → AreAscending low (xs ++ y ∷ []) (y + 1)
ascending_push low [] y h le = (le, omega arith, tt)
ascending_push low (x ∷ xs) y h le = let lt = h.1 in (h.0, omega arith, ascending_push (suc x) xs y h.2 (omega arith))

wider : (low : ℕ) (xs : List ℕ) (high more : ℕ) → AreAscending low xs high → high ≤ more → AreAscending low xs more
wider low [] high more h le = tt
wider low (x ∷ xs) high more h le = let lt = h.1 in (h.0, omega arith, wider (suc x) xs high more h.2 le)

take_long : {A : Type 0} (xs : List A) (n : ℕ) → n ≤ length xs → length (take n xs) ≡ n
take_long [] zero le = refl
take_long [] (suc n) le = absurd (let z : ⊥ = omega arith in z)
take_long (x ∷ xs) zero le = refl
take_long (x ∷ xs) (suc n) le = let h = take_long xs n (omega arith) in omega (arith, h)

pub number_more : (marks : List Bool) (n : ℕ) (numbers : List ℕ) → n < length marks → get_or marks n false ≡ true → AreNumbers marks n numbers → AreNumbers marks (n + 1) (numbers ++ n ∷ [])
number_more marks n numbers lt is h = record {
  ascend = ascending_push 0 numbers n h.ascend (omega arith);
  all = λ i.
      let first = take n marks in
      let long : length first ≡ n = take_long marks n (omega arith) in
      has_push i n numbers ∙ ap (λ b. b || (i == n)) (h.all i)
      ∙ sym (ap (λ l. get_or l i false) (take_more marks n false lt) ∙ ap (λ b. get_or (first ++ b ∷ []) i false) is ∙ get_last first true i
      ∙ ap (λ b. get_or first i false || b) (and_true (i == length first) ∙ ap (λ k. i == k) long));
}
  where
    and_true : (b : Bool) → (b && true) ≡ b
    and_true true = refl
    and_true false = refl

pub number_none : (marks : List Bool) (n : ℕ) (numbers : List ℕ) → n < length marks → get_or marks n false ≡ false → AreNumbers marks n numbers → AreNumbers marks (n + 1) numbers
number_none marks n numbers lt is h = record {
  ascend = wider 0 numbers n (n + 1) h.ascend (omega arith);
  all = λ i.
      let first = take n marks in
      h.all i ∙ sym (ap (λ l. get_or l i false) (take_more marks n false lt) ∙ ap (λ b. get_or (first ++ b ∷ []) i false) is ∙ get_last first false i
      ∙ ap (λ b. get_or first i false || b) (and_false (i == length first)) ∙ or_false (get_or first i false));
}
  where
    and_false : (b : Bool) → (b && false) ≡ false
    and_false true = refl
    and_false false = refl

pub numbers_all : (marks : List Bool) (n : ℕ) (numbers : List ℕ) → n ≡ length marks → AreNumbers marks n numbers → AreAscending 0 numbers (length marks) × ((i : ℕ) → has i numbers ≡ get_or marks i false)
numbers_all marks n numbers e h = (
  subst (AreAscending 0 numbers) e h.ascend,
  (λ i. h.all i ∙ ap (λ l. get_or l i false) (ap (λ k. take k marks) e ∙ take-length marks)),
)

-- the inputs of the first jobs

pub no_inputs : (d : Linked) → AreInputsTo d 0 []
no_inputs d = record { count = refl; each = λ job lt. absurd (omega arith) }

pub inputs_by : (d : Linked) (job : ℕ) (marks : List Bool) (inputs : List ℕ) → AreMarks d job marks → AreAscending 0 inputs (length marks) → ((i : ℕ) → has i inputs ≡ get_or marks i false) → AreInputsAt d job inputs
inputs_by d job marks inputs h up same = record {
  ascend = subst (AreAscending 0 inputs) h.count up;
  all = λ i. ((λ e. (h.all i).0 (sym (same i) ∙ e)), (λ l. same i ∙ (h.all i).1 l));
}

pub inputs_more : (d : Linked) (n : ℕ) (graph : List (List ℕ)) (jobs : List ℕ) → AreInputsTo d n graph → AreInputsAt d n jobs → AreInputsTo d (n + 1) (graph ++ jobs ∷ [])
inputs_more d n graph jobs h here =
    let e = h.count in record {
      count = (let g = long_push graph jobs in omega (arith, g, e));
      each = λ job lt. get_push graph jobs [] job (AreInputsAt d) (λ k less. h.each k (omega (arith, e, less))) (subst (λ k. AreInputsAt d k jobs) (sym e) here) (omega (arith, e, lt));
    }

pub inputs_lower : (d : Linked) (n : ℕ) (graph : List (List ℕ)) → AreInputsTo d n graph → AreLower graph
inputs_lower d n graph h job lt = let e = h.count in (h.each job (omega (arith, e, lt))).ascend

pub graph_below : (d : Linked) (n : ℕ) (graph : List (List ℕ)) → n ≡ length d.order → AreInputsTo d n graph → AreBelowJobs d graph
graph_below d n graph e h = record {
  jobs = h.count ∙ e;
  waits = λ job input lt. (h.each job (omega (arith, e, lt))).all input;
}

-- the list of a vector is its first items
pub first_all : (n : ℕ) (xs ys : List Bool) → n ≡ length xs → take n (xs ++ ys) ≡ xs
first_all n xs ys e = ap (λ k. take k (xs ++ ys)) e ∙ whole xs ys
  where
    take_none : (ys : List Bool) → take 0 ys ≡ []
    take_none [] = refl
    take_none (y ∷ ys) = refl

    whole : (xs ys : List Bool) → take (length xs) (xs ++ ys) ≡ xs
    whole [] ys = take_none ys
    whole (x ∷ xs) ys = ap (λ l. x ∷ l) (whole xs ys)

-- the list at a number
pub list_at : (vs : List (Vec ℕ)) (i : ℕ) (v : Vec ℕ) (xs : List ℕ) → i < length vs → v ≡ get_or vs i v → xs ≡ v.items → inputs_of (lists vs) i ≡ xs
list_at vs i v xs lt at is = get_or-map (λ (x : Vec ℕ). x.items) vs i v [] lt ∙ ap (λ (x : Vec ℕ). x.items) (sym at) ∙ sym is
