-- Where a pair differs and none goes, it is that of the tops, and calls nothing.
use Rattle.std.proofs.Common.{◌≡◌, inl, inr, ℕ, zero, suc, ◌+◌, ◌-◌, ◌≤◌, Bool, true, false, List, [], ◌∷◌, length, Some, slice_get, refl, sym, ap, subst, ◌∙◌, arith, true≢false}
use Rattle.base_laws.proofs.Items.{item_at}
use Rattle.std.proofs.lemmas.Bool.{or_parts, and_parts}
use Rattle.std.specs.Prelude.{◌==◌, ◌&&◌, ◌||◌, nat_lt, slice_index_or, if◌then◌else◌}
use Rattle.std.specs.List.{list_any}
use Rattle.std.proofs.lemmas.Bool.Decides.{Decides-eqb, Decides-ltb}
use Rattle.std.proofs.lemmas.Option.{slice_get_within}
use Rattle.align_laws.specs.Partners.{IsAlignedPair, IsPair}
use Rattle.align_laws.specs.Cut.{Alignment}
use Rattle.composed_laws.specs.Answered.{is_called}
use Rattle.match_laws.specs.Answer.{Answer, DiffersByTree, DiffersInRound, IsDifference, Match, Skipped, Undecided}
use Rattle.net_align.specs.Compared.{AreCalleesFirst}
use Rattle.pair_jobs.specs.Answers.{is_difference}
use Rattle.pair_turns.specs.Going.{AreGoing, calls_none, goes_from, takes_apart}
use Rattle.plain_netlist.specs.Netlist.{CallRow, Circuit, Netlist, IsCircuit}
use Rattle.plain_netlist.specs.Sound.{IsCallPath}
use Rattle.plain_netlist.proofs.Faults.{sides}
use Rattle.report_file.proofs.Kept.{made_of}

first_false : (a b : Bool) → a ≡ true → (a && b) ≡ false → b ≡ false
first_false true b e f = f
first_false false b e f = absurd cc

-- none goes, so this pair takes none apart
quiet : (n j q : ℕ) (cs ds : List Circuit) (vs : List Answer) (c d : Circuit) (a : Answer) → ((i : ℕ) → goes_from n j cs ds vs i ≡ false) → slice_get cs q ≡ Some c → slice_get ds q ≡ Some d → slice_get vs q ≡ Some a
    → is_difference a ≡ true → (i : ℕ) → takes_apart n (j + q) c d i ≡ false
quiet n j q [] ds vs c d a h e f g t i = absurd cc
quiet n j q (x ∷ cs) [] vs c d a h e f g t i = absurd cc
quiet n j q (x ∷ cs) (y ∷ ds) [] c d a h e f g t i = absurd cc
quiet n j zero (x ∷ cs) (y ∷ ds) (v ∷ vs) c d a h e f g t i =
    let one : x ≡ c = cc in
    let two : y ≡ d = cc in
    let three : v ≡ a = cc in
    let both = or_parts (is_difference v && takes_apart n j x y i) _ (h i) in
    let off = first_false (is_difference v) (takes_apart n j x y i) (ap is_difference three ∙ t) both.0 in
    let zero_more : j ≡ j + 0 = omega arith in
    subst (λ (m : ℕ). takes_apart n m c d i ≡ false) zero_more
    (subst (λ (z : Circuit). takes_apart n j c z i ≡ false) two (subst (λ (z : Circuit). takes_apart n j z y i ≡ false) one off))
quiet n j (suc q) (x ∷ cs) (y ∷ ds) (v ∷ vs) c d a h e f g t i =
    let more : (m : ℕ) → goes_from n (j + 1) cs ds vs m ≡ false = λ m. (or_parts (is_difference v && takes_apart n j x y m) (goes_from n (j + 1) cs ds vs m) (h m)).1 in
    let same : (j + 1) + q ≡ j + suc q = omega arith in
    subst (λ (m : ℕ). takes_apart n m c d i ≡ false) same (quiet n (j + 1) q cs ds vs c d a more e f g t i)

-- a circuit whose calls are of no pair has none
no_calls : (rs : List CallRow) → ((i : ℕ) → list_any (λ (r : CallRow). r.circuit == i) rs ≡ false) → rs ≡ []
no_calls [] h = refl
no_calls (r ∷ rs) h = absurd (
    let here = or_parts (r.circuit == r.circuit) _ (h r.circuit) in
    true≢false (sym ((Decides-eqb r.circuit r.circuit).1 refl) ∙ here.0))

none_long : (rs : List CallRow) → (length rs == 0) ≡ true → rs ≡ []
none_long [] e = refl
none_long (r ∷ rs) e = absurd (let z = (Decides-eqb (length (r ∷ rs)) 0).0 e in omega (arith, z))

not_below : (a b : ℕ) → nat_lt a b ≡ false → b ≤ a
not_below a b e = elim (sides a b) [
  | inl l ↦ absurd (true≢false (sym ((Decides-ltb a b).1 l) ∙ e))
  | inr (inl f) ↦ omega (arith, f)
  | inr (inr l) ↦ omega (arith, l)
]

-- it calls nothing, and no pair stands behind it
pub record IsLastLeaf (n k : ℕ) (c d : Circuit) : Type 0 where
  pub left : c.calls ≡ []
  pub right : d.calls ≡ []
  pub last : n ≤ k + 1

last_leaf : (n k : ℕ) (c d : Circuit) → ((i : ℕ) → takes_apart n k c d i ≡ false) → IsLastLeaf n k c d
last_leaf n k c d h = step (calls_none c && calls_none d) refl
  where
    step : (b : Bool) → (calls_none c && calls_none d) ≡ b → IsLastLeaf n k c d
    step true e =
        let both = and_parts (calls_none c) (calls_none d) e in
        let here : ((k == k) && nat_lt (k + 1) n) ≡ false = subst (λ (b : Bool). (if b then ((k == k) && nat_lt (k + 1) n) else (is_called c k || is_called d k)) ≡ false) e (h k) in
        record {
          left = none_long c.calls both.0;
          right = none_long d.calls both.1;
          last = not_below (k + 1) n (first_false (k == k) (nat_lt (k + 1) n) ((Decides-eqb k k).1 refl) here);
        }
    step false e =
        let each : (i : ℕ) → (is_called c i || is_called d i) ≡ false = λ i. subst (λ (b : Bool). (if b then ((i == k) && nat_lt (k + 1) n) else (is_called c i || is_called d i)) ≡ false) e (h i) in
        let left = no_calls c.calls (λ i. (or_parts (is_called c i) (is_called d i) (each i)).0) in
        let right = no_calls d.calls (λ i. (or_parts (is_called c i) (is_called d i) (each i)).1) in
        absurd (true≢false (sym (ap (λ (rs : List CallRow). (length rs == 0) && calls_none d) left ∙ ap (λ (rs : List CallRow). length rs == 0) right) ∙ e))

-- no mark is set
pub unset : (goes : List Bool) → list_any (λ (g : Bool). g) goes ≡ false → (k : ℕ) → slice_index_or goes k false ≡ false
unset [] e k = refl
unset (true ∷ gs) e k = absurd cc
unset (false ∷ gs) e zero = refl
unset (false ∷ gs) e (suc k) = unset gs e k

pub differs : (a : Answer) → IsDifference a → is_difference a ≡ true
differs (Match f) h = absurd h
differs (DiffersInRound r a m n) h = refl
differs (DiffersByTree gs) h = refl
differs (Undecided gs) h = absurd h
differs (Skipped q) h = absurd h

pub leaf_of : (left right : Netlist) (answers : List Answer) (goes : List Bool) → AreGoing left right answers goes → list_any (λ (g : Bool). g) goes ≡ false → (k : ℕ) (c d : Circuit) (a : Answer) → IsCircuit left k c → IsCircuit right k d
    → slice_get answers k ≡ Some a → IsDifference a → IsLastLeaf (length answers) k c d
leaf_of left right answers goes are none k c d a is also at h =
    let whole : 0 + k ≡ k = omega arith in
    last_leaf (length answers) k c d (λ m. subst (λ (q : ℕ). takes_apart (length answers) q c d m ≡ false) whole (quiet (length answers) 0 k left.circuits right.circuits answers c d a (λ i. sym (are.each i) ∙ unset goes none i) is also at (differs a h) m))

-- a called circuit stands before its caller
path_low : (nl : Netlist) → AreCalleesFirst nl → (path : List ℕ) (a b : ℕ) → IsCallPath nl a path b → b ≤ a
path_low nl first [] a b e = omega (arith, e)
path_low nl first (k ∷ ks) a b h =
    let below = path_low nl first ks h.0.circuit b h.2 in
    let l = first a k h.0 h.1 in omega (arith, below, l)

module _ (layout schematic : Netlist) (top right_top : ℕ) (same : List (List ℕ × List ℕ)) (left right : Netlist) (v w : Alignment) (p : IsAlignedPair layout schematic top right_top same left right v w) (first : AreCalleesFirst layout) where
  pub tops : IsPair layout schematic top same right_top top right_top
  tops = record {
    tops = p.partner;
    partner = p.partner;
    called = ([], refl);
    right_called = ([], refl);
    devices = inl refl;
  }

  pub top_kept : v.kept top ≡ true
  top_kept = (p.pairs.left_kept top).1 (right_top, tops)

  pub partner_kept : w.kept right_top ≡ true
  partner_kept = (p.pairs.right_kept right_top).1 (top, tops)

  -- the pair of the tops stands last
  pub last_is_top : (k : ℕ) (c : Circuit) → IsCircuit left k c → length left.circuits ≤ k + 1 → v.number top ≡ k
  last_is_top k c is last =
      let m = made_of layout left v p.left_aligned p.left_only k c is in
      let pair = (p.pairs.left_kept m.number).0 m.kept in
      let low = path_low layout first pair.1.called.0 top m.number pair.1.called.1 in
      elim (sides m.number top) [
        | inl l ↦ absurd (
            let rise = p.pairs.rising m.number top l m.kept top_kept in
            let there = p.left_aligned.by.cut_down.there top top_kept in
            let within = slice_get_within left.circuits (v.number top) _ there in
            let at = m.becomes in omega (arith, rise, within, at, last))
        | inr (inl e) ↦ ap v.number (sym e) ∙ m.becomes
        | inr (inr l) ↦ absurd (omega (arith, low, l))
      ]

  -- so its number is the last one
  pub top_last : v.number top + 1 ≡ length left.circuits
  top_last =
      let there = p.left_aligned.by.cut_down.there top top_kept in
      let low = slice_get_within left.circuits (v.number top) _ there in
      let last = item_at left.circuits (length left.circuits - 1) (omega (arith, low)) in
      let is = last_is_top (length left.circuits - 1) last.0 last.1 (omega (arith, low)) in
      omega (arith, low, is)
