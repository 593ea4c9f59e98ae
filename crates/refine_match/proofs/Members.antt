-- The candidates of a node.
use Rattle.std.proofs.Common.{◌≡◌, inl, inr, ◌&&◌, ◌<◌, ℕ, Bool, true, not, cond, List, [], ◌∷◌, ◌++◌, filter, Option, Some, None, refl, sym, subst, ◌∙◌, ap, ap₂}
use Rattle.base_laws.proofs.Items.{item_at}
use Rattle.std.proofs.lemmas.Bool.{cases_Bool}
use Rattle.std.proofs.lemmas.Option.{same_Some}
use Rattle.plain_netlist.specs.Lists.{IsListed}
use Rattle.plain_netlist.specs.Netlist.{DeviceRow, CallRow}
use Rattle.round_laws.specs.Web.{IsWeb, IsStable, Guess, agree, alike_under, under}
use Rattle.round_laws.specs.Nodes.{Node, Side, Layout, Schematic, Kind, Net, Device, Call}
use Rattle.round_laws.specs.Guesses.{Setting, candidates}
use Rattle.round_laws.proofs.Agree.{first, second}
use Rattle.round_laws.proofs.Stable.{agreed_first, in_either}
use Rattle.round_laws.proofs.Unique.{same_stable}
use Rattle.round_laws.specs.Web.{Web}
use Rattle.match_laws.specs.Circuits.{Pair, circuit_of, nodes, web_of, Own, OfNet, OfDevice, OfCall, OfNone, own, own_at}
use Rattle.match_laws.proofs.Images.{size, nodes_there, own_decides}

-- what passes a filter
pub passed : {X : Type 0} (q : X → Bool) (x : X) (xs : List X) → IsListed x (filter q xs) → IsListed x xs × (q x ≡ true)
passed q x [] i = absurd i
passed {X} q x (y ∷ ys) i = elim (cases_Bool (q y)) [
  | inl t ↦
      let here : filter q (y ∷ ys) ≡ y ∷ filter q ys = ap (λ (b : Bool). cond b (y ∷ filter q ys) (filter q ys)) t in
      elim (subst (λ (zs : List X). IsListed x zs) here i) [
        | inl e ↦ (inl e, ap q e ∙ t)
        | inr j ↦ let r = passed q x ys j in (inr r.0, r.1)
      ]
  | inr f ↦
      let here : filter q (y ∷ ys) ≡ filter q ys = ap (λ (b : Bool). cond b (y ∷ filter q ys) (filter q ys)) f in
      let r = passed q x ys (subst (λ (zs : List X). IsListed x zs) here i) in
      (inr r.0, r.1)
]

-- a candidate agrees with the node
pub candidate_agrees : (s : Setting) (w : Web Node) (k : ℕ) (a b : Node) → IsListed b (candidates s w k a) → IsListed b w.right × (agree w k a b ≡ true)
candidate_agrees s w k a b i =
    let ps : Node → Bool = λ x. agree w k a x && s.same_name a x in
    let qs : Node → Bool = λ x. agree w k a x && not (s.same_name a x) in
    elim (in_either b (filter ps w.right) (filter qs w.right) i) [
      | inl j ↦ let r = passed ps b w.right j in (r.0, first _ _ r.1)
      | inr j ↦ let r = passed qs b w.right j in (r.0, first _ _ r.1)
    ]

same_filter : {X : Type 0} (p q : X → Bool) (xs : List X) → ((x : X) → IsListed x xs → p x ≡ q x) → filter p xs ≡ filter q xs
same_filter p q [] h = refl
same_filter {X} p q (x ∷ xs) h = ap₂ (λ (b : Bool) (zs : List X). cond b (x ∷ zs) zs) (h x (inl refl)) (same_filter p q xs (λ y i. h y (inr i)))

-- each stable round has the same ones
pub same_candidates : (s : Setting) (w : Web Node) (j k : ℕ) (a : Node) → IsWeb w → IsStable w j → IsStable w k → IsListed a w.left → candidates s w j a ≡ candidates s w k a
same_candidates s w j k a web sj sk i =
    ap₂ (λ (xs ys : List Node). xs ++ ys)
    (same_filter _ _ w.right (λ x l. ap (λ (b : Bool). b && s.same_name a x) (same_stable w j k web sj sk a x (inl i) (inr l))))
    (same_filter _ _ w.right (λ x l. ap (λ (b : Bool). b && not (s.same_name a x)) (same_stable w j k web sj sk a x (inl i) (inr l))))

-- nodes that look alike are of one kind
abbrev kind_in : Own → Option Kind
kind_in (OfNet b n) = Some Net
kind_in (OfDevice k c s) = Some Device
kind_in (OfCall p) = Some Call
kind_in OfNone = None

abbrev device_own : Option DeviceRow → Own
device_own o = elim o [ None ↦ OfNone | Some d ↦ OfDevice d.kind d.class d.sizes ]

abbrev call_own : Option CallRow → Own
call_own o = elim o [ None ↦ OfNone | Some c ↦ OfCall c.circuit ]

kind_of_own : (p : Pair) (side : Side) (kind : Kind) (k : ℕ) → k < size p side kind → kind_in (own_at p side kind k) ≡ Some kind
kind_of_own p side Net k h = refl
kind_of_own p side Device k h = let d = item_at (circuit_of p side).devices k h in ap (λ (o : Option DeviceRow). kind_in (device_own o)) d.1
kind_of_own p side Call k h = let c = item_at (circuit_of p side).calls k h in ap (λ (o : Option CallRow). kind_in (call_own o)) c.1

kind_of_node : (p : Pair) (side : Side) (a : Node) → IsListed a (nodes p side) → kind_in (own p a) ≡ Some a.kind
kind_of_node p side a i =
    let t = nodes_there p side a i in
    ap (λ (x : Side). kind_in (own_at p x a.kind a.number)) t.stands ∙ kind_of_own p side a.kind a.number t.below

-- a node that looks alike under any guesses looks alike under none
looks_alike : (w : Web Node) (gs : List (Guess Node)) (a b : Node) → alike_under w gs a b ≡ true → w.alike a b ≡ true
looks_alike w [] a b h = h
looks_alike w (g ∷ gs) a b h = looks_alike w gs a b (second _ _ h)

pub one_kind : (p : Pair) (gs : List (Guess Node)) (k : ℕ) (a b : Node) → IsListed a (nodes p Layout) → IsListed b (nodes p Schematic) → agree (under (web_of p) gs) k a b ≡ true → b.kind ≡ a.kind
one_kind p gs k a b i j h =
    let alike : (web_of p).alike a b ≡ true = looks_alike (web_of p) gs a b (agreed_first (under (web_of p) gs) k a b h) in
    let same : own p a ≡ own p b = (own_decides _ _).0 alike in
    same_Some _ _ (sym (kind_of_node p Schematic b j) ∙ (ap kind_in (sym same) ∙ kind_of_node p Layout a i))
