-- Nothing stands behind ENDLIB.
use Rattle.std.proofs.Common.{◌≡◌, ℕ, Bool, true, false, cond, List, [], ◌∷◌, ◌++◌, map, refl, sym, ap, subst, ◌∙◌, eq-eqb}
use Rattle.std.specs.Prelude.{◌==◌, ◌&&◌, not}
use Rattle.std.proofs.lemmas.Bool.{eqb-true, and_parts, and_from, not-true}
use Rattle.gds_records.specs.Records.{Records, NoRecords, ◌▸◌}
use Rattle.gds_grammar.specs.Pattern.{Pattern, Done, One, Then, Or, Many, may_be_empty, followed_by, Next, nexts, lefts_by, after, after_any}
use Rattle.gds_grammar.specs.Order.{left_after, is_empty, can_go_on, IsEnded}

-- the pattern has no ENDLIB
abbrev pub lacks : Pattern → Bool
lacks Done = true
lacks (One k) = not (k == 0x04)
lacks (Then a b) = lacks a && lacks b
lacks (Or a b) = lacks a && lacks b
lacks (Many a) = lacks a

-- nothing stands behind an ENDLIB of the pattern
abbrev pub ends : Pattern → Bool
ends Done = true
ends (One k) = true
ends (Then a b) = lacks a && ends b
ends (Or a b) = lacks a && lacks b
ends (Many a) = lacks a

abbrev pub EachNext : (Next → Type 0) → List Next → Type 0
EachNext P [] = Unit {0}
EachNext P (n ∷ ns) = P n × EachNext P ns

EachNext-append : (P : Next → Type 0) (xs ys : List Next) → EachNext P xs → EachNext P ys → EachNext P (xs ++ ys)
EachNext-append P [] ys h g = g
EachNext-append P (x ∷ xs) ys h g = (h.0, EachNext-append P xs ys h.1 g)

abbrev with_rest : Pattern → Next → Next
with_rest b n = record { kind = n.kind; left = followed_by n.left b }

abbrev map_next : (Next → Next) → List Next → List Next
map_next f [] = []
map_next f (n ∷ ns) = f n ∷ map_next f ns

lacks_followed : (l b : Pattern) → lacks l ≡ true → lacks b ≡ true → lacks (followed_by l b) ≡ true
lacks_followed Done b h g = g
lacks_followed (One k) b h g = and_from (lacks (One k)) (lacks b) h g
lacks_followed (Then a c) b h g = and_from (lacks (Then a c)) (lacks b) h g
lacks_followed (Or a c) b h g = and_from (lacks (Or a c)) (lacks b) h g
lacks_followed (Many a) b h g = and_from (lacks (Many a)) (lacks b) h g

ends_followed : (l b : Pattern) → lacks l ≡ true → ends b ≡ true → ends (followed_by l b) ≡ true
ends_followed Done b h g = g
ends_followed (One k) b h g = and_from (lacks (One k)) (ends b) h g
ends_followed (Then a c) b h g = and_from (lacks (Then a c)) (ends b) h g
ends_followed (Or a c) b h g = and_from (lacks (Or a c)) (ends b) h g
ends_followed (Many a) b h g = and_from (lacks (Many a)) (ends b) h g

-- a step that isn't ENDLIB, and leaves none
pub record Lacks (n : Next) : Type 0 where
  pub other : (n.kind == 0x04) ≡ false
  pub left : lacks n.left ≡ true

-- a step behind which nothing is left where it is ENDLIB
pub record Ends (n : Next) : Type 0 where
  pub last : (n.kind == 0x04) ≡ true → n.left ≡ Done
  pub left : ends n.left ≡ true

if_each : (P : Next → Type 0) (b : Bool) (xs : List Next) → EachNext P xs → EachNext P (cond b xs [])
if_each P true xs h = h
if_each P false xs h = tt

mapped : (P Q : Next → Type 0) (b : Pattern) (ns : List Next) → ((n : Next) → P n → Q (with_rest b n)) → EachNext P ns → EachNext Q (map (with_rest b) ns)
mapped P Q b [] f h = tt
mapped P Q b (n ∷ ns) f h = (f n h.0, mapped P Q b ns f h.1)

steps_lack : (p : Pattern) → lacks p ≡ true → EachNext Lacks (nexts p)
steps_lack Done h = tt
steps_lack (One k) h = (record { other = not-true (k == 0x04) h; left = refl }, tt)
steps_lack (Then a b) h =
    let both = and_parts (lacks a) (lacks b) h in
    EachNext-append Lacks (map (with_rest b) (nexts a)) (cond (may_be_empty a) (nexts b) [])
    (mapped Lacks Lacks b (nexts a) (λ n l. record { other = l.other; left = lacks_followed n.left b l.left both.1 }) (steps_lack a both.0))
    (if_each Lacks (may_be_empty a) (nexts b) (steps_lack b both.1))
steps_lack (Or a b) h = let both = and_parts (lacks a) (lacks b) h in EachNext-append Lacks (nexts a) (nexts b) (steps_lack a both.0) (steps_lack b both.1)
steps_lack (Many a) h = mapped Lacks Lacks (Many a) (nexts a) (λ n l. record { other = l.other; left = lacks_followed n.left (Many a) l.left h }) (steps_lack a h)

lacks_ends : (p : Pattern) → lacks p ≡ true → ends p ≡ true
lacks_ends Done h = refl
lacks_ends (One k) h = refl
lacks_ends (Then a b) h = let both = and_parts (lacks a) (lacks b) h in and_from (lacks a) (ends b) both.0 (lacks_ends b both.1)
lacks_ends (Or a b) h = h
lacks_ends (Many a) h = h

weaker : (ns : List Next) → EachNext Lacks ns → EachNext Ends ns
weaker [] h = tt
weaker (n ∷ ns) h = (record { last = λ e. absurd (let bad : true ≡ false = sym e ∙ h.0.other in cc); left = lacks_ends n.left h.0.left }, weaker ns h.1)

steps_end : (p : Pattern) → ends p ≡ true → EachNext Ends (nexts p)
steps_end Done h = tt
steps_end (One k) h = (record { last = λ e. refl; left = refl }, tt)
steps_end (Then a b) h =
    let both = and_parts (lacks a) (ends b) h in
    EachNext-append Ends (map (with_rest b) (nexts a)) (cond (may_be_empty a) (nexts b) [])
    (mapped Lacks Ends b (nexts a) (λ n l. record { last = λ e. absurd (let bad : true ≡ false = sym e ∙ l.other in cc); left = ends_followed n.left b l.left both.1 }) (steps_lack a both.0))
    (if_each Ends (may_be_empty a) (nexts b) (steps_end b both.1))
steps_end (Or a b) h = weaker (nexts (Or a b)) (steps_lack (Or a b) h)
steps_end (Many a) h = weaker (nexts (Many a)) (steps_lack (Many a) h)

abbrev pub EachPattern : (Pattern → Type 0) → List Pattern → Type 0
EachPattern P [] = Unit {0}
EachPattern P (p ∷ ps) = P p × EachPattern P ps

EachPattern-append : (P : Pattern → Type 0) (xs ys : List Pattern) → EachPattern P xs → EachPattern P ys → EachPattern P (xs ++ ys)
EachPattern-append P [] ys h g = g
EachPattern-append P (x ∷ xs) ys h g = (h.0, EachPattern-append P xs ys h.1 g)

abbrev IsEnding : Pattern → Type 0
IsEnding p = ends p ≡ true

cons_ends : (b : Bool) (l : Pattern) (ps : List Pattern) → IsEnding l → EachPattern IsEnding ps → EachPattern IsEnding (cond b (l ∷ ps) ps)
cons_ends true l ps h g = (h, g)
cons_ends false l ps h g = g

lefts_end : (kind : ℕ) (ns : List Next) → EachNext Ends ns → EachPattern IsEnding (lefts_by kind ns)
lefts_end kind [] h = tt
lefts_end kind (n ∷ ns) h = cons_ends (kind == n.kind) n.left (lefts_by kind ns) h.0.left (lefts_end kind ns h.1)

any_end : (kind : ℕ) (ps : List Pattern) → EachPattern IsEnding ps → EachPattern IsEnding (after_any kind ps)
any_end kind [] h = tt
any_end kind (p ∷ ps) h = EachPattern-append IsEnding (after kind p) (after_any kind ps) (lefts_end kind (nexts p) (steps_end p h.0)) (any_end kind ps h.1)

all_end : (rs : Records) → EachPattern IsEnding (left_after rs)
all_end NoRecords = (refl, tt)
all_end (before ▸ r) = any_end r.kind (left_after before) (all_end before)

abbrev IsDone : Pattern → Type 0
IsDone p = p ≡ Done

cons_done : (b : Bool) (l : Pattern) (ps : List Pattern) → (b ≡ true → IsDone l) → EachPattern IsDone ps → EachPattern IsDone (cond b (l ∷ ps) ps)
cons_done true l ps h g = (h refl, g)
cons_done false l ps h g = g

lefts_done : (ns : List Next) → EachNext Ends ns → EachPattern IsDone (lefts_by 0x04 ns)
lefts_done [] h = tt
lefts_done (n ∷ ns) h = cons_done (0x04 == n.kind) n.left (lefts_by 0x04 ns) (λ e. h.0.last (eq-eqb n.kind 0x04 (sym (eqb-true 0x04 n.kind e)))) (lefts_done ns h.1)

any_done : (ps : List Pattern) → EachPattern IsEnding ps → EachPattern IsDone (after_any 0x04 ps)
any_done [] h = tt
any_done (p ∷ ps) h = EachPattern-append IsDone (after 0x04 p) (after_any 0x04 ps) (lefts_done (nexts p) (steps_end p h.0)) (any_done ps h.1)

none_after : (kind : ℕ) (ps : List Pattern) → EachPattern IsDone ps → after_any kind ps ≡ []
none_after kind [] h = refl
none_after kind (p ∷ ps) h = ap (λ (q : Pattern). after kind q ++ after_any kind ps) h.0 ∙ none_after kind ps h.1

pub stops : (rs : Records) (kind : ℕ) → IsEnded rs → can_go_on rs kind ≡ false
stops NoRecords kind e = absurd cc
stops (before ▸ r) kind e =
    let four : r.kind ≡ 0x04 = eqb-true r.kind 0x04 e in
    let done : EachPattern IsDone (left_after (before ▸ r)) = subst (λ (k : ℕ). EachPattern IsDone (after_any k (left_after before))) (sym four) (any_done (left_after before) (all_end before)) in
    ap (λ (ps : List Pattern). not (is_empty ps)) (none_after kind (left_after (before ▸ r)) done)
