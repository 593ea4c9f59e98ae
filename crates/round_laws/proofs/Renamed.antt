-- Agreeing by other names.
use Rattle.std.proofs.Common.{◌≡◌, inl, inr, ℕ, zero, suc, ◌&&◌, ◌||◌, Bool, true, List, [], ◌∷◌, map, refl, sym, subst, ◌∙◌, ap, ap₂}
use Rattle.base_laws.proofs.Tests.{same_truth}
use Rattle.std.proofs.lemmas.Bool.{and_from}
use Rattle.std.specs.List.{count_by}
use Rattle.std.specs.Bool.{beq}
use Rattle.plain_netlist.specs.Lists.{IsListed}
use Rattle.round_laws.specs.Web.{Port, same_port, End, Web, IsWeb, IsNode, agree, fits, same_ends, Guess, names, alike_under, under}
use Rattle.round_laws.proofs.Agree.{count_same, first, second, equivalence, under_web, ends_count, port_same}
use Rattle.round_laws.proofs.Stable.{agreed_first, near_node}
use Rattle.round_laws.proofs.Solved.{matched_counts, ends_equivalence}
use Rattle.round_laws.proofs.Fast.{ends_same_in}
use Rattle.round_laws.specs.Renamed.{renamed_end, renamed_guess, IsRenamed, AreOfNodes}

in_map : {X Y : Type 0} (h : X → Y) (y : Y) (xs : List X) → IsListed y (map h xs) → (x : X) × IsListed x xs × (y ≡ h x)
in_map h y [] i = absurd i
in_map h y (x ∷ xs) (inl e) = (x, inl refl, e)
in_map h y (x ∷ xs) (inr i) = let r = in_map h y xs i in (r.0, inr r.1, r.2)

pub map_has : {X Y : Type 0} (h : X → Y) (x : X) (xs : List X) → IsListed x xs → IsListed (h x) (map h xs)
map_has h x [] i = absurd i
map_has h x (y ∷ xs) (inl e) = inl (ap h e)
map_has h x (y ∷ xs) (inr i) = inr (map_has h x xs i)

-- each node of the other web is a node by its other name
pub came : {N M : Type 0} (w : Web N) (v : Web M) (name : N → M) (port : Port → Port) → IsRenamed w v name port → (b : M) → IsNode v b → (a : N) × IsNode w a × (b ≡ name a)
came {N} {M} w v name port h b (inl i) = let r = in_map name b w.left (subst (λ (xs : List M). IsListed b xs) h.left i) in (r.0, inl r.1, r.2)
came {N} {M} w v name port h b (inr i) = let r = in_map name b w.right (subst (λ (xs : List M). IsListed b xs) h.right i) in (r.0, inr r.1, r.2)

-- a node by its other name is a node
pub goes : {N M : Type 0} (w : Web N) (v : Web M) (name : N → M) (port : Port → Port) → IsRenamed w v name port → (a : N) → IsNode w a → IsNode v (name a)
goes {N} {M} w v name port h a (inl i) = inl (subst (λ (xs : List M). IsListed (name a) xs) (sym h.left) (map_has name a w.left i))
goes {N} {M} w v name port h a (inr i) = inr (subst (λ (xs : List M). IsListed (name a) xs) (sym h.right) (map_has name a w.right i))

names_same : {N M : Type 0} (w : Web N) (v : Web M) (name : N → M) (port : Port → Port) → IsRenamed w v name port → (g : Guess N) → IsNode w g.left × IsNode w g.right → (a : N) → IsNode w a
    → names v (renamed_guess name g) (name a) ≡ names w g a
names_same w v name port h g there a i = ap₂ (λ (x y : Bool). x || y) (h.is g.left a there.0 i) (h.is g.right a there.1 i)

alike_same : {N M : Type 0} (w : Web N) (v : Web M) (name : N → M) (port : Port → Port) → IsRenamed w v name port → (gs : List (Guess N)) → AreOfNodes w gs → (a b : N) → IsNode w a → IsNode w b
    → alike_under v (map (renamed_guess name) gs) (name a) (name b) ≡ alike_under w gs a b
alike_same w v name port h [] there a b i j = h.alike a b i j
alike_same w v name port h (g ∷ gs) there a b i j =
    ap₂ (λ (x y : Bool). x && y) (ap₂ beq (names_same w v name port h g (there g (inl refl)) a i) (names_same w v name port h g (there g (inl refl)) b j))
    (alike_same w v name port h gs (λ d l. there d (inr l)) a b i j)

alike_less : {N : Type 0} (w : Web N) (gs : List (Guess N)) (a b : N) → alike_under w gs a b ≡ true → w.alike a b ≡ true
alike_less w [] a b t = t
alike_less w (g ∷ gs) a b t = alike_less w gs a b (second (beq (names w g a) (names w g b)) _ t)

-- the guesses are renamed with the web
pub under_same : {N M : Type 0} (w : Web N) (v : Web M) (name : N → M) (port : Port → Port) → IsRenamed w v name port → (gs : List (Guess N)) → AreOfNodes w gs
    → IsRenamed (under w gs) (under v (map (renamed_guess name) gs)) name port
under_same w v name port h gs there = record {
  left = h.left;
  right = h.right;
  is = h.is;
  alike = alike_same w v name port h gs there;
  near = h.near;
  ports = λ a b i j t d e l m s. h.ports a b i j (alike_less w gs a b t) d e l m (alike_less w gs d.node e.node s);
}

module _ {N M : Type 0} (w : Web N) (v : Web M) (name : N → M) (port : Port → Port) (good : IsWeb w) (other : IsWeb v) (h : IsRenamed w v name port) (k : ℕ)
    (before : (a b : N) → IsNode w a → IsNode w b → agree v k (name a) (name b) ≡ agree w k a b) where
  -- an end fits by its other name exactly where it fits, beside ends of like nodes
  fits_same : (a b : N) → IsNode w a → IsNode w b → w.alike a b ≡ true → (d e : End N) → IsListed d (w.near a) → IsListed e (w.near b)
      → fits (agree v k) (renamed_end name port d) (renamed_end name port e) ≡ fits (agree w k) d e
  fits_same a b i j t d e l m =
      let nd = near_node w good a i d l in
      let ne = near_node w good b j e m in
      same_truth _ _
      (λ s.
      let p : port d.port ≡ port e.port = (port_same (port d.port) (port e.port)).0 (first (same_port (port d.port) (port e.port)) _ s) in
      let r : agree w k d.node e.node ≡ true = sym (before d.node e.node nd ne) ∙ second (same_port (port d.port) (port e.port)) _ s in
      and_from (same_port d.port e.port) _ ((port_same d.port e.port).1 (h.ports a b i j t d e l m (agreed_first w k d.node e.node r) p)) r)
      (λ s.
      let p : d.port ≡ e.port = (port_same d.port e.port).0 (first (same_port d.port e.port) _ s) in
      and_from (same_port (port d.port) (port e.port)) _ ((port_same (port d.port) (port e.port)).1 (ap port p)) (before d.node e.node nd ne ∙ second (same_port d.port e.port) _ s))

  there_count : (a : N) → IsNode w a → (c : End N) (b : N) → IsNode w b → w.alike b a ≡ true → IsListed c (w.near b)
      → count_by (fits (agree v k) (renamed_end name port c)) (v.near (name a)) ≡ count_by (fits (agree w k) c) (w.near a)
  there_count a i c b j t l = h.near a i (fits (agree v k) (renamed_end name port c)) ∙ count_same _ _ (w.near a) (λ e m. fits_same b a j i t c e l m)

  ends_back : (a b : N) → IsNode w a → IsNode w b → w.alike a b ≡ true → same_ends (agree v k) (v.near (name a)) (v.near (name b)) ≡ true → same_ends (agree w k) (w.near a) (w.near b) ≡ true
  ends_back a b i j t s = ends_same_in (agree w k) (w.near a) (w.near b) (λ c l.
      let counts = ends_count (agree v k) (equivalence v other.alike k) (v.near (name a)) (v.near (name b)) s (renamed_end name port c) in
      elim l [
        | inl m ↦ sym (there_count a i c a i (good.alike.refl a) m) ∙ (counts ∙ there_count b j c a i t m)
        | inr m ↦ sym (there_count a i c b j (good.alike.symm b a ∙ t) m) ∙ (counts ∙ there_count b j c b j (good.alike.refl b) m)
      ])

  ends_forth : (a b : N) → IsNode w a → IsNode w b → w.alike a b ≡ true → same_ends (agree w k) (w.near a) (w.near b) ≡ true → same_ends (agree v k) (v.near (name a)) (v.near (name b)) ≡ true
  ends_forth a b i j t s =
      let eq = equivalence w good.alike k in
      let to = ends_equivalence (agree v k) (equivalence v other.alike k) in
      ends_same_in (agree v k) (v.near (name a)) (v.near (name b)) (λ c l.
      h.near a i (fits (agree v k) c)
      ∙ (matched_counts (fits (agree w k)) (ends_equivalence (agree w k) eq) (λ e. fits (agree v k) c (renamed_end name port e)) (λ e. fits (agree v k) c (renamed_end name port e)) (w.near a) (w.near b)
      (ends_count (agree w k) eq (w.near a) (w.near b) s)
      (λ d e m n f. to.symm c (renamed_end name port d) ∙ (to.congr (renamed_end name port d) (renamed_end name port e) c (fits_same a b i j t d e m n ∙ f) ∙ to.symm (renamed_end name port e) c))
      ∙ sym (h.near b j (fits (agree v k) c))))

pub agree_same : {N M : Type 0} (w : Web N) (v : Web M) (name : N → M) (port : Port → Port) → IsWeb w → IsWeb v → IsRenamed w v name port
    → (k : ℕ) (a b : N) → IsNode w a → IsNode w b → agree v k (name a) (name b) ≡ agree w k a b
agree_same w v name port good other h zero a b i j = h.alike a b i j
agree_same w v name port good other h (suc k) a b i j =
    let before : agree v k (name a) (name b) ≡ agree w k a b = agree_same w v name port good other h k a b i j in
    same_truth _ _
    (λ s.
    let t : agree w k a b ≡ true = sym before ∙ first (agree v k (name a) (name b)) _ s in
    and_from (agree w k a b) _ t (ends_back w v name port good other h k (agree_same w v name port good other h k) a b i j (agreed_first w k a b t) (second (agree v k (name a) (name b)) _ s)))
    (λ s.
    let t : agree w k a b ≡ true = first (agree w k a b) _ s in
    and_from (agree v k (name a) (name b)) _ (before ∙ t) (ends_forth w v name port good other h k (agree_same w v name port good other h k) a b i j (agreed_first w k a b t) (second (agree w k a b) _ s)))

pub renamed : {N M : Type 0} (w : Web N) (v : Web M) (name : N → M) (port : Port → Port) (gs : List (Guess N)) → IsWeb w → IsWeb v → IsRenamed w v name port → AreOfNodes w gs
    → (k : ℕ) (a b : N) → IsNode w a → IsNode w b → agree (under v (map (renamed_guess name) gs)) k (name a) (name b) ≡ agree (under w gs) k a b
renamed w v name port gs good other h there =
    agree_same (under w gs) (under v (map (renamed_guess name) gs)) name port (under_web w gs good) (under_web v (map (renamed_guess name) gs) other) (under_same w v name port h gs there)
