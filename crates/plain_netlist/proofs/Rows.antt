-- The same device: with itself, turned, through a third, over other nets; and by its terminals.
use Rattle.std.proofs.Common.{◌≡◌, inl, inr, ℕ, zero, suc, List, [], ◌∷◌, length, map, Some, slice_get, refl, sym, ◌∙◌, ap, subst}
use Rattle.std.specs.Prelude.{Decides}
use Rattle.plain_netlist.specs.declared.kinds.DeviceKind.{DeviceKind}
use Rattle.plain_netlist.specs.declared.kinds.DeviceKind.TheVariants.{Mos4, ResistorWithBulk, Diode}
use Rattle.plain_netlist.specs.Kinds.{same_device_kind, has_ends, other_count}
use Rattle.plain_netlist.specs.Lists.{IsListed}
use Rattle.plain_netlist.specs.Devices.{Ends, NoEnds, Both, Row, nets_of, terminal_nets, Terminal, First, Second, Other, HasEnds, IsAt, have_ends, IsFormed}
use Rattle.plain_netlist.specs.Devices.{ends_over, row_over, AreJoined, AreEndsJoined, exchanged, AreRowsAlike, IsRowOver}
use Rattle.plain_netlist.specs.Flats.{Reversed, Through}
use Rattle.plain_netlist.proofs.Members.{listed, position}

-- the test of kinds tells equal ones
pub same_kind : (a b : DeviceKind) → Decides (same_device_kind a b) (a ≡ b)
same_kind Mos4 Mos4 = ((λ h. refl), (λ h. refl))
same_kind ResistorWithBulk ResistorWithBulk = ((λ h. refl), (λ h. refl))
same_kind Diode Diode = ((λ h. refl), (λ h. refl))
same_kind Mos4 ResistorWithBulk = ((λ h. cc), (λ h. cc))
same_kind Mos4 Diode = ((λ h. cc), (λ h. cc))
same_kind ResistorWithBulk Mos4 = ((λ h. cc), (λ h. cc))
same_kind ResistorWithBulk Diode = ((λ h. cc), (λ h. cc))
same_kind Diode Mos4 = ((λ h. cc), (λ h. cc))
same_kind Diode ResistorWithBulk = ((λ h. cc), (λ h. cc))

abbrev row_with : {N : Type 0} → DeviceKind → List ℕ → List ℕ → Ends N → List N → Row N
row_with kind class sizes ends others = record { kind = kind; class = class; sizes = sizes; ends = ends; others = others }

-- two rows are one where their parts are
pub row_by_parts : {N : Type 0} (r s : Row N) → r.kind ≡ s.kind → r.class ≡ s.class → r.sizes ≡ s.sizes → r.ends ≡ s.ends → r.others ≡ s.others → r ≡ s
row_by_parts r s kind class sizes ends others =
    let e : row_with r.kind r.class r.sizes r.ends r.others ≡ row_with s.kind s.class s.sizes s.ends s.others = cc in e

-- ---- nets joined one by one

pub joined_same : {N : Type 0} (net : N → N → Type 0) → ((n : N) → net n n) → (ns : List N) → AreJoined net ns ns
joined_same net one [] = tt
joined_same net one (n ∷ ns) = (one n, joined_same net one ns)

pub joined_reversed : {N M : Type 0} (net : N → M → Type 0) (ns : List N) (ms : List M) → AreJoined net ns ms → AreJoined (Reversed net) ms ns
joined_reversed net [] [] h = tt
joined_reversed net (n ∷ ns) (m ∷ ms) h = (h.0, joined_reversed net ns ms h.1)
joined_reversed net [] (m ∷ ms) h = h
joined_reversed net (n ∷ ns) [] h = h

pub joined_through : {N M O : Type 0} (net : N → M → Type 0) (on_net : M → O → Type 0) (ns : List N) (ms : List M) (os : List O) → AreJoined net ns ms → AreJoined on_net ms os → AreJoined (Through net on_net) ns os
joined_through net on_net [] [] [] h g = tt
joined_through net on_net (n ∷ ns) (m ∷ ms) (o ∷ os) h g = ((m, h.0, g.0), joined_through net on_net ns ms os h.1 g.1)
joined_through net on_net [] [] (o ∷ os) h g = g
joined_through net on_net [] (m ∷ ms) os h g = absurd h
joined_through net on_net (n ∷ ns) [] os h g = absurd h
joined_through net on_net (n ∷ ns) (m ∷ ms) [] h g = g

-- what holds of more nets, seen through maps of both sides
pub joined_wider : {N M O P : Type 0} (net : N → M → Type 0) (further : O → P → Type 0) (f : N → O) (g : M → P) → ((n : N) (m : M) → net n m → further (f n) (g m))
    → (ns : List N) (ms : List M) → AreJoined net ns ms → AreJoined further (map f ns) (map g ms)
joined_wider net further f g on [] [] h = tt
joined_wider net further f g on (n ∷ ns) (m ∷ ms) h = (on n m h.0, joined_wider net further f g on ns ms h.1)
joined_wider net further f g on [] (m ∷ ms) h = h
joined_wider net further f g on (n ∷ ns) [] h = h

-- what holds of more, of the nets that are listed
pub joined_where : {N M : Type 0} (net further : N → M → Type 0) (ns : List N) (ms : List M) → ((n : N) (m : M) → IsListed n ns → IsListed m ms → net n m → further n m) → AreJoined net ns ms → AreJoined further ns ms
joined_where net further [] [] on h = tt
joined_where net further (n ∷ ns) (m ∷ ms) on h = (on n m (inl refl) (inl refl) h.0, joined_where net further ns ms (λ x y i j. on x y (inr i) (inr j)) h.1)
joined_where net further [] (m ∷ ms) on h = h
joined_where net further (n ∷ ns) [] on h = h

-- images joined are joined under the maps
pub joined_under : {N M O P : Type 0} (net : O → P → Type 0) (f : N → O) (g : M → P) (ns : List N) (ms : List M) → AreJoined net (map f ns) (map g ms) → AreJoined (λ n m. net (f n) (g m)) ns ms
joined_under net f g [] [] h = tt
joined_under net f g (n ∷ ns) (m ∷ ms) h = (h.0, joined_under net f g ns ms h.1)
joined_under net f g [] (m ∷ ms) h = h
joined_under net f g (n ∷ ns) [] h = h

pub joined_map : {N M : Type 0} (f : N → M) (ns : List N) → AreJoined (λ n m. f n ≡ m) ns (map f ns)
joined_map f [] = tt
joined_map f (n ∷ ns) = (refl, joined_map f ns)

pub map_joined : {N M : Type 0} (f : N → M) (ns : List N) (ms : List M) → AreJoined (λ n m. f n ≡ m) ns ms → map f ns ≡ ms
map_joined f [] [] h = refl
map_joined f (n ∷ ns) (m ∷ ms) h = let e = map_joined f ns ms h.1 in let d = h.0 in cc
map_joined f [] (m ∷ ms) h = absurd h
map_joined f (n ∷ ns) [] h = absurd h

pub joined_length : {N M : Type 0} (net : N → M → Type 0) (ns : List N) (ms : List M) → AreJoined net ns ms → length ns ≡ length ms
joined_length net [] [] h = refl
joined_length net (n ∷ ns) (m ∷ ms) h = ap suc (joined_length net ns ms h.1)
joined_length net [] (m ∷ ms) h = absurd h
joined_length net (n ∷ ns) [] h = absurd h

-- place by place
pub joined_at : {N M : Type 0} (net : N → M → Type 0) (ns : List N) (ms : List M) (k : ℕ) (n : N) → AreJoined net ns ms → slice_get ns k ≡ Some n → (m : M) × (slice_get ms k ≡ Some m) × net n m
joined_at net [] ms k n h e = absurd (let z : ⊥ = cc in z)
joined_at net (x ∷ ns) [] k n h e = absurd h
joined_at net (x ∷ ns) (m ∷ ms) zero n h e = let d : x ≡ n = (let f : Some x ≡ Some n = e in cc) in (m, refl, subst (λ z. net z m) d h.0)
joined_at net (x ∷ ns) (m ∷ ms) (suc k) n h e = joined_at net ns ms k n h.1 e

pub at_joined : {N M : Type 0} (net : N → M → Type 0) (ns : List N) (ms : List M) → length ns ≡ length ms → ((k : ℕ) (n : N) (m : M) → slice_get ns k ≡ Some n → slice_get ms k ≡ Some m → net n m) → AreJoined net ns ms
at_joined net [] [] e h = tt
at_joined net [] (m ∷ ms) e h = absurd cc
at_joined net (n ∷ ns) [] e h = absurd cc
at_joined net (n ∷ ns) (m ∷ ms) e h = (h zero n m refl refl, at_joined net ns ms (let d : suc (length ns) ≡ suc (length ms) = e in cc) (λ k x y i j. h (suc k) x y i j))

pub joined_listed : {N M : Type 0} (net : N → M → Type 0) (ns : List N) (ms : List M) (n : N) → AreJoined net ns ms → IsListed n ns → (m : M) × IsListed m ms × net n m
joined_listed net [] ms n h i = absurd i
joined_listed net (x ∷ ns) [] n h i = absurd h
joined_listed net (x ∷ ns) (m ∷ ms) n h (inl e) = (m, inl refl, subst (λ z. net z m) (sym e) h.0)
joined_listed net (x ∷ ns) (m ∷ ms) n h (inr i) = let r = joined_listed net ns ms n h.1 i in (r.0, inr r.1, r.2)

-- ---- ends joined

pub ends_same : {N : Type 0} (net : N → N → Type 0) → ((n : N) → net n n) → (e : Ends N) → AreEndsJoined net e e
ends_same net one NoEnds = tt
ends_same net one (Both a b) = (one a, one b)

pub exchanged_twice : {N : Type 0} (e : Ends N) → exchanged (exchanged e) ≡ e
exchanged_twice NoEnds = refl
exchanged_twice (Both a b) = refl

pub ends_reversed : {N M : Type 0} (net : N → M → Type 0) (d : Ends N) (e : Ends M) → AreEndsJoined net d e → AreEndsJoined (Reversed net) e d
ends_reversed net NoEnds NoEnds h = tt
ends_reversed net (Both a b) (Both c d) h = h
ends_reversed net NoEnds (Both c d) h = h
ends_reversed net (Both a b) NoEnds h = h

-- the one exchanged, or the other
pub ends_exchanged : {N M : Type 0} (net : N → M → Type 0) (d : Ends N) (e : Ends M) → AreEndsJoined net d (exchanged e) → AreEndsJoined net (exchanged d) e
ends_exchanged net NoEnds NoEnds h = tt
ends_exchanged net (Both a b) (Both c d) h = (h.1, h.0)
ends_exchanged net NoEnds (Both c d) h = h
ends_exchanged net (Both a b) NoEnds h = h

pub ends_exchanged_back : {N M : Type 0} (net : N → M → Type 0) (d : Ends N) (e : Ends M) → AreEndsJoined net (exchanged d) e → AreEndsJoined net d (exchanged e)
ends_exchanged_back net NoEnds NoEnds h = tt
ends_exchanged_back net (Both a b) (Both c d) h = (h.1, h.0)
ends_exchanged_back net NoEnds (Both c d) h = h
ends_exchanged_back net (Both a b) NoEnds h = h

pub ends_through : {N M O : Type 0} (net : N → M → Type 0) (on_net : M → O → Type 0) (c : Ends N) (d : Ends M) (e : Ends O) → AreEndsJoined net c d → AreEndsJoined on_net d e → AreEndsJoined (Through net on_net) c e
ends_through net on_net NoEnds NoEnds NoEnds h g = tt
ends_through net on_net (Both a b) (Both c d) (Both e f) h g = ((c, h.0, g.0), (d, h.1, g.1))
ends_through net on_net NoEnds NoEnds (Both e f) h g = g
ends_through net on_net NoEnds (Both c d) e h g = absurd h
ends_through net on_net (Both a b) NoEnds e h g = absurd h
ends_through net on_net (Both a b) (Both c d) NoEnds h g = g

pub ends_wider : {N M O P : Type 0} (net : N → M → Type 0) (further : O → P → Type 0) (f : N → O) (g : M → P) → ((n : N) (m : M) → net n m → further (f n) (g m))
    → (d : Ends N) (e : Ends M) → AreEndsJoined net d e → AreEndsJoined further (ends_over f d) (ends_over g e)
ends_wider net further f g on NoEnds NoEnds h = tt
ends_wider net further f g on (Both a b) (Both c d) h = (on a c h.0, on b d h.1)
ends_wider net further f g on NoEnds (Both c d) h = h
ends_wider net further f g on (Both a b) NoEnds h = h

pub ends_under : {N M O P : Type 0} (net : O → P → Type 0) (f : N → O) (g : M → P) (d : Ends N) (e : Ends M) → AreEndsJoined net (ends_over f d) (ends_over g e) → AreEndsJoined (λ n m. net (f n) (g m)) d e
ends_under net f g NoEnds NoEnds h = tt
ends_under net f g (Both a b) (Both c d) h = h
ends_under net f g NoEnds (Both c d) h = h
ends_under net f g (Both a b) NoEnds h = h

pub ends_map : {N M : Type 0} (f : N → M) (e : Ends N) → AreEndsJoined (λ n m. f n ≡ m) e (ends_over f e)
ends_map f NoEnds = tt
ends_map f (Both a b) = (refl, refl)

pub map_ends : {N M : Type 0} (f : N → M) (d : Ends N) (e : Ends M) → AreEndsJoined (λ n m. f n ≡ m) d e → ends_over f d ≡ e
map_ends f NoEnds NoEnds h = refl
map_ends f (Both a b) (Both c d) h = let p = h.0 in let q = h.1 in cc
map_ends f NoEnds (Both c d) h = absurd h
map_ends f (Both a b) NoEnds h = absurd h

pub exchanged_over : {N M : Type 0} (f : N → M) (e : Ends N) → exchanged (ends_over f e) ≡ ends_over f (exchanged e)
exchanged_over f NoEnds = refl
exchanged_over f (Both a b) = refl

-- ---- the same device

pub rows_same : {N : Type 0} (net : N → N → Type 0) → ((n : N) → net n n) → (r : Row N) → AreRowsAlike net r r
rows_same net one r = record {
  kind = refl;
  class = refl;
  sizes = refl;
  ends = inl (ends_same net one r.ends);
  others = joined_same net one r.others;
}

pub rows_reversed : {N M : Type 0} (net : N → M → Type 0) (r : Row N) (s : Row M) → AreRowsAlike net r s → AreRowsAlike (Reversed net) s r
rows_reversed net r s a = record {
  kind = sym a.kind;
  class = sym a.class;
  sizes = sym a.sizes;
  ends = elim a.ends [
    | inl e ↦ inl (ends_reversed net r.ends s.ends e)
    | inr e ↦ inr (ends_reversed net (exchanged r.ends) s.ends (ends_exchanged net r.ends s.ends e))
  ];
  others = joined_reversed net r.others s.others a.others;
}

pub rows_through : {N M O : Type 0} (net : N → M → Type 0) (on_net : M → O → Type 0) (r : Row N) (s : Row M) (v : Row O) → AreRowsAlike net r s → AreRowsAlike on_net s v → AreRowsAlike (Through net on_net) r v
rows_through {N} {M} {O} net on_net r s v a b = record {
  kind = a.kind ∙ b.kind;
  class = a.class ∙ b.class;
  sizes = a.sizes ∙ b.sizes;
  ends = elim a.ends [
    | inl c ↦ elim b.ends [ inl e ↦ inl (straight v.ends c e) | inr e ↦ inr (straight (exchanged v.ends) c e) ]
    | inr c ↦ elim b.ends [ inl e ↦ inr (crossed (exchanged v.ends) c (ends_back on_net s.ends v.ends e)) | inr e ↦ inl (crossed v.ends c (ends_exchanged on_net s.ends v.ends e)) ]
  ];
  others = joined_through net on_net r.others s.others v.others a.others b.others;
}
  where
    straight : (e : Ends O) → AreEndsJoined net r.ends s.ends → AreEndsJoined on_net s.ends e → AreEndsJoined (Through net on_net) r.ends e
    straight e c d = ends_through net on_net r.ends s.ends e c d

    crossed : (e : Ends O) → AreEndsJoined net r.ends (exchanged s.ends) → AreEndsJoined on_net (exchanged s.ends) e → AreEndsJoined (Through net on_net) r.ends e
    crossed e c d = ends_through net on_net r.ends (exchanged s.ends) e c d

    ends_back : {M O : Type 0} (on_net : M → O → Type 0) (d : Ends M) (e : Ends O) → AreEndsJoined on_net d e → AreEndsJoined on_net (exchanged d) (exchanged e)
    ends_back on_net NoEnds NoEnds h = tt
    ends_back on_net (Both a b) (Both c d) h = (h.1, h.0)
    ends_back on_net NoEnds (Both c d) h = h
    ends_back on_net (Both a b) NoEnds h = h

-- over maps of both sides
pub rows_over : {N M O P : Type 0} (net : N → M → Type 0) (further : O → P → Type 0) (f : N → O) (g : M → P) → ((n : N) (m : M) → net n m → further (f n) (g m))
    → (r : Row N) (s : Row M) → AreRowsAlike net r s → AreRowsAlike further (row_over f r) (row_over g s)
rows_over net further f g on r s a = record {
  kind = a.kind;
  class = a.class;
  sizes = a.sizes;
  ends = elim a.ends [
    | inl e ↦ inl (ends_wider net further f g on r.ends s.ends e)
    | inr e ↦ inr (subst (λ z. AreEndsJoined further (ends_over f r.ends) z) (sym (exchanged_over g s.ends)) (ends_wider net further f g on r.ends (exchanged s.ends) e))
  ];
  others = joined_wider net further f g on r.others s.others a.others;
}

pub rows_under : {N M O P : Type 0} (net : O → P → Type 0) (f : N → O) (g : M → P) (r : Row N) (s : Row M) → AreRowsAlike net (row_over f r) (row_over g s) → AreRowsAlike (λ n m. net (f n) (g m)) r s
rows_under net f g r s a = record {
  kind = a.kind;
  class = a.class;
  sizes = a.sizes;
  ends = elim a.ends [
    | inl e ↦ inl (ends_under net f g r.ends s.ends e)
    | inr e ↦ inr (ends_under net f g r.ends (exchanged s.ends) (subst (λ z. AreEndsJoined net (ends_over f r.ends) z) (exchanged_over g s.ends) e))
  ];
  others = joined_under net f g r.others s.others a.others;
}

-- ---- terminals

pub nets_first : {N : Type 0} (a b : N) (ns : List N) → IsListed a (nets_of (Both a b) ns)
nets_first a b [] = inr (inl refl)
nets_first a b (n ∷ ns) = inr (inr (inl refl))

pub nets_second : {N : Type 0} (a b : N) (ns : List N) → IsListed b (nets_of (Both a b) ns)
nets_second a b [] = inl refl
nets_second a b (n ∷ ns) = inl refl

pub nets_others : {N : Type 0} (e : Ends N) (ns : List N) (n : N) → IsListed n ns → IsListed n (nets_of e ns)
nets_others NoEnds ns n h = h
nets_others (Both a b) [] n h = absurd h
nets_others (Both a b) (m ∷ ns) n (inl h) = inr (inl h)
nets_others (Both a b) (m ∷ ns) n (inr h) = inr (inr (inr h))

-- a net of a terminal is an end's or another's
pub data IsTerminalOf {N : Type 0} (n : N) (e : Ends N) (ns : List N) : Type 0 where
  at_first : (m : N) → HasEnds n m e → IsTerminalOf n e ns
  at_second : (m : N) → HasEnds m n e → IsTerminalOf n e ns
  at_other : IsListed n ns → IsTerminalOf n e ns

pub terminal_of : {N : Type 0} (e : Ends N) (ns : List N) (n : N) → IsListed n (nets_of e ns) → IsTerminalOf n e ns
terminal_of NoEnds ns n h = at_other h
terminal_of (Both a b) [] n (inl h) = at_second a (refl, h)
terminal_of (Both a b) [] n (inr (inl h)) = at_first b (h, refl)
terminal_of (Both a b) [] n (inr (inr h)) = absurd h
terminal_of (Both a b) (m ∷ ns) n (inl h) = at_second a (refl, h)
terminal_of (Both a b) (m ∷ ns) n (inr (inl h)) = at_other (inl h)
terminal_of (Both a b) (m ∷ ns) n (inr (inr (inl h))) = at_first b (h, refl)
terminal_of (Both a b) (m ∷ ns) n (inr (inr (inr h))) = at_other (inr h)

of_first : {N : Type 0} (e : Ends N) (ns : List N) (n m : N) → HasEnds n m e → IsListed n (nets_of e ns)
of_first NoEnds ns n m h = absurd h
of_first (Both a b) ns n m h = subst (λ z. IsListed z (nets_of (Both a b) ns)) (sym h.0) (nets_first a b ns)

of_second : {N : Type 0} (e : Ends N) (ns : List N) (n m : N) → HasEnds m n e → IsListed n (nets_of e ns)
of_second NoEnds ns n m h = absurd h
of_second (Both a b) ns n m h = subst (λ z. IsListed z (nets_of (Both a b) ns)) (sym h.1) (nets_second a b ns)

-- a terminal that stands on a net
pub terminal_at : {N : Type 0} (r : Row N) (n : N) → IsListed n (terminal_nets r) → (t : Terminal) × IsAt t r n
terminal_at r n h = elim (terminal_of r.ends r.others n h) [
  | at_first m e ↦ (First, (m, e))
  | at_second m e ↦ (Second, (m, e))
  | at_other i ↦ let p = position r.others n i in (Other p.0, p.1)
]

pub at_terminal : {N : Type 0} (t : Terminal) (r : Row N) (n : N) → IsAt t r n → IsListed n (terminal_nets r)
at_terminal First r n h = of_first r.ends r.others n h.0 h.1
at_terminal Second r n h = of_second r.ends r.others n h.0 h.1
at_terminal (Other k) r n h = nets_others r.ends r.others n (listed r.others k n h)

-- the nets of a row over another's
pub nets_over : {N M : Type 0} (f : N → M) (e : Ends N) (ns : List N) → nets_of (ends_over f e) (map f ns) ≡ map f (nets_of e ns)
nets_over f NoEnds ns = refl
nets_over f (Both a b) [] = refl
nets_over f (Both a b) (n ∷ ns) = refl

pub terminal_nets_over : {N M : Type 0} (f : N → M) (r : Row N) → terminal_nets (row_over f r) ≡ map f (terminal_nets r)
terminal_nets_over f r = nets_over f r.ends r.others

pub listed_map : {N M : Type 0} (f : N → M) (ns : List N) (n : N) → IsListed n ns → IsListed (f n) (map f ns)
listed_map f [] n h = absurd h
listed_map f (m ∷ ns) n (inl h) = inl (ap f h)
listed_map f (m ∷ ns) n (inr h) = inr (listed_map f ns n h)

pub map_listed : {N M : Type 0} (f : N → M) (ns : List N) (m : M) → IsListed m (map f ns) → (n : N) × IsListed n ns × (m ≡ f n)
map_listed f [] m h = absurd h
map_listed f (n ∷ ns) m (inl h) = (n, inl refl, h)
map_listed f (n ∷ ns) m (inr h) = let r = map_listed f ns m h in (r.0, inr r.1, r.2)

pub over_terminal : {N M : Type 0} (f : N → M) (r : Row N) (n : N) → IsListed n (terminal_nets r) → IsListed (f n) (terminal_nets (row_over f r))
over_terminal f r n h = subst (λ z. IsListed (f n) z) (sym (terminal_nets_over f r)) (listed_map f (terminal_nets r) n h)

pub terminal_over : {N M : Type 0} (f : N → M) (r : Row N) (m : M) → IsListed m (terminal_nets (row_over f r)) → (n : N) × IsListed n (terminal_nets r) × (m ≡ f n)
terminal_over f r m h = map_listed f (terminal_nets r) m (subst (λ z. IsListed m z) (terminal_nets_over f r) h)

-- each terminal's net is joined with that of a terminal
ends_first : {N M : Type 0} (net : N → M → Type 0) (d : Ends N) (e : Ends M) (ms : List M) (n o : N) → AreEndsJoined net d e → HasEnds n o d → (m : M) × IsListed m (nets_of e ms) × net n m
ends_first net NoEnds e ms n o j h = absurd h
ends_first net (Both a b) NoEnds ms n o j h = absurd j
ends_first net (Both a b) (Both c d) ms n o j h = (c, nets_first c d ms, subst (λ z. net z c) (sym h.0) j.0)

ends_second : {N M : Type 0} (net : N → M → Type 0) (d : Ends N) (e : Ends M) (ms : List M) (n o : N) → AreEndsJoined net d e → HasEnds o n d → (m : M) × IsListed m (nets_of e ms) × net n m
ends_second net NoEnds e ms n o j h = absurd h
ends_second net (Both a b) NoEnds ms n o j h = absurd j
ends_second net (Both a b) (Both c d) ms n o j h = (d, nets_second c d ms, subst (λ z. net z d) (sym h.1) j.1)

pub nets_exchanged : {M : Type 0} (e : Ends M) (ms : List M) (m : M) → IsListed m (nets_of (exchanged e) ms) → IsListed m (nets_of e ms)
nets_exchanged NoEnds ms m h = h
nets_exchanged (Both c d) [] m (inl h) = inr (inl h)
nets_exchanged (Both c d) [] m (inr (inl h)) = inl h
nets_exchanged (Both c d) [] m (inr (inr h)) = absurd h
nets_exchanged (Both c d) (o ∷ ms) m (inl h) = inr (inr (inl h))
nets_exchanged (Both c d) (o ∷ ms) m (inr (inl h)) = inr (inl h)
nets_exchanged (Both c d) (o ∷ ms) m (inr (inr (inl h))) = inl h
nets_exchanged (Both c d) (o ∷ ms) m (inr (inr (inr h))) = inr (inr (inr h))

pub rows_terminal : {N M : Type 0} (net : N → M → Type 0) (r : Row N) (s : Row M) → AreRowsAlike net r s → (n : N) → IsListed n (terminal_nets r) → (m : M) × IsListed m (terminal_nets s) × net n m
rows_terminal {N} {M} net r s a n h = elim (terminal_of r.ends r.others n h) [
  | at_first o e ↦ elim a.ends [
    | inl j ↦ ends_first net r.ends s.ends s.others n o j e
    | inr j ↦ let g = ends_first net r.ends (exchanged s.ends) s.others n o j e in (g.0, nets_exchanged s.ends s.others g.0 g.1, g.2)
  ]
  | at_second o e ↦ elim a.ends [
    | inl j ↦ ends_second net r.ends s.ends s.others n o j e
    | inr j ↦ let g = ends_second net r.ends (exchanged s.ends) s.others n o j e in (g.0, nets_exchanged s.ends s.others g.0 g.1, g.2)
  ]
  | at_other i ↦ let g = joined_listed net r.others s.others n a.others i in (g.0, nets_others s.ends s.others g.0 g.1, g.2)
]

-- the ends' nets are terminals'
pub ends_where : {N M : Type 0} (net further : N → M → Type 0) (d : Ends N) (ns : List N) (e : Ends M) (ms : List M) → ((n : N) (m : M) → IsListed n (nets_of d ns) → IsListed m (nets_of e ms) → net n m → further n m)
    → AreEndsJoined net d e → AreEndsJoined further d e
ends_where net further NoEnds ns NoEnds ms on h = tt
ends_where net further (Both a b) ns (Both c d) ms on h = (on a c (nets_first a b ns) (nets_first c d ms) h.0, on b d (nets_second a b ns) (nets_second c d ms) h.1)
ends_where net further NoEnds ns (Both c d) ms on h = h
ends_where net further (Both a b) ns NoEnds ms on h = h

-- where more terminals' nets are joined it stays the same device
pub rows_where : {N M : Type 0} (net further : N → M → Type 0) (r : Row N) (s : Row M) → ((n : N) (m : M) → IsListed n (terminal_nets r) → net n m → further n m)
    → AreRowsAlike net r s → AreRowsAlike further r s
rows_where net further r s on a = record {
  kind = a.kind;
  class = a.class;
  sizes = a.sizes;
  ends = elim a.ends [
    | inl e ↦ inl (ends_where net further r.ends r.others s.ends s.others (λ n m i j h. on n m i h) e)
    | inr e ↦ inr (ends_where net further r.ends r.others (exchanged s.ends) s.others (λ n m i j h. on n m i h) e)
  ];
  others = joined_where net further r.others s.others (λ n m i j h. on n m (nets_others r.ends r.others n i) h) a.others;
}

pub rows_wider : {N M : Type 0} (net further : N → M → Type 0) → ((n : N) (m : M) → net n m → further n m) → (r : Row N) (s : Row M) → AreRowsAlike net r s → AreRowsAlike further r s
rows_wider net further on r s a = rows_where net further r s (λ n m i h. on n m h) a

-- ---- in the same order

pub over_alike : {N M : Type 0} (net : N → M → Type 0) (r : Row N) (s : Row M) → IsRowOver net r s → AreRowsAlike net r s
over_alike net r s o = record { kind = o.kind; class = o.class; sizes = o.sizes; ends = inl o.ends; others = o.others }

pub row_carried : {N M : Type 0} (f : N → M) (r : Row N) → IsRowOver (λ n m. f n ≡ m) r (row_over f r)
row_carried f r = record { kind = refl; class = refl; sizes = refl; ends = ends_map f r.ends; others = joined_map f r.others }

pub carried_row : {N M : Type 0} (f : N → M) (r : Row N) (s : Row M) → IsRowOver (λ n m. f n ≡ m) r s → row_over f r ≡ s
carried_row f r s o = row_by_parts (row_over f r) s o.kind o.class o.sizes (map_ends f r.ends s.ends o.ends) (map_joined f r.others s.others o.others)

pub over_where : {N M : Type 0} (net further : N → M → Type 0) (r : Row N) (s : Row M) → ((n : N) (m : M) → IsListed n (terminal_nets r) → IsListed m (terminal_nets s) → net n m → further n m)
    → IsRowOver net r s → IsRowOver further r s
over_where net further r s on a = record {
  kind = a.kind;
  class = a.class;
  sizes = a.sizes;
  ends = ends_where net further r.ends r.others s.ends s.others on a.ends;
  others = joined_where net further r.others s.others (λ n m i j h. on n m (nets_others r.ends r.others n i) (nets_others s.ends s.others m j) h) a.others;
}

pub over_wider : {N M : Type 0} (net further : N → M → Type 0) → ((n : N) (m : M) → net n m → further n m) → (r : Row N) (s : Row M) → IsRowOver net r s → IsRowOver further r s
over_wider net further on r s a = over_where net further r s (λ n m i j h. on n m h) a

pub over_same : {N : Type 0} (net : N → N → Type 0) → ((n : N) → net n n) → (r : Row N) → IsRowOver net r r
over_same net one r = record { kind = refl; class = refl; sizes = refl; ends = ends_same net one r.ends; others = joined_same net one r.others }

pub over_through : {N M O : Type 0} (net : N → M → Type 0) (on_net : M → O → Type 0) (r : Row N) (s : Row M) (v : Row O) → IsRowOver net r s → IsRowOver on_net s v → IsRowOver (Through net on_net) r v
over_through net on_net r s v a b = record {
  kind = a.kind ∙ b.kind;
  class = a.class ∙ b.class;
  sizes = a.sizes ∙ b.sizes;
  ends = ends_through net on_net r.ends s.ends v.ends a.ends b.ends;
  others = joined_through net on_net r.others s.others v.others a.others b.others;
}

-- over maps of both sides
pub over_maps : {N M O P : Type 0} (net : N → M → Type 0) (further : O → P → Type 0) (f : N → O) (g : M → P) → ((n : N) (m : M) → net n m → further (f n) (g m))
    → (r : Row N) (s : Row M) → IsRowOver net r s → IsRowOver further (row_over f r) (row_over g s)
over_maps net further f g on r s a = record {
  kind = a.kind;
  class = a.class;
  sizes = a.sizes;
  ends = ends_wider net further f g on r.ends s.ends a.ends;
  others = joined_wider net further f g on r.others s.others a.others;
}

pub over_under : {N M O P : Type 0} (net : O → P → Type 0) (f : N → O) (g : M → P) (r : Row N) (s : Row M) → IsRowOver net (row_over f r) (row_over g s) → IsRowOver (λ n m. net (f n) (g m)) r s
over_under net f g r s a = record { kind = a.kind; class = a.class; sizes = a.sizes; ends = ends_under net f g r.ends s.ends a.ends; others = joined_under net f g r.others s.others a.others }

ends_at_first : {N M : Type 0} (net : N → M → Type 0) (d : Ends N) (e : Ends M) (n o : N) → AreEndsJoined net d e → HasEnds n o d → (m : M) × (p : M) × HasEnds m p e × net n m
ends_at_first net NoEnds e n o j h = absurd h
ends_at_first net (Both a b) NoEnds n o j h = absurd j
ends_at_first net (Both a b) (Both c d) n o j h = (c, d, (refl, refl), subst (λ z. net z c) (sym h.0) j.0)

ends_at_second : {N M : Type 0} (net : N → M → Type 0) (d : Ends N) (e : Ends M) (n o : N) → AreEndsJoined net d e → HasEnds o n d → (m : M) × (p : M) × HasEnds p m e × net n m
ends_at_second net NoEnds e n o j h = absurd h
ends_at_second net (Both a b) NoEnds n o j h = absurd j
ends_at_second net (Both a b) (Both c d) n o j h = (d, c, (refl, refl), subst (λ z. net z d) (sym h.1) j.1)

pub over_each : {N M : Type 0} (net : N → M → Type 0) (r : Row N) (s : Row M) → IsRowOver net r s → (t : Terminal) (n : N) → IsAt t r n → (m : M) × IsAt t s m × net n m
over_each net r s a First n h = let g = ends_at_first net r.ends s.ends n h.0 a.ends h.1 in (g.0, (g.1, g.2), g.3)
over_each net r s a Second n h = let g = ends_at_second net r.ends s.ends n h.0 a.ends h.1 in (g.0, (g.1, g.2), g.3)
over_each net r s a (Other k) n h = joined_at net r.others s.others k n a.others h

pub ends_by : {N M : Type 0} (net : N → M → Type 0) (d : Ends N) (e : Ends M) → have_ends d ≡ have_ends e → ((n o : N) (m p : M) → HasEnds n o d → HasEnds m p e → net n m × net o p) → AreEndsJoined net d e
ends_by net NoEnds NoEnds h on = tt
ends_by net NoEnds (Both c d) h on = absurd cc
ends_by net (Both a b) NoEnds h on = absurd cc
ends_by net (Both a b) (Both c d) h on = on a b c d (refl, refl) (refl, refl)

-- of two formed devices of one kind each terminal of the one is one of the other
pub by_terminals : {N M : Type 0} (net : N → M → Type 0) (r : Row N) (s : Row M) → IsFormed r → IsFormed s → r.kind ≡ s.kind → r.class ≡ s.class → r.sizes ≡ s.sizes
    → ((t : Terminal) (n : N) (m : M) → IsAt t r n → IsAt t s m → net n m) → IsRowOver net r s
by_terminals net r s f g kind class sizes on = record {
  kind = kind;
  class = class;
  sizes = sizes;
  ends = ends_by net r.ends s.ends (f.ends ∙ ap has_ends kind ∙ sym g.ends) (λ n o m p h k. (on First n m (o, h) (p, k), on Second o p (n, h) (m, k)));
  others = at_joined net r.others s.others (f.others ∙ ap other_count kind ∙ sym g.others) (λ k n m h i. on (Other k) n m h i);
}

-- ---- rows over rows

pub map_twice : {N M O : Type 0} (f : M → O) (g : N → M) (ns : List N) → map f (map g ns) ≡ map (λ n. f (g n)) ns
map_twice f g [] = refl
map_twice f g (n ∷ ns) = ap (λ z. f (g n) ∷ z) (map_twice f g ns)

ends_twice : {N M O : Type 0} (f : M → O) (g : N → M) (e : Ends N) → ends_over f (ends_over g e) ≡ ends_over (λ n. f (g n)) e
ends_twice f g NoEnds = refl
ends_twice f g (Both a b) = refl

pub row_over_twice : {N M O : Type 0} (f : M → O) (g : N → M) (r : Row N) → row_over f (row_over g r) ≡ row_over (λ n. f (g n)) r
row_over_twice f g r = let e = ends_twice f g r.ends in let o = map_twice f g r.others in cc

-- maps that agree on the terminals
map_agrees : {N M : Type 0} (f g : N → M) (ns : List N) → ((n : N) → IsListed n ns → f n ≡ g n) → map f ns ≡ map g ns
map_agrees f g [] on = refl
map_agrees f g (n ∷ ns) on = let e = on n (inl refl) in let r = map_agrees f g ns (λ m h. on m (inr h)) in cc

ends_agree : {N M : Type 0} (f g : N → M) (e : Ends N) (ns : List N) → ((n : N) → IsListed n (nets_of e ns) → f n ≡ g n) → ends_over f e ≡ ends_over g e
ends_agree f g NoEnds ns on = refl
ends_agree f g (Both a b) ns on = let p = on a (nets_first a b ns) in let q = on b (nets_second a b ns) in cc

pub row_over_agrees : {N M : Type 0} (f g : N → M) (r : Row N) → ((n : N) → IsListed n (terminal_nets r) → f n ≡ g n) → row_over f r ≡ row_over g r
row_over_agrees f g r on =
    let e = ends_agree f g r.ends r.others on in
    let o = map_agrees f g r.others (λ n h. on n (nets_others r.ends r.others n h)) in
    cc

pub map_self : {N : Type 0} (ns : List N) → map (λ n. n) ns ≡ ns
map_self [] = refl
map_self (n ∷ ns) = ap (λ z. n ∷ z) (map_self ns)

ends_self : {N : Type 0} (e : Ends N) → ends_over (λ n. n) e ≡ e
ends_self NoEnds = refl
ends_self (Both a b) = refl

-- lists of equal nets are one
pub joined_equal : {N : Type 0} (ns ms : List N) → AreJoined (λ n m. n ≡ m) ns ms → ns ≡ ms
joined_equal ns ms h = sym (map_self ns) ∙ map_joined (λ n. n) ns ms h

pub row_over_self : {N : Type 0} (r : Row N) → row_over (λ n. n) r ≡ r
row_over_self r = row_by_parts (row_over (λ n. n) r) r refl refl refl (ends_self r.ends) (map_self r.others)

-- over a map of the right side
pub over_right : {N M P : Type 0} (net : N → M → Type 0) (further : N → P → Type 0) (g : M → P) → ((n : N) (m : M) → net n m → further n (g m)) → (r : Row N) (s : Row M) → IsRowOver net r s → IsRowOver further r (row_over g s)
over_right net further g on r s a = subst (λ z. IsRowOver further z (row_over g s)) (row_over_self r) (over_maps net further (λ n. n) g on r s a)

-- two rows over their images are one where the images of terminals of one place are
pub equal_over : {N M O : Type 0} (f : N → O) (g : M → O) (r : Row N) (s : Row M) → row_over f r ≡ row_over g s → IsRowOver (λ n m. f n ≡ g m) r s
equal_over {O = O} f g r s e = over_under (λ (x y : O). x ≡ y) f g r s (subst (λ z. IsRowOver (λ (x y : O). x ≡ y) (row_over f r) z) e (over_same (λ (x y : O). x ≡ y) (λ x. refl) (row_over f r)))

pub over_equal : {N M O : Type 0} (f : N → O) (g : M → O) (r : Row N) (s : Row M) → IsRowOver (λ n m. f n ≡ g m) r s → row_over f r ≡ row_over g s
over_equal {N} {M} {O} f g r s a =
    sym (row_over_self (row_over f r)) ∙ carried_row (λ x. x) (row_over f r) (row_over g s) (over_maps (λ (n : N) (m : M). f n ≡ g m) (λ (x y : O). x ≡ y) f g (λ n m e. e) r s a)
