-- A device over other nets, chosen terminal by terminal.
use Rattle.std.proofs.Common.{◌≡◌, ℕ, zero, suc, List, [], ◌∷◌, Some, length, slice_get, refl, sym, ◌∙◌, ap, subst}
use Rattle.std.proofs.lemmas.Option.{same_Some}
use Rattle.plain_netlist.specs.Devices.{Ends, NoEnds, Both, Row, Terminal, First, Second, Other, HasEnds, IsAt, IsFormed, IsRowOver, have_ends}
use Rattle.plain_netlist.proofs.Rows.{by_terminals}

-- a terminal stands on one net
ends_once : {N : Type 0} (e : Ends N) (a b c d : N) → HasEnds a b e → HasEnds c d e → (a ≡ c) × (b ≡ d)
ends_once NoEnds a b c d h g = absurd h
ends_once (Both x y) a b c d h g = (h.0 ∙ sym g.0, h.1 ∙ sym g.1)

pub at_once : {N : Type 0} (t : Terminal) (r : Row N) (a b : N) → IsAt t r a → IsAt t r b → a ≡ b
at_once First r a b h g = (ends_once r.ends a h.0 b g.0 h.1 g.1).0
at_once Second r a b h g = (ends_once r.ends h.0 a g.0 b h.1 g.1).1
at_once (Other k) r a b h g = let e : Some a ≡ Some b = sym h ∙ g in same_Some a b e

chosen_behind : {N M : Type 0} (n : N) (x : M) (ns : List N) (ms : List M) (Q : ℕ → N → M → Type 0) → Q zero n x → ((k : ℕ) (m : M) → slice_get ms k ≡ Some m → (a : N) × (slice_get ns k ≡ Some a) × Q (suc k) a m)
    → (k : ℕ) (m : M) → slice_get (x ∷ ms) k ≡ Some m → (a : N) × (slice_get (n ∷ ns) k ≡ Some a) × Q k a m
chosen_behind n x ns ms Q q rest zero m e = (n, refl, subst (λ y. Q zero n y) (same_Some x m e) q)
chosen_behind n x ns ms Q q rest (suc k) m e = rest k m e

choose_list : {N M : Type 0} (ns : List N) (Q : ℕ → N → M → Type 0) → ((k : ℕ) (a : N) → slice_get ns k ≡ Some a → (m : M) × Q k a m)
    → (ms : List M) × (length ns ≡ length ms) × ((k : ℕ) (m : M) → slice_get ms k ≡ Some m → (a : N) × (slice_get ns k ≡ Some a) × Q k a m)
choose_list [] Q f = ([], refl, λ k m e. absurd (let z : ⊥ = cc in z))
choose_list (n ∷ ns) Q f =
    let x = f zero n refl in
    let rest = choose_list ns (λ k. Q (suc k)) (λ k a e. f (suc k) a e) in
    (x.0 ∷ rest.0, ap suc rest.1, chosen_behind n x.0 ns rest.0 Q x.1 rest.2)

-- the nets of the ends, and where each is from
record AreEndsOf {N M : Type 0} (P : Terminal → N → M → Type 0) (e : Ends N) (d : Ends M) : Type 0 where
  have : have_ends e ≡ have_ends d
  back : (x y : M) → HasEnds x y d → (a : N) × (b : N) × HasEnds a b e × P First a x × P Second b y

choose_ends : {N M : Type 0} (P : Terminal → N → M → Type 0) (e : Ends N) → ((a b : N) → HasEnds a b e → ((x : M) × P First a x) × ((y : M) × P Second b y)) → (d : Ends M) × AreEndsOf P e d
choose_ends P NoEnds f = (NoEnds, record { have = refl; back = λ x y h. absurd h })
choose_ends P (Both a b) f =
    let c = f a b (refl, refl) in
    (Both c.0.0 c.1.0, record { have = refl; back = λ x y h. (a, b, (refl, refl), subst (λ z. P First a z) (sym h.0) c.0.1, subst (λ z. P Second b z) (sym h.1) c.1.1) })

-- the device over the nets chosen
pub record IsChosen {N M : Type 0} (P : Terminal → N → M → Type 0) (r : Row N) (s : Row M) : Type 0 where
  pub kind : s.kind ≡ r.kind
  pub class : s.class ≡ r.class
  pub sizes : s.sizes ≡ r.sizes
  pub formed : IsFormed s
  pub back : (t : Terminal) (m : M) → IsAt t s m → (a : N) × IsAt t r a × P t a m

pub chosen : {N M : Type 0} (P : Terminal → N → M → Type 0) (r : Row N) → IsFormed r → ((t : Terminal) (a : N) → IsAt t r a → (m : M) × P t a m) → (s : Row M) × IsChosen P r s
chosen {N} {M} P r formed f = (s, record { kind = refl; class = refl; sizes = refl; formed = record { ends = sym ends.1.have ∙ formed.ends; others = sym others.1 ∙ formed.others; sizes = formed.sizes }; back = back })
  where
    ends : (d : Ends M) × AreEndsOf P r.ends d
    ends = choose_ends P r.ends (λ a b h. (f First a (b, h), f Second b (a, h)))

    others : (ms : List M) × (length r.others ≡ length ms) × ((k : ℕ) (m : M) → slice_get ms k ≡ Some m → (a : N) × (slice_get r.others k ≡ Some a) × P (Other k) a m)
    others = choose_list r.others (λ k. P (Other k)) (λ k a e. f (Other k) a e)

    s : Row M
    s = record { kind = r.kind; class = r.class; sizes = r.sizes; ends = ends.0; others = others.0 }

    back : (t : Terminal) (m : M) → IsAt t s m → (a : N) × IsAt t r a × P t a m
    back First m h = let b = ends.1.back m h.0 h.1 in (b.0, (b.1, b.2), b.3)
    back Second m h = let b = ends.1.back h.0 m h.1 in (b.1, (b.0, b.2), b.4)
    back (Other k) m h = others.2 k m h

-- each net of the device is joined with the one chosen for it
pub chosen_over : {N M : Type 0} (P : Terminal → N → M → Type 0) (net : N → M → Type 0) (r : Row N) (s : Row M) → IsFormed r → IsChosen P r s → ((t : Terminal) (a : N) (m : M) → IsAt t r a → P t a m → net a m) → IsRowOver net r s
chosen_over P net r s formed is on =
    by_terminals net r s formed is.formed (sym is.kind) (sym is.class) (sym is.sizes) (λ t a m at there.
    let b = is.back t m there in
    on t a m at (subst (λ z. P t z m) (at_once t r b.0 a b.1 at) b.2))
