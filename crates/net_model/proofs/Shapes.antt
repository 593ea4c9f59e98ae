-- A device by the nets of its terminals in their order.
use Rattle.std.proofs.Common.{◌≡◌, ◌<◌, inl, inr, ℕ, zero, suc, List, [], ◌∷◌, length, map, take, slice_index, refl, sym, ◌∙◌, arith}
use Rattle.std.proofs.lemmas.List.{length-map}
use Rattle.plain_netlist.specs.declared.kinds.DeviceKind.{DeviceKind}
use Rattle.plain_netlist.specs.declared.kinds.DeviceKind.TheVariants.{Mos4, ResistorWithBulk, Diode}
use Rattle.plain_netlist.specs.Kinds.{has_ends, other_count, terminal_count}
use Rattle.plain_netlist.specs.Lists.{IsListed}
use Rattle.plain_netlist.specs.Devices.{Ends, NoEnds, Both, Row, IsFormed, have_ends, ends_over, nets_of, row_over, terminal_nets}
use Rattle.plain_netlist.proofs.Rows.{row_by_parts, terminal_nets_over}
use Rattle.net_model.specs.Rows.{ends_in, others_in}

-- what holds of each device of the form of its kind
pub by_shape : {N : Type 0} (P : DeviceKind → Ends N → List N → Type 0)
    → ((a b g k : N) → P Mos4 (Both a b) (g ∷ k ∷ [])) → ((a b k : N) → P ResistorWithBulk (Both a b) (k ∷ [])) → ((a c : N) → P Diode NoEnds (a ∷ c ∷ []))
    → (kind : DeviceKind) (ends : Ends N) (others : List N) → have_ends ends ≡ has_ends kind → length others ≡ other_count kind → P kind ends others
by_shape P m r d Mos4 (Both a b) (g ∷ k ∷ []) e o = m a b g k
by_shape P m r d Mos4 (Both a b) [] e o = absurd (omega (arith, o))
by_shape P m r d Mos4 (Both a b) (g ∷ []) e o = absurd (omega (arith, o))
by_shape P m r d Mos4 (Both a b) (g ∷ k ∷ x ∷ xs) e o = absurd (omega (arith, o))
by_shape P m r d Mos4 NoEnds xs e o = absurd cc
by_shape P m r d ResistorWithBulk (Both a b) (k ∷ []) e o = r a b k
by_shape P m r d ResistorWithBulk (Both a b) [] e o = absurd (omega (arith, o))
by_shape P m r d ResistorWithBulk (Both a b) (k ∷ x ∷ xs) e o = absurd (omega (arith, o))
by_shape P m r d ResistorWithBulk NoEnds xs e o = absurd cc
by_shape P m r d Diode NoEnds (a ∷ c ∷ []) e o = d a c
by_shape P m r d Diode NoEnds [] e o = absurd (omega (arith, o))
by_shape P m r d Diode NoEnds (a ∷ []) e o = absurd (omega (arith, o))
by_shape P m r d Diode NoEnds (a ∷ c ∷ x ∷ xs) e o = absurd (omega (arith, o))
by_shape P m r d Diode (Both a b) xs e o = absurd cc

-- nets whose first are those of the terminals say the device
four : (a b c d : ℕ) (xs : List ℕ) → take 4 xs ≡ a ∷ b ∷ c ∷ d ∷ [] → (slice_index xs 0 ≡ a) × (slice_index xs 1 ≡ b) × (slice_index xs 2 ≡ c) × (slice_index xs 3 ≡ d)
four a b c d (w ∷ x ∷ y ∷ z ∷ more) e = (let p : w ≡ a = cc in p, let p : x ≡ b = cc in p, let p : y ≡ c = cc in p, let p : z ≡ d = cc in p)
four a b c d [] e = absurd (let z : ⊥ = cc in z)
four a b c d (w ∷ []) e = absurd (let z : ⊥ = cc in z)
four a b c d (w ∷ x ∷ []) e = absurd (let z : ⊥ = cc in z)
four a b c d (w ∷ x ∷ y ∷ []) e = absurd (let z : ⊥ = cc in z)

three : (a b c : ℕ) (xs : List ℕ) → take 3 xs ≡ a ∷ b ∷ c ∷ [] → (slice_index xs 0 ≡ a) × (slice_index xs 1 ≡ b) × (slice_index xs 2 ≡ c)
three a b c (w ∷ x ∷ y ∷ more) e = (let p : w ≡ a = cc in p, let p : x ≡ b = cc in p, let p : y ≡ c = cc in p)
three a b c [] e = absurd (let z : ⊥ = cc in z)
three a b c (w ∷ []) e = absurd (let z : ⊥ = cc in z)
three a b c (w ∷ x ∷ []) e = absurd (let z : ⊥ = cc in z)

two : (a b : ℕ) (xs : List ℕ) → take 2 xs ≡ a ∷ b ∷ [] → (slice_index xs 0 ≡ a) × (slice_index xs 1 ≡ b)
two a b (w ∷ x ∷ more) e = (let p : w ≡ a = cc in p, let p : x ≡ b = cc in p)
two a b [] e = absurd (let z : ⊥ = cc in z)
two a b (w ∷ []) e = absurd (let z : ⊥ = cc in z)

in_shape : (kind : DeviceKind) (ends : Ends ℕ) (others xs : List ℕ) → have_ends ends ≡ has_ends kind → length others ≡ other_count kind
    → take (terminal_count kind) xs ≡ nets_of ends others → (ends_in kind xs ≡ ends) × (others_in kind xs ≡ others)
in_shape kind ends others xs e o = by_shape (λ kind ends others. take (terminal_count kind) xs ≡ nets_of ends others → (ends_in kind xs ≡ ends) × (others_in kind xs ≡ others))
    (λ a b g k h. let p = four b g a k xs h in let w = p.0 in let x = p.1 in let y = p.2 in let z = p.3 in
    ((let q : Both (slice_index xs 2) (slice_index xs 0) ≡ Both a b = cc in q), (let q : slice_index xs 1 ∷ slice_index xs 3 ∷ [] ≡ g ∷ k ∷ [] = cc in q)))
    (λ a b k h. let p = three b k a xs h in let w = p.0 in let x = p.1 in let y = p.2 in
    ((let q : Both (slice_index xs 2) (slice_index xs 0) ≡ Both a b = cc in q), (let q : slice_index xs 1 ∷ [] ≡ k ∷ [] = cc in q)))
    (λ a c h. let p = two a c xs h in let w = p.0 in let x = p.1 in
    (refl, (let q : slice_index xs 0 ∷ slice_index xs 1 ∷ [] ≡ a ∷ c ∷ [] = cc in q)))
    kind ends others e o

-- the device of these parts and nets
abbrev pub row_in : DeviceKind → List ℕ → List ℕ → List ℕ → Row ℕ
row_in kind class sizes nets = record { kind = kind; class = class; sizes = sizes; ends = ends_in kind nets; others = others_in kind nets }

ends_stay : {N M : Type 0} (f : N → M) (e : Ends N) → have_ends (ends_over f e) ≡ have_ends e
ends_stay f NoEnds = refl
ends_stay f (Both a b) = refl

-- a formed device over the images of its nets is that of the images
pub row_by_nets : {N : Type 0} (f : N → ℕ) (r : Row N) (xs : List ℕ) → IsFormed r → take (terminal_count r.kind) xs ≡ map f (terminal_nets r) → row_in r.kind r.class r.sizes xs ≡ row_over f r
row_by_nets f r xs h e =
    let p = in_shape r.kind (ends_over f r.ends) (map f r.others) xs (ends_stay f r.ends ∙ h.ends) (length-map r.others f ∙ h.others) (e ∙ sym (terminal_nets_over f r)) in
    row_by_parts (row_in r.kind r.class r.sizes xs) (row_over f r) refl refl refl p.0 p.1

-- a device of nets is formed, where it has two sizes
pub formed_in : (kind : DeviceKind) (class sizes nets : List ℕ) → length sizes ≡ 2 → IsFormed (row_in kind class sizes nets)
formed_in Mos4 class sizes nets two = record { ends = refl; others = refl; sizes = two }
formed_in ResistorWithBulk class sizes nets two = record { ends = refl; others = refl; sizes = two }
formed_in Diode class sizes nets two = record { ends = refl; others = refl; sizes = two }

-- each net of a device in its order is one of a terminal
pub net_listed : (kind : DeviceKind) (nets : List ℕ) (k : ℕ) → k < terminal_count kind → IsListed (slice_index nets k) (nets_of (ends_in kind nets) (others_in kind nets))
net_listed Mos4 nets zero h = inl refl
net_listed Mos4 nets (suc zero) h = inr (inl refl)
net_listed Mos4 nets (suc (suc zero)) h = inr (inr (inl refl))
net_listed Mos4 nets (suc (suc (suc zero))) h = inr (inr (inr (inl refl)))
net_listed Mos4 nets (suc (suc (suc (suc k)))) h = absurd (omega arith)
net_listed ResistorWithBulk nets zero h = inl refl
net_listed ResistorWithBulk nets (suc zero) h = inr (inl refl)
net_listed ResistorWithBulk nets (suc (suc zero)) h = inr (inr (inl refl))
net_listed ResistorWithBulk nets (suc (suc (suc k))) h = absurd (omega arith)
net_listed Diode nets zero h = inl refl
net_listed Diode nets (suc zero) h = inr (inl refl)
net_listed Diode nets (suc (suc k)) h = absurd (omega arith)

-- the device with each net's image in its place
pub put_nets : (kind : DeviceKind) (class sizes : List ℕ) (f : ℕ → ℕ) (xs ys : List ℕ) → ((k : ℕ) → k < terminal_count kind → slice_index ys k ≡ f (slice_index xs k))
    → row_in kind class sizes ys ≡ row_over f (row_in kind class sizes xs)
put_nets Mos4 class sizes f xs ys h = let a = h 0 (omega arith) in let b = h 1 (omega arith) in let c = h 2 (omega arith) in let d = h 3 (omega arith) in cc
put_nets ResistorWithBulk class sizes f xs ys h = let a = h 0 (omega arith) in let b = h 1 (omega arith) in let c = h 2 (omega arith) in cc
put_nets Diode class sizes f xs ys h = let a = h 0 (omega arith) in let b = h 1 (omega arith) in cc

pub listed_net : (kind : DeviceKind) (nets : List ℕ) (m : ℕ) → IsListed m (nets_of (ends_in kind nets) (others_in kind nets)) → (k : ℕ) × (k < terminal_count kind) × (m ≡ slice_index nets k)
listed_net Mos4 nets m (inl e) = (0, omega arith, e)
listed_net Mos4 nets m (inr (inl e)) = (1, omega arith, e)
listed_net Mos4 nets m (inr (inr (inl e))) = (2, omega arith, e)
listed_net Mos4 nets m (inr (inr (inr (inl e)))) = (3, omega arith, e)
listed_net Mos4 nets m (inr (inr (inr (inr e)))) = absurd e
listed_net ResistorWithBulk nets m (inl e) = (0, omega arith, e)
listed_net ResistorWithBulk nets m (inr (inl e)) = (1, omega arith, e)
listed_net ResistorWithBulk nets m (inr (inr (inl e))) = (2, omega arith, e)
listed_net ResistorWithBulk nets m (inr (inr (inr e))) = absurd e
listed_net Diode nets m (inl e) = (0, omega arith, e)
listed_net Diode nets m (inr (inl e)) = (1, omega arith, e)
listed_net Diode nets m (inr (inr e)) = absurd e
