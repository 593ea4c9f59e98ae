-- The circuits of the cells that have one, as a netlist.
use Rattle.std.proofs.Common.{◌≡◌, ◌∙◌, ◌++◌, append_assoc, append-nil, ◌⊎◌, inl, inr, ℕ, zero, suc, List, [], ◌∷◌, Option, None, Some, IsSome, ap, refl, sym, subst, length, map, option_map, slice_get}
use Rattle.std.specs.Prelude.{option_to_list}
use Rattle.std.specs.List.{cons_option, filter_map}
use Rattle.std.proofs.lemmas.List.{length-map}
use Rattle.std.proofs.lemmas.Option.{slice_get-map}
use Rattle.deep_tables.specs.Circuits.{IsNetlistIn, plain_or_none, value_in, value_of}
use Rattle.deep_tables.specs.Entries.{entry}
use Rattle.deep_tables.specs.declared.circuits.CellCircuit.{CellCircuit}
use Rattle.net_model.specs.Rows.{plain_circuit}
use Rattle.net_model.specs.declared.netlist.Circuit.{Circuit}
use Rattle.plain_netlist.proofs.Members.{listed}
use Rattle.plain_netlist.specs.Lists.{AreRising, IsListed}
use Rattle.plain_netlist.specs.Netlist as netlist

-- the circuits of the values that have one
abbrev pub moved : List CellCircuit → List Circuit
moved values = filter_map (λ v. v.circuit) values

-- and the cells of these
abbrev keep : Option Circuit → ℕ → List ℕ → List ℕ
keep None x cells = cells
keep (Some c) x cells = x ∷ cells

abbrev pub kept : List ℕ → List CellCircuit → List ℕ
kept [] values = []
kept (x ∷ xs) [] = []
kept (x ∷ xs) (v ∷ vs) = keep v.circuit x (kept xs vs)

-- a cell is kept where it has a circuit
listed_keep : (o : Option Circuit) (x cell : ℕ) (cells : List ℕ) → IsListed cell (keep o x cells) → ((c : Circuit) × (o ≡ Some c) × (cell ≡ x)) ⊎ IsListed cell cells
listed_keep None x cell cells l = inr l
listed_keep (Some c) x cell cells (inl e) = inl (c, refl, e)
listed_keep (Some c) x cell cells (inr l) = inr l

keep_listed : (o : Option Circuit) (x cell : ℕ) (cells : List ℕ) → IsListed cell cells → IsListed cell (keep o x cells)
keep_listed None x cell cells l = l
keep_listed (Some c) x cell cells l = inr l

keep_here : (o : Option Circuit) (x cell : ℕ) (cells : List ℕ) → IsSome o → cell ≡ x → IsListed cell (keep o x cells)
keep_here None x cell cells none e = absurd (let z : ⊥ = cc in z)
keep_here (Some c) x cell cells one e = inl e

keep_rising : (R : ℕ → ℕ → Type 0) (o : Option Circuit) (x : ℕ) (cells : List ℕ) → ((y : ℕ) → IsListed y cells → R x y) → AreRising R cells → AreRising R (keep o x cells)
keep_rising R None x cells before rising = rising
keep_rising R (Some c) x cells before rising = (before, rising)

keep_count : (o : Option Circuit) (x : ℕ) (cells : List ℕ) (circuits : List Circuit) → length circuits ≡ length cells → length (cons_option o circuits) ≡ length (keep o x cells)
keep_count None x cells circuits e = e
keep_count (Some c) x cells circuits e = ap suc e

keep_at : (o : Option Circuit) (x : ℕ) (cells : List ℕ) (circuits : List Circuit) (n cell : ℕ) (c : Circuit) → slice_get (keep o x cells) n ≡ Some cell → slice_get (cons_option o circuits) n ≡ Some c
    → ((o ≡ Some c) × (x ≡ cell)) ⊎ ((m : ℕ) × (slice_get cells m ≡ Some cell) × (slice_get circuits m ≡ Some c))
keep_at None x cells circuits n cell c at is = inr (n, at, is)
keep_at (Some d) x cells circuits zero cell c at is = inl (is, (let e : Some x ≡ Some cell = at in cc))
keep_at (Some d) x cells circuits (suc m) cell c at is = inr (m, at, is)

-- a cell and its value, which has a circuit
pub record IsKept (xs : List ℕ) (vs : List CellCircuit) (cell : ℕ) : Type 0 where
  pub job : ℕ
  pub value : CellCircuit
  pub circuit : Circuit
  pub cell_at : slice_get xs job ≡ Some cell
  pub value_at : slice_get vs job ≡ Some value
  pub has : value.circuit ≡ Some circuit

abbrev behind : (x : ℕ) (xs : List ℕ) (v : CellCircuit) (vs : List CellCircuit) (cell : ℕ) → IsKept xs vs cell → IsKept (x ∷ xs) (v ∷ vs) cell
behind x xs v vs cell k = record { job = suc k.job; value = k.value; circuit = k.circuit; cell_at = k.cell_at; value_at = k.value_at; has = k.has }

-- what is listed among the kept cells is one of them
pub listed_kept : (xs : List ℕ) (vs : List CellCircuit) (cell : ℕ) → IsListed cell (kept xs vs) → IsKept xs vs cell
listed_kept [] vs cell l = absurd l
listed_kept (x ∷ xs) [] cell l = absurd l
listed_kept (x ∷ xs) (v ∷ vs) cell l = elim (listed_keep v.circuit x cell (kept xs vs) l) [
  | inl h ↦ record { job = 0; value = v; circuit = h.0; cell_at = ap Some (sym h.2); value_at = refl; has = h.1 }
  | inr h ↦ behind x xs v vs cell (listed_kept xs vs cell h)
]

-- and each of them is listed
pub kept_listed : (xs : List ℕ) (vs : List CellCircuit) (cell k : ℕ) (v : CellCircuit) → slice_get xs k ≡ Some cell → slice_get vs k ≡ Some v → IsSome v.circuit → IsListed cell (kept xs vs)
kept_listed [] vs cell k v at is some = absurd (let z : ⊥ = cc in z)
kept_listed (x ∷ xs) [] cell k v at is some = absurd (let z : ⊥ = cc in z)
kept_listed (x ∷ xs) (w ∷ vs) cell zero v at is some =
    let same : w ≡ v = (let f : Some w ≡ Some v = is in cc) in
    let here : x ≡ cell = (let f : Some x ≡ Some cell = at in cc) in
    keep_here w.circuit x cell (kept xs vs) (subst (λ (y : CellCircuit). IsSome y.circuit) (sym same) some) (sym here)
kept_listed (x ∷ xs) (w ∷ vs) cell (suc k) v at is some = keep_listed w.circuit x cell (kept xs vs) (kept_listed xs vs cell k v at is some)

in_all : (xs : List ℕ) (vs : List CellCircuit) (cell : ℕ) → IsListed cell (kept xs vs) → IsListed cell xs
in_all xs vs cell l = let k = listed_kept xs vs cell l in listed xs k.job cell k.cell_at

-- they rise as all cells do
pub rising_kept : (R : ℕ → ℕ → Type 0) (xs : List ℕ) (vs : List CellCircuit) → AreRising R xs → AreRising R (kept xs vs)
rising_kept R [] vs h = tt
rising_kept R (x ∷ xs) [] h = tt
rising_kept R (x ∷ xs) (v ∷ vs) h = keep_rising R v.circuit x (kept xs vs) (λ y l. h.0 y (in_all xs vs y l)) (rising_kept R xs vs h.1)

-- there are as many as circuits, and the circuit of each stands at its place
moved_count : (xs : List ℕ) (vs : List CellCircuit) → length xs ≡ length vs → length (moved vs) ≡ length (kept xs vs)
moved_count [] [] e = refl
moved_count [] (v ∷ vs) e = absurd (let z : ⊥ = cc in z)
moved_count (x ∷ xs) [] e = absurd (let z : ⊥ = cc in z)
moved_count (x ∷ xs) (v ∷ vs) e = keep_count v.circuit x (kept xs vs) (moved vs) (moved_count xs vs (let f : suc (length xs) ≡ suc (length vs) = e in cc))

moved_at : (xs : List ℕ) (vs : List CellCircuit) (n cell : ℕ) (c : Circuit) → slice_get (kept xs vs) n ≡ Some cell → slice_get (moved vs) n ≡ Some c → (k : IsKept xs vs cell) × (k.circuit ≡ c)
moved_at [] vs n cell c at is = absurd (let z : ⊥ = cc in z)
moved_at (x ∷ xs) [] n cell c at is = absurd (let z : ⊥ = cc in z)
moved_at (x ∷ xs) (v ∷ vs) n cell c at is = elim (keep_at v.circuit x (kept xs vs) (moved vs) n cell c at is) [
  | inl h ↦ (record { job = 0; value = v; circuit = c; cell_at = ap Some h.1; value_at = refl; has = h.0 }, refl)
  | inr h ↦ let r = moved_at xs vs h.0 cell c h.1 h.2 in (behind x xs v vs cell r.0, r.1)
]

-- a circuit of a plain list is one of the list
plain_at : (o : Option Circuit) (c : netlist.Circuit) → option_map plain_circuit o ≡ Some c → (d : Circuit) × (o ≡ Some d) × (plain_circuit d ≡ c)
plain_at None c e = absurd (let z : ⊥ = cc in z)
plain_at (Some d) c e = (d, refl, (let f : Some (plain_circuit d) ≡ Some c = e in cc))

-- what a table has of the cell of a job is what the job found
pub value_here : (table : List (Option CellCircuit)) (cell : ℕ) (v : CellCircuit) (c : Circuit) → entry table cell ≡ Some v → v.circuit ≡ Some c → (value_of table cell).circuit ≡ Some (plain_circuit c)
value_here table cell v c e is = ap (λ (o : Option CellCircuit). (value_in o).circuit) e ∙ ap plain_or_none is

-- where the table has what the jobs found, these circuits are those of the table
pub netlist_in : (table : List (Option CellCircuit)) (xs : List ℕ) (vs : List CellCircuit) (out : List Circuit) → length xs ≡ length vs
    → ((k cell : ℕ) (v : CellCircuit) → slice_get xs k ≡ Some cell → slice_get vs k ≡ Some v → entry table cell ≡ Some v) → out ≡ moved vs
    → IsNetlistIn table (kept xs vs) (let nl : netlist.Netlist = record { circuits = map plain_circuit out } in nl)
netlist_in table xs vs out long holds is = record {
  count = length-map out plain_circuit ∙ ap (λ (l : List Circuit). length l) is ∙ moved_count xs vs long;
  each = λ n cell c at there.
      let d = plain_at (slice_get out n) c (sym (slice_get-map plain_circuit out n) ∙ there) in
      let m = moved_at xs vs n cell d.0 at (ap (λ (l : List Circuit). slice_get l n) (sym is) ∙ d.1) in
      value_here table cell m.0.value m.0.circuit (holds m.0.job cell m.0.value m.0.cell_at m.0.value_at) m.0.has ∙ ap Some (ap plain_circuit m.1 ∙ d.2);
}

-- one value more
pub moved_more : (all out new : List Circuit) (rest tail : List CellCircuit) (v : CellCircuit) → rest ≡ v ∷ tail → new ≡ out ++ option_to_list v.circuit → all ≡ out ++ moved rest → all ≡ new ++ moved tail
moved_more all out new rest tail v s pushed h =
    h ∙ ap (λ (l : List CellCircuit). out ++ moved l) s ∙ one v.circuit ∙ ap (λ (l : List Circuit). l ++ moved tail) (sym pushed)
  where
    one : (o : Option Circuit) → out ++ cons_option o (moved tail) ≡ (out ++ option_to_list o) ++ moved tail
    one None = sym (append_assoc out [] (moved tail))
    one (Some c) = sym (append_assoc out (c ∷ []) (moved tail))

-- and no more
pub moved_all : (all out : List Circuit) (rest : List CellCircuit) → rest ≡ [] → all ≡ out ++ moved rest → out ≡ all
moved_all all out rest s h = sym (h ∙ ap (λ (l : List CellCircuit). out ++ moved l) s ∙ append-nil out)
