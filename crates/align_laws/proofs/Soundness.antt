-- An aligned netlist of kept circuits alone is good and in normal form.
use Rattle.std.proofs.Common.{◌≡◌, inl, inr, ℕ, zero, suc, ◌<◌, Bool, true, cond, [], ◌∷◌, Option, Some, None, slice_get, length, map, refl, sym, ◌∙◌, ap, subst, arith}
use Rattle.base_laws.proofs.Items.{get_last, map_from}
use Rattle.std.proofs.lemmas.Bool.{cases_Bool}
use Rattle.std.proofs.lemmas.Option.{slice_get_within, same_Some, none-some}
use Rattle.plain_netlist.specs.Netlist.{CallRow, Circuit, Netlist, IsCircuit, IsCall}
use Rattle.plain_netlist.specs.Normal.{IsNormalNetlist, IsNormalCircuit}
use Rattle.plain_netlist.specs.Sound.{AreCallsFitting, HasNetTwins, IsGood, IsSoundNetlist, NetlistFault, NameClash, BadTerminal, NoSuchCircuit, PinCount, CircuitCycle, ShowsFault}
use Rattle.plain_netlist.proofs.Heights.{no_fault_in_good}
use Rattle.plain_netlist.proofs.Numbered.{normal_nets}
use Rattle.align_laws.specs.Lists.{FlatCircuit, given_of}
use Rattle.align_laws.specs.Cut.{Alignment, CutCall, cut, cut_calls, cut_call, cut_row, held_pins}
use Rattle.align_laws.specs.Aligned.{IsAlignedBy, HasOnlyKept, AlignedSoundLaw, AlignedFaultLaw, NoFurtherLaw}
use Rattle.align_laws.proofs.CutList.{given_is}
use Rattle.align_laws.proofs.FlatGood.{flat_is_good, long_map}
use Rattle.align_laws.proofs.Pieces.{piece_of}

-- a call of a cut circuit, and the call of the flat circuit that it was
pub record CallFrom (f : Netlist) (w : Alignment) (i : ℕ) (row : CallRow) : Type 0 where
  pub circuit : ℕ
  pub kept : w.kept circuit ≡ true
  pub number : w.number circuit ≡ i
  pub call : ℕ
  pub old : CallRow
  pub is : IsCall f circuit call old
  pub stays : w.kept old.circuit ≡ true
  pub cut_to : row ≡ cut_row f w circuit old

module _ (g o : Netlist) (w : Alignment) (goes : ℕ → Bool) (a : IsAlignedBy goes g o w) (only : HasOnlyKept o w) where
  pub cut_of : (i : ℕ) (x : Circuit) → IsCircuit o i x → (c : ℕ) × (w.kept c ≡ true) × (x ≡ cut a.flat w c) × (w.number c ≡ i)
  cut_of i x is =
      let f = only.from i x is in
      let here : IsCircuit o i (cut a.flat w f.0) = subst (λ k. IsCircuit o k (cut a.flat w f.0)) f.2 (a.cut_down.there f.0 f.1) in
      (f.0, f.1, (let z : x ≡ cut a.flat w f.0 = cc in z), f.2)

  one_of : (c k : ℕ) (row : CallRow) (r : CutCall) → (n : ℕ) → slice_get (cut_call a.flat w c k row) n ≡ Some r → (w.kept row.circuit ≡ true) × (r.row ≡ cut_row a.flat w c row)
  one_of c k row r n h = elim (cases_Bool (w.kept row.circuit)) [
    | inl e ↦ (e, first n (subst (λ (t : Bool). slice_get (cond t (item ∷ []) []) n ≡ Some r) e h))
    | inr e ↦ absurd (none-some r (subst (λ (t : Bool). slice_get (cond t (item ∷ []) []) n ≡ Some r) e h))
  ]
    where
      item : CutCall
      item = record { from = k; row = cut_row a.flat w c row }

      first : (n : ℕ) → slice_get (item ∷ []) n ≡ Some r → r.row ≡ cut_row a.flat w c row
      first zero e = ap (λ (y : CutCall). y.row) (sym (same_Some _ _ e))
      first (suc n) e = absurd (none-some r e)

  pub call_from : (i e : ℕ) (row : CallRow) → IsCall o i e row → CallFrom a.flat w i row
  call_from i e row (x, is, at) =
      let f = cut_of i x is in
      let given = a.cut_down.given f.0 f.1 in
      let there : slice_get (map (λ (r : CutCall). r.row) (cut_calls a.flat w f.0)) e ≡ Some row = subst (λ (y : Circuit). slice_get y.calls e ≡ Some row) f.2 at in
      let r = map_from (λ (r : CutCall). r.row) (cut_calls a.flat w f.0) e row there in
      let p = piece_of (cut_call a.flat w f.0) (given_of a.flat f.0).calls e r.0 r.1 in
      let one = one_of f.0 p.item p.of r.0 p.number p.at in
      record {
        circuit = f.0;
        kept = f.1;
        number = f.3;
        call = p.item;
        old = p.of;
        is = (given.0, given.1, subst (λ (y : Circuit). slice_get y.calls p.item ≡ Some p.of) (given_is a.flat f.0 given.0 given.1) p.is);
        stays = one.0;
        cut_to = sym r.2 ∙ one.1;
      }

  called : AreCallsFitting o
  called i e row call =
      let r = call_from i e row call in
      let d = cut a.flat w r.old.circuit in (
        d,
        subst (λ (y : CallRow). IsCircuit o y.circuit d) (sym r.cut_to) (a.cut_down.there r.old.circuit r.stays),
        subst (λ (y : CallRow). length y.nets ≡ length d.pins) (sym r.cut_to) (long_map _ (held_pins a.flat w r.old.circuit) ∙ sym (long_map (w.new r.old.circuit) (held_pins a.flat w r.old.circuit))),
      )

  pub normal : IsNormalNetlist o
  normal i x is = let f = cut_of i x is in subst (λ (y : Circuit). IsNormalCircuit y) (sym f.2) (a.normal f.0 f.1)

  -- good in each height in which the calls go down
  pub good_in : (height : ℕ → ℕ) → ((i e : ℕ) (row : CallRow) → IsCall o i e row → height row.circuit < height i) → IsGood o height
  good_in height lower = record {
    within = normal_nets o normal;
    called = called;
    lower = lower;
    pins = λ i k n (x, is, at). (normal i x is).pins k n at;
  }

  -- the height of the circuit that a number stands for
  height_by : (i : ℕ) (r : Option Circuit) → slice_get o.circuits i ≡ r → ℕ
  height_by i (Some x) e = a.height (only.from i x e).0
  height_by i None e = 0

  height_is : (c : ℕ) → w.kept c ≡ true → (r : Option Circuit) (e : slice_get o.circuits (w.number c) ≡ r) → height_by (w.number c) r e ≡ a.height c
  unfolding height_by
  height_is c kept (Some x) e = let f = only.from (w.number c) x e in ap a.height (only.apart f.0 c f.1 kept f.2)
  height_is c kept None e = absurd (none-some _ (sym e ∙ a.cut_down.there c kept))

  height_of : ℕ → ℕ
  height_of i = height_by i (slice_get o.circuits i) refl

  height_of_kept : (c i : ℕ) → w.kept c ≡ true → w.number c ≡ i → height_of i ≡ a.height c
  unfolding height_of
  height_of_kept c i kept e = subst (λ (k : ℕ). height_by k (slice_get o.circuits k) refl ≡ a.height c) e (height_is c kept (slice_get o.circuits (w.number c)) refl)

  lower : (i e : ℕ) (row : CallRow) → IsCall o i e row → height_of row.circuit < height_of i
  lower i e row call =
      let r = call_from i e row call in
      let flat = flat_is_good g a.flat goes a.flats a.height a.good a.flattened in
      let low = flat.lower r.circuit r.call r.old r.is in
      let up = height_of_kept r.circuit i r.kept r.number in
      let down = height_of_kept r.old.circuit row.circuit r.stays (ap (λ (y : CallRow). y.circuit) (sym r.cut_to)) in
      omega arith

  pub some_good : (height : ℕ → ℕ) × IsGood o height
  some_good = (height_of, good_in height_of lower)

pub aligned_sound : AlignedSoundLaw
aligned_sound g o w a only = (normal g o w a.goes a.by only, some_good g o w a.goes a.by only)

pub no_further : NoFurtherLaw
no_further g o w x a only =
    let f = only.from (length o.circuits) x (get_last o.circuits x) in
    let low = slice_get_within o.circuits (w.number f.0) _ (a.by.cut_down.there f.0 f.1) in
    let e = f.2 in
    omega arith

module _ (g o : Netlist) (w : Alignment) (goes : ℕ → Bool) (a : IsAlignedBy goes g o w) (only : HasOnlyKept o w) (sound : IsSoundNetlist g) where
  -- the circuit of the given netlist whose name a cut one has
  given_name : (i : ℕ) (x : Circuit) → IsCircuit o i x → (c : ℕ) × (y : Circuit) × IsCircuit g c y × (x.name ≡ y.name) × (w.kept c ≡ true) × (w.number c ≡ i)
  given_name i x is =
      let f = cut_of g o w goes a only i x is in
      let flat = a.cut_down.given f.0 f.1 in
      let y = a.flattened.back f.0 flat.0 flat.1 in
      let there = a.flattened.there f.0 y.0 y.1 in
      let name : x.name ≡ y.0.name = ap (λ (z : Circuit). z.name) f.2 ∙ (ap (λ (z : Circuit). z.name) (given_is a.flat f.0 _ there) ∙ ap (λ (z : FlatCircuit). z.name) (a.flattened.each f.0 y.0 y.1)) in
      (f.0, y.0, y.1, name, f.1, f.3)

  pub names_apart : (b c : ℕ) (x y : Circuit) → IsCircuit o b x → IsCircuit o c y → x.name ≡ y.name → b ≡ c
  names_apart b c x y is js e =
      let u = given_name b x is in
      let v = given_name c y js in
      let same : u.0 ≡ v.0 = sound.names u.0 v.0 u.1 v.1 u.2 v.2 (sym u.3 ∙ (e ∙ v.3)) in
      sym u.5 ∙ (ap w.number same ∙ v.5)

  pub only_twins : (fault : NetlistFault) (c : ℕ) → ShowsFault o fault c → (fault ≡ NameClash) × HasNetTwins o c
  only_twins NameClash c (inl (b, x, y, low, is, js, e)) = absurd (let same = names_apart b c x y is js e in omega arith)
  only_twins NameClash c (inr h) = (refl, h)
  only_twins BadTerminal c h = absurd (let z = some_good g o w goes a only in no_fault_in_good o z.0 BadTerminal c z.1 (λ e. absurd (let z : ⊥ = cc in z)) h)
  only_twins NoSuchCircuit c h = absurd (let z = some_good g o w goes a only in no_fault_in_good o z.0 NoSuchCircuit c z.1 (λ e. absurd (let z : ⊥ = cc in z)) h)
  only_twins PinCount c h = absurd (let z = some_good g o w goes a only in no_fault_in_good o z.0 PinCount c z.1 (λ e. absurd (let z : ⊥ = cc in z)) h)
  only_twins CircuitCycle c h = absurd (let z = some_good g o w goes a only in no_fault_in_good o z.0 CircuitCycle c z.1 (λ e. absurd (let z : ⊥ = cc in z)) h)

pub aligned_fault : AlignedFaultLaw
aligned_fault g o w a only sound fault c h = only_twins g o w a.goes a.by only sound fault c h
