-- Spots are moved along the paths of their calls.
use Rattle.std.proofs.Common.{◌≡◌, ℕ, zero, suc, ◌<◌, List, [], ◌∷◌, ◌++◌, take, get_or, Option, Some, None, slice_get, refl, sym, ◌∙◌, ap, subst, arith, ℤ, append-nil, append_assoc}
use Rattle.base_laws.proofs.Items.{item_at}
use Rattle.std.proofs.lemmas.Int.{ints}
use Rattle.std.proofs.lemmas.Option.{none-some, same_Some, slice_get_within, get_or_from_slice_get}
use Rattle.geo_base.specs.Motions.{moved_square}
use Rattle.geo_base.specs.declared.motion.Motion.{Motion}
use Rattle.geo_base.specs.declared.shapes.Square.{Square}
use Rattle.part_origins.specs.Inside.{PlainSpot}
use Rattle.part_origins.specs.Origins.{ArePaths, IsPathBy}
use Rattle.part_origins.specs.declared.inside.Part.{Part}
use Rattle.plain_netlist.specs.Netlist.{CallRow, Netlist, IsCall}
use Rattle.plain_netlist.specs.Sound.{IsCallPath}
use Rattle.plain_netlist.proofs.Once.{one_call}
use Rattle.view_netlist.specs.declared.drawing.Drawing.{Drawing}
use Rattle.view_joined.specs.Paths.{IsTakenTo, MotionLaw}
use Rattle.view_joined.specs.Spots.{AreMotions, IsSpotMotion, call_motion, circuit_at, circuit_or, still}

get_take : {A : Type 0} (xs : List A) (i p : ℕ) (d : A) → p < i → get_or (take i xs) p d ≡ get_or xs p d
get_take [] zero p d low = absurd (omega arith)
get_take [] (suc i) p d low = refl
get_take (x ∷ xs) zero p d low = absurd (omega arith)
get_take (x ∷ xs) (suc i) zero d low = refl
get_take (x ∷ xs) (suc i) (suc p) d low = get_take xs i p d (omega arith)

same_square : (s t : Square) → s.x ≡ t.x → s.y ≡ t.y → s ≡ t
same_square s t a b =
    ap (λ (v : ℤ). let q : Square = record { x = v; y = s.y } in q) a ∙ ap (λ (v : ℤ). let q : Square = record { x = t.x; y = v } in q) b

still_square : (q : Square) → q ≡ moved_square still q
still_square q = same_square q (moved_square still q) (omega (arith, ints)) (omega (arith, ints))

-- one path leads to one circuit
one_end : (g : Netlist) (path : List ℕ) (c d e : ℕ) → IsCallPath g c path d → IsCallPath g c path e → d ≡ e
one_end g [] c d e h k = sym h ∙ k
one_end g (j ∷ js) c d e (row, call, h) (row', call', k) =
    one_end g js row.circuit d e h (subst (λ (r : CallRow). IsCallPath g r.circuit js e) (one_call g c j row' row call' call) k)

-- a path with a call behind it
record Split (g : Netlist) (c : ℕ) (up : List ℕ) (k : ℕ) : Type 0 where
  end : ℕ
  leads : IsCallPath g c up end
  row : CallRow
  call : IsCall g end k row

split : (g : Netlist) (up : List ℕ) (c k e : ℕ) → IsCallPath g c (up ++ k ∷ []) e → Split g c up k
split g [] c k e (row, call, h) = record { end = c; leads = refl; row = row; call = call }
split g (j ∷ js) c k e (row, call, h) =
    let s = split g js row.circuit k e h in
    record { end = s.end; leads = (row, call, s.leads); row = s.row; call = s.call }

snoc : (g : Netlist) (drawings : List Drawing) (up : List ℕ) (c d k : ℕ) (row : CallRow) (q r : Square) → IsCallPath g c up d → IsCall g d k row
    → IsTakenTo g drawings c up (moved_square (call_motion drawings d k) q) r → IsTakenTo g drawings c (up ++ k ∷ []) q r
snoc g drawings [] c d k row q r leads call h =
    (row, subst (λ (n : ℕ). IsCall g n k row) (sym leads) call, q, refl, ap (λ (n : ℕ). moved_square (call_motion drawings n k) q) leads ∙ h)
snoc g drawings (j ∷ js) c d k row q r (row', call', leads) call (other, is, s, h, e) =
    let same : other ≡ row' = one_call g c j other row' is call' in
    let below = subst (λ (x : CallRow). IsTakenTo g drawings x.circuit js (moved_square (call_motion drawings d k) q) s) same h in
    (row', call', s, snoc g drawings js row'.circuit d k row q s leads call below, e)

module _ (spots : List PlainSpot) (drawings : List Drawing) where
  record Moved (before ms : List Motion) (j : ℕ) (s : PlainSpot) : Type 0 where
    motion : Motion
    at : slice_get ms j ≡ Some motion
    is : IsSpotMotion spots drawings (before ++ take j ms) s.by motion

  moved_at : (ss : List PlainSpot) (before ms : List Motion) (j : ℕ) (s : PlainSpot) → AreMotions spots drawings before ss ms → slice_get ss j ≡ Some s → Moved before ms j s
  moved_at [] before ms j s h at = absurd (none-some s at)
  moved_at (x ∷ ss) before [] j s h at = absurd h
  moved_at (x ∷ ss) before (m ∷ ms) zero s h at =
      let same : x ≡ s = same_Some _ _ at in
      record {
        motion = m;
        at = refl;
        is = subst (λ (z : List Motion). IsSpotMotion spots drawings z s.by m) (sym (append-nil before)) (subst (λ (y : PlainSpot). IsSpotMotion spots drawings before y.by m) same h.0);
      }
  moved_at (x ∷ ss) before (m ∷ ms) (suc j) s h at =
      let r = moved_at ss (before ++ m ∷ []) ms j s h.1 at in
      record { motion = r.motion; at = r.at; is = subst (λ (z : List Motion). IsSpotMotion spots drawings z s.by r.motion) (append_assoc before (m ∷ []) (take j ms)) r.is }

module _ (g : Netlist) (drawings : List Drawing) (c : ℕ) (spots : List PlainSpot) (paths : List (List ℕ)) (motions : List Motion) (are : ArePaths spots paths)
    (ends : (i : ℕ) (s : PlainSpot) (path : List ℕ) → slice_get spots i ≡ Some s → slice_get paths i ≡ Some path → IsCallPath g c path s.circuit) (moved : AreMotions spots drawings [] spots motions) where
  abbrev M : ℕ → Motion
  M i = get_or motions i still

  abbrev Taken : ℕ → List ℕ → Type 0
  Taken i path = (q : Square) → IsTakenTo g drawings c path q (moved_square (M i) q)

  by_case : (i : ℕ) (s : PlainSpot) (path : List ℕ) (m : Motion) (by : Option Part) → slice_get spots i ≡ Some s → slice_get paths i ≡ Some path → M i ≡ m → IsPathBy paths i by path → IsSpotMotion spots drawings (take i motions) by m
      → ((p : ℕ) (up : List ℕ) → p < i → slice_get paths p ≡ Some up → Taken p up) → Taken i path
  by_case i s path m None is at e h still_is below q =
      let same : q ≡ moved_square (M i) q = still_square q ∙ ap (λ (z : Motion). moved_square z q) (sym still_is ∙ sym e) in
      subst (λ (p : List ℕ). IsTakenTo g drawings c p q (moved_square (M i) q)) (sym h) same
  by_case i s path m (Some call) is at e (up, there, low, path_is) after below q =
      let whole : IsCallPath g c (up ++ call.number ∷ []) s.circuit = subst (λ (p : List ℕ). IsCallPath g c p s.circuit) (sym path_is) (ends i s path is at) in
      let parts = split g up c call.number s.circuit whole in
      let long = are.long in
      let within = slice_get_within paths call.spot up there in
      let caller = item_at spots call.spot (omega arith) in
      let circuit : circuit_at spots call.spot ≡ caller.0.circuit = ap circuit_or caller.1 in
      let end : parts.end ≡ circuit_at spots call.spot = one_end g up c parts.end caller.0.circuit parts.leads (ends call.spot caller.0 up caller.1 there) ∙ sym circuit in
      let own : Motion = call_motion drawings (circuit_at spots call.spot) call.number in
      let outer : get_or (take i motions) call.spot still ≡ M call.spot = get_take motions i call.spot still low in
      let squares : moved_square m q ≡ moved_square (M call.spot) (moved_square own q) = after.squares q ∙ ap (λ (z : Motion). moved_square z (moved_square own q)) outer in
      let whole_square : moved_square (M call.spot) (moved_square own q) ≡ moved_square (M i) q = sym squares ∙ ap (λ (z : Motion). moved_square z q) (sym e) in
      let inner : IsTakenTo g drawings c up (moved_square own q) (moved_square (M i) q) = subst (λ (z : Square). IsTakenTo g drawings c up (moved_square own q) z) whole_square (below call.spot up low there (moved_square own q)) in
      let from_end : IsTakenTo g drawings c up (moved_square (call_motion drawings parts.end call.number) q) (moved_square (M i) q)
      = subst (λ (n : ℕ). IsTakenTo g drawings c up (moved_square (call_motion drawings n call.number) q) (moved_square (M i) q)) (sym end) inner in
      subst (λ (p : List ℕ). IsTakenTo g drawings c p q (moved_square (M i) q)) path_is (snoc g drawings up c parts.end call.number parts.row q (moved_square (M i) q) parts.leads parts.call from_end)

  taken : (n i : ℕ) (path : List ℕ) → i < n → slice_get paths i ≡ Some path → Taken i path
  taken zero i path low at = absurd (omega arith)
  taken (suc n) i path low at =
      let long = are.long in
      let within = slice_get_within paths i path at in
      let s = item_at spots i (omega arith) in
      let m = moved_at spots drawings spots [] motions i s.0 moved s.1 in
      by_case i s.0 path m.motion s.0.by s.1 at (get_or_from_slice_get motions i m.motion still m.at) (are.each i s.0 path s.1 at) m.is (λ p up lower there. taken n p up (omega arith) there)

pub motion_law : MotionLaw
motion_law g drawings c spots paths motions are ends moved i path q at = taken g drawings c spots paths motions are ends moved (suc i) i path (omega arith) at q
