-- Motions of spots and of calls, one after the other.
use Rattle.std.proofs.Common.{inr, List, [], ◌∷◌, ◌++◌, subst, sym, append_assoc, append-nil}
use Rattle.std.specs.List.{All}
use Rattle.std.proofs.lemmas.List.Elements.{All-nil, All-push}
use Rattle.flat_layout.specs.Layout.{Some_of}
use Rattle.geo_base.specs.declared.motion.Motion.{Motion}
use Rattle.part_origins.specs.Inside.{PlainSpot}
use Rattle.part_origins.specs.declared.inside.Part.{Part}
use Rattle.view_netlist.specs.Drawing.{IsSmallShift}
use Rattle.view_netlist.specs.declared.drawing.Drawing.{Drawing}
use Rattle.view_joined.specs.Spots.{AreMotions, AreCallMotions, IsCallMotion, IsFarCallAt, IsFarSpot, IsSpotMotion}

-- whatever is right for what is left makes all right, and what is too far there is too far
pub record HasMotions (spots : List PlainSpot) (drawings : List Drawing) (all : List PlainSpot) (out : List Motion) (rest : List PlainSpot) : Type 0 where
  pub small : All IsSmallShift out
  pub far : IsFarSpot spots drawings out rest → IsFarSpot spots drawings [] all
  pub then : (ms : List Motion) → AreMotions spots drawings out rest ms → AreMotions spots drawings [] all (out ++ ms)

pub motions_begin : (spots : List PlainSpot) (drawings : List Drawing) (all : List PlainSpot) → HasMotions spots drawings all [] all
motions_begin spots drawings all = record { small = All-nil IsSmallShift; far = λ h. h; then = λ ms h. h }

pub motions_more : (spots : List PlainSpot) (drawings : List Drawing) (all : List PlainSpot) (out : List Motion) (s : PlainSpot) (rest : List PlainSpot) (m : Motion) → HasMotions spots drawings all out (s ∷ rest) → IsSpotMotion spots drawings out s.by m
    → IsSmallShift m → HasMotions spots drawings all (out ++ m ∷ []) rest
motions_more spots drawings all out s rest m h is small =
    record { small = All-push IsSmallShift out m h.small small; far = λ g. h.far (m, is, inr g); then = λ ms g. subst (λ (z : List Motion). AreMotions spots drawings [] all z) (sym (append_assoc out (m ∷ []) ms)) (h.then (m ∷ ms) (is, g)) }

pub motions_end : (spots : List PlainSpot) (drawings : List Drawing) (all : List PlainSpot) (out : List Motion) → HasMotions spots drawings all out [] → AreMotions spots drawings [] all out
motions_end spots drawings all out h = subst (λ (z : List Motion). AreMotions spots drawings [] all z) (append-nil out) (h.then [] tt)

pub record HasCalls (spots : List PlainSpot) (drawings : List Drawing) (motions : List Motion) (all : List Part) (out : List Motion) (rest : List Part) : Type 0 where
  pub small : All IsSmallShift out
  pub far : Some_of (IsFarCallAt spots drawings motions) rest → Some_of (IsFarCallAt spots drawings motions) all
  pub then : (ms : List Motion) → AreCallMotions spots drawings motions rest ms → AreCallMotions spots drawings motions all (out ++ ms)

pub calls_begin : (spots : List PlainSpot) (drawings : List Drawing) (motions : List Motion) (all : List Part) → HasCalls spots drawings motions all [] all
calls_begin spots drawings motions all = record { small = All-nil IsSmallShift; far = λ h. h; then = λ ms h. h }

pub calls_more : (spots : List PlainSpot) (drawings : List Drawing) (motions : List Motion) (all : List Part) (out : List Motion) (c : Part) (rest : List Part) (m : Motion) → HasCalls spots drawings motions all out (c ∷ rest) → IsCallMotion spots drawings motions c m
    → IsSmallShift m → HasCalls spots drawings motions all (out ++ m ∷ []) rest
calls_more spots drawings motions all out c rest m h is small =
    record { small = All-push IsSmallShift out m h.small small; far = λ g. h.far (inr g); then = λ ms g. subst (λ (z : List Motion). AreCallMotions spots drawings motions all z) (sym (append_assoc out (m ∷ []) ms)) (h.then (m ∷ ms) (is, g)) }

pub calls_end : (spots : List PlainSpot) (drawings : List Drawing) (motions : List Motion) (all : List Part) (out : List Motion) → HasCalls spots drawings motions all out [] → AreCallMotions spots drawings motions all out
calls_end spots drawings motions all out h = subst (λ (z : List Motion). AreCallMotions spots drawings motions all z) (append-nil out) (h.then [] tt)
